-- The last of a journal's records is the one at its last place.
use Rattle.std.proofs.Common.{◌≡◌, ◌-◌, List, [], ◌∷◌, length, arith, refl, ap, ◌∙◌}
use Rattle.std.specs.Prelude.{Some, fold}
use Rattle.std.specs.List.{slice_get}
use Rattle.tenant_core.specs.Journals.{last_of}
use Rattle.tenant_core.specs.declared.journal.Record.{Record}

last_from : (x : Record) (xs : List Record) → slice_get (x ∷ xs) (length xs) ≡ fold (λ o r. Some r) (Some x) xs
last_from x [] = refl
last_from x (y ∷ ys) = last_from y ys

pub last_at : (rs : List Record) → slice_get rs (length rs - 1) ≡ last_of rs
last_at [] = refl
last_at (x ∷ xs) = ap (slice_get (x ∷ xs)) (omega arith) ∙ last_from x xs
