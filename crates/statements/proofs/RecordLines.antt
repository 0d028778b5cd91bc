-- The lines of some records, and of one more.
use Rattle.std.proofs.Common.{◌≡◌, ◌+◌, ℕ, List, [], ◌∷◌, ◌++◌, take, ap, ◌∙◌}
use Rattle.std.specs.Prelude.{Some}
use Rattle.std.specs.List.{flat_map, slice_get}
use Rattle.std.proofs.lemmas.Grind.{flat_map-append}
use Rattle.std.proofs.lemmas.List.{append-nil, take_more}
use Rattle.std.proofs.lemmas.Option.{slice_get_within, get_or_from_slice_get}
use Rattle.statements.specs.Statement.{record_line}
use Rattle.tenant_core.specs.declared.journal.Record.{Record}

pub one_more : (rs : List Record) (n : ℕ) (r : Record) → slice_get rs n ≡ Some r
    → flat_map record_line (take (n + 1) rs) ≡ flat_map record_line (take n rs) ++ record_line r
one_more rs n r at =
    let there = slice_get_within rs n r at in
    ap (flat_map record_line) (take_more rs n r there ∙ ap (λ (x : Record). take n rs ++ x ∷ []) (get_or_from_slice_get rs n r r at))
    ∙ (flat_map-append record_line (take n rs) (r ∷ []) ∙ ap (λ xs. flat_map record_line (take n rs) ++ xs) (append-nil (record_line r)))
