-- Lines that are put one after another.
use Rattle.std.proofs.Common.{◌≡◌, ◌+◌, ◌<◌, ℕ, zero, suc, List, [], ◌∷◌, ◌++◌, length, drop, Some, None, sym, ap, subst, ◌∙◌, arith}
use Rattle.std.proofs.Math.Seq.{drop-cons}
use Rattle.std.proofs.lemmas.List.{append_assoc}
use Rattle.std.proofs.lemmas.Option.{get_or_from_slice_get, slice_get_within}
use Rattle.std.specs.List.{slice_get}
use Rattle.book_log.specs.Lines.{log_line}
use Rattle.book_log.specs.declared.line.LinePlace.{LinePlace}
use Rattle.tenant_core.specs.declared.journal.Record.{Record}
use Rattle.book_journal.specs.Written.{lines_from, next_place}

-- the record at a place, and those after it
drop_at : (records : List Record) (n : ℕ) (r : Record) → slice_get records n ≡ Some r → drop n records ≡ r ∷ drop (n + 1) records
drop_at records n r is =
    let next : suc n ≡ n + 1 = omega arith in
    subst (λ k. drop n records ≡ r ∷ drop k records) next
    (drop-cons records n r (slice_get_within records n r is) ∙ ap (λ (x : Record). x ∷ drop (suc n) records) (get_or_from_slice_get records n r r is))

-- the line of one more record was put
pub one_more : (all out longer : List ℕ) (p : LinePlace) (records : List Record) (r : Record) → slice_get records p.number ≡ Some r
    → all ≡ out ++ lines_from p (drop p.number records) → longer ≡ out ++ log_line p r
    → all ≡ longer ++ lines_from (next_place p) (drop (p.number + 1) records)
one_more all out longer p records r is so_far put =
    so_far ∙ (ap (λ (rs : List Record). out ++ lines_from p rs) (drop_at records p.number r is)
    ∙ (sym (append_assoc out (log_line p r) (lines_from (next_place p) (drop (p.number + 1) records)))
    ∙ ap (λ t. t ++ lines_from (next_place p) (drop (p.number + 1) records)) (sym put)))

-- a record is there at each place before the end
pub is_there : {X : Type 0} (xs : List X) (n : ℕ) → n < length xs → None ≡ slice_get xs n → ⊥
is_there [] n lt e = omega arith
is_there (x ∷ xs) zero lt e = absurd cc
is_there (x ∷ xs) (suc n) lt e = is_there xs n (omega arith) e
