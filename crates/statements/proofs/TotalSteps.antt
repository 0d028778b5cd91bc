-- What a period more comes to.
use Rattle.std.proofs.Common.{◌≡◌, ℕ, ◌+◌, suc, List, [], ◌∷◌, ◌++◌, length, refl, ap, sym, ◌∙◌, arith, false}
use Rattle.std.specs.Prelude.{map, sum_by, ◌==◌, if◌then◌else◌}
use Rattle.std.specs.List.{flat_map}
use Rattle.std.proofs.lemmas.Bool.Decides.{nat_tests}
use Rattle.std.proofs.lemmas.Grind.{flat_map-append}
use Rattle.std.proofs.lemmas.List.{append-nil}
use Rattle.std.proofs.lemmas.List.Sums.{sum_by_push}
use Rattle.statements.specs.Seen.{seen_at_first, seen_before, seen_during}
use Rattle.statements.specs.Sums.{IsAdded, sum_at}
use Rattle.statements.specs.Totals.{IsSum}
use Rattle.statements.specs.declared.seen.PeerSeen.{PeerSeen}
use Rattle.statements.specs.declared.tally.Tally.{Tally}
use Rattle.tenant_core.specs.declared.period.PeriodParts.{PeriodParts}

pub sum_more : (part : ℕ → PeriodParts → ℕ) (more : ℕ → ℕ) (before after : Tally) (ps : List PeriodParts) (p : PeriodParts)
    → IsSum before part ps → IsAdded before after more → ((n : ℕ) → more n ≡ part n p) → IsSum after part (ps ++ p ∷ [])
sum_more part more before after ps p was added same = λ (n : ℕ).
    let a : sum_at after n ≡ sum_at before n + more n = added n in
    let b : sum_at before n ≡ sum_by (part n) ps = was n in
    let e : more n ≡ part n p = same n in
    let s : sum_by (part n) (ps ++ p ∷ []) ≡ sum_by (part n) ps + part n p = sum_by_push (part n) ps p in
    omega arith

not_zero : (n : ℕ) → (suc n == 0) ≡ false
not_zero n = grind (arith, nat_tests)

pub first_more : (count : ℕ) (first : List PeerSeen) (ps : List PeriodParts) (p : PeriodParts) → count ≡ length ps → first ≡ seen_before ps
    → (if count == 0 then map seen_at_first p.opening.network.peers else first) ≡ seen_before (ps ++ p ∷ [])
first_more count first [] p long is = rw long refl
first_more count first (q ∷ qs) p long is = rw (long, not_zero (length qs)) is

pub added_more : (added : List PeerSeen) (ps : List PeriodParts) (p : PeriodParts) → added ≡ flat_map seen_during ps
    → added ++ seen_during p ≡ flat_map seen_during (ps ++ p ∷ [])
added_more added ps p is =
    ap (λ (xs : List PeerSeen). xs ++ seen_during p) is
    ∙ sym (flat_map-append seen_during ps (p ∷ []) ∙ ap (λ (xs : List PeerSeen). flat_map seen_during ps ++ xs) (append-nil (seen_during p)))
