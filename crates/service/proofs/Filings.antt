-- Statements that are kept one after another.
use Rattle.std.proofs.Common.{◌≡◌, ℕ, ◌+◌, List, [], ◌∷◌, ◌++◌, Bool, Some, slice_get, take, ap, sym, subst, ◌∙◌, add-one, append-nil, refl}
use Rattle.std.proofs.lemmas.List.{append_assoc}
use Rattle.tenant_core.specs.declared.period.PeriodParts.{PeriodParts}
use Rattle.service.specs.Filing.{AreFiled, IsFiled, Keeping, Telling, line_unless}
use Rattle.service.proofs.Audits.{taken_next}

filed_then : {S : Type 0} (Tells : Telling S) (Keeps : Keeping S) (ps : List PeriodParts) (p : PeriodParts) (kept : Bool)
    (before between after : S) (lines : List ℕ) → AreFiled Tells Keeps ps before between lines → IsFiled Tells Keeps p kept between after
    → AreFiled Tells Keeps (ps ++ p ∷ []) before after (lines ++ line_unless kept p)
filed_then {S} Tells Keeps [] p kept before between after lines filed here = (
  kept,
  after,
  [],
  subst (λ (s : S). IsFiled Tells Keeps p kept s after) filed.0 here,
  (refl, refl),
  ap (λ (ls : List ℕ). ls ++ line_unless kept p) filed.1 ∙ sym (append-nil (line_unless kept p)),
)
filed_then Tells Keeps (q ∷ qs) p kept before between after lines (first, mid, rest, is_first, others, told) here = (
  first,
  mid,
  rest ++ line_unless kept p,
  is_first,
  filed_then Tells Keeps qs p kept mid between after rest others here,
  ap (λ (ls : List ℕ). ls ++ line_unless kept p) told ∙ append_assoc (line_unless first q) rest (line_unless kept p),
)

pub filed_next : {S : Type 0} (Tells : Telling S) (Keeps : Keeping S) (ps : List PeriodParts) (i : ℕ) (p : PeriodParts)
    → slice_get ps i ≡ Some p → (kept : Bool) (before between after : S) (lines : List ℕ)
    → AreFiled Tells Keeps (take i ps) before between lines → IsFiled Tells Keeps p kept between after
    → AreFiled Tells Keeps (take (i + 1) ps) before after (lines ++ line_unless kept p)
filed_next Tells Keeps ps i p at kept before between after lines filed here =
    rw add-one (subst (λ taken. AreFiled Tells Keeps taken before after (lines ++ line_unless kept p)) (sym (taken_next ps i p at))
    (filed_then Tells Keeps (take i ps) p kept before between after lines filed here))
