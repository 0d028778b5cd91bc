-- Complete receipts have no fault.
use Rattle.std.proofs.Common.{◌≡◌, ℕ, List, Some, slice_get, refl, sym, subst, ◌∙◌, inl, inr}
use Rattle.joint_order.specs.Orders.{at}
use Rattle.tenant_core.specs.declared.period.PeriodParts.{PeriodParts}
use Rattle.receipts.specs.Audits.{AreJoined, AreMatched, HasGap, IsComplete, IsStuckAt, ShowsAnother, shown_record}
use Rattle.receipts.specs.Layout.{IsAuditFault}
use Rattle.receipts.specs.declared.fault.AuditFault.{AuditFault}
use Rattle.receipts.specs.declared.fault.AuditFault.TheVariants.{Differs, Gap, Memory, Missing, NoPeriod, Order, Twice}
use Rattle.receipts.specs.declared.receipt.Receipt.{Receipt}
use Rattle.receipts.proofs.Joins.{is_read, one_there}

no_gap : (periods : List PeriodParts) → AreJoined periods → HasGap periods → ⊥
no_gap periods joined (inl (j, k, p, q, apart, at_p, at_q, numbered)) = apart (joined.once j k p q at_p at_q numbered)
no_gap periods joined (inr (q, has, later, none)) = elim (joined.led q has) [
  | inl first ↦ later first
  | inr led ↦ none led.0 led.1 led.2
]

-- a receipt names one record
shows_its_own : (periods : List PeriodParts) (lists : List (List Receipt)) → AreMatched periods lists → ShowsAnother periods lists → ⊥
shows_its_own periods lists matched (r, x, among, names, other) =
    let own = matched.right r among in
    let at = is_read periods own.0 own.1 in
    let also = is_read periods names.0 names.1 in
    let place : also.0 ≡ at.0 = matched.joined.once also.0 at.0 names.0 own.0 also.1 at.1 (names.2.0 ∙ sym own.2.0, names.2.1 ∙ sym own.2.1) in
    let same : names.0 ≡ own.0 = one_there periods at.0 names.0 own.0 (subst (λ k. slice_get periods k ≡ Some names.0) place also.1) at.1 in
    let read : slice_get own.0.records r.number ≡ Some x = subst (λ (p : PeriodParts). slice_get p.records r.number ≡ Some x) same names.3 in
    other (one_there own.0.records r.number (shown_record r) x own.3 read)

abbrev pub StuckLaw : Type 0
StuckLaw = (periods : List PeriodParts) (lists : List (List Receipt)) (front : ℕ → ℕ) (order : List ℕ)
    → AreMatched periods lists → IsStuckAt periods lists front → IsComplete periods lists order → ⊥

-- where receipts are complete, want of memory is the only fault
pub faultless : StuckLaw → (periods : List PeriodParts) (lists : List (List Receipt)) (order : List ℕ) (fault : AuditFault)
    → IsComplete periods lists order → IsAuditFault periods lists fault → fault ≡ Memory
faultless law periods lists order NoPeriod complete (r, among, none) = absurd (none (shown_record r) (complete.matched.right r among))
faultless law periods lists order Gap complete gap = absurd (no_gap periods complete.matched.joined gap)
faultless law periods lists order Twice complete (i, k, j, l, r, s, at_r, at_s, apart, one) = absurd (apart (complete.matched.once i k j l r s at_r at_s one))
faultless law periods lists order Missing complete (p, n, has, below, none) =
    let found = complete.matched.all p n has below in
    absurd (none found.0 found.1 (found.2, found.3))
faultless law periods lists order Differs complete shows = absurd (shows_its_own periods lists complete.matched shows)
faultless law periods lists order (Order front) complete stuck = absurd (law periods lists (at front.items) order stuck.0 stuck.1 complete)
faultless law periods lists order Memory complete fault = refl
