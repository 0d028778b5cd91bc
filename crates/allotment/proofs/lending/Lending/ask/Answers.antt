use Rattle.std.proofs.Common.{◌≡◌, ◌+◌, ◌<◌, ◌∙◌, true, length, if◌then◌else◌, subst, sym, Bool}
use Rattle.allotment.specs.Loans.{Loans, free_of, is_granted, lent_to}
use Rattle.allotment.specs.Waits.{Queued}
use Rattle.allotment.specs.WaitsKept.{IsQueue, queued_of}
use Rattle.allotment.proofs.Queue.{asked_when, queue_taken}
use Rattle.allotment.proofs.lending.Lending.ask.Goals as goal

pub invariant_of-self : goal.invariant_of-self
invariant_of-self c =
    let before = queued_of c.self.inside in
    let Q : Queued → Type 0 = λ q. c.args.tenant < length q.loans.used in
    let P : Loans → Type 0 = λ loans. IsQueue (record before { loans = loans }) in
    let F : Loans → Type 0 = λ loans. free_of loans + 1 ≡ free_of before.loans in
    let B : Bool → Type 0 = λ b. free_of c.try_take.new.self + (if b then 1 else 0) ≡ free_of before.loans in
    let allowed : is_granted c.args.tenant before.loans ≡ true = sym c.try_take.ensures.exact ∙ c.if-try_take.true in
    let is : c.try_take.new.self ≡ lent_to c.args.tenant before.loans = c.try_take.ensures.taken ∙ asked_when c.args.tenant before.loans allowed in
    let free : free_of c.try_take.new.self + 1 ≡ free_of before.loans = subst B c.if-try_take.true c.try_take.ensures.free in
    subst P (sym is) (queue_taken c.args.tenant before c.self.invariant (subst Q (sym c.self.view_is) c.requires) allowed (subst F is free))
