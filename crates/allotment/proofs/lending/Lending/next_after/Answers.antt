use Rattle.std.proofs.Common.{ℕ, ◌≡◌, ◌<◌, ◌≤◌, true, false, length, subst, sym, arith}
use Rattle.std.proofs.lemmas.Bool.Decides.{nat_tests}
use Rattle.allotment.specs.Loans.{given_back_by, is_granted, used_by}
use Rattle.allotment.specs.Waits.{Queued, waiting_of}
use Rattle.allotment.proofs.Queue.{common, nobody_then, own}
use Rattle.allotment.proofs.lending.Lending.next_after.Goals as goal

pub returns-then-used_by-share-clause-granted : goal.returns-then-used_by-share-clause-granted
returns-then-used_by-share-clause-granted c =
    let P : Queued → Type 0 = λ q. is_granted c.in_ok-next.next (given_back_by c.args.tenant q.loans) ≡ true in
    let Q : Queued → Type 0 = λ q. c.args.tenant < length q.loans.used in
    let loans = c.self.inside.loans in
    let above : loans.share < used_by c.args.tenant loans = omega (arith, c.if-used_by-share.true, c.used_by.ensures, c.share.ensures.value) in
    subst P c.self.view_is (common c.args.tenant c.in_ok-next.next loans (subst Q (sym c.self.view_is) c.requires.tenant) above c.share.ensures.covered)

pub returns-then-waits-clause-granted : goal.returns-then-waits-clause-granted
returns-then-waits-clause-granted c =
    let P : Queued → Type 0 = λ q. is_granted c.args.tenant (given_back_by c.args.tenant q.loans) ≡ true in
    let Q : Queued → Type 0 = λ q. c.args.tenant < length q.loans.used in
    let U : Queued → Type 0 = λ q. 0 < used_by c.args.tenant q.loans in
    let loans = c.self.inside.loans in
    let within : used_by c.args.tenant loans ≤ loans.share = omega (arith, c.if-used_by-share.false, c.used_by.ensures, c.share.ensures.value) in
    subst P c.self.view_is (own c.args.tenant loans (subst Q (sym c.self.view_is) c.requires.tenant) (subst U (sym c.self.view_is) c.requires.uses) within)

pub returns-clause-nobody : goal.returns-clause-nobody
returns-clause-nobody c =
    let P : Queued → Type 0 = λ q. (other : ℕ) → 0 < waiting_of other q → is_granted other (given_back_by c.args.tenant q.loans) ≡ false in
    let Q : Queued → Type 0 = λ q. c.args.tenant < length q.loans.used in
    let U : Queued → Type 0 = λ q. 0 < used_by c.args.tenant q.loans in
    let W : Queued → Type 0 = λ q. waiting_of c.args.tenant q ≡ 0 in
    let loans = c.self.inside.loans in
    let within : used_by c.args.tenant loans ≤ loans.share = omega (arith, c.if-used_by-share.false, c.used_by.ensures, c.share.ensures.value) in
    let none : waiting_of c.args.tenant c.args.self.now ≡ 0 = grind (arith, nat_tests, c.if-waits.false, c.waits.ensures) in
    subst P c.self.view_is (nobody_then c.args.tenant c.self.inside.waiting.items loans (subst Q (sym c.self.view_is) c.requires.tenant) (subst U (sym c.self.view_is) c.requires.uses)
    within c.share.ensures.covered (subst W (sym c.self.view_is) none) c.self.invariant.in_vain)
