use Rattle.std.proofs.Common.{◌≡◌, ℕ, ◌∙◌, ap, sym, subst, Option}
use Rattle.std.specs.Prelude.{None, Some}
use Rattle.tenant_core.specs.State.{State, opened}
use Rattle.tenant_core.specs.declared.period.PeriodParts.{PeriodParts}
use Rattle.book_recovery.specs.Recovery.{BreaksAt, IsClosed, IsFollowedTo, IsRecovered, LeadTo, all_given_up}
use Rattle.book_recovery.proofs.Leading.{begins_so, none_of, opened_so}
use Rattle.book_recovery.proofs.recovering.recover.Goals as goal

pub returns-in-Some : goal.returns-in-Some
returns-in-Some c =
    let at = subst (λ (o : Option ℕ). IsFollowedTo o c.in-Ok.book c.args.records.now c.follow_all.new.book) c.in-Some.is c.in_ok-place.ensures in
    (begins_so c.args.opening c.in-Ok.book c.in-Ok.ensures, subst (λ (s : State). BreaksAt s c.args.records.now c.in-Some.place) (opened_so c.args.opening c.in-Ok.book c.in-Ok.ensures) at)

pub returns-in-Some-2 : goal.returns-in-Some-2
returns-in-Some-2 c =
    let led = subst (λ (o : Option ℕ). IsFollowedTo o c.in-Ok.book c.args.records.now c.follow_all.new.book) (none_of c.in_ok-place.field-0 c.in_default.not-Some) c.in_ok-place.ensures in
    let closed = subst (λ (o : Option PeriodParts). IsClosed o c.give_up_all.new.book c.close.new.book c.args.now) c.in-Some-2.is c.in_ok-period.ensures.closes in
    record {
      begins = begins_so c.args.opening c.in-Ok.book c.in-Ok.ensures;
      state = c.follow_all.new.book;
      leads = subst (λ (s : State). LeadTo s c.args.records.now c.follow_all.new.book) (opened_so c.args.opening c.in-Ok.book c.in-Ok.ensures) led;
      closes_so = subst (λ (s : State). IsClosed (Some c.in-Some-2.period) s c.close.new.book c.args.now) c.in_ok-give_up_all.ensures.given_up closed;
    }

pub returns-in-None : goal.returns-in-None
returns-in-None c =
    let led = subst (λ (o : Option ℕ). IsFollowedTo o c.in-Ok.book c.args.records.now c.follow_all.new.book) (none_of c.in_ok-place.field-0 c.in_default.not-Some) c.in_ok-place.ensures in
    let closed = subst (λ (o : Option PeriodParts). IsClosed o c.give_up_all.new.book c.close.new.book c.args.now) c.in-None.is c.in_ok-period.ensures.closes in (
      c.close.new.book,
      record {
        begins = begins_so c.args.opening c.in-Ok.book c.in-Ok.ensures;
        state = c.follow_all.new.book;
        leads = subst (λ (s : State). LeadTo s c.args.records.now c.follow_all.new.book) (opened_so c.args.opening c.in-Ok.book c.in-Ok.ensures) led;
        closes_so = subst (λ (s : State). IsClosed None s c.close.new.book c.args.now) c.in_ok-give_up_all.ensures.given_up closed;
      },
    )
