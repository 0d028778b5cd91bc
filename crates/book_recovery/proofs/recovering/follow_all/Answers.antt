use Rattle.std.proofs.Common.{List, [], ◌∷◌, ◌++◌, ◌≡◌, take, length, refl, sym, subst, arith, true}
use Rattle.std.specs.Prelude.{Some}
use Rattle.std.proofs.lemmas.Option.{slice_get_read}
use Rattle.tenant_core.specs.State.{State}
use Rattle.tenant_core.specs.declared.journal.Record.{Record}
use Rattle.book_recovery.specs.Recovery.{LeadTo}
use Rattle.book_recovery.proofs.Leading.{leads_more, take_next}
use Rattle.book_recovery.proofs.recovering.follow_all.Goals as goal

pub returns-then-not-branch : goal.returns-then-not-branch
returns-then-not-branch c =
    record {
      state = c.loop-place.book;
      leads = c.loop-place.invariant;
      next = c.index-records-place.result;
      is_next = slice_get_read c.args.records.now (length c.args.records.now) c.loop-place.place c.index-records-place.result refl (omega (arith, c.loop-place-test.true)) c.index-records-place.is;
      differs = λ same. absurd (cc (c.in_ok-follow_record.ensures.led.1 same, c.if-not-branch.true));
    }

pub loop-place-preserved : goal.loop-place-preserved
loop-place-preserved c =
    let r = c.index-records-place.result in
    let rs = c.args.records.now in
    let yes : c.in_ok-follow_record.field-0 ≡ true = cc c.if-not-branch.false in
    let more = leads_more (take c.loop-place.place rs) c.args.book.now c.loop-place.book r c.loop-place.invariant (c.in_ok-follow_record.ensures.led.0 yes) in
    let there = subst (λ (t : State). LeadTo c.args.book.now (take c.loop-place.place rs ++ r ∷ []) t) (sym (c.in_ok-follow_record.ensures.next yes)) more in
    subst (λ (l : List Record). LeadTo c.args.book.now l c.follow_record.new.book) (sym (take_next rs c.loop-place.place r (omega (arith, c.loop-place-test.true)) c.index-records-place.is)) there
