use Rattle.std.proofs.Common.{List, ap, subst, ◌∙◌}
use Rattle.std.proofs.lemmas.Result.{err_from_is_err_and}
use Rattle.tenant_core.specs.State.{State}
use Rattle.book_log.specs.Base.{admins_of, states_of}
use Rattle.book_log.specs.Sums.{IsTextTaken}
use Rattle.book_log.proofs.OneBase.{journal_of}
use Rattle.book_log.proofs.Stops.{log_wrong}
use Rattle.book_log.proofs.reopening.reopen.Goals as goal

pub returns-in_err-take_log-clause-refused : goal.returns-in_err-take_log-clause-refused
returns-in_err-take_log-clause-refused c =
    let began = c.in_ok-books.ensures.begun ∙ ap states_of c.deref.ensures.value in
    let p = err_from_is_err_and c.from_residual-in_err-take_log.result c.from_residual-in_err-take_log.ensures.1 in
    rw (p.1, p.2) (λ fault books admins journal. c.in_err-take_log.ensures.refused fault books
    (journal_of c.one_base.ensures c.args.base.now c.args.log.now books admins c.in-Ok.read.0.items c.in-Ok.read.1 c.in-Ok.ensures.begin
    c.in-Ok.ensures.based c.in_ok-books.books.items began journal).written)

pub returns-clause-written : goal.returns-clause-written
returns-clause-written c books admins journal =
    let began = c.in_ok-books.ensures.begun ∙ ap states_of c.deref.ensures.value in
    let same = journal_of c.one_base.ensures c.args.base.now c.args.log.now books admins c.in-Ok.read.0.items c.in-Ok.read.1 c.in-Ok.ensures.begin
    c.in-Ok.ensures.based c.in_ok-books.books.items began journal in (
      c.in_ok-take_log.ensures.written books same.written,
      c.in_ok-admins.ensures ∙ ap admins_of c.deref-2.ensures.value ∙ same.operators,
    )

pub returns-clause-reopened : goal.returns-clause-reopened
returns-clause-reopened c =
    let began = c.in_ok-books.ensures.begun ∙ ap states_of c.deref.ensures.value in
    record {
      starts = c.in-Ok.read.0.items;
      first = c.in-Ok.read.1;
      based = c.in-Ok.ensures.based;
      taken = subst (λ (s : List State). IsTextTaken c.in-Ok.read.1 c.args.log.now s c.take_log.new.books.items) began c.in_ok-take_log.ensures.taken;
    }

pub returns-clause-left : goal.returns-clause-left
returns-clause-left c =
    let began = c.in_ok-books.ensures.begun ∙ ap states_of c.deref.ensures.value in
    record {
      starts = c.in-Ok.read.0.items;
      first = c.in-Ok.read.1;
      begun = record { based = c.in-Ok.ensures.based; begin = c.in-Ok.ensures.begin };
      taken = subst (λ (s : List State). IsTextTaken c.in-Ok.read.1 c.args.log.now s c.take_log.new.books.items) began c.in_ok-take_log.ensures.taken;
      operators = c.in_ok-admins.ensures ∙ ap admins_of c.deref-2.ensures.value;
    }

pub returns-in_err-take_log-clause-fault : goal.returns-in_err-take_log-clause-fault
returns-in_err-take_log-clause-fault c =
    let began = c.in_ok-books.ensures.begun ∙ ap states_of c.deref.ensures.value in
    let p = err_from_is_err_and c.from_residual-in_err-take_log.result c.from_residual-in_err-take_log.ensures.1 in
    rw (p.1, p.2) (log_wrong (Unit {0}) (Unit {0}) _ c.args.base.now c.args.log.now c.in-Ok.read.0.items c.in-Ok.read.1
    (record { based = c.in-Ok.ensures.based; begin = c.in-Ok.ensures.begin }) c.in_ok-books.books.items began c.in_err-take_log.ensures.fault)
