use Rattle.std.proofs.Common.{◌≡◌, length, ap, ◌∙◌, refl, sym, subst, arith}
use Rattle.std.specs.Prelude.{Some, IsTrue}
use Rattle.std.specs.List.{slice_get}
use Rattle.std.proofs.lemmas.Option.{slice_get_read}
use Rattle.tenant_core.specs.Replay.{outcome_of}
use Rattle.tenant_core.specs.State.{State}
use Rattle.book_log.specs.Lines.{IsNext, log_line, place_of}
use Rattle.book_log.proofs.WrittenTexts.{said_of}
use Rattle.book_log.proofs.taking.take_line.Goals as goal

pub returns-clause-taken : goal.returns-clause-taken
returns-clause-taken c taken =
    let books = c.args.books.now in
    let one : slice_get books c.in-Some.place.tenant ≡ Some c.index-books-tenant.result = slice_get_read books (length books) c.in-Some.place.tenant c.index-books-tenant.result refl (omega (arith, c.if-tenant-books.false)) c.index-books-tenant.is in
    let two : slice_get books c.in-Some.place.tenant ≡ Some c.index-books-tenant-2.result = slice_get_read books (length books) c.in-Some.place.tenant c.index-books-tenant-2.result refl (omega (arith, c.if-tenant-books.false)) c.index-books-tenant-2.is in
    let named : c.tenant.result ≡ c.in-Some.place.tenant = omega (arith, c.if-tenant.false) in
    record {
      tenant = c.in-Some.place.tenant;
      state = c.index-books-tenant-2.result;
      its_own = two;
      number = cc (one, two, named, c.tenant.ensures);
      later = c.take_entry.new.book;
      is_next = subst (λ (s : State). IsNext c.args.line.now s c.take_entry.new.book) (sym c.index-books-tenant-2.is) (c.in_ok-taken.ensures.taken taken (sym c.in_ok-place.ensures ∙ c.in-Some.is));
      left = refl;
    }

pub returns-clause-written : goal.returns-clause-written
returns-clause-written c after w =
    let books = c.args.books.now in
    let laws = c.lines_are_read_back.ensures in
    let is = said_of laws c.args.line.now books after w c.in-Some.place c.in-Some.entry (sym c.in_ok-place.ensures ∙ c.in-Some.is) in
    let here : slice_get books c.in-Some.place.tenant ≡ Some c.index-books-tenant-2.result = slice_get_read books (length books) c.in-Some.place.tenant c.index-books-tenant-2.result refl (omega (arith, c.if-tenant-books.false)) c.index-books-tenant-2.is in
    let book : c.index-books-tenant-2.result ≡ w.state = cc (here, w.its_own, is.2) in
    let at = sym c.index-books-tenant-2.is ∙ book in
    let taken : IsTrue c.in_ok-taken.taken =
    c.in_ok-taken.ensures.refused w.next.outcome (ap place_of at ∙ sym is.0) ((λ i. outcome_of (at i) (is.1 i)) ∙ w.leads)
    (w.is_line ∙ (λ i. log_line (sym is.0 i) (record { entry = sym is.1 i; outcome = w.next.outcome }))) in
    (taken, laws.one_end c.args.line.now books after _ w (returns-clause-taken c taken))
