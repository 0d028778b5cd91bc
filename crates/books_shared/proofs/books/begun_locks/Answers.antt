use Rattle.std.proofs.Common.{◌≡◌, sym, subst, ap, ◌∙◌, List, [], rules}
use Rattle.std.specs.Prelude.{slice_get, Err, Some}
use Rattle.std.proofs.lemmas.Option.{slice_get_read}
use Rattle.std.proofs.lemmas.Result.{err_from_is_err_and}
use Rattle.tenant_core.specs.State.{State}
use Rattle.tenant_core.specs.declared.opening.Opening.{Opening}
use Rattle.books_shared.specs.Traced.{IsTraced}
use Rattle.books_shared.proofs.Tracing.{traced_first}
use Rattle.books_shared.proofs.books.begun_locks.Goals as goal

pub returns-in_err-book-clause-refused : goal.returns-in_err-book-clause-refused
returns-in_err-book-clause-refused g c =
    let p = err_from_is_err_and c.from_residual-in_err-book.result c.from_residual-in_err-book.ensures.1 in
    rw (p.1, p.2) (λ fault is. record {
      place = c.loop-opening.opening-index;
      opening = c.opening-item.result;
      its_own = search (rules, slice_get_read);
      first = c.in_err-book.ensures.refused fault (ap Err (cc is));
    })

pub new-requires-clause-traced : goal.new-requires-clause-traced
new-requires-clause-traced g c =
    let first = c.opening-item.result in
    let here : slice_get c.args.openings.now c.loop-opening.opening-index ≡ Some first = search (rules, slice_get_read) in
    let number : first.tenant ≡ c.loop-opening.opening-index = c.requires.numbers c.loop-opening.opening-index first here in
    let at : slice_get g.J.Run.openings first.tenant ≡ Some first =
    ap (λ (os : List Opening). slice_get os first.tenant) c.requires.openings ∙ ap (λ n. slice_get c.args.openings.now n) number ∙ here in
    let part : c.tenant_part-part.result ≡ record { number = first.tenant; steps = [] } = search (rules, number) in
    subst (λ (s : State). IsTraced g.J.Run.openings s c.tenant_part-part.result) (sym c.in_ok-book.ensures.begun)
    (traced_first c.histories.ensures g.J.Run.openings first c.tenant_part-part.result part at)
