use Rattle.std.proofs.Common.{◌≡◌, sym, subst, List, [], rules}
use Rattle.std.specs.Prelude.{slice_get, Some}
use Rattle.std.proofs.lemmas.Option.{slice_get_read}
use Rattle.tenant_core.specs.State.{State, opening_of}
use Rattle.tenant_core.specs.declared.opening.Opening.{Opening}
use Rattle.books_shared.specs.Traced.{IsTraced}
use Rattle.books_shared.proofs.Tracing.{opening_at, traced_first}
use Rattle.books_shared.proofs.books.locks_of.Goals as goal

pub new-requires-in-loop-tenant-clause-traced : goal.new-requires-in-loop-tenant-clause-traced
new-requires-in-loop-tenant-clause-traced g c =
    let setup = c.index-setups-tenant.result in
    let first = opening_of c.loop-tenant.tenant setup c.args.start in
    let here : slice_get c.args.setups.now c.loop-tenant.tenant ≡ Some setup = search (rules, slice_get_read) in
    let at : slice_get g.J.Run.openings first.tenant ≡ Some first
    = subst (λ (os : List Opening). slice_get os c.loop-tenant.tenant ≡ Some first) (sym c.requires.openings)
    (opening_at c.args.setups.now c.args.start c.loop-tenant.tenant setup here) in
    let part : c.tenant_part-part.result ≡ record { number = c.loop-tenant.tenant; steps = [] } = search rules in
    subst (λ (s : State). IsTraced g.J.Run.openings s c.tenant_part-part.result) (sym c.in_ok-book.ensures)
    (traced_first c.histories.ensures g.J.Run.openings first c.tenant_part-part.result part at)
