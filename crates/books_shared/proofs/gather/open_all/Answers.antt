use Rattle.std.proofs.Common.{ℕ, ◌∷◌, ◌++◌, [], length-append, rules, arith, subst, sym, ap}
use Rattle.tenant_core.specs.State.{State}
use Rattle.one_list.specs.Parts.{GatheringView}
use Rattle.books_shared.specs.Traced.{AreTraced, IsTraced}
use Rattle.books_shared.proofs.Gathering.{traced_push}
use Rattle.books_shared.proofs.gather.open_all.Goals as goal

pub loop-lock-preserved : goal.loop-lock-preserved
loop-lock-preserved g c =
    let i = c.loop-lock.invariant in
    let one : IsTraced g.J.Run.openings c.into_parts-book.result.0.0 c.into_parts-book.result.1 =
    subst (λ (s : State). IsTraced g.J.Run.openings s c.into_parts-book.result.1)
    (sym (ap (λ (b : State × ℕ). b.0) c.into_parts-book.ensures.book)) c.into_parts-book.ensures.traced in (
      omega (arith, i.0, c.push_reserved.ensures.len, length-append c.loop-lock.yielded (c.in-Some.lock ∷ [])),
      search rules,
      subst (λ (v : GatheringView). AreTraced g.J.Run.openings c.push_reserved.new.self.items v.tenants) (sym c.add_tenant.ensures)
          (subst (λ bs. AreTraced g.J.Run.openings bs (c.loop-lock.parts.tenants ++ c.into_parts-book.result.1 ∷ [])) (sym c.push_reserved.ensures.items)
          (traced_push g.J.Run.openings c.loop-lock.books.items c.loop-lock.parts.tenants c.into_parts-book.result.0 c.into_parts-book.result.1 i.2 one)),
      search rules,
    )
