use Rattle.std.proofs.Common.{◌≡◌, ◌+◌, ℕ, length, replicate, sym, subst, arith}
use Rattle.std.proofs.lemmas.Grind.{common_steps}
use Rattle.floor_core.specs.Moves.{floor_with}
use Rattle.floor_core.proofs.Opened.{AreOpened, New, opened_push, new}
use Rattle.floor_core.proofs.floor.Floor.new.Goals as goal

pub loop-tenant-preserved : goal.loop-tenant-preserved
loop-tenant-preserved c = record {
  opened = subst (AreOpened c.args.setups.now c.args.start (c.loop-tenant.tenant + 1)) (sym c.push_reserved.ensures.items)
      (opened_push c.args.setups.now c.args.start c.loop-tenant.tenant c.loop-tenant.books.items c.in_ok-new.field-0 c.index-setups-tenant.result c.loop-tenant-test.true c.index-setups-tenant.is c.in_ok-new.ensures c.loop-tenant.invariant.opened);
  room = grind (arith, common_steps);
}

made : (c : goal.In_ok-next_calls) → New c.args.setups.now c.args.start c.args.workers (floor_with c.in_ok-seats.seats.items c.loop-tenant.books.items c.in_ok-next_calls.next_calls.items)
made c =
    let all : AreOpened c.args.setups.now c.args.start (length c.args.setups.now) c.loop-tenant.books.items =
    subst (λ (n : ℕ). AreOpened c.args.setups.now c.args.start n c.loop-tenant.books.items) (grind (arith, common_steps)) c.loop-tenant.invariant.opened in
    let zeros : c.in_ok-next_calls.next_calls.items ≡ replicate (length c.loop-tenant.books.items) 0 = grind (arith, common_steps) in
    new c.args.setups.now c.args.start c.args.workers (floor_with c.in_ok-seats.seats.items c.loop-tenant.books.items c.in_ok-next_calls.next_calls.items)
    c.in_ok-seats.ensures.count (record { free = c.in_ok-seats.ensures.free }) c.in_ok-seats.ensures.silent all zeros

pub invariant_of-result : goal.invariant_of-result
invariant_of-result c = (made c).is_whole

pub returns : goal.returns
returns c = (made c).is_new
