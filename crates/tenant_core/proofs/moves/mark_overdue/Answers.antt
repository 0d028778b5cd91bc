use Rattle.std.proofs.Common.{arith}
use Rattle.tenant_core.proofs.Marking.{ticked_more, ticked_all}
use Rattle.tenant_core.proofs.moves.mark_overdue.Goals as goal

pub overflow_add-count : goal.overflow_add-count
overflow_add-count c =
    let more = ticked_more c.args.clock c.loop-k.k c.loop-k.count c.mark_if_overdue-count.result c.awaiting_at-place.result c.args.holds.now c.loop-k.holds c.mark_if_overdue-count.new.holds
    c.loop-k.invariant.ticked c.awaiting_at-place.ensures.value c.awaiting_at-place.ensures.inside c.mark_if_overdue-count.ensures.holds in
    let few = more.few in
    let awaited = c.awaited-k-end.ensures.few in
    omega arith

pub loop-k-preserved : goal.loop-k-preserved
loop-k-preserved c = record {
  ticked = ticked_more c.args.clock c.loop-k.k c.loop-k.count c.mark_if_overdue-count.result c.awaiting_at-place.result c.args.holds.now c.loop-k.holds c.mark_if_overdue-count.new.holds
      c.loop-k.invariant.ticked c.awaiting_at-place.ensures.value c.awaiting_at-place.ensures.inside c.mark_if_overdue-count.ensures.holds;
  purses = c.mark_if_overdue-count.ensures.purses;
}

pub returns-clause-count : goal.returns-clause-count
returns-clause-count c =
    let end = c.awaited-k-end.ensures.table in
    (ticked_all c.args.clock c.loop-k.k c.loop-k.count c.args.holds.now c.loop-k.holds c.loop-k.invariant.ticked (omega arith) c.is_complete.ensures).1

pub returns-clause-holds : goal.returns-clause-holds
returns-clause-holds c =
    let end = c.awaited-k-end.ensures.table in
    (ticked_all c.args.clock c.loop-k.k c.loop-k.count c.args.holds.now c.loop-k.holds c.loop-k.invariant.ticked (omega arith) c.is_complete.ensures).0
