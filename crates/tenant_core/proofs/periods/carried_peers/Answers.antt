use Rattle.std.proofs.Common.{◌++◌, ◌∷◌, [], rules, sym, ap, ◌∙◌}
use Rattle.tenant_core.specs.Periods.{carried}
use Rattle.tenant_core.specs.Standing.{state_shown}
use Rattle.tenant_core.specs.State.{State}
use Rattle.tenant_core.proofs.ChangedLists.{map_take_more}
use Rattle.tenant_core.proofs.periods.carried_peers.Goals as goal

pub loop-place-preserved : goal.loop-place-preserved
loop-place-preserved c =
    let s : State = state_shown c.args.standing.now in
    let one = map_take_more (carried s c.args.clock) c.args.standing.now.network.now.peers c.loop-place.place c.in_ok-carried_at.field-0 c.in_ok-carried_at.ensures in
    record {
      done = c.push_reserved.ensures.items ∙ (ap (λ xs. xs ++ c.in_ok-carried_at.field-0 ∷ []) c.loop-place.invariant.done ∙ sym one);
      count = search rules;
      room = search rules;
    }
