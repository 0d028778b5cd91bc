use Rattle.std.proofs.Common.{◌≡◌, refl, sym, subst}
use Rattle.replay_text.specs.SoFar.{RunsOn}
use Rattle.replay_text.proofs.replays.run_part.Goals as goal

pub returns-clause-run : goal.returns-clause-run
returns-clause-run g c =
    let same : c.swap.new.x.items ≡ c.in_ok-rest.rest.now = rw (c.swap.ensures.x_after, c.in_ok-extend_from_slice.ensures.items, c.clear.ensures.items) refl in
    subst (λ t. RunsOn g.K.PeriodKeeper.takes c.args.cast.now.names.now c.args.cast.now.workers c.args.part.now.items t c.args.held.now.number c.run_ended.new.held.number c.args.floor.now c.run_ended.new.floor c.args.held.now.text.items c.run_ended.new.held.text.items c.args.keeper.now c.run_ended.new.keeper)
    (sym same) (rw c.as_slice.ensures.value at c.in_ok-rest.ensures.run)
