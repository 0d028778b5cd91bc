use Rattle.std.proofs.Common.{rules, arith, ap, length, ◌+◌}
use Rattle.replay_text.proofs.Begun.{begun_more, begun_not, begun_on, begun_ready, more_taken}
use Rattle.replay_text.proofs.Pieces.{Laws}
use Rattle.replay_text.proofs.replays.run_front.Goals as goal

pub loop-goes_on-init : goal.loop-goes_on-init
loop-goes_on-init g c =
    let laws : Laws = record { outputs = c.one_after_the_other.ensures.outputs; left = c.one_after_the_other.ensures.left; replies = c.outputs_are_there.ensures.outputs; after = c.outputs_are_there.ensures.left } in
    record {
      begun = begun_not laws g.K.PeriodKeeper.takes c.args.cast.now.names.now c.args.cast.now.workers (g.R.Read.remaining c.args.reader.now) c.in-Ok.held.number c.in-Ok-with_capacity.rest.items c.args.floor.now c.in-Ok.held.text.items c.args.keeper.now
          c.in-Ok-with_capacity.ensures.items c.in-Ok.ensures.number c.in-Ok.ensures.text c.requires.workers c.requires.tenants c.requires.room;
      numbered = omega (arith, c.in-Ok.ensures.number, ap length c.in-Ok-with_capacity.ensures.items);
      bound = omega arith;
      chunk = search rules;
      before = c.failures-before.ensures;
      unfailed = omega (arith, c.failures-before.ensures);
    }

pub returns-in_err-read-clause-taken : goal.returns-in_err-read-clause-taken
returns-in_err-read-clause-taken g c =
    more_taken g.K.PeriodKeeper.takes c.args.cast.now.names.now c.args.cast.now.workers _ _ _ _ _ _ _ _ _ _ _ _ c.loop-goes_on.invariant.begun c.read_some.ensures.taken
    (omega (arith, c.read_some.ensures.bound, c.loop-goes_on.invariant.bound))

pub returns-then-read-eq0-clause-begun : goal.returns-then-read-eq0-clause-begun
returns-then-read-eq0-clause-begun g c =
    begun_more g.K.PeriodKeeper.takes c.args.cast.now.names.now c.args.cast.now.workers _ _ _ c.loop-goes_on.taken c.loop-goes_on.taken _ _ _ _ _ _ _ _ c.loop-goes_on.invariant.begun c.read_some.ensures.taken
    (omega (arith, c.in_ok-read.ensures.count, c.if-read-eq0.true))

pub returns-then-read-eq0-clause-taken : goal.returns-then-read-eq0-clause-taken
returns-then-read-eq0-clause-taken g c =
    more_taken g.K.PeriodKeeper.takes c.args.cast.now.names.now c.args.cast.now.workers _ _ _ _ _ _ _ _ _ _ _ _ c.loop-goes_on.invariant.begun c.read_some.ensures.taken
    (omega (arith, c.read_some.ensures.bound, c.loop-goes_on.invariant.bound))

pub run_part-requires-clause-room : goal.run_part-requires-clause-room
run_part-requires-clause-room g c =
    let later = c.loop-goes_on.taken + c.in_ok-read.read in
    let begun = begun_more g.K.PeriodKeeper.takes c.args.cast.now.names.now c.args.cast.now.workers _ _ _ c.loop-goes_on.taken later _ _ _ _ _ _ _ _ c.loop-goes_on.invariant.begun c.read_some.ensures.taken
    (omega (arith, c.in_ok-read.ensures.count)) in
    (begun_ready g.K.PeriodKeeper.takes c.args.cast.now.names.now c.args.cast.now.workers _ _ _ _ _ _ _ _ _ _ begun
    (omega (arith, c.in_ok-read.ensures.count, c.read_some.ensures.bound, c.loop-goes_on.invariant.bound))).room

pub returns-in_default-run_part-clause-taken : goal.returns-in_default-run_part-clause-taken
returns-in_default-run_part-clause-taken g c =
    more_taken g.K.PeriodKeeper.takes c.args.cast.now.names.now c.args.cast.now.workers _ _ _ _ _ _ _ _ _ _ _ _ c.loop-goes_on.invariant.begun c.read_some.ensures.taken
    (omega (arith, c.read_some.ensures.bound, c.loop-goes_on.invariant.bound))

pub loop-goes_on-preserved : goal.loop-goes_on-preserved
loop-goes_on-preserved g c =
    let later = c.loop-goes_on.taken + c.in_ok-read.read in
    let begun = begun_more g.K.PeriodKeeper.takes c.args.cast.now.names.now c.args.cast.now.workers _ _ _ c.loop-goes_on.taken later _ _ _ _ _ _ _ _ c.loop-goes_on.invariant.begun c.read_some.ensures.taken
    (omega (arith, c.in_ok-read.ensures.count)) in
    record {
      begun = begun_on g.K.PeriodKeeper.takes c.args.cast.now.names.now c.args.cast.now.workers _ _ _ _ _ _ _ _ _ _ _ _ _ _ _ begun c.in-Ok-run_part.ensures.run;
      numbered = omega (arith, c.in-Ok-run_part.ensures.numbered, c.in_ok-read.ensures.count, c.loop-goes_on.invariant.numbered);
      bound = omega (arith, c.in_ok-read.ensures.count, c.read_some.ensures.bound, c.loop-goes_on.invariant.bound);
      chunk = search rules;
      before = c.loop-goes_on.invariant.before;
      unfailed = grind arith;
    }
