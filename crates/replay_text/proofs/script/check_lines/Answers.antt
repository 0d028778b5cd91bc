use Rattle.std.proofs.Common.{ap, is_some, sym, arith, ◌∙◌}
use Rattle.std.proofs.lemmas.List.{nil_from_length}
use Rattle.std.proofs.lemmas.Bool.{eqb-true}
use Rattle.replay_text.proofs.Fronts.{fails, passes, ends}
use Rattle.replay_text.proofs.script.check_lines.Goals as goal

pub returns-in-Some : goal.returns-in-Some
returns-in-Some c =
    let front = c.loop-rest.invariant.read in
    fails front.0 c.args.names.now c.args.workers c.loop-rest.number c.loop-rest.rest.now c.first_line.result.0.now c.first_line.result.1.now _ c.first_line.ensures.value (sym c.in_ok-cause.ensures ∙ ap is_some c.in-Some.is) front.1

pub loop-rest-preserved : goal.loop-rest-preserved
loop-rest-preserved c =
    let front = c.loop-rest.invariant.read in
    record {
      numbered = omega (arith, c.first_line.ensures.shorter);
      read = passes front.0 c.args.names.now c.args.workers c.loop-rest.number c.loop-rest.rest.now c.first_line.result.0.now c.first_line.result.1.now _ c.first_line.ensures.value (sym c.in_ok-cause.ensures ∙ ap is_some c.in_default.is) front.1;
    }

pub returns : goal.returns
returns c =
    let front = c.loop-rest.invariant.read in
    (front.0, ends front.0 c.args.names.now c.args.workers c.loop-rest.number c.loop-rest.rest.now _ (nil_from_length _ (eqb-true _ _ (sym c.loop-rest-test.ensures))) front.1)
