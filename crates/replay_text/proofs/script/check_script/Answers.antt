use Rattle.std.proofs.Common.{Result, subst, rules, arith}
use Rattle.std.proofs.Common.{List}
use Rattle.floor_core.specs.declared.step.Step.{Step}
use Rattle.replay_text.specs.Script.{lines_of, steps_from, steps_of_script, IsCheckedAs}
use Rattle.replay_text.specs.declared.script.ScriptFault.{ScriptFault}
use Rattle.replay_text.specs.declared.script.ScriptFault.TheVariants.{Size, Line}
use Rattle.replay_text.proofs.Fronts.{reads_lines}
use Rattle.replay_text.proofs.Scripts.{checked_ok, checked_err, steps_again, first_bad, never_size}
use Rattle.replay_text.proofs.script.check_script.Goals as goal

pub returns-then-text-gt-MAX_SCRIPT-clause-exact : goal.returns-then-text-gt-MAX_SCRIPT-clause-exact
unfolding steps_of_script
returns-then-text-gt-MAX_SCRIPT-clause-exact c = search rules

pub returns-clause-found : goal.returns-clause-found
returns-clause-found c =
    checked_ok c.lines_checked.result c.args.names.now c.args.workers 1 (lines_of c.args.text.now) c.lines_checked.ensures

pub returns-clause-only : goal.returns-clause-only
returns-clause-only c = λ steps short are.
    subst (λ (read : Result (List Step) ScriptFault). IsCheckedAs c.lines_checked.result read) (steps_again c.args.names.now c.args.workers 1 (lines_of c.args.text.now) steps are) c.lines_checked.ensures

pub returns-clause-first_bad : goal.returns-clause-first_bad
returns-clause-first_bad c = λ number is.
    first_bad c.args.names.now c.args.workers (lines_of c.args.text.now) number (checked_err c.lines_checked.result (steps_from c.args.names.now c.args.workers 1 (lines_of c.args.text.now)) (Line number) c.lines_checked.ensures is)

pub returns-clause-size : goal.returns-clause-size
returns-clause-size c = (
  λ is. absurd (never_size c.args.names.now c.args.workers 1 (lines_of c.args.text.now) (checked_err c.lines_checked.result (steps_from c.args.names.now c.args.workers 1 (lines_of c.args.text.now)) Size c.lines_checked.ensures is)),
  λ long. absurd (omega arith),
)

pub returns-clause-exact : goal.returns-clause-exact
returns-clause-exact c = rw (reads_lines c.args.names.now c.args.workers c.args.text.now (omega arith)) c.lines_checked.ensures
