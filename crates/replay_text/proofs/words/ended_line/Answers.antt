use Rattle.std.proofs.Common.{sym, ◌∙◌, ◌+◌}
use Rattle.std.proofs.lemmas.List.{take_rest}
use Rattle.replay_text.proofs.Splits.{lines_ended}
use Rattle.replay_text.proofs.words.ended_line.Goals as goal

pub returns-in-Some-clause-value : goal.returns-in-Some-clause-value
returns-in-Some-clause-value c = λ more.
    rw (take_rest c.args.text.now (c.in-Some.end + 1)) (lines_ended c.args.text.now more c.in-Some.end (sym c.place_of.ensures ∙ c.in-Some.is))
