use Rattle.std.proofs.Common.{sym, ◌∙◌, ◌+◌}
use Rattle.std.proofs.lemmas.List.{take_rest}
use Rattle.replay_text.proofs.Splits.{lines_found, lines_none}
use Rattle.replay_text.proofs.words.first_line.Goals as goal

pub returns-in-Some-clause-value : goal.returns-in-Some-clause-value
returns-in-Some-clause-value c =
    rw (take_rest c.args.text.now (c.in-Some.end + 1)) (lines_found c.args.text.now c.in-Some.end (sym c.place_of.ensures ∙ c.in-Some.is))

pub returns-in-None-clause-value : goal.returns-in-None-clause-value
returns-in-None-clause-value c = lines_none c.args.text.now c.requires (sym c.place_of.ensures ∙ c.in-None.is)
