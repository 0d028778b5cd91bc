use Rattle.std.proofs.Common.{◌∙◌}
use Rattle.replay_text.proofs.Values.{short_value}
use Rattle.replay_text.proofs.numbers.short_value_of.Goals as goal

pub returns : goal.returns
returns c = c.low_value_of.ensures ∙ short_value c.args.word.now (rw c.if-not-begins_number.false at c.begins_number.ensures) c.requires
