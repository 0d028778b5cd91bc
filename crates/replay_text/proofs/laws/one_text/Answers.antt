use Rattle.replay_text.proofs.OneText as text
use Rattle.replay_text.proofs.laws.one_text.Goals as goal

pub returns : goal.returns
returns c = text.one_text c.one_list_of_outputs.ensures
