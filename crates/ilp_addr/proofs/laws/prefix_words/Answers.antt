use Rattle.ilp_addr.proofs.Ends.{prefix_is_itself, prefix_has_no_space}
use Rattle.ilp_addr.proofs.laws.prefix_words.Goals as goal

pub returns : goal.returns
returns c = record { prefix_is_itself = prefix_is_itself; prefix_has_no_space = prefix_has_no_space }
