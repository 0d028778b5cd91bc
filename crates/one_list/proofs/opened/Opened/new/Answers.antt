use Rattle.one_list.proofs.Moves.{begins}
use Rattle.one_list.proofs.opened.Opened.new.Goals as goal

pub of_words-requires : goal.of_words-requires
of_words-requires c = begins _
