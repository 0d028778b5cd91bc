use Rattle.ilp_view.proofs.AnswerLaws.{no_frame_begins}
use Rattle.ilp_view.proofs.laws.no_frame_begins_another.Goals as goal

pub returns : goal.returns
returns c = no_frame_begins c.laws_below.ensures
