use Rattle.std.proofs.Common.{arith}
use Rattle.ilp_view.proofs.Writes.{reject_within, fulfill_within}
use Rattle.ilp_view.proofs.laws.written_frames_are_short.Goals as goal

pub returns-clause-fulfills : goal.returns-clause-fulfills
returns-clause-fulfills c = fulfill_within c.laws_below.ensures.lengths

pub returns-clause-rejects : goal.returns-clause-rejects
returns-clause-rejects c = λ code t m p len fits.
    omega (arith, reject_within c.laws_below.ensures.lengths code t m p len (omega arith))
