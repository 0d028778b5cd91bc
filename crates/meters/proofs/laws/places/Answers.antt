use Rattle.meters.proofs.Words.{word_own, word_below}
use Rattle.meters.proofs.laws.places.Goals as goal

pub returns-clause-own : goal.returns-clause-own
returns-clause-own c = word_own

pub returns-clause-room : goal.returns-clause-room
returns-clause-room c t k lt = word_below t 64 k lt
