use Rattle.books_shared.proofs.Crossing.{network_send}
use Rattle.books_shared.proofs.laws.networks_cross.Goals as goal

pub returns : goal.returns
returns c = network_send
