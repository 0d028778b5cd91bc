use Rattle.meters.proofs.Crossing.{meters_sync, seat_send}
use Rattle.meters.proofs.laws.meters_are_shared.Goals as goal

pub returns-clause-shared : goal.returns-clause-shared
returns-clause-shared c = meters_sync

pub returns-clause-sent : goal.returns-clause-sent
returns-clause-sent c = seat_send
