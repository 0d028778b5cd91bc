-- Threads may share meters, and a seat may go from one to another. The rules that are cited are those of the table.
use denote.Param.Send.{IsSend, IsSync, sendable}
use Rattle.std.proofs.Crossing as std
use Rattle.atomic_table.proofs.shared.Seat.TheSendSync as of_seat
use Rattle.atomic_table.proofs.shared.Shared.TheSendSync as of_shared
use Rattle.atomic_table.proofs.send_lease.SendLease.TheSendSync as of_lease
use Rattle.meters.specs.contracts.meters.Meters as Meters
use Rattle.meters.specs.contracts.meters.MeterSeat as MeterSeat

pub seat_send : IsSend MeterSeat.the_row
seat_send = search (sendable, std.crosses, of_seat.the_send) depth 40

pub meters_sync : IsSync Meters.the_row
meters_sync = search (sendable, std.crosses, of_shared.the_sync, of_lease.the_sync) depth 40
