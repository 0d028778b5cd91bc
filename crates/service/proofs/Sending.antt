-- What a worker holds may go to a thread of its own.
use denote.Struct.Declared.{shape}
use denote.Param.Send.{IsSend, IsSync, struct_send, struct_sync, recorded_send, recorded_sync, sendable}
use Rattle.std.proofs.Crossing as std
use Rattle.floor_core.specs.contracts.slot.Slot as Slot
use Rattle.floor_core.proofs.slot.Slot.TheSendSync as of_slot
use Rattle.one_list.specs.declared.run.Run as Run
use Rattle.one_list.proofs.parts.WorkerPart.TheSendSync as of_part
use Rattle.tenant_core.specs.contracts.opening.Opening as Opening
use Rattle.tenant_core.specs.contracts.period.Period as Period
use Rattle.tenant_core.specs.contracts.period.PeriodParts as PeriodParts
use Rattle.tenant_core.specs.contracts.period.Records as Records
use Rattle.tenant_core.proofs.period.Records.TheSendSync as of_records
use Rattle.tenant_core.proofs.row.Row.TheSendSync as of_row
use Rattle.receipts.proofs.ledger.Ledger.TheSendSync as of_ledger
use Rattle.tenant_core.specs.contracts.network.Network as Network
use Rattle.books_shared.specs.contracts.books.Books as Books
use Rattle.books_shared.specs.contracts.share.Share as Share
use Rattle.meters.specs.contracts.meters.Meters as Meters
use Rattle.common_types.specs.contracts.names.Name as Name
use denote.RattleType.{RattleType}
use denote.Ref.{NamedLft}
use Rattle.meters.specs.contracts.meters.MeterSeat as MeterSeat
use Rattle.service.specs.contracts.worker.Worker as Worker
use Rattle.service.specs.contracts.worker.desk.Desk as Desk
use Rattle.service.specs.contracts.office.Office as Office
use Rattle.service.specs.contracts.office.Terms as Terms
use Rattle.service.specs.contracts.connection.door.Door as Door
use Rattle.workers.specs.contracts.places.Places as Places
use Rattle.service.specs.contracts.breakers.Breakers as Breakers
use Rattle.workers.specs.contracts.backlog.Backlog as Backlog
use Rattle.workers.specs.contracts.backlog.Waiting as Waiting
use Rattle.service.specs.contracts.filing.Filing as Filing
use Rattle.service.specs.contracts.filing.scribe.Scribe as Scribe
use Rattle.service.specs.contracts.operators.answering.Operators as Operators
use Rattle.service.specs.contracts.host.callers.Porter as Porter
use Rattle.journal_shared.specs.contracts.shared.SharedJournal as SharedJournal
use Rattle.log_folder.specs.contracts.disk_file.DiskFile as DiskFile
use Rattle.log_folder.specs.contracts.disk_file.DiskFileLogFile.TheImpl as DiskLog

opening_send : IsSend Network.the_row → IsSend Opening.the_field.row
opening_send network = struct_send (shape Opening.the_type) (
  search (sendable, std.crosses) depth 40,
  (
    search (sendable, std.crosses) depth 40,
    (
      search (sendable, std.crosses) depth 40,
      (
        search (sendable, std.crosses) depth 40,
        (
          search (sendable, std.crosses) depth 40,
          (
            search (sendable, std.crosses) depth 40,
            (
              search (sendable, std.crosses) depth 40,
              (search (sendable, std.crosses) depth 40, (search (sendable, std.crosses) depth 40, (network, tt))),
            ),
          ),
        ),
      ),
    ),
  ),
)

records_send : IsSend Records.the_row
records_send = of_records.the_send

parts_send : IsSend Network.the_row → IsSend PeriodParts.the_row
parts_send network = recorded_send _ _ _ PeriodParts.the_type.to_one (struct_send (shape PeriodParts.the_type)
    (opening_send network, (records_send, (search (sendable, std.crosses, of_row.the_send) depth 40, (opening_send network, tt)))))

pub period_send : IsSend Network.the_row → IsSend Period.the_row
period_send network = search (sendable, std.crosses, parts_send) depth 40

pub share_send : (J : RattleType) (r : Run.Ghosts J.Denot) → IsSend (Share.the_row J r)
share_send J r = search (sendable, std.crosses, of_part.the_send, of_ledger.the_send) depth 40

pub slot_send : IsSend Slot.the_row
slot_send = search (sendable, std.crosses, of_slot.the_send) depth 40

pub name_sync : IsSync Name.the_row
name_sync = search (sendable, std.crosses) depth 40

pub terms_sync : IsSync Terms.the_row
terms_sync = search (sendable, std.crosses) depth 40

pub places_sync : IsSync Places.the_field.row
places_sync = search (sendable, std.crosses) depth 40

pub breakers_sync : IsSync Breakers.the_field.row
breakers_sync = search (sendable, std.crosses) depth 40

pub door_sync : IsSync Door.the_field.row
door_sync = search (sendable, std.crosses) depth 40

waiting_send : IsSend Network.the_row → IsSend Waiting.the_row
waiting_send network =
    let period = period_send network in
    recorded_send _ _ _ Waiting.the_type.to_one (struct_send (shape Waiting.the_type)
    (search (sendable, std.crosses, period) depth 40, (search (sendable, std.crosses) depth 40, (search (sendable, std.crosses) depth 40, (search (sendable, std.crosses) depth 40, (search (sendable, std.crosses) depth 40, (search (sendable, std.crosses) depth 40, (search (sendable, std.crosses) depth 40, tt))))))))

backlog_sync : IsSend Network.the_row → IsSync (Backlog.the_field).row
backlog_sync network =
    let waiting = waiting_send network in
    struct_sync (shape Backlog.the_type) (search (sendable, std.crosses, waiting) depth 40, (search (sendable, std.crosses) depth 40, (search (sendable, std.crosses) depth 40, (search (sendable, std.crosses) depth 40, tt))))

filing_sync : IsSend Network.the_row → IsSync Filing.the_row
filing_sync network =
    let fields = struct_sync (shape Filing.the_type) (search (sendable, std.crosses) depth 40, (backlog_sync network, tt)) in
    search (recorded_sync, fields) depth 10

pub office_sync : (J : RattleType) (r : Run.Ghosts J.Denot) → IsSync (Books.the_row J r) → IsSync Meters.the_row
    → IsSend Network.the_row → IsSync (SharedJournal.the_row DiskFile.the_row J DiskLog.ghosts r) → IsSync (Office.the_row J r)
office_sync J r books meters network journal =
    let filing = filing_sync network in
    let fields = struct_sync (shape (Office.the_type J r)) (
      search (sendable, std.crosses, name_sync) depth 40,
      (search (sendable, std.crosses, terms_sync) depth 40, (books, (meters, (places_sync, (breakers_sync, (door_sync, (search (sendable, std.crosses, filing) depth 40, (search (sendable, std.crosses, journal) depth 40, (search (sendable, std.crosses) depth 40, (search (sendable, std.crosses) depth 40, (search (sendable, std.crosses) depth 40, (search (sendable, std.crosses) depth 40, tt)))))))))))),
    ) in
    search (recorded_sync, fields) depth 10

pub desk_send : (J : RattleType) (r : Run.Ghosts J.Denot) → IsSend Network.the_row → IsSend MeterSeat.the_row → IsSend (Desk.the_field J r).row
desk_send J r network seat = let period = period_send network in struct_send (shape (Desk.the_type J r))
    (share_send J r, (seat, (slot_send, (search (sendable, std.crosses) depth 40, (search (sendable, std.crosses) depth 40, (search (sendable, std.crosses) depth 40, (search (sendable, std.crosses, period) depth 40, (search (sendable, std.crosses) depth 40, tt))))))))

pub worker_send : (κ : NamedLft) (H C J : RattleType) (r : Run.Ghosts J.Denot) → IsSync H → IsSync C
    → IsSync (Office.the_row J r) → IsSend Network.the_row → IsSend MeterSeat.the_row → IsSend (Worker.the_row κ H C J r)
worker_send κ H C J r h c office network seat =
    recorded_send _ _ _ (Worker.the_type κ H C J r).to_one (struct_send (shape (Worker.the_type κ H C J r))
    (search (sendable, std.crosses, h) depth 40, (search (sendable, std.crosses) depth 40, (search (sendable, std.crosses, office) depth 40, (search (sendable, std.crosses, c) depth 40, (search (sendable, std.crosses) depth 40, (search (sendable, std.crosses) depth 40, (search (sendable, std.crosses) depth 40, (desk_send J r network seat, (search (sendable, std.crosses) depth 40, tt))))))))))

pub operators_send : (κ : NamedLft) (H C J : RattleType) (r : Run.Ghosts J.Denot) → IsSync H → IsSync C
    → IsSync (Office.the_row J r) → IsSend Network.the_row → IsSend MeterSeat.the_row → IsSend (Operators.the_row κ H C J r)
operators_send κ H C J r h c office network seat =
    recorded_send _ _ _ (Operators.the_type κ H C J r).to_one (struct_send (shape (Operators.the_type κ H C J r))
    (search (sendable, std.crosses, h) depth 40, (search (sendable, std.crosses) depth 40, (search (sendable, std.crosses, c) depth 40, (search (sendable, std.crosses, office) depth 40, (desk_send J r network seat, (search (sendable, std.crosses) depth 40, (search (sendable, std.crosses) depth 40, tt))))))))

pub scribe_send : (κ : NamedLft) (H J : RattleType) (r : Run.Ghosts J.Denot) → IsSync H
    → IsSync (Office.the_row J r) → IsSend Network.the_row → IsSend (Scribe.the_row κ H J r)
scribe_send κ H J r h office network =
    let period = period_send network in
    recorded_send _ _ _ (Scribe.the_type κ H J r).to_one (struct_send (shape (Scribe.the_type κ H J r))
    (search (sendable, std.crosses, h) depth 40, (search (sendable, std.crosses) depth 40, (search (sendable, std.crosses, office) depth 40, (search (sendable, std.crosses) depth 40, (search (sendable, std.crosses, period) depth 40, tt))))))

pub porter_send : (κ : NamedLft) (H K : RattleType) → IsSync H → IsSend K → IsSend (Porter.the_row κ H K)
porter_send κ H K h k =
    recorded_send _ _ _ (Porter.the_type κ H K).to_one (struct_send (shape (Porter.the_type κ H K))
    (search (sendable, std.crosses, h) depth 40, (search (sendable, std.crosses) depth 40, (search (sendable, std.crosses) depth 40, (search (sendable, std.crosses, door_sync) depth 40, (k, (search (sendable, std.crosses) depth 40, (search (sendable, std.crosses) depth 40, tt))))))))
