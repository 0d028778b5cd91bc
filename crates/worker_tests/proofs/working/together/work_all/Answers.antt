use denote.Param.{param}
use denote.Param.Send.{IsSend, IsSync, recorded_send, sendable, struct_send}
use denote.RattleType.{RattleType}
use denote.Ref.{NamedLft}
use denote.Struct.Declared.{shape}
use denote.Struct.Struct.{Struct}
use Rattle.std.proofs.Crossing as std
use Rattle.std.specs.contracts.alloc.Global as Global
use Rattle.one_list.specs.declared.run.Run as Run
use Rattle.one_list.proofs.parts.WorkerPart.TheSendSync as of_part
use Rattle.receipts.proofs.ledger.Ledger.TheSendSync as of_ledger
use Rattle.books_shared.specs.contracts.books.Books as Books
use Rattle.books_shared.specs.contracts.share.Share as Share
use Rattle.worker_tests.specs.contracts.working.together.Carrier as Carrier
use Rattle.worker_tests.specs.contracts.working.together.Meeting as Meeting
use Rattle.worker_tests.proofs.working.together.work_all.Goals as goal

share_send : (J : RattleType) (r : Run.Ghosts J.Denot) → IsSend (Share.the_row J r)
share_send J r = search (sendable, std.crosses, of_part.the_send, of_ledger.the_send) depth 40

meeting_sync : IsSync Meeting.the_row
meeting_sync = search (sendable, std.crosses) depth 40

alloc_send : IsSend (Struct (shape Global.the_type))
alloc_send = search (sendable, std.crosses) depth 40

carrier_send : (κ : NamedLft) (J : RattleType) (r : Run.Ghosts J.Denot) → IsSync (Books.the_row J r)
    → IsSend (Carrier.the_row κ J r)
carrier_send κ J r books =
    recorded_send _ _ _ (Carrier.the_type κ J r).to_one (struct_send (shape (Carrier.the_type κ J r))
    (alloc_send, (search (sendable, books), (search (sendable, meeting_sync), (share_send J r, (search sendable, (search sendable, tt)))))))

pub run_workers-requires-send-W : goal.run_workers-requires-send-W
run_workers-requires-send-W g c κs within =
    let lane : (κ : NamedLft) → IsSend (Carrier.the_row κ (param 0 g.row.J) g.J.Run)
    = λ κ. carrier_send κ _ _ c.books_are_shared.ensures in
    search (sendable, lane) depth 60
