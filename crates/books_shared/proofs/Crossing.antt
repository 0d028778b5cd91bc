-- Threads may share books, since a book may go from one thread to another. The rules that are cited are those that rattle
-- writes for each type.
use denote.Param.Send.{IsSend, IsSync, sendable}
use Rattle.std.proofs.Crossing as std
use Rattle.std.proofs.MapsCrossing as maps
use Rattle.route_table.proofs.node.Node.TheLaws.TheKnot as of_node
use Rattle.route_table.specs.contracts.routes.Routes as Routes
use Rattle.tenant_core.specs.contracts.network.Network as Network
use Rattle.tenant_core.specs.contracts.book.Book as Book
use Rattle.tenant_core.proofs.arena.Small.TheSendSync as of_small
use Rattle.tenant_core.proofs.hold.Hold.TheSendSync as of_hold
use Rattle.tenant_core.proofs.peer.Peer.TheSendSync as of_peer
use Rattle.tenant_core.proofs.rates.Rates.TheSendSync as of_rates
use denote.RattleType.{RattleType}
use Rattle.one_list.specs.declared.run.Run as Run
use Rattle.one_list.specs.contracts.parts.TenantPart as TenantPart
use Rattle.one_list.specs.contracts.chronicle.Chronicle as Chronicle
use Rattle.one_list.proofs.parts.TenantPart.TheSendSync as of_part
use Rattle.one_list.proofs.chronicle.Chronicle.TheSendSync as of_chronicle
use Rattle.books_shared.specs.contracts.kept.LockedBook as LockedBook
use Rattle.books_shared.specs.contracts.outcomes.TenantLog as TenantLog
use Rattle.books_shared.specs.contracts.books.Books as Books

routes_send : IsSend Routes.the_row
routes_send = search (sendable, std.crosses, maps.crosses, of_node.crosses) depth 40

pub network_send : IsSend Network.the_row
network_send = search (sendable, std.crosses, routes_send, of_peer.the_send, of_rates.the_send) depth 40

book_send : IsSend Book.the_row
book_send = search (sendable, std.crosses, network_send, of_small.the_send, of_hold.the_send) depth 40

part_send : (J : RattleType) (r : Run.Ghosts J.Denot) → IsSend (TenantPart.the_row J r)
part_send J r = search (sendable, std.crosses, of_part.the_send) depth 40

log_send : (J : RattleType) (r : Run.Ghosts J.Denot) → IsSend (TenantLog.the_row J r)
log_send J r = search (sendable, std.crosses, part_send) depth 40

kept_send : (J : RattleType) (r : Run.Ghosts J.Denot) → IsSend (LockedBook.the_row J r)
kept_send J r = search (sendable, std.crosses, book_send, log_send) depth 40

chronicle_sync : (J : RattleType) (r : Run.Ghosts J.Denot) → IsSync (Chronicle.the_row J r)
chronicle_sync J r = search (sendable, std.crosses, of_chronicle.the_sync) depth 40

pub books_sync : (J : RattleType) (r : Run.Ghosts J.Denot) → IsSync (Books.the_row J r)
books_sync J r = search (sendable, std.crosses, kept_send, chronicle_sync) depth 40
