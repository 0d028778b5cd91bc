-- Threads may share a journal.
use denote.Param.Send.{IsSend, IsSync, sendable}
use denote.RattleType.{RattleType}
use Rattle.std.proofs.Crossing as std
use Rattle.line_log.specs.contracts.log.Log as Log
use Rattle.log_folder.specs.contracts.disk_file.DiskFile as DiskFile
use Rattle.log_folder.specs.contracts.disk_file.DiskFileLogFile.TheImpl as DiskLog
use Rattle.log_folder.proofs.history.History.TheSendSync as of_history
use Rattle.one_list.proofs.parts.Watcher.TheSendSync as of_watcher
use Rattle.line_log.specs.declared.file.LogFile as LogFile
use Rattle.one_list.specs.declared.run.Run as Run
use Rattle.book_journal.specs.contracts.writer.LogWriter as LogWriter
use Rattle.journal_shared.specs.contracts.noted.Noted as Noted
use Rattle.journal_shared.specs.contracts.pen.Pen as Pen
use Rattle.journal_shared.specs.contracts.progress.Progress as Progress
use Rattle.journal_shared.specs.contracts.shared.SharedJournal as SharedJournal

noted_send : (J : RattleType) (r : Run.Ghosts J.Denot) → IsSend (Noted.the_row J r)
noted_send J r = search (sendable, std.crosses, of_watcher.the_send) depth 40

log_send : (D : RattleType) (d : LogFile.Ghosts D.Denot) → IsSend D → IsSend (Log.the_row D d)
log_send D d file = search (sendable, std.crosses) depth 40

writer_send : (D : RattleType) (d : LogFile.Ghosts D.Denot) → IsSend D → IsSend (LogWriter.the_row D d)
writer_send D d file = search (sendable, std.crosses, log_send) depth 80

pen_send : (D J : RattleType) (d : LogFile.Ghosts D.Denot) (r : Run.Ghosts J.Denot) → IsSend D → IsSend (Pen.the_row D J d r)
pen_send D J d r file = search (sendable, std.crosses, writer_send, of_watcher.the_send) depth 80

progress_send : (D J : RattleType) (d : LogFile.Ghosts D.Denot) (r : Run.Ghosts J.Denot) → IsSend D → IsSend (Progress.the_row D J d r)
progress_send D J d r file = search (sendable, std.crosses, pen_send) depth 80

journal_sync : (D J : RattleType) (d : LogFile.Ghosts D.Denot) (r : Run.Ghosts J.Denot) → IsSend D → IsSync (SharedJournal.the_row D J d r)
journal_sync D J d r file = search (sendable, std.crosses, noted_send, progress_send) depth 80

file_send : IsSend DiskFile.the_row
file_send = search (sendable, std.crosses, of_history.the_send) depth 40

pub disk_journal_sync : (J : RattleType) (r : Run.Ghosts J.Denot) → IsSync (SharedJournal.the_row DiskFile.the_row J DiskLog.ghosts r)
disk_journal_sync J r = journal_sync DiskFile.the_row J DiskLog.ghosts r file_send
