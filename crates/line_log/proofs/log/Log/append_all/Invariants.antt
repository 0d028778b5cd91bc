use Rattle.std.proofs.Common.{◌≡◌, ◌++◌, false, take}
use Rattle.line_log.specs.File.{LeavesOnly}
use Rattle.line_log.specs.Log.{all_of, recovered, IsSettled, IsWithSome}
use Rattle.line_log.proofs.log.Log.append_all.Given as goal

abbrev pub invariant-loop-batch : goal.invariant-loop-batch
invariant-loop-batch g l = record {
  sound : l.self.broken ≡ false;
  size : l.self.size ≡ l.fn.self.size;
  settled : IsSettled g.D.LogFile.seen g.D.LogFile.may_leave l.self;
  done : recovered (g.D.LogFile.seen l.self.file) ≡ recovered (g.D.LogFile.seen l.fn.self.file) ++ all_of (take l.batch-index l.batches);
  moments : LeavesOnly g.D.LogFile.moment g.D.LogFile.left_since l.fn.self.file l.self.file (IsWithSome (recovered (g.D.LogFile.seen l.fn.self.file)) (all_of l.batches));
}
