use Rattle.std.proofs.Common.{◌≡◌, ◌-◌, ◌≤◌, ℕ, false, List}
use Rattle.line_log.specs.File.{IsMix, LeavesOnly}
use Rattle.line_log.specs.Blank.{blanked}
use Rattle.line_log.proofs.Pieces.{so_far}
use Rattle.line_log.proofs.writing.write_zeros.Given as goal

abbrev pub invariant-loop-at : goal.invariant-loop-at
invariant-loop-at g l = record {
  from : l.from ≤ l.at;
  size : l.at ≤ l.size;
  sound : g.D.LogFile.has_failed l.file ≡ false;
  written : g.D.LogFile.seen l.file ≡ so_far (g.D.LogFile.seen l.fn.file) (blanked l.from (g.D.LogFile.seen l.fn.file)) l.at;
  crash : (c : List ℕ) → g.D.LogFile.may_leave l.file c → IsMix (g.D.LogFile.seen l.fn.file) (blanked l.from (g.D.LogFile.seen l.fn.file)) c;
  moments : LeavesOnly g.D.LogFile.moment g.D.LogFile.left_since l.fn.file l.file (IsMix (g.D.LogFile.seen l.fn.file) (blanked l.from (g.D.LogFile.seen l.fn.file)));
}

abbrev pub decreases-loop-at : goal.decreases-loop-at
decreases-loop-at g l = l.size - l.at
