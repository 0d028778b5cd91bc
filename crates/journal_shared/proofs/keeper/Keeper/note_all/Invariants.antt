use Rattle.std.proofs.Common.{◌≡◌, length}
use Rattle.journal_shared.specs.Progress.{IsReady}
use Rattle.journal_shared.proofs.AllTenants.{Goes}
use Rattle.journal_shared.proofs.keeper.Keeper.note_all.Given as goal

abbrev pub invariant-loop-tenant : goal.invariant-loop-tenant
invariant-loop-tenant g l = record {
  end : l.tenant-end ≡ length l.pen.places.items;
  goes : (ready : IsReady g.D.LogFile.seen g.D.LogFile.may_leave g.J.Run.openings l.fn.pen)
      → Goes g.J.Run.openings ready.fronts l.tenant l.pen.lines.items l.pen.next.items l.pen.watcher;
  writer : l.pen.writer ≡ l.fn.pen.writer;
  places : l.pen.places ≡ l.fn.pen.places;
}
