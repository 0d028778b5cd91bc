use Rattle.std.proofs.Common.{List, sym, subst}
use Rattle.one_list.specs.declared.step.Beginning.{Beginning}
use Rattle.books_shared.specs.Kept.{LockedBook}
use Rattle.book_log.specs.declared.line.LinePlace.{LinePlace}
use Rattle.journal_shared.specs.Fronts.{AreAppended, AreTaken, front_of}
use Rattle.journal_shared.proofs.Noting.{if_taken, taken_from}
use Rattle.journal_shared.proofs.keeper.Keeper.note.Goals as goal

pub returns-clause-lines : goal.returns-clause-lines
returns-clause-lines g c = λ before is met from.
    let b : LockedBook = c.enter-guard.result in
    if_taken c.take.result _ _ (λ (to : LinePlace) taken.
    let own : AreTaken g.J.Run.openings c.args.from (front_of b) c.args.lines.now.items c.take.new.lines.items to
    = subst (λ (k : LockedBook). AreTaken g.J.Run.openings c.args.from (front_of k) c.args.lines.now.items c.take.new.lines.items to) c.watch.ensures.book taken in
    subst (λ (bs : List Beginning). AreAppended g.J.Run.openings before c.args.lines.now.items c.take.new.lines.items to bs) (sym c.watch.ensures.watcher)
    (taken_from g.J.Run.openings before b c.args.watcher.now c.args.from to c.args.lines.now.items c.take.new.lines.items own is met from c.watch.ensures.goes_on))
    c.take.ensures.taken
