use Rattle.std.proofs.Common.{◌≡◌, ◌+◌, length}
use Rattle.book_log.specs.Faults.{feeds}
use Rattle.book_log.proofs.Taken.{AreLinesSoFar}
use Rattle.book_log.proofs.WrittenTexts.{AreLeft}
use Rattle.book_log.proofs.taking.take_lines.Given as goal

abbrev pub invariant-loop-rest : goal.invariant-loop-rest
invariant-loop-rest l =
    AreLinesSoFar l.text l.rest l.fn.books l.books
    × ((length l.books ≡ length l.fn.books) × (l.number + feeds l.rest ≡ feeds l.text)) × AreLeft l.text l.rest l.fn.books l.books

abbrev pub decreases-loop-rest : goal.decreases-loop-rest
decreases-loop-rest l = length l.rest
