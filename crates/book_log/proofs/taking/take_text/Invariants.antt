use Rattle.std.proofs.Common.{◌≡◌, ◌+◌, length}
use Rattle.book_log.specs.Faults.{feeds}
use Rattle.book_log.proofs.Taken.{AreCommitsSoFar}
use Rattle.book_log.proofs.WrittenTexts.{IsLeft}
use Rattle.book_log.proofs.taking.take_text.Given as goal

abbrev pub invariant-loop-commit : goal.invariant-loop-commit
invariant-loop-commit l =
    AreCommitsSoFar l.first l.text l.rest l.sum l.fn.books l.books × ((length l.books ≡ length l.fn.books) × (l.line + feeds l.rest ≡ feeds l.text + 1))
    × IsLeft l.first l.text l.sum l.rest l.fn.books l.books

abbrev pub decreases-loop-commit : goal.decreases-loop-commit
decreases-loop-commit l = length l.rest
