use Rattle.std.proofs.Common.{ℕ, ◌<◌}
use Rattle.std.specs.Prelude.{slice_index_or}
use Rattle.tenant_core.specs.Sound.{IsSound}
use Rattle.tenant_core.specs.State.{State}
use Rattle.book_journal.proofs.journal.are_sound.Given as goal

abbrev pub invariant-loop-book : goal.invariant-loop-book
invariant-loop-book l = (k : ℕ) (d : State) → k < l.book-index → IsSound (slice_index_or l.books k d)
