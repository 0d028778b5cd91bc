-- What holds of the lines of a log, in the terms of their definitions.
use Rattle.std.specs.Prelude.{ℕ, ◌≡◌, false, List, [], ◌∷◌, ◌++◌, Some}
use Rattle.statements.specs.Reading.{text_lines}
use Rattle.tenant_core.specs.State.{State}
use Rattle.tenant_core.specs.declared.journal.Record.{Record}
use Rattle.book_log.specs.Lines.{AreTaken, IsTaken, log_line}
use Rattle.book_log.specs.Reading.{line_said}
use Rattle.book_log.specs.Sums.{is_sum}
use Rattle.book_log.specs.Written.{AreWritten, IsLoggable, IsPlace, IsWritten}
use Rattle.book_log.specs.declared.line.LinePlace.{LinePlace}

-- Lines that are written: each is read back, and taken up as the record that it is.
pub record LineLaws : Type 0 where
  -- the line of a record says its place and its entry, with the secrets of a peer that it adds
  pub read_back : (p : LinePlace) (r : Record) (line : List ℕ) → IsPlace p → IsLoggable r → line ++ 10 ∷ [] ≡ log_line p r
      → line_said line ≡ Some (p, r.entry)
  -- it is one line, whatever follows, and not that of a sum
  pub one_line : (line : List ℕ) (before after : List State) → IsWritten line before after
      → (text : List ℕ) → text_lines (line ++ 10 ∷ text) ≡ line ∷ text_lines text
  pub no_sum : (line : List ℕ) (before after : List State) → IsWritten line before after → is_sum line ≡ false
  -- a line that is written leaves the books as one that is taken up does
  pub one_end : (line : List ℕ) (before after other : List State) → IsWritten line before after → IsTaken line before other
      → other ≡ after
  -- so do lines, one after another
  pub one_end_of_all : (lines : List (List ℕ)) (before after other : List State) → AreWritten lines before after
      → AreTaken lines before other → other ≡ after
