use Rattle.std.proofs.Common.{◌≡◌, ◌++◌, drop, map}
use Rattle.book_journal.specs.Written.{first_place}
use Rattle.book_journal.proofs.journal.first_places.Given as goal

abbrev pub invariant-loop-start : goal.invariant-loop-start
invariant-loop-start l = l.places.items ++ map first_place (drop l.start-index l.starts) ≡ map first_place l.starts
