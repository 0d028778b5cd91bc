use Rattle.std.proofs.Common.{◌≡◌, ◌++◌, drop}
use Rattle.journal_shared.specs.Kept.{ends_of, first_fronts}
use Rattle.journal_shared.proofs.shared.first_places.Given as goal

abbrev pub invariant-loop-opening : goal.invariant-loop-opening
invariant-loop-opening l = l.places.items ++ ends_of (first_fronts (drop l.opening-index l.openings)) ≡ ends_of (first_fronts l.openings)
