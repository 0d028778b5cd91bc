-- What an iterator over the parts of an address has left.
use Rattle.std.specs.Prelude.{ℕ, List, [], Option}
use Rattle.std.specs.Iterator.{YieldsFirstRef}
use Rattle.std.specs.Borrow.{Bor}
use Rattle.std.specs.Option.{option_map_or}
use Rattle.ilp_addr.specs.declared.segments.Segments.{Segments}
use Rattle.ilp_addr.specs.Address.{segments}

-- the parts that the iterator has left
abbrev pub segments_left : Segments → List (List ℕ)
segments_left it = option_map_or (λ rest. segments rest.now) it.rest []

-- a call gave the first part that was left, or `None` if none was left
abbrev pub GivesFirstSegment : Segments → Option (Bor (List ℕ)) → Segments → Type 0
GivesFirstSegment = YieldsFirstRef segments_left
