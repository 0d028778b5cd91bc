-- The laws of the crates below that the proofs of this one take.
use Rattle.oer_core.specs.Laws.{LengthLaws, NumberLaws, WritingLaws}
use Rattle.ilp_addr.specs.Laws.{AddressLaws, TimestampLaws}

-- The laws of lengths, numbers, writes, addresses and timestamps.
pub record LawsBelow : Type 0 where
  pub lengths : LengthLaws
  pub numbers : NumberLaws
  pub writings : WritingLaws
  pub addresses : AddressLaws
  pub timestamps : TimestampLaws
