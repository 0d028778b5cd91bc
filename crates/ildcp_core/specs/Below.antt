-- The laws of the crates below that the proofs of this one take.
use Rattle.oer_core.specs.Laws.{LengthLaws, WritingLaws}

-- The laws of lengths and of writes.
pub record LawsBelow : Type 0 where
  pub lengths : LengthLaws
  pub writings : WritingLaws
