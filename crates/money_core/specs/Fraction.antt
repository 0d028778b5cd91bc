-- A rate as its two numbers.
use Rattle.std.specs.Prelude.{ℕ, ◌≤◌}

-- the greatest numerator and denominator of a rate
abbrev pub max_term : ℕ
max_term = 1_000_000_000_000

-- so many outgoing units for so many incoming ones
pub record Fraction : Type 0 where
  pub numerator : ℕ
  pub denominator : ℕ

-- both numbers are within the limits of a rate
pub record IsFraction (numerator denominator : ℕ) : Type 0 where
  pub some_numerator : 1 ≤ numerator
  pub small_numerator : numerator ≤ max_term
  pub some_denominator : 1 ≤ denominator
  pub small_denominator : denominator ≤ max_term
