-- Prices of amounts under a rate, in exact numbers.
use Rattle.std.specs.Prelude.{ℕ, ◌+◌, ◌-◌, ◌*◌, ◌/◌, ◌<◌, ◌≤◌, Option, Some, None, Result, Ok, Err, nat_lt, ◌==◌, ◌||◌}
use Rattle.std.specs.Prelude.{if◌then◌else◌}
use Rattle.money_core.specs.Fraction.{Fraction, max_term}
use Rattle.money_core.specs.declared.rate.RateFault.{RateFault}
use Rattle.money_core.specs.declared.rate.RateFault.TheVariants.{Zero, Limit}

-- the price of an amount is the whole part of amount * numerator / denominator
abbrev pub IsPrice : Fraction → ℕ → ℕ → Type 0
IsPrice f amount price =
    (price * f.denominator ≤ amount * f.numerator) × (amount * f.numerator < (price + 1) * f.denominator)

-- the price, computed
abbrev pub price_of : Fraction → ℕ → ℕ
price_of f amount = amount * f.numerator / f.denominator

-- the price less a fee, if it is not below the fee
abbrev pub price_less : Fraction → ℕ → ℕ → Option ℕ
price_less f amount fee = if nat_lt (price_of f amount) fee then None else Some (price_of f amount - fee)

-- the amount is within its limit and its price within its bound, and no larger amount is
pub record IsGreatestAmount (f : Fraction) (limit max amount : ℕ) : Type 0 where
  pub within : amount ≤ limit
  pub price_fits : price_of f amount ≤ max
  pub greatest : (larger : ℕ) → larger ≤ limit → price_of f larger ≤ max → larger ≤ amount

-- the greatest amount, computed
abbrev pub greatest_amount : Fraction → ℕ → ℕ → ℕ
greatest_amount f limit max =
    if nat_lt (((max + 1) * f.denominator - 1) / f.numerator) limit
    then ((max + 1) * f.denominator - 1) / f.numerator
    else limit

-- the rate of two numbers, or the first fault
abbrev pub rate_at : ℕ → ℕ → Result Fraction RateFault
rate_at numerator denominator =
    if numerator == 0 || denominator == 0 then Err Zero
    else (if nat_lt max_term numerator || nat_lt max_term denominator then Err Limit
    else Ok (record { numerator = numerator; denominator = denominator }))
