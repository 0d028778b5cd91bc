-- What a peer owes, what is held on both sides, and how far each may go.
use Rattle.std.specs.Prelude.{ℕ, ℤ, pos, ◌+ℤ◌, ◌-ℤ◌, ◌≤ℤ◌, neg_ℤ, int_lt, ◌+◌, ◌≤◌, Bool}
use Rattle.money_core.specs.declared.purse.TheConstants.{MAX_MONEY}

-- the most of a ceiling, a credit and a balance
abbrev pub max_money : ℕ
max_money = MAX_MONEY

-- a purse, in the peer's units: what the peer owes the tenant, below 0 if it is owed; what is held from it and for it;
-- how much it may owe, and how much it may be owed
pub record Account : Type 0 where
  pub balance : ℤ
  pub held_in : ℕ
  pub held_out : ℕ
  pub ceiling : ℕ
  pub credit : ℕ

-- the bounds of a purse, whether held amounts are taken or released
pub record IsAccount (a : Account) : Type 0 where
  pub most : (a.balance +ℤ pos a.held_in) ≤ℤ pos max_money
  pub least : neg_ℤ (pos max_money) ≤ℤ (a.balance -ℤ pos a.held_out)
  pub ceiling : a.ceiling ≤ max_money
  pub credit : a.credit ≤ max_money

-- with so much more from it, the peer would owe more than its ceiling
abbrev pub is_past_ceiling : Account → ℕ → Bool
is_past_ceiling a amount = int_lt (pos a.ceiling) (a.balance +ℤ pos (a.held_in + amount))

-- with so much more for it, more would be owed to the peer than its credit
abbrev pub is_past_credit : Account → ℕ → Bool
is_past_credit a amount = int_lt (a.balance -ℤ pos (a.held_out + amount)) (neg_ℤ (pos a.credit))

-- with so much more, what is owed would pass the greatest balance
abbrev pub is_past_most : Account → ℕ → Bool
is_past_most a amount = int_lt (pos max_money) (a.balance +ℤ pos (a.held_in + amount))

-- with so much less, it would pass the least one
abbrev pub is_past_least : Account → ℕ → Bool
is_past_least a amount = int_lt (a.balance -ℤ pos (a.held_out + amount)) (neg_ℤ (pos max_money))
