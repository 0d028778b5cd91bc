-- The purse after an amount moves.
use Rattle.std.specs.Prelude.{ℕ, ◌+◌, ◌-◌, pos, ◌+ℤ◌, ◌-ℤ◌, Bool, if◌then◌else◌}
use Rattle.money_core.specs.Account.{Account}

-- an amount more is held from the peer
abbrev pub holding_in : ℕ → Account → Account
holding_in amount a = record a { held_in = a.held_in + amount }

-- an amount more is held for it
abbrev pub holding_out : ℕ → Account → Account
holding_out amount a = record a { held_out = a.held_out + amount }

-- an amount is held from it no more
abbrev pub releasing_in : ℕ → Account → Account
releasing_in amount a = record a { held_in = a.held_in - amount }

-- an amount is held for it no more
abbrev pub releasing_out : ℕ → Account → Account
releasing_out amount a = record a { held_out = a.held_out - amount }

-- an amount that was held from it is owed by it
abbrev pub taking_in : ℕ → Account → Account
taking_in amount a = record a { held_in = a.held_in - amount; balance = a.balance +ℤ pos amount }

-- an amount that was held for it is owed to it
abbrev pub taking_out : ℕ → Account → Account
taking_out amount a = record a { held_out = a.held_out - amount; balance = a.balance -ℤ pos amount }

-- what was held from it is taken or released
abbrev pub moving_in : Bool → ℕ → Account → Account
moving_in taken amount a = if taken then taking_in amount a else releasing_in amount a

-- what was held for it is taken or released
abbrev pub moving_out : Bool → ℕ → Account → Account
moving_out taken amount a = if taken then taking_out amount a else releasing_out amount a
