-- How a purse is kept.
use Rattle.std.specs.Prelude.{pos, ◌-ℤ◌, ◌+◌, ◌≤◌, ◌^◌}
use Rattle.money_core.specs.Account.{Account, max_money}
use Rattle.money_core.specs.declared.purse.Purse.TheInside.{Inside}

-- what contracts see of it
abbrev pub account_of : Inside → Account
account_of p =
    record {
      balance = pos p.level -ℤ pos max_money;
      held_in = p.held_in;
      held_out = p.held_out;
      ceiling = p.ceiling;
      credit = p.credit;
    }

-- what holds of the fields of every purse
pub record PurseInvariant (p : Inside) : Type 0 where
  pub most : p.level + p.held_in ≤ 2 ^ 63
  pub least : p.held_out ≤ p.level
  pub ceiling : p.ceiling ≤ max_money
  pub credit : p.credit ≤ max_money
