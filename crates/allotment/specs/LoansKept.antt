-- What contracts see of an allotment, and what it keeps.
use Rattle.std.specs.Prelude.{◌≡◌, ◌+◌, ◌≤◌, sum, sum_by, ◌-◌}
use Rattle.allotment.specs.Loans.{Loans, max_places}
use Rattle.allotment.specs.declared.allotted.Allotment.TheInside.{Inside}

-- the loans
abbrev pub loans_of : Inside → Loans
loans_of a = record { places = a.places; share = a.share; used = a.used.items }

-- both running numbers are right, what is free covers what is owed, and there are no more places than may be
pub record AllotmentInvariant (a : Inside) : Type 0 where
  pub whole : a.free + sum a.used.items ≡ a.places
  pub owed : a.owed ≡ sum_by (λ used. a.share - used) a.used.items
  pub covered : a.owed ≤ a.free
  pub few : a.places ≤ max_places
