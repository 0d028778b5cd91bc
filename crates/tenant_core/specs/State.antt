-- A tenant's state: an opening and the records since. Every question about it is one about that list.
use Rattle.std.specs.Prelude.{ℕ, Bool, false, List, [], ◌∷◌, ◌++◌, fold, max, Option, Some, None}
use Rattle.std.specs.Prelude.{◌==◌}
use Rattle.tenant_core.specs.Network.{begun}
use Rattle.tenant_core.specs.declared.opening.Opening.{Opening}
use Rattle.tenant_core.specs.declared.terms.TenantTerms.{TenantTerms}
use Rattle.tenant_core.specs.declared.journal.Entry.{Entry}
use Rattle.tenant_core.specs.declared.journal.Entry.TheVariants.{Decide, Answer, Tick, Change, Roll}
use Rattle.tenant_core.specs.declared.journal.Record.{Record}

-- what a period began with, and what happened since
pub record State : Type 0 where
  pub opening : Opening
  pub records : List Record

-- what the first period of a tenant begins with
abbrev pub opening_of : ℕ → TenantTerms → ℕ → Opening
opening_of tenant t start =
    record {
      tenant = tenant;
      name = t.name;
      address = t.address;
      journal = t.journal;
      margin = t.margin;
      hold = t.hold;
      period = 0;
      clock = start;
      next_hold = 0;
      network = begun start t.network;
    }

-- the state in which nothing has happened since
abbrev pub opened : Opening → State
opened o = record { opening = o; records = [] }

-- the moment at which an entry came
abbrev pub entered_at : Entry → ℕ
entered_at (Decide d) = d.now
entered_at (Answer a) = a.now
entered_at (Tick t) = t.now
entered_at (Change c) = c.now
entered_at (Roll r) = r.now

-- the later of the clock so far and the record's moment
abbrev pub later : ℕ → Record → ℕ
later clock r = max clock (entered_at r.entry)

-- a tenant's clock: the greatest moment of its opening and its entries
abbrev pub clock_of : State → ℕ
clock_of s = fold later s.opening.clock s.records

-- the entry is a packet of the peer of that number
abbrev pub is_of : ℕ → Entry → Bool
is_of n (Decide d) = d.peer == n
is_of n _ = false

-- a list and the one after it, if there is one
abbrev pub extended : {A : Type 0} → List A → Option A → List A
extended xs None = xs
extended xs (Some x) = xs ++ x ∷ []

-- the state with a record more, if there is one
abbrev pub recorded : State → Option Record → State
recorded s r = record s { records = extended s.records r }
