-- What contracts see of a journal.
use Rattle.std.specs.Prelude.{ℕ, List, [], ◌∷◌, ◌++◌, fold, Option, Some, None}
use Rattle.tenant_core.specs.declared.journal.Record.{Record}

-- the records in order, and how many there is room for
pub record Recorded : Type 0 where
  pub records : List Record
  pub places : ℕ

-- the last of records, if there is one
abbrev pub last_of : List Record → Option Record
last_of records = fold (λ o r. Some r) None records

-- no record yet
abbrev pub no_records : ℕ → Recorded
no_records places = record { records = []; places = places }

-- a record more
abbrev pub with_record : Record → Recorded → Recorded
with_record r j = record j { records = j.records ++ r ∷ [] }
