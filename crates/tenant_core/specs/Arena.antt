-- What a journal keeps of its fields.
use Rattle.std.specs.Prelude.{ℕ, ◌+◌, ◌*◌, ◌≤◌, List, length, map, take, drop, All, vec_capacity}
use Rattle.ilp_addr.specs.Address.{max_address}
use Rattle.tenant_core.specs.Journals.{Recorded}
use Rattle.tenant_core.specs.Limits.{max_journal}
use Rattle.tenant_core.specs.declared.arena.Journal.TheInside.{Inside}
use Rattle.tenant_core.specs.declared.arena.Small.{Small}
use Rattle.tenant_core.specs.declared.arena.SmallEntry.{SmallEntry}
use Rattle.tenant_core.specs.declared.arena.SmallEntry.TheVariants.{Decide, Answer, Tick, Change, Roll}
use Rattle.tenant_core.specs.declared.journal.Entry.{Entry}
use Rattle.tenant_core.specs.declared.journal.Entry.TheVariants as entries
use Rattle.tenant_core.specs.declared.journal.Record.{Record}

-- room for each entry that a journal may have, and for a roll's
abbrev pub max_records : ℕ
max_records = max_journal + 1

-- a whole entry, its bytes taken from the text
abbrev pub whole_entry : List ℕ → SmallEntry → Entry
whole_entry text (Decide d) =
    entries.Decide (record {
      peer = d.peer;
      amount = d.amount;
      expiry = d.expiry;
      condition = d.condition;
      destination = take d.length (drop d.from text);
      now = d.now;
    })
whole_entry text (Answer a) = entries.Answer a
whole_entry text (Tick t) = entries.Tick t
whole_entry text (Change c) = entries.Change c
whole_entry text (Roll r) = entries.Roll r

-- a whole record
abbrev pub whole : List ℕ → Small → Record
whole text s = record { entry = whole_entry text s.entry; outcome = s.outcome }

-- the entry's bytes end within a text of that length, and are no more than an address has
abbrev pub IsWithin : ℕ → SmallEntry → Type 0
IsWithin n (Decide d) = (d.from + d.length ≤ n) × (d.length ≤ max_address)
IsWithin n (Answer a) = Unit {0}
IsWithin n (Tick t) = Unit {0}
IsWithin n (Change c) = Unit {0}
IsWithin n (Roll r) = Unit {0}

-- what contracts see of a journal
abbrev pub journal_of : Inside → Recorded
journal_of j = record { records = map (whole j.text.items) j.records.items; places = j.places }

-- there is room for all that may come, and each entry's bytes lie in the text
pub record IsArena (j : Inside) : Type 0 where
  pub places : j.places ≤ max_records
  pub room : j.places ≤ vec_capacity j.records
  pub text_room : j.places * 1024 ≤ vec_capacity j.text
  pub few : length j.records.items ≤ j.places
  pub short : length j.text.items ≤ max_address * length j.records.items
  pub within : All (λ s. IsWithin (length j.text.items) s.entry) j.records.items
