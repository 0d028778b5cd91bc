-- What lies under a tenant's lock, as contracts see it.
use Rattle.std.specs.Prelude.{ℕ, ◌+◌, ◌*◌, ◌≤◌, List, length, min, Option, Some, None}
use Rattle.tenant_core.specs.Limits.{max_journal}
use Rattle.tenant_core.specs.Sound.{IsSound}
use Rattle.tenant_core.specs.State.{State}
use Rattle.tenant_core.specs.declared.journal.AnswerKey.{AnswerKey}
use Rattle.tenant_core.specs.declared.journal.AnswerKey.TheVariants as key
use Rattle.tenant_core.specs.declared.journal.Entry.{Entry}
use Rattle.tenant_core.specs.declared.journal.Entry.TheVariants.{Answer}
use Rattle.tenant_core.specs.declared.journal.Record.{Record}
use Rattle.floor_core.specs.declared.parts.Got.{Got}
use Rattle.floor_core.specs.declared.parts.Got.TheVariants as got
use Rattle.one_list.specs.declared.step.Beginning.{Beginning}
use Rattle.one_list.specs.declared.step.Done.{Done}
use Rattle.books_shared.specs.Outcomes.{most_counted}
use Rattle.books_shared.specs.declared.rise.CallCounts.{CallCounts}

-- a tenant's book, how many entries its closed periods had, how many packets found its journal full, how many answers of peers
-- were bad, and the tenant's steps in the one list
pub record LockedBook : Type 0 where
  pub state : State
  pub closed : ℕ
  pub full : ℕ
  pub bad : ℕ
  pub steps : List Done

-- the tenant's steps until now, as one who meets the book keeps them
abbrev pub beginning_of : LockedBook → Beginning
beginning_of k = record { tenant = k.state.opening.tenant; steps = k.steps }

-- how many entries were appended since the books were made
abbrev pub entries_appended : LockedBook → ℕ
entries_appended k = k.closed + length k.state.records

-- so many packets found the journal full after a call that counts so much: the count ends at 2^64 - 1
abbrev pub full_risen : CallCounts → ℕ → ℕ
full_risen rise full = min most_counted (full + rise.full)

-- ---- bad answers

-- no usable answer came
abbrev pub bad_key : AnswerKey → ℕ
bad_key key.Fault = 1
bad_key _ = 0

abbrev pub bad_entry : Entry → ℕ
bad_entry (Answer a) = bad_key a.key
bad_entry _ = 0

-- 1 if bytes came that are neither a Fulfill nor a Reject (RFC 0027), and 0 otherwise
abbrev pub bad_bytes : Got → Entry → ℕ
bad_bytes (got.Filled n) e = bad_entry e
bad_bytes got.Fault e = 0

-- how many bad answers a call adds with what came and the record that it makes, if any
abbrev pub bad_answers_in : Got → Option Record → ℕ
bad_answers_in came None = 0
bad_answers_in came (Some r) = bad_bytes came r.entry

-- so many bad answers after such a call: the count ends at 2^64 - 1
abbrev pub bad_risen : Got → Option Record → ℕ → ℕ
bad_risen came made bad = min most_counted (bad + bad_answers_in came made)

-- ---- entries

-- the most entries of so many closed periods: each has no more than a journal has places, and that of its roll
abbrev pub most_entries : ℕ → ℕ
most_entries periods = (max_journal + 1) * periods

-- what holds of a book whenever its lock is free
pub record LockInvariant (k : LockedBook) : Type 0 where
  -- it is the replay of its journal, and within its limits
  pub sound : IsSound k.state
  pub closed : k.closed ≤ most_entries k.state.opening.period
