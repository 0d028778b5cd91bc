-- How many reads or writes were made of a device, of which it is known that each makes one more.
use Rattle.std.specs.Prelude.{ℕ, ◌≤◌, ◌+◌, ◌-◌}
use Rattle.http_link.specs.Limits.{max_turns}

-- so many were made, or more
pub record AtLeast {D : Type 0} (Made : D → ℕ → Type 0) (least : ℕ) (device : D) : Type 0 where
  pub count : ℕ
  pub enough : least ≤ count
  pub made : Made device count

-- so many more were made
abbrev pub MadeMore : {D : Type 0} → (Made : D → ℕ → Type 0) → (old new : D) → (more : ℕ) → Type 0
MadeMore Made old new more = (n : ℕ) → AtLeast Made n old → AtLeast Made (n + more) new

-- none of those that were made is gone
abbrev pub NoFewer : {D : Type 0} → (Made : D → ℕ → Type 0) → (old new : D) → Type 0
NoFewer Made old new = (n : ℕ) → AtLeast Made n old → AtLeast Made n new

-- one was made for each turn that was spent, of those that there were
abbrev pub Spends : {D : Type 0} → (Made : D → ℕ → Type 0) → (old new : D) → (before after : ℕ) → Type 0
Spends Made old new before after = (all : ℕ) → AtLeast Made (all - before) old → AtLeast Made (all - after) new

-- as many more were made as a call may make of a reader, or for a text of a writer
abbrev pub MadeAll : {D : Type 0} → (Made : D → ℕ → Type 0) → (old new : D) → Type 0
MadeAll Made old new = MadeMore Made old new max_turns
