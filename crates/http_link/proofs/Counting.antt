-- Reads and writes that are counted.
use Rattle.std.proofs.Common.{ℕ, ◌≡◌, ◌≤◌, ◌+◌, ◌-◌, ◌⊎◌, inl, inr, arith}
use Rattle.http_link.specs.Counts.{AtLeast, MadeMore, Spends}

-- a number no greater
pub fewer : {D : Type 0} (Made : D → ℕ → Type 0) (device : D) (n m : ℕ) → n ≤ m → AtLeast Made m device → AtLeast Made n device
fewer Made device n m le least = record { count = least.count; enough = omega arith; made = least.made }

-- a turn more was spent on one
pub spends_one : {D : Type 0} (Made : D → ℕ → Type 0) (old mid new : D) (before turns : ℕ)
    → Spends Made old mid before turns → MadeMore Made mid new 1 → Spends Made old new before (turns - 1)
spends_one Made old mid new before turns spends one all least =
    fewer Made new (all - (turns - 1)) ((all - turns) + 1) (omega arith) (one (all - turns) (spends all least))

-- all turns were spent
pub spent_all : {D : Type 0} (Made : D → ℕ → Type 0) (old new : D) (turns left : ℕ)
    → Spends Made old new turns left → left ≡ 0 → MadeMore Made old new turns
spent_all Made old new turns left spends none n least =
    fewer Made new (n + turns) ((n + turns) - left) (omega arith) (spends (n + turns) (fewer Made old ((n + turns) - turns) n (omega arith) least))

-- all turns were spent, unless something else is so
pub spent_whole : {D : Type 0} {Other : Type 0} (Made : D → ℕ → Type 0) (old new : D) (turns left : ℕ)
    → Spends Made old new turns left → (left ≡ 0) ⊎ Other → MadeMore Made old new turns ⊎ Other
spent_whole Made old new turns left spends (inl none) = inl (spent_all Made old new turns left spends none)
spent_whole Made old new turns left spends (inr other) = inr other

-- the same, of turns that were spent on two parts
pub spent_in_two : {D : Type 0} {Other : Type 0} (Made : D → ℕ → Type 0) (old mid new : D) (turns between left : ℕ)
    → Spends Made old mid turns between → Spends Made mid new between left → (left ≡ 0) ⊎ Other → MadeMore Made old new turns ⊎ Other
spent_in_two Made old mid new turns between left first second over =
    spent_whole Made old new turns left (λ all least. second all (first all least)) over
