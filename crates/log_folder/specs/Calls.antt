-- The calls on a file of the operating system, and what they say of it.
use Rattle.std.specs.Prelude.{◌≡◌, ◌⊎◌, ℕ, zero, suc, ◌<◌, Bool, true, false, not, ◌||◌, ◌==◌, List, [], ◌∷◌, length, replicate, slice_index}
use Rattle.std.specs.Cmp.{below_irrefl}
use mathlib.Core.Logic.{inl, inr}
use Rattle.line_log.specs.File.{overwritten, Mixes}

-- a call with its answer: which one, a place or a count, whether it succeeded, and bytes
abbrev pub Call : Type 0
Call = ℕ × ℕ × Bool × List ℕ

-- the call that these numbers and bytes stand for
abbrev pub call_of : List ℕ → List ℕ → Call
call_of numbers bytes = (slice_index numbers 0, slice_index numbers 1, slice_index numbers 2 == 1, bytes)

-- a new file got so many zeros, and was synced
abbrev pub made : ℕ → Call
made size = (0, size, true, [])

-- the file was synced and then read: it had these bytes
abbrev pub found : List ℕ → Call
found bytes = (1, 0, true, bytes)

-- these bytes were written over those at that offset
abbrev pub written : ℕ → Bool → List ℕ → Call
written at ok bytes = (2, at, ok, bytes)

-- the file was synced
abbrev pub synced : Bool → Call
synced ok = (3, 0, ok, [])

-- what a read returns after a call, of what it returned before
abbrev pub seen_next : ℕ → ℕ → List ℕ → List ℕ → List ℕ
seen_next zero size bytes before = replicate size 0
seen_next (suc zero) at bytes before = bytes
seen_next (suc (suc zero)) at bytes before = overwritten before at bytes
seen_next (suc (suc (suc _))) at bytes before = before

-- what a read returns after these calls, the newest first
unfoldable pub seen_after : List Call → List ℕ
seen_after [] = []
seen_after ((which, at, ok, bytes) ∷ past) = seen_next which at bytes (seen_after past)

-- what a crash may leave after a sync, which succeeded or not: what a read returns, or what it might have left before
abbrev pub left_by_sync : Bool → List ℕ → (List ℕ → Type 0) → List ℕ → Type 0
left_by_sync true seen before c = before c × (c ≡ seen)
left_by_sync false seen before c = before c

-- What a crash may leave after a call, of what a read returned and a crash might have left before. A write that fails
-- may have written some of its bytes.
abbrev pub left_next : ℕ → ℕ → Bool → List ℕ → List ℕ → (List ℕ → Type 0) → List ℕ → Type 0
left_next zero size ok bytes seen before c = c ≡ replicate size 0
left_next (suc zero) at ok bytes seen before c = c ≡ bytes
left_next (suc (suc zero)) at ok bytes seen before c = (d : List ℕ) × before d × Mixes at bytes d c
left_next (suc (suc (suc _))) at ok bytes seen before c = left_by_sync ok seen before c

-- what a crash may leave after these calls
unfoldable pub may_leave_after : List Call → List ℕ → Type 0
may_leave_after [] c = c ≡ []
may_leave_after ((which, at, ok, bytes) ∷ past) c = left_next which at ok bytes (seen_after past) (may_leave_after past) c

-- what a crash might have left after the first of these calls, so many, or after one since then
unfoldable pub left_since_after : List Call → ℕ → List ℕ → Type 0
left_since_after [] t c = may_leave_after [] c
left_since_after (call ∷ past) t c =
    may_leave_after (call ∷ past) c ⊎ ((t < length (call ∷ past)) × left_since_after past t c)

-- whether one of these calls has failed
unfoldable pub has_failed_after : List Call → Bool
has_failed_after [] = false
has_failed_after ((which, at, ok, bytes) ∷ past) = not ok || has_failed_after past

-- the moment after these calls is one of those since an earlier one
pub counts_now : (calls : List Call) (t : ℕ) (c : List ℕ) → may_leave_after calls c → left_since_after calls t c
unfolding left_since_after
counts_now [] t c now = now
counts_now (call ∷ past) t c now = inl now

-- since that moment there is no other
pub only_now : (calls : List Call) (c : List ℕ) → left_since_after calls (length calls) c → may_leave_after calls c
unfolding left_since_after
only_now [] c left = left
only_now (call ∷ past) c (inl now) = now
only_now (call ∷ past) c (inr earlier) = absurd (below_irrefl (length (call ∷ past)) earlier.0)
