-- Holds in plain words: each packet that went on, and its fate by the records after its own.
use Rattle.std.specs.Prelude.{ℕ, ◌≡◌, Bool, true, false, ◌&&◌, ◌||◌, ◌==◌, List, [], ◌∷◌, ◌++◌, find, Option, Some, None, nat_le}
use Rattle.tenant_core.specs.Holds.{holds_of, hold_begun, is_fulfill, is_relayed, with_fate}
use Rattle.tenant_core.specs.State.{State, later}
use Rattle.tenant_core.specs.declared.hold.Fate.{Fate}
use Rattle.tenant_core.specs.declared.hold.Fate.TheVariants.{Held, Marked, Ended}
use Rattle.tenant_core.specs.declared.hold.Hold.{Hold}
use Rattle.tenant_core.specs.declared.journal.Entry.{Entry}
use Rattle.tenant_core.specs.declared.journal.Entry.TheVariants.{Answer, Tick}
use Rattle.tenant_core.specs.declared.journal.Outcome.{Outcome}
use Rattle.tenant_core.specs.declared.journal.Record.{Record}

-- the entry is the answer to the hold of that number
abbrev pub is_answer_to : ℕ → Entry → Bool
is_answer_to n (Answer a) = n == a.hold
is_answer_to n _ = false

-- it is a Fulfill, which goes back as it came
abbrev pub fulfills : Entry → Outcome → Bool
fulfills (Answer a) o = is_fulfill a.key && is_relayed o
fulfills _ o = false

-- the entry is a tick, after which the clock is not before the expiry
abbrev pub is_tick_past : (expiry clock : ℕ) → Entry → Bool
is_tick_past expiry clock (Tick t) = nat_le expiry clock
is_tick_past expiry clock _ = false

-- one of the records, which follow that clock, is such a tick
abbrev pub is_ticked_past : (expiry clock : ℕ) → List Record → Bool
is_ticked_past expiry clock [] = false
is_ticked_past expiry clock (r ∷ rs) =
    is_tick_past expiry (later clock r) r.entry || is_ticked_past expiry (later clock r) rs

-- the fate of a hold, by the first answer to it, if there is one, and by whether a tick comes after it has expired
abbrev pub fate_by : Option Record → Bool → Fate
fate_by (Some r) ticked = Ended (fulfills r.entry r.outcome)
fate_by None true = Marked
fate_by None false = Held

-- the fate of a hold by the records after the one that began it, which follow that clock
abbrev pub fate_of : Hold → (clock : ℕ) → List Record → Fate
fate_of h clock rs = fate_by (find (λ r. is_answer_to h.number r.entry) rs) (is_ticked_past h.expiry clock rs)

-- the hold that began, if one did, with its fate
abbrev pub with_what_became : Option Hold → (clock : ℕ) → List Record → List Hold
with_what_became None clock rs = []
with_what_became (Some h) clock rs = with_fate h (fate_of h clock rs) ∷ []

-- the holds that records begin, which follow that clock, each with its fate
abbrev pub holds_told : (clock : ℕ) → List Record → List Hold
holds_told clock [] = []
holds_told clock (r ∷ rs) =
    with_what_became (hold_begun r.entry r.outcome) (later clock r) rs ++ holds_told (later clock r) rs

-- the holds of a state are those that its records begin; each is open until an answer names it, and marked by the first tick
-- that finds it open and expired
abbrev pub FateLaw : Type 0
FateLaw = (s : State) → holds_of s ≡ holds_told s.opening.clock s.records
