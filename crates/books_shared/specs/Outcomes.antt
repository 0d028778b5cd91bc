-- What became of a tenant's packets, by the records of its steps.
use Rattle.std.specs.Prelude.{ℕ, ◌≡◌, ◌+◌, ◌-◌, ◌^◌, ◌==◌, Bool, false, List, Option, Some, None, count_by, min, slice_index, slice_set, if◌then◌else◌}
use Rattle.tenant_core.specs.Holds.{is_fulfill}
use Rattle.tenant_core.specs.declared.journal.Entry.{Entry}
use Rattle.tenant_core.specs.declared.journal.Entry.TheVariants.{Answer}
use Rattle.tenant_core.specs.declared.journal.Outcome.{Outcome}
use Rattle.tenant_core.specs.declared.journal.Outcome.TheVariants.{Packet}
use Rattle.tenant_core.specs.declared.journal.Record.{Record}
use Rattle.tenant_core.specs.declared.verdict.RejectCode.{RejectCode}
use Rattle.tenant_core.specs.declared.verdict.RejectCode.TheVariants.{BadRequest, Unreachable, InvalidAmount, WrongCondition, AmountTooLarge}
use Rattle.tenant_core.specs.declared.verdict.RejectCode.TheVariants.{PeerUnreachable, Busy, InsufficientLiquidity, RateLimited}
use Rattle.tenant_core.specs.declared.verdict.RejectCode.TheVariants.{TimedOut, InsufficientSource, InsufficientTimeout}
use Rattle.tenant_core.specs.declared.verdict.Verdict.{Verdict}
use Rattle.tenant_core.specs.declared.verdict.Verdict.TheVariants.{Refuse, Fulfil, Relay}
use Rattle.one_list.specs.declared.step.Done.{Done}
use Rattle.books_shared.specs.declared.outcomes.PacketCounts.{PacketCounts}
use Rattle.books_shared.specs.declared.outcomes.PacketOutcome.{PacketOutcome}
use Rattle.books_shared.specs.declared.outcomes.PacketOutcome.TheVariants.{Fulfilled, Rejected, Configured, Refused}

-- ---- a packet

-- an answer that goes back as it came
abbrev pub relayed_outcome : Entry → Option PacketOutcome
relayed_outcome (Answer a) = Some (if is_fulfill a.key then Fulfilled else Rejected)
relayed_outcome _ = None

-- what a verdict makes of a packet: nothing yet where the packet goes on
abbrev pub verdict_outcome : Entry → Verdict → Option PacketOutcome
verdict_outcome e (Refuse code amounts) = Some (Refused code)
verdict_outcome e Fulfil = Some Configured
verdict_outcome e Relay = relayed_outcome e
verdict_outcome e _ = None

-- what became of a packet by that record, if it says so
abbrev pub outcome_by : Entry → Outcome → Option PacketOutcome
outcome_by e (Packet v) = verdict_outcome e v
outcome_by e _ = None

abbrev pub outcome_in : Record → Option PacketOutcome
outcome_in r = outcome_by r.entry r.outcome

-- ---- counts

-- the place of a code among the twelve
abbrev pub code_place : RejectCode → ℕ
code_place BadRequest = 0
code_place Unreachable = 1
code_place InvalidAmount = 2
code_place WrongCondition = 3
code_place AmountTooLarge = 4
code_place PeerUnreachable = 5
code_place Busy = 6
code_place InsufficientLiquidity = 7
code_place RateLimited = 8
code_place TimedOut = 9
code_place InsufficientSource = 10
code_place InsufficientTimeout = 11

-- the place of an outcome among the fifteen counts
abbrev pub place_of : PacketOutcome → ℕ
place_of Fulfilled = 0
place_of Rejected = 1
place_of Configured = 2
place_of (Refused code) = 3 + code_place code

-- the count of an outcome
abbrev pub count_at : PacketOutcome → PacketCounts → ℕ
count_at outcome packets = slice_index packets.counts (place_of outcome)

-- it is that outcome
abbrev pub is_of : PacketOutcome → Option PacketOutcome → Bool
is_of outcome None = false
is_of outcome (Some other) = place_of other == place_of outcome

-- a count ends at 2^64 - 1
abbrev pub most_counted : ℕ
most_counted = 2 ^ 64 - 1

-- how many of the steps had that outcome
abbrev pub outcome_count : PacketOutcome → List Done → ℕ
outcome_count outcome steps = min most_counted (count_by (λ e. is_of outcome (outcome_in e.made)) steps)

-- they are the counts of these steps
abbrev pub AreCounted : PacketCounts → List Done → Type 0
AreCounted packets steps = (outcome : PacketOutcome) → count_at outcome packets ≡ outcome_count outcome steps

-- the counts with one more of that outcome, if there is one
abbrev pub counted : Option PacketOutcome → PacketCounts → PacketCounts
counted None packets = packets
counted (Some outcome) packets =
    record packets { counts = slice_set packets.counts (place_of outcome) (min most_counted (count_at outcome packets + 1)) }

-- the counts with one more of what became of a packet by that record, if there is one
abbrev pub record_counted : Option Record → PacketCounts → PacketCounts
record_counted None packets = packets
record_counted (Some r) packets = counted (outcome_in r) packets
