-- What is counted of packets that got no answer from a peer.
use Rattle.std.specs.Prelude.{ℕ, ◌+◌, ◌-◌, ◌^◌, Bool, true, false, List, Option, Some, min, slice_index, slice_set}
use Rattle.allotment.specs.declared.lending.Admission.{Admission}
use Rattle.allotment.specs.declared.lending.Admission.TheVariants.{Full}

-- one more of a tenant: a count ends at 2^64 - 1
abbrev pub raised_at : ℕ → List ℕ → List ℕ
raised_at tenant counts = slice_set counts tenant (min (2 ^ 64 - 1) (slice_index counts tenant + 1))

-- those that got no place, after one asked and got that answer: it got none if it may not even wait
abbrev pub missed_by : Option Admission → ℕ → List ℕ → List ℕ
missed_by (Some Full) tenant missed = raised_at tenant missed
missed_by _ tenant missed = missed

-- those that got no answer, after one came back from the peer
abbrev pub unless_answered : (is_answered : Bool) → ℕ → List ℕ → List ℕ
unless_answered true tenant unanswered = unanswered
unless_answered false tenant unanswered = raised_at tenant unanswered
