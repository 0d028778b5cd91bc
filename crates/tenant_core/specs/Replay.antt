-- Replays: the outcomes that a journal's entries lead to, from its opening on.
use Rattle.std.specs.Prelude.{◌≡◌, ◌||◌, ◌&&◌, ◌==◌, ◌^◌, Bool, not, is_ok, is_some, nat_le, nat_lt, length, List, fold, map, max, Option, Some, None, option_map, option_and_then, if◌then◌else◌}
use Rattle.ilp_addr.specs.Address.{address_at}
use Rattle.ilp_addr.specs.Timestamp.{latest_expiry, last_moment}
use Rattle.tenant_core.specs.Answer.{settle_answer, has_no_place, tick_count}
use Rattle.tenant_core.specs.Holds.{open_hold}
use Rattle.tenant_core.specs.Judge.{is_full, verdict_for_sender}
use Rattle.tenant_core.specs.Key.{Key}
use Rattle.tenant_core.specs.Network.{peer_numbered}
use Rattle.tenant_core.specs.Present.{network_of}
use Rattle.tenant_core.specs.Orders.{names_present, change_refusal}
use Rattle.tenant_core.specs.Periods.{roll_refusal}
use Rattle.tenant_core.specs.State.{State, opened, clock_of, entered_at, recorded}
use Rattle.tenant_core.specs.declared.journal.AnswerEntry.{AnswerEntry}
use Rattle.tenant_core.specs.declared.journal.ChangeEntry.{ChangeEntry}
use Rattle.tenant_core.specs.declared.journal.DecideEntry.{DecideEntry}
use Rattle.tenant_core.specs.declared.journal.Entry.{Entry}
use Rattle.tenant_core.specs.declared.journal.Entry.TheVariants.{Decide, Answer, Tick, Change, Roll}
use Rattle.tenant_core.specs.declared.journal.Outcome.{Outcome}
use Rattle.tenant_core.specs.declared.journal.Outcome.TheVariants.{Packet, Ticked, Done, Rolled}
use Rattle.tenant_core.specs.declared.journal.TickEntry.{TickEntry}
use Rattle.tenant_core.specs.declared.opening.Opening.{Opening}

-- what an entry says of the Prepare that it records
abbrev pub key_entered : DecideEntry → Key
key_entered d = record { amount = d.amount; expiry = d.expiry; condition = d.condition; destination = d.destination }

-- a Prepare can say that: its amount has 64 bits, its expiry is the moment of a timestamp, its condition has 32 bytes, and its
-- destination is an address (RFC 0027, "ILP Prepare")
abbrev pub is_sayable : Key → Bool
is_sayable key =
    nat_lt key.amount (2 ^ 64) && nat_le key.expiry latest_expiry && length key.condition == 32
    && is_ok (address_at key.destination)

-- what the Prepare of the entry's peer leads to, if the journal has room for it
abbrev pub decide_outcome : State → DecideEntry → Option Outcome
decide_outcome s d =
    if is_full s || not (is_sayable (key_entered d)) then None
    else option_map
    (λ from. Packet (verdict_for_sender s from (key_entered d) (max (clock_of s) d.now)))
    (peer_numbered d.peer (network_of s).peers)

-- what the answer to an open hold leads to
abbrev pub answer_outcome : State → AnswerEntry → Option Outcome
answer_outcome s a =
    option_map (λ h. Packet (settle_answer h (max (clock_of s) a.now) a.key)) (open_hold s a.hold)

-- what a tick leads to, if the journal has room for it
abbrev pub tick_outcome : State → TickEntry → Option Outcome
tick_outcome s t = if has_no_place s then None else Some (Ticked (tick_count s (max (clock_of s) t.now)))

-- what the change of the entry leads to, if the journal has room for it, its peers are there and nothing refuses it
abbrev pub change_outcome : State → ChangeEntry → Option Outcome
change_outcome s c =
    if has_no_place s || not (names_present (network_of s) c.change)
    || is_some (change_refusal s (network_of s) c.change)
    then None else Some Done

-- what a roll leads to, if nothing refuses it
abbrev pub roll_outcome : State → Option Outcome
roll_outcome s = if is_some (roll_refusal s) then None else Some Rolled

-- what an entry leads to in a state, whenever it came
abbrev pub entry_outcome : State → Entry → Option Outcome
entry_outcome s (Decide d) = decide_outcome s d
entry_outcome s (Answer a) = answer_outcome s a
entry_outcome s (Tick t) = tick_outcome s t
entry_outcome s (Change c) = change_outcome s c
entry_outcome s (Roll r) = roll_outcome s

-- what an entry leads to in a state; nothing if it would not be appended, or is of no moment that is handed in
abbrev pub outcome_of : State → Entry → Option Outcome
outcome_of s e = if nat_le (entered_at e) last_moment then entry_outcome s e else None

-- the state with that entry and what it leads to
abbrev pub appended : State → Entry → Option State
appended s e = option_map (λ o. recorded s (Some (record { entry = e; outcome = o }))) (outcome_of s e)

-- what an opening and entries lead to: the state in which each entry has its outcome, if each would be appended
unfoldable pub replay : Opening → List Entry → Option State
replay o entries = fold (λ s e. option_and_then (λ t. appended t e) s) (Some (opened o)) entries

-- the records of a state are the replay of their entries
abbrev pub IsReplay : State → Type 0
IsReplay s = replay s.opening (map (λ r. r.entry) s.records) ≡ Some s
