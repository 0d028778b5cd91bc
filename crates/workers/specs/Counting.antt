-- When a worker can count no more, and what a seat of the meters counts of a packet or a command.
use Rattle.std.specs.Prelude.{ℕ, ◌≡◌, ◌≤◌, ◌⊎◌, ◌^◌, nat_lt, true, false, Option, Some, Result, Ok, Err, if◌then◌else◌}
use Rattle.meters.specs.Seats.{SeatState, count_of, counted}
use Rattle.meters.specs.declared.kind.Kind.{Kind}
use Rattle.meters.specs.declared.kind.Kind.TheVariants as kind
use Rattle.tenant_core.specs.declared.command.Answered.{Answered}
use Rattle.tenant_core.specs.declared.faults.CommandFault.TheVariants.{Memory}
use Rattle.floor_core.specs.declared.parts.Got.{Got}
use Rattle.floor_core.specs.declared.parts.Got.TheVariants as got
use Rattle.books_shared.specs.Shares.{ShareView, is_spent}
use Rattle.workers.specs.Replies.{got_of, kind_of, status_of}
use Rattle.workers.specs.declared.governing.GovernFault.{GovernFault}
use Rattle.workers.specs.declared.governing.GovernFault.TheVariants as govern
use Rattle.workers.specs.declared.reply.Reply.{Reply}

-- ---- a worker's share

-- no more may be counted or sent: one of the share's counts is full, or so many packets were sent
abbrev pub IsSpent : ShareView → (sent : ℕ) → Type 0
IsSpent share sent = (is_spent share ≡ true) ⊎ (2 ^ 62 ≤ sent)

-- room is made in a share for a command, unless one of its counts is full, or it is out of memory for a receipt
abbrev pub IsRoomMade : Result (Unit {0}) GovernFault → (before after : ShareView) → Type 0
IsRoomMade (Ok made) before after = (is_spent before ≡ false) × (after ≡ record before { room = 2 })
IsRoomMade (Err govern.Spent) before after = (is_spent before ≡ true) × (after ≡ before)
IsRoomMade (Err govern.Memory) before after = (is_spent before ≡ false) × (before.audited ≡ true) × (after ≡ before)
IsRoomMade (Err govern.NoRoom) before after = ⊥
IsRoomMade (Err govern.Stray) before after = ⊥
IsRoomMade (Err govern.Unkept) before after = ⊥
IsRoomMade (Err (govern.Refused fault)) before after = ⊥

-- ---- a seat of the meters

-- the seat with one more of a kind for the tenant, unless that count is full
abbrev pub tallied : ℕ → Kind → SeatState → SeatState
tallied tenant kind seat = if nat_lt (count_of tenant kind seat) (2 ^ 40) then counted tenant kind seat else seat

-- the seat with one more fault of the link, if nothing came back for a packet that was sent
abbrev pub fault_tallied : ℕ → Option Got → SeatState → SeatState
fault_tallied tenant (Some got.Fault) seat = tallied tenant kind.LinkFault seat
fault_tallied tenant _ seat = seat

-- the seat after a packet: one more answer of its status, and a fault of the link if there was one
abbrev pub reply_tallied : ℕ → Reply → SeatState → SeatState
reply_tallied tenant reply seat =
    fault_tallied tenant (got_of reply) (tallied tenant (kind_of (status_of reply)) seat)

-- what a command is counted as: a refused one is answered too
abbrev pub command_kind : Result Answered GovernFault → Kind
command_kind (Ok answered) = kind.Answered
command_kind (Err govern.Spent) = kind.Unavailable
command_kind (Err govern.Memory) = kind.Unavailable
command_kind (Err govern.NoRoom) = kind.Unavailable
command_kind (Err govern.Stray) = kind.Unavailable
command_kind (Err govern.Unkept) = kind.Unavailable
command_kind (Err (govern.Refused Memory)) = kind.Unavailable
command_kind (Err (govern.Refused fault)) = kind.Answered
