-- What a seat keeps, whatever is counted at it.
use Rattle.std.proofs.Common.{ℕ, ◌≡◌, Bool, true, false, nat_lt, Option, Some, None, ◌^◌, refl, ◌∙◌}
use Rattle.std.specs.Prelude.{if◌then◌else◌}
use Rattle.meters.specs.Seats.{SeatState, count_of, counted}
use Rattle.meters.specs.declared.kind.Kind.{Kind}
use Rattle.meters.specs.declared.kind.Kind.TheVariants as kind
use Rattle.floor_core.specs.declared.parts.Got.{Got}
use Rattle.floor_core.specs.declared.parts.Got.TheVariants as got
use Rattle.workers.specs.Counting.{fault_tallied, reply_tallied, tallied}
use Rattle.workers.specs.Replies.{got_of, kind_of, status_of}
use Rattle.workers.specs.declared.reply.Reply.{Reply}

tallied_first : (tenant : ℕ) (k : Kind) (seat : SeatState) → (tallied tenant k seat).first ≡ seat.first
tallied_first tenant k seat = by_test (nat_lt (count_of tenant k seat) (2 ^ 40))
  where
    by_test : (t : Bool) → (if t then counted tenant k seat else seat).first ≡ seat.first
    by_test true = refl
    by_test false = refl

fault_first : (tenant : ℕ) (came : Option Got) (seat : SeatState) → (fault_tallied tenant came seat).first ≡ seat.first
fault_first tenant None seat = refl
fault_first tenant (Some (got.Filled n)) seat = refl
fault_first tenant (Some got.Fault) seat = tallied_first tenant kind.LinkFault seat

pub reply_first : (tenant : ℕ) (reply : Reply) (seat : SeatState) → (reply_tallied tenant reply seat).first ≡ seat.first
reply_first tenant reply seat =
    fault_first tenant (got_of reply) (tallied tenant (kind_of (status_of reply)) seat) ∙ tallied_first tenant (kind_of (status_of reply)) seat
