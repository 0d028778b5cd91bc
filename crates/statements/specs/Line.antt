-- The sums of each peer that was there, over all runs of the service.
use Rattle.std.specs.Prelude.{ℕ, ℤ, ◌≡◌, ◌≤◌, ◌^◌, pos, ◌+◌, List, [], ◌∷◌, ◌++◌, map, sum_by, Option, Some, None, option_and_then}
use Rattle.std.specs.List.{flat_map, slice_get}
use Rattle.statements.specs.Due.{due_after, opening_due}
use Rattle.statements.specs.Known.{number_in_next}
use Rattle.statements.specs.Seen.{seen_before, seen_during}
use Rattle.statements.specs.Totals.{came_from, fees_from, fulfilled_from, fulfilled_to, settled_from, settled_to, went_to}
use Rattle.statements.specs.declared.due.Due.{Due}
use Rattle.statements.specs.declared.line.Line.{Line}
use Rattle.statements.specs.declared.line.PeerSums.{PeerSums}
use Rattle.statements.specs.declared.seen.PeerSeen.{PeerSeen}
use Rattle.tenant_core.specs.Network.{peer_numbered}
use Rattle.tenant_core.specs.Purse.{opening_balance}
use Rattle.tenant_core.specs.declared.opening.Opening.{Opening}
use Rattle.tenant_core.specs.declared.peer.Peer.{Peer}
use Rattle.tenant_core.specs.declared.period.PeriodParts.{PeriodParts}

-- what the peer of that number owes at that ending; 0 if it was taken away
abbrev pub balance_in : Option Opening → ℕ → ℤ
balance_in None n = pos 0
balance_in (Some ending) n = opening_balance (peer_numbered n ending.network.peers)

-- the sums of periods for a peer, if that is due after them
abbrev pub told_of : Due → List PeriodParts → ℕ → PeerSums
told_of due ps n =
    record {
      ended = balance_in (opening_due due) n;
      came = sum_by (came_from n) ps;
      fulfilled_in = sum_by (fulfilled_from n) ps;
      settled_in = sum_by (settled_from n) ps;
      went = sum_by (went_to n) ps;
      fulfilled_out = sum_by (fulfilled_to n) ps;
      settled_out = sum_by (settled_to n) ps;
      fees = sum_by (fees_from n) ps;
    }

-- the sums before and after, together: of both, with what is owed after both
abbrev pub told_both : PeerSums → PeerSums → PeerSums
told_both before after =
    record {
      ended = after.ended;
      came = before.came + after.came;
      fulfilled_in = before.fulfilled_in + after.fulfilled_in;
      settled_in = before.settled_in + after.settled_in;
      went = before.went + after.went;
      fulfilled_out = before.fulfilled_out + after.fulfilled_out;
      settled_out = before.settled_out + after.settled_out;
      fees = before.fees + after.fees;
    }

-- one of the sums before and after has no room together
pub data AreOver (before after : PeerSums) : Type 0 where
  Came : 2 ^ 128 ≤ before.came + after.came → AreOver before after
  FulfilledIn : 2 ^ 128 ≤ before.fulfilled_in + after.fulfilled_in → AreOver before after
  SettledIn : 2 ^ 128 ≤ before.settled_in + after.settled_in → AreOver before after
  Went : 2 ^ 128 ≤ before.went + after.went → AreOver before after
  FulfilledOut : 2 ^ 128 ≤ before.fulfilled_out + after.fulfilled_out → AreOver before after
  SettledOut : 2 ^ 128 ≤ before.settled_out + after.settled_out → AreOver before after
  Fees : 2 ^ 128 ≤ before.fees + after.fees → AreOver before after

-- the sums of a line after a run have no room
abbrev pub IsLineOver : (ℕ → PeerSums) → Line → Type 0
IsLineOver told l = (n : ℕ) × (l.here ≡ Some n) × AreOver l.told (told n)

-- those of one of the lines have none
abbrev pub AreLinesOver : (ℕ → PeerSums) → List Line → Type 0
AreLinesOver told ls = (k : ℕ) × (l : Line) × (slice_get ls k ≡ Some l) × IsLineOver told l

-- the line of a peer that a run of the service has for the first time, with these sums
abbrev pub line_of : (ℕ → PeerSums) → PeerSeen → Line
line_of told s = record { seen = s; here = Some s.number; told = told s.number }

-- the line of a peer that was there before, after a run in which it has that number, or in which it is not there any
-- more
abbrev pub line_under : (ℕ → PeerSums) → Line → Option ℕ → Line
line_under told l None = l
line_under told l (Some n) = record l { told = told_both l.told (told n) }

abbrev pub line_with : (ℕ → PeerSums) → Line → Line
line_with told l = line_under told l l.here

-- the peers that have no line yet: those that a run added, and, if nobody had one, those that it began with
abbrev pub newcomers : List Line → (first added : List PeerSeen) → List PeerSeen
newcomers [] first added = first ++ added
newcomers (l ∷ ls) first added = added

-- the lines after a run with these sums
abbrev pub lines_with : (ℕ → PeerSums) → List Line → (first added : List PeerSeen) → List Line
lines_with told ls first added = map (line_with told) ls ++ map (line_of told) (newcomers ls first added)

-- the lines after a run of these periods, which began with what was due
abbrev pub lines_after : List Line → Due → List PeriodParts → List Line
lines_after ls due ps = lines_with (told_of (due_after due ps) ps) ls (seen_before ps) (flat_map seen_during ps)

-- a line once the service began again, whose peers have the numbers of the others from then on; no number if its peer
-- is gone
abbrev pub line_anew : List Peer → List Peer → Line → Line
line_anew peers others l = record l { here = option_and_then (number_in_next peers others) l.here }
