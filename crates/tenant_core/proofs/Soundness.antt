-- A state stays within its limits.
use Rattle.std.proofs.Common.{◌≡◌, ℕ, ◌+◌, ◌≤◌, Bool, true, false, cond, eqb, List, length, get_or, map, arith, refl, sym, ap, subst, ◌∙◌, le_of_eq}
use Rattle.ilp_addr.specs.Timestamp.{last_moment}
use Rattle.std.specs.Prelude.{Some, None, IfSome, count_by, max, ◌&&◌, ◌||◌, nat_le}
use Rattle.std.specs.List.{position_or_len, slice_get}
use Rattle.std.proofs.Math.ListN.{set}
use Rattle.std.proofs.lemmas.Bool.{ltb-false, and_parts}
use Rattle.std.proofs.lemmas.List.{length_push}
use Rattle.std.proofs.lemmas.List.Folds.{find_at}
use Rattle.std.proofs.lemmas.List.Sums.{sum_by_push, fold_push}
use Rattle.std.proofs.lemmas.Option.{slice_get_within, get_or_from_slice_get}
use Rattle.tenant_core.specs.declared.command.Order.{Order}
use Rattle.tenant_core.specs.declared.hold.Fate.{Fate}
use Rattle.tenant_core.specs.declared.hold.Fate.TheVariants.{Held, Marked, Ended}
use Rattle.tenant_core.specs.declared.hold.Hold.{Hold}
use Rattle.tenant_core.specs.declared.peer.Peer.{Peer}
use Rattle.tenant_core.specs.declared.journal.AnswerKey.{AnswerKey}
use Rattle.tenant_core.specs.declared.journal.Record.{Record}
use Rattle.tenant_core.specs.declared.verdict.RejectCode.TheVariants.{TimedOut, WrongCondition, PeerUnreachable}
use Rattle.tenant_core.specs.declared.verdict.Verdict.{Verdict}
use Rattle.tenant_core.specs.declared.verdict.Verdict.TheVariants.{Unknown, NoRoom, Refuse, Forward, Fulfil, Relay}
use Rattle.tenant_core.specs.Answer.{settle_answer, is_marked, is_misfit, is_fault, answer_record, tick_record, tick_count, has_no_place}
use Rattle.tenant_core.specs.Called.{AreCalled, is_answer}
use Rattle.tenant_core.specs.Holds.{holds_of, open_holds, open_hold, is_open, is_open_under, is_fulfill, is_relay, awaits_answer, holds_amounts}
use Rattle.tenant_core.specs.Holds.{hold_ended, hold_ticked, with_fate, begun_by, AreNumbered}
use Rattle.tenant_core.specs.Key.{Key}
use Rattle.tenant_core.specs.Network.{Net, IsNetwork, peer_with_token}
use Rattle.tenant_core.specs.Present.{network_of}
use Rattle.tenant_core.specs.Purse.{IsWithinBounds}
use Rattle.tenant_core.specs.Replay.{IsReplay, is_sayable}
use Rattle.tenant_core.specs.Called.{IsOfBytes}
use Rattle.tenant_core.specs.State.{State, clock_of, recorded, extended, later}
use Rattle.tenant_core.specs.declared.journal.Change.{Change as Changed}
use Rattle.tenant_core.specs.Orders.{change_of, change_record, change_refusal, names_present}
use Rattle.tenant_core.specs.Judge.{is_full, is_recorded, refuse, verdict_for_sender, decide_entry, decide_record}
use Rattle.tenant_core.specs.Sound.{IsSound}
use Rattle.tenant_core.proofs.Calling.{calls_on, decided_called, answered_called, ticked_called, ordered_called}
use Rattle.tenant_core.proofs.Courses.{holds_of-decide, holds_of-answer, holds_of-tick, holds_of-change, numbered-map, numbered-push, ended_is_set, count-ended, find_passes}
use Rattle.tenant_core.proofs.Purses.{has_terms_within, has_limits, found_passes, IsPaid, decided_within, changed_within, moved_within, ended_moves, ticked_moves, ticked_count}
use Rattle.tenant_core.proofs.Presents.{network_of-decide, network_of-answer, network_of-tick}
use Rattle.tenant_core.proofs.Replays.{decided_replay, answered_replay, ticked_replay, changed_replay}
use Rattle.tenant_core.proofs.Verdicts.{sender_paid}

clock_after : (s : State) (r : Record) → later (clock_of s) r ≤ last_moment → clock_of (recorded s (Some r)) ≤ last_moment
clock_after s r early = subst (λ n. n ≤ last_moment) (sym (fold_push later s.opening.clock s.records r)) early

-- a state that goes on by a record that keeps the limits
goes_on : (s : State) (r : Record) → IsSound s → IsReplay (recorded s (Some r)) → AreCalled (recorded s (Some r)) → IsNetwork (network_of (recorded s (Some r)))
    → length s.records + 1 + open_holds (recorded s (Some r)) ≤ s.opening.journal → AreNumbered s.opening.next_hold (holds_of (recorded s (Some r)))
    → ((n : ℕ) → IsWithinBounds (recorded s (Some r)) n) → later (clock_of s) r ≤ last_moment → IsSound (recorded s (Some r))
goes_on s r sound replay calls network fits numbers purses early =
    let longer = length_push s.records r in
    record {
      replay = replay;
      calls = calls;
      tenant = sound.tenant;
      network = network;
      room = omega arith;
      journal = sound.journal;
      places = sound.places;
      numbers = numbers;
      purses = purses;
      hold = sound.hold;
      some_hold = sound.some_hold;
      margin = sound.margin;
      first_hold = sound.first_hold;
      period = sound.period;
      clock = clock_after s r early;
    }

-- ---- a packet was decided

pub decided_count : (hs : List Hold) (peer : ℕ) (key : Key) (now : ℕ) (v : Verdict)
    → count_by is_open (extended hs (begun_by (decide_entry peer key now) v)) ≤ count_by is_open hs + 1
decided_count hs peer key now Unknown = omega arith
decided_count hs peer key now NoRoom = omega arith
decided_count hs peer key now (Refuse code amounts) = omega arith
decided_count hs peer key now Fulfil = omega arith
decided_count hs peer key now Relay = omega arith
decided_count hs peer key now (Forward hold to price expiry) =
    let h : Hold = record { number = hold; from = peer; to = to; amount = key.amount; price = price; expiry = expiry; condition = key.condition; fate = Held } in
    let pushed = sum_by_push (λ x. cond (is_open x) 1 0) hs h in
    le_of_eq pushed

decided_numbers : (s : State) (peer : ℕ) (key : Key) (now : ℕ) (v : Verdict) → IsPaid s peer key.amount v → AreNumbered s.opening.next_hold (holds_of s)
    → AreNumbered s.opening.next_hold (extended (holds_of s) (begun_by (decide_entry peer key now) v))
decided_numbers s peer key now Unknown paid e = e
decided_numbers s peer key now NoRoom paid e = e
decided_numbers s peer key now (Refuse code amounts) paid e = e
decided_numbers s peer key now Fulfil paid e = e
decided_numbers s peer key now Relay paid e = e
decided_numbers s peer key now (Forward hold to price expiry) paid e =
    let h : Hold = record { number = hold; from = peer; to = to; amount = key.amount; price = price; expiry = expiry; condition = key.condition; fate = Held } in
    numbered-push s.opening.next_hold (holds_of s) h e paid.2

pub decided_sound : (s : State) (token : List ℕ) (key : Key) (now : ℕ) (from : Peer) → IsSound s
    → peer_with_token token (network_of s).peers ≡ Some from → is_full s ≡ false → is_sayable key ≡ true → IsOfBytes key → now ≤ last_moment
    → is_recorded (verdict_for_sender s from key (max (clock_of s) now)) ≡ true
    → IsSound (recorded s (Some (decide_record from.number key now (verdict_for_sender s from key (max (clock_of s) now)))))
decided_sound s token key now from sound is room sayable octets early told =
    let v : Verdict = verdict_for_sender s from key (max (clock_of s) now) in
    let r : Record = decide_record from.number key now v in
    let fits : length s.records + open_holds s + 2 ≤ s.opening.journal = ltb-false _ _ room in
    let holds = holds_of-decide s from.number key now v in
    let counted : open_holds (recorded s (Some r)) ≤ open_holds s + 1 =
    subst (λ (hs : List Hold). count_by is_open hs ≤ open_holds s + 1) (sym holds) (decided_count (holds_of s) from.number key now v) in
    let sender = subst (λ o. IfSome o (λ p. has_terms_within p ≡ true)) is (found_passes _ (network_of s).peers sound.network.terms) in
    let paid = sender_paid s from key (max (clock_of s) now) sound.network.terms (has_limits from.terms sender) in
    let last = sound.clock in
    goes_on s r sound
    (decided_replay s token key now from sound.replay sound.network.numbers is room sayable early)
    (calls_on s r sound.calls (decided_called s token key now from sound.network is room sayable octets told))
    (subst (λ (x : Net). IsNetwork x) (sym (network_of-decide s from.number key now v)) sound.network)
    (omega arith)
    (subst (λ (hs : List Hold). AreNumbered s.opening.next_hold hs) (sym holds) (decided_numbers s from.number key now v paid sound.numbers))
    (λ n. decided_within s from.number key now v paid n (sound.purses n)) (omega arith)

-- ---- a hold was answered

-- what is taken was held: it was not marked
pub relayed_held : (h : Hold) (clock : ℕ) (key : AnswerKey) → is_open h ≡ true → (is_fulfill key && is_relay (settle_answer h clock key)) ≡ true → holds_amounts h.fate ≡ true
relayed_held h clock key «open» taken =
    let rest : Verdict = cond (is_misfit key h.condition) (refuse WrongCondition) (cond (is_fault key) (refuse PeerUnreachable) Relay) in
    by h.fate rest «open» (and_parts (is_fulfill key) (is_relay (settle_answer h clock key)) taken).1
  where
    by : (f : Fate) (rest : Verdict) → awaits_answer f ≡ true
        → is_relay (cond (is_marked f || nat_le h.expiry clock) (refuse TimedOut) rest) ≡ true → holds_amounts f ≡ true
    by Held rest e relayed = refl
    by Marked rest e relayed = absurd cc
    by (Ended b) rest e relayed = absurd cc

pub answered_sound : (s : State) (n now : ℕ) (key : AnswerKey) (h : Hold) → IsSound s → open_hold s n ≡ Some h → is_answer key ≡ true → now ≤ last_moment
    → IsSound (recorded s (Some (answer_record n now key (settle_answer h (max (clock_of s) now) key))))
answered_sound s n now key h sound is answer early =
    let v : Verdict = settle_answer h (max (clock_of s) now) key in
    let b : Bool = is_fulfill key && is_relay v in
    let r : Record = answer_record n now key v in
    let hs : List Hold = holds_of s in
    let i : ℕ = position_or_len (is_open_under n) hs in
    let read : slice_get hs i ≡ Some h = sym (find_at (is_open_under n) hs) ∙ is in
    let there = slice_get_within hs i h read in
    let place = get_or_from_slice_get hs i h h read in
    let under : is_open_under n h ≡ true = find_passes (is_open_under n) hs h is in
    let here : is_open_under n (get_or hs i h) ≡ true = rw place under in
    let «open» : is_open h ≡ true = (and_parts (eqb h.number n) (is_open h) under).1 in
    let held = relayed_held h (max (clock_of s) now) key «open» in
    let ended : map (hold_ended n b) hs ≡ set hs i (with_fate h (Ended b)) = rw place at (ended_is_set n b s.opening.next_hold hs i h sound.numbers there here) in
    let holds : holds_of (recorded s (Some r)) ≡ map (hold_ended n b) hs = holds_of-answer s n now key v in
    let counted : count_by is_open (set hs i (with_fate h (Ended b))) + 1 ≡ count_by is_open hs = rw place at (count-ended hs i h b there (rw place «open»)) in
    let fewer : open_holds (recorded s (Some r)) + 1 ≡ open_holds s = rw (holds, ended) counted in
    let fits = sound.room in
    let last = sound.clock in
    goes_on s r sound
    (answered_replay s n now key h sound.replay is early)
    (calls_on s r sound.calls (answered_called s n now key h is answer))
    (subst (λ (x : Net). IsNetwork x) (sym (network_of-answer s n now key v)) sound.network)
    (omega arith)
    (subst (λ (ks : List Hold). AreNumbered s.opening.next_hold ks) (sym holds) (numbered-map (hold_ended n b) (λ x. refl) s.opening.next_hold hs sound.numbers))
    (λ p. moved_within s r (set hs i (with_fate h (Ended b))) p refl refl (holds ∙ ended) (ended_moves p hs i h b there place «open» held) (sound.purses p)) (omega arith)

-- ---- a moment was handed in

pub ticked_sound : (s : State) (now : ℕ) → IsSound s → has_no_place s ≡ false → now ≤ last_moment
    → IsSound (recorded s (Some (tick_record now (tick_count s (max (clock_of s) now)))))
ticked_sound s now sound room early =
    let clock : ℕ = max (clock_of s) now in
    let r : Record = tick_record now (tick_count s clock) in
    let hs : List Hold = holds_of s in
    let holds : holds_of (recorded s (Some r)) ≡ map (hold_ticked clock) hs = holds_of-tick s now (tick_count s clock) in
    let counted : open_holds (recorded s (Some r)) ≡ open_holds s = rw holds (ticked_count clock hs) in
    let fits : length s.records + open_holds s + 1 ≤ s.opening.journal = ltb-false _ _ room in
    let last = sound.clock in
    goes_on s r sound
    (ticked_replay s now sound.replay room early)
    (calls_on s r sound.calls (ticked_called s now room))
    (subst (λ (x : Net). IsNetwork x) (sym (network_of-tick s now (tick_count s clock))) sound.network)
    (omega arith)
    (subst (λ (ks : List Hold). AreNumbered s.opening.next_hold ks) (sym holds) (numbered-map (hold_ticked clock) (λ x. refl) s.opening.next_hold hs sound.numbers))
    (λ p. moved_within s r (map (hold_ticked clock) hs) p refl refl holds (ticked_moves p clock hs) (sound.purses p)) (omega arith)

-- ---- an order was accepted

pub changed_sound : (s : State) (order : Order) (c : Changed) (now : ℕ) → IsSound s → has_no_place s ≡ false → now ≤ last_moment
    → change_of (network_of s) order ≡ Some c → names_present (network_of s) c ≡ true
    → change_refusal s (network_of s) c ≡ None → IsNetwork (network_of (recorded s (Some (change_record c now)))) → IsSound (recorded s (Some (change_record c now)))
changed_sound s order c now sound room early found present allowed network =
    let r : Record = change_record c now in
    let holds : holds_of (recorded s (Some r)) ≡ holds_of s = holds_of-change s c now in
    let counted : open_holds (recorded s (Some r)) ≡ open_holds s = ap (count_by is_open) holds in
    let fits : length s.records + open_holds s + 1 ≤ s.opening.journal = ltb-false _ _ room in
    let last = sound.clock in
    goes_on s r sound
    (changed_replay s c now sound.replay room present allowed early)
    (calls_on s r sound.calls (ordered_called s order c now room found allowed))
    network
    (omega arith)
    (subst (λ (hs : List Hold). AreNumbered s.opening.next_hold hs) (sym holds) sound.numbers)
    (λ n. changed_within s c now n allowed (sound.purses n)) (omega arith)
