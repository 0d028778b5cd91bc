-- Each record of a state is what a call made.
use Rattle.std.proofs.Common.{◌≡◌, ℕ, true, false, List, [], ◌∷◌, refl, sym, ap, subst, ◌∙◌, arith, inl, inr}
use Rattle.std.specs.Prelude.{Some, None, IfSome, max, slice_get}
use Rattle.std.proofs.lemmas.Bool.{and_parts}
use Rattle.std.proofs.lemmas.List.{take-append-le}
use Rattle.std.proofs.lemmas.Option.{slice_get_past}
use Rattle.std.proofs.Math.Seq.{take-append_seam}
use Rattle.std.proofs.lemmas.Slice.Eq.{bytes_eq-Decides}
use Rattle.std.specs.Str.{bytes_eq}
use Rattle.common_types.specs.Token.{is_token}
use Rattle.tenant_core.specs.Answer.{answer_record, settle_answer, tick_record, tick_count, has_no_place}
use Rattle.tenant_core.specs.Called.{Call, IsCalled, AreCalled, is_answer, first_of}
use Rattle.tenant_core.specs.Holds.{open_hold}
use Rattle.tenant_core.specs.Judge.{decide_record, is_full, is_recorded, verdict_for_sender}
use Rattle.tenant_core.specs.Key.{Key}
use Rattle.tenant_core.specs.Network.{IsNetwork, peer_with_token}
use Rattle.tenant_core.specs.Orders.{change_of, change_record, change_refusal}
use Rattle.tenant_core.specs.Present.{network_of}
use Rattle.tenant_core.specs.Replay.{is_sayable}
use Rattle.tenant_core.specs.Called.{IsOfBytes}
use Rattle.tenant_core.specs.State.{State, clock_of, recorded}
use Rattle.tenant_core.specs.declared.command.Order.{Order}
use Rattle.tenant_core.specs.declared.hold.Hold.{Hold}
use Rattle.tenant_core.specs.declared.journal.AnswerKey.{AnswerKey}
use Rattle.tenant_core.specs.declared.journal.Change.{Change as Changed}
use Rattle.tenant_core.specs.declared.journal.Record.{Record}
use Rattle.tenant_core.specs.declared.peer.Peer.{Peer}
use Rattle.tenant_core.proofs.Courses.{find_passes}
use Rattle.tenant_core.proofs.Purses.{has_terms_within, found_passes}
use Rattle.tenant_core.proofs.Slots.{push_cases}

-- ---- one record more

pub calls_opened : (s : State) → s.records ≡ [] → AreCalled s
calls_opened s none n r e =
    let past : slice_get s.records n ≡ None = ap (λ (rs : List Record). slice_get rs n) none ∙ slice_get_past [] n (omega arith) in
    absurd cc

pub calls_on : (s : State) (r : Record) → AreCalled s → IsCalled s r → AreCalled (recorded s (Some r))
calls_on s r calls call n x e = elim (push_cases s.records n r x e) [
  | inl last ↦
      let whole : first_of n (recorded s (Some r)) ≡ s =
      ap (λ k. first_of k (recorded s (Some r))) last.0
      ∙ ap (λ (rs : List Record). record { opening = s.opening; records = rs }) (take-append_seam s.records (r ∷ [])) in
      subst (λ (t : State). IsCalled t x) (sym whole) (subst (λ (y : Record). IsCalled s y) last.1 call)
  | inr before ↦
      let same : first_of n (recorded s (Some r)) ≡ first_of n s =
      ap (λ (rs : List Record). record { opening = s.opening; records = rs }) (take-append-le n s.records (r ∷ []) (omega arith)) in
      subst (λ (t : State). IsCalled t x) (sym same) (calls n x before.1)
]

-- ---- what the calls of a book make

-- a peer's token is one
token_found : (s : State) (token : List ℕ) (from : Peer) → IsNetwork (network_of s) → peer_with_token token (network_of s).peers ≡ Some from → is_token token ≡ true
token_found s token from network is =
    let same : from.terms.token ≡ token =
    (bytes_eq-Decides from.terms.token token).0 (find_passes (λ (p : Peer). bytes_eq p.terms.token token) (network_of s).peers from is) in
    let within = subst (λ o. IfSome o (λ p. has_terms_within p ≡ true)) is (found_passes (λ p. bytes_eq p.terms.token token) (network_of s).peers network.terms) in
    subst (λ k. is_token k ≡ true) same (and_parts _ _ within).1

pub decided_called : (s : State) (token : List ℕ) (key : Key) (now : ℕ) (from : Peer) → IsNetwork (network_of s)
    → peer_with_token token (network_of s).peers ≡ Some from → is_full s ≡ false → is_sayable key ≡ true → IsOfBytes key
    → is_recorded (verdict_for_sender s from key (max (clock_of s) now)) ≡ true
    → IsCalled s (decide_record from.number key now (verdict_for_sender s from key (max (clock_of s) now)))
decided_called s token key now from network is room sayable octets recorded =
    record {
      call = Call.Decides token key now;
      given = (token_found s token from network is, sayable, octets);
      made = rw (is, room, recorded) refl;
    }

pub answered_called : (s : State) (n now : ℕ) (key : AnswerKey) (h : Hold) → open_hold s n ≡ Some h → is_answer key ≡ true
    → IsCalled s (answer_record n now key (settle_answer h (max (clock_of s) now) key))
answered_called s n now key h is answer = record { call = Call.Answers n now key; given = answer; made = rw is refl }

pub ticked_called : (s : State) (now : ℕ) → has_no_place s ≡ false → IsCalled s (tick_record now (tick_count s (max (clock_of s) now)))
ticked_called s now room = record { call = Call.Ticks now; given = tt; made = rw room refl }

pub ordered_called : (s : State) (order : Order) (c : Changed) (now : ℕ) → has_no_place s ≡ false → change_of (network_of s) order ≡ Some c
    → change_refusal s (network_of s) c ≡ None → IsCalled s (change_record c now)
ordered_called s order c now room found allowed =
    record { call = Call.Orders order now; given = tt; made = rw (room, found, allowed) refl }
