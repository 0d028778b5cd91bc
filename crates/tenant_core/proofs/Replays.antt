-- A replay, one entry more.
use Rattle.std.proofs.Common.{◌≡◌, ◌≤◌, ℕ, true, false, List, [], ◌∷◌, map, refl, sym, ap, subst, ◌∙◌}
use Rattle.std.specs.Prelude.{◌||◌, not, is_some, Bool, cond, Option, Some, None, find, All, max, option_map, option_and_then, fold}
use Rattle.std.specs.List.{position_or_len, slice_get}
use Rattle.std.proofs.lemmas.Bool.{le-leb}
use Rattle.std.proofs.lemmas.List.{map-append}
use Rattle.std.proofs.lemmas.List.Elements.{All-get_or}
use Rattle.std.proofs.lemmas.List.Folds.{find_at}
use Rattle.std.proofs.lemmas.List.Sums.{fold_push}
use Rattle.std.proofs.lemmas.Option.{slice_get_within, get_or_from_slice_get}
use Rattle.tenant_core.specs.declared.hold.Hold.{Hold}
use Rattle.tenant_core.specs.declared.journal.AnswerKey.{AnswerKey}
use Rattle.tenant_core.specs.declared.journal.Entry.{Entry}
use Rattle.tenant_core.specs.declared.journal.Entry.TheVariants.{Decide}
use Rattle.tenant_core.specs.declared.journal.Outcome.{Outcome}
use Rattle.tenant_core.specs.declared.journal.Outcome.TheVariants.{Packet, Done}
use Rattle.tenant_core.specs.declared.journal.Record.{Record}
use Rattle.tenant_core.specs.declared.peer.Peer.{Peer}
use Rattle.tenant_core.specs.Answer.{answer_record, settle_answer, tick_record, tick_count, has_no_place}
use Rattle.tenant_core.specs.Holds.{open_hold}
use Rattle.ilp_addr.specs.Timestamp.{last_moment}
use Rattle.tenant_core.specs.Judge.{decide_entry, decide_record, is_full, verdict_for_sender}
use Rattle.tenant_core.specs.declared.faults.CommandFault.{CommandFault}
use Rattle.tenant_core.specs.declared.journal.Change.{Change as Changed}
use Rattle.tenant_core.specs.Orders.{change_record, change_refusal, names_present}
use Rattle.tenant_core.specs.Key.{Key}
use Rattle.tenant_core.specs.Replay.{IsReplay, replay, is_sayable, entry_outcome, outcome_of, appended}
use Rattle.tenant_core.specs.declared.verdict.Verdict.{Verdict}
use Rattle.tenant_core.specs.Network.{peer_numbered, peer_with_token}
use Rattle.tenant_core.specs.Present.{network_of}
use Rattle.tenant_core.specs.State.{State, opened, clock_of, entered_at, recorded}

-- what holds of each holds of what is found
pub All-find : {A : Type 0} (P : A → Type 0) (q : A → Bool) (xs : List A) (x : A) → All P xs → find q xs ≡ Some x → P x
All-find P q xs x each e =
    let read : slice_get xs (position_or_len q xs) ≡ Some x = sym (find_at q xs) ∙ e in
    let there = slice_get_within xs (position_or_len q xs) x read in
    subst P (get_or_from_slice_get xs (position_or_len q xs) x x read) (All-get_or P xs (position_or_len q xs) x there each)

pub replayed : (s : State) (r : Record) → IsReplay s → outcome_of s r.entry ≡ Some r.outcome → IsReplay (recorded s (Some r))
unfolding replay
replayed s r before e =
    let step : Option State → Entry → Option State = λ o x. option_and_then (λ t. appended t x) o in
    let first : Option State = Some (opened s.opening) in
    let split = map-append (λ (x : Record). x.entry) s.records (r ∷ []) in
    let more = fold_push step first (map (λ (x : Record). x.entry) s.records) r.entry in
    ap (λ (es : List Entry). fold step first es) split
    ∙ (more ∙ (ap (λ (o : Option State). step o r.entry) before
    ∙ ap (λ o. option_map (λ x. recorded s (Some (record { entry = r.entry; outcome = x }))) o) e))

-- what an entry leads to, where it came at a moment
in_time : (s : State) (e : Entry) (o : Outcome) → entered_at e ≤ last_moment → entry_outcome s e ≡ Some o → outcome_of s e ≡ Some o
in_time s e o early is = rw (le-leb (entered_at e) last_moment early) is

pub opened_replay : (s : State) → s.records ≡ [] → IsReplay s
unfolding replay
opened_replay s none = rw none refl

chosen_some : {A B : Type 0} (b : Bool) (o : Option A) (f : A → B) (x : A) → b ≡ false → o ≡ Some x → cond b None (option_map f o) ≡ Some (f x)
chosen_some b o f x not is = rw (not, is) refl

pub decided_replay : (s : State) (token : List ℕ) (key : Key) (now : ℕ) (from : Peer) → IsReplay s
    → All (λ p. peer_numbered p.number (network_of s).peers ≡ Some p) (network_of s).peers
    → peer_with_token token (network_of s).peers ≡ Some from → is_full s ≡ false → is_sayable key ≡ true → now ≤ last_moment
    → IsReplay (recorded s (Some (decide_record from.number key now (verdict_for_sender s from key (max (clock_of s) now)))))
decided_replay s token key now from before numbers is room sayable early =
    let same = All-find (λ p. peer_numbered p.number (network_of s).peers ≡ Some p) _ (network_of s).peers from numbers is in
    let v : Verdict = verdict_for_sender s from key (max (clock_of s) now) in
    let takes : (is_full s || not (is_sayable key)) ≡ false = rw (room, sayable) refl in
    replayed s (decide_record from.number key now v) before
    (in_time s (Decide (decide_entry from.number key now)) (Packet v) early
    (chosen_some (is_full s || not (is_sayable key)) _ (λ p. Packet (verdict_for_sender s p key (max (clock_of s) now))) from takes same))

pub answered_replay : (s : State) (n now : ℕ) (key : AnswerKey) (h : Hold) → IsReplay s → open_hold s n ≡ Some h → now ≤ last_moment
    → IsReplay (recorded s (Some (answer_record n now key (settle_answer h (max (clock_of s) now) key))))
answered_replay s n now key h before is early =
    let r : Record = answer_record n now key (settle_answer h (max (clock_of s) now) key) in
    replayed s r before (in_time s r.entry r.outcome early (rw is refl))

pub ticked_replay : (s : State) (now : ℕ) → IsReplay s → has_no_place s ≡ false → now ≤ last_moment
    → IsReplay (recorded s (Some (tick_record now (tick_count s (max (clock_of s) now)))))
ticked_replay s now before room early =
    let r : Record = tick_record now (tick_count s (max (clock_of s) now)) in
    replayed s r before (in_time s r.entry r.outcome early (rw room refl))

pub changed_replay : (s : State) (c : Changed) (now : ℕ) → IsReplay s → has_no_place s ≡ false → names_present (network_of s) c ≡ true
    → change_refusal s (network_of s) c ≡ None → now ≤ last_moment → IsReplay (recorded s (Some (change_record c now)))
changed_replay s c now before room present allowed early =
    let r : Record = change_record c now in
    replayed s r before (in_time s r.entry r.outcome early (by (has_no_place s) (names_present (network_of s) c) (change_refusal s (network_of s) c) room present allowed))
  where
    by : (a b : Bool) (o : Option CommandFault) → a ≡ false → b ≡ true → o ≡ None → cond ((a || not b) || is_some o) None (Some Done) ≡ Some Done
    by a b o e f g = rw (e, f, g) refl
