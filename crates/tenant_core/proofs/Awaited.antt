-- What each call makes of the holds that await their answers.
use Rattle.std.proofs.Common.{◌≡◌, ℕ, ◌+◌, ◌≤◌, Bool, true, false, cond, not, eqb, ltb, List, [], ◌∷◌, ◌++◌, length, map, arith, refl, sym, ap, subst, ◌∙◌, le_refl}
use Rattle.std.specs.Prelude.{Option, Some, None, IfSome, is_some, count_by, Result, Ok, Err, option_map, find, max, ◌&&◌, ◌||◌, nat_le}
use Rattle.std.specs.List.{list_any}
use Rattle.std.specs.Str.{bytes_eq}
use Rattle.std.proofs.lemmas.Bool.{eqb-true, ne_eqb, ltb-false}
use Rattle.std.proofs.lemmas.List.Folds.{list_any-append}
use Rattle.std.proofs.lemmas.List.Sums.{sum_by-cons}
use Rattle.tenant_core.specs.declared.hold.Fate.{Fate}
use Rattle.tenant_core.specs.declared.hold.Fate.TheVariants.{Held, Marked, Ended}
use Rattle.tenant_core.specs.declared.hold.Hold.{Hold}
use Rattle.tenant_core.specs.declared.journal.AnswerKey.{AnswerKey}
use Rattle.tenant_core.specs.declared.peer.Peer.{Peer}
use Rattle.tenant_core.specs.declared.verdict.Verdict.{Verdict}
use Rattle.tenant_core.specs.declared.verdict.Verdict.TheVariants.{Unknown, NoRoom, Refuse, Forward, Fulfil, Relay}
use Rattle.tenant_core.specs.Answer.{answered, answer_record, settle_answer, ticked, tick_record, tick_count, has_no_place}
use Rattle.tenant_core.specs.Checks.{◌otherwise◌}
use Rattle.tenant_core.specs.Holds.{holds_of, is_open, open_holds, open_hold, next_hold, hold_ended, hold_ticked, is_open_under, is_fulfill, is_relay, awaits_answer, AreNumbered}
use Rattle.tenant_core.specs.Judge.{judge, decided, decide_record, record_left, is_full, is_recorded, verdict_for_sender}
use Rattle.tenant_core.specs.Key.{Key}
use Rattle.tenant_core.specs.OpenHolds.{is_awaited, begins, OpenHoldLaws}
use Rattle.tenant_core.specs.Sound.{IsSound}
use Rattle.tenant_core.specs.Network.{peer_with_token}
use Rattle.tenant_core.specs.Present.{network_of}
use Rattle.tenant_core.specs.Governed.{commanded, order_left, roll_left}
use Rattle.tenant_core.specs.Limits.{max_period}
use Rattle.tenant_core.specs.Orders.{ordered}
use Rattle.tenant_core.specs.Periods.{next_opening}
use Rattle.tenant_core.specs.declared.command.Command.{Command}
use Rattle.tenant_core.specs.declared.command.Command.TheVariants as command
use Rattle.tenant_core.specs.declared.faults.CommandFault.{CommandFault}
use Rattle.tenant_core.specs.declared.faults.CommandFault.TheVariants.{InUse, Limit}
use Rattle.tenant_core.specs.declared.journal.Change.{Change as Changed}
use Rattle.tenant_core.specs.State.{State, opened, clock_of, recorded}
use Rattle.tenant_core.proofs.Courses.{holds_of-decide, holds_of-answer, holds_of-tick, holds_of-change, holds_of-opened}
use Rattle.tenant_core.proofs.Purses.{ticked_awaits, has_terms_within, has_limits, found_passes, IsPaid}
use Rattle.tenant_core.proofs.Verdicts.{sender_paid}

-- ---- lists

is_some-find : (p : Hold → Bool) (hs : List Hold) → is_some (find p hs) ≡ list_any p hs
is_some-find p [] = refl
is_some-find p (h ∷ hs) = by (p h) (is_some-find p hs)
  where
    by : (b : Bool) → is_some (find p hs) ≡ list_any p hs → is_some (cond b (Some h) (find p hs)) ≡ (b || list_any p hs)
    by true e = refl
    by false e = e

list_any-map-same : (p : Hold → Bool) (g : Hold → Hold) (hs : List Hold) → ((h : Hold) → p (g h) ≡ p h) → list_any p (map g hs) ≡ list_any p hs
list_any-map-same p g [] same = refl
list_any-map-same p g (h ∷ hs) same = rw (same h, list_any-map-same p g hs same) refl

and-over-or : (a b c : Bool) → ((a && c) || (b && c)) ≡ ((a || b) && c)
and-over-or true b true = refl
and-over-or true true false = refl
and-over-or true false false = refl
and-over-or false b c = refl

list_any-map-and : (p : Hold → Bool) (c : Bool) (g : Hold → Hold) (hs : List Hold) → ((h : Hold) → p (g h) ≡ (p h && c)) → list_any p (map g hs) ≡ (list_any p hs && c)
list_any-map-and p c g [] each = refl
list_any-map-and p c g (h ∷ hs) each = rw (each h, list_any-map-and p c g hs each) (and-over-or (p h) (list_any p hs) c)

or-false : (b : Bool) → b ≡ (b || false)
or-false true = refl
or-false false = refl

and-true : (b : Bool) → b ≡ (b && true)
and-true true = refl
and-true false = refl

-- ---- a Prepare

after_verdict : (s : State) (from : ℕ) (key : Key) (now : ℕ) (v : Verdict) (n : ℕ)
    → is_awaited (recorded s (cond (is_recorded v) (Some (decide_record from key now v)) None)) n ≡ (is_awaited s n || begins n v)
after_verdict s from key now Unknown n = or-false (is_awaited s n)
after_verdict s from key now NoRoom n = or-false (is_awaited s n)
after_verdict s from key now (Refuse code amounts) n =
    ap (λ (hs : List Hold). is_some (find (is_open_under n) hs)) (holds_of-decide s from key now (Refuse code amounts)) ∙ or-false (is_awaited s n)
after_verdict s from key now Fulfil n =
    ap (λ (hs : List Hold). is_some (find (is_open_under n) hs)) (holds_of-decide s from key now Fulfil) ∙ or-false (is_awaited s n)
after_verdict s from key now Relay n =
    ap (λ (hs : List Hold). is_some (find (is_open_under n) hs)) (holds_of-decide s from key now Relay) ∙ or-false (is_awaited s n)
after_verdict s from key now (Forward hold peer price expiry) n =
    let h : Hold = record { number = hold; from = from; to = peer; amount = key.amount; price = price; expiry = expiry; condition = key.condition; fate = Held } in
    let hs : List Hold = holds_of s in
    let more = ap (λ (ks : List Hold). is_some (find (is_open_under n) ks)) (holds_of-decide s from key now (Forward hold peer price expiry)) in
    let pushed = is_some-find (is_open_under n) (hs ++ h ∷ []) ∙ list_any-append (is_open_under n) hs (h ∷ []) in
    let last : (list_any (is_open_under n) hs || ((eqb hold n && true) || false)) ≡ (list_any (is_open_under n) hs || eqb hold n) =
    ap (λ b. list_any (is_open_under n) hs || b) (plain (eqb hold n)) in
    more ∙ (pushed ∙ (last ∙ ap (λ b. b || eqb hold n) (sym (is_some-find (is_open_under n) hs))))
  where
    plain : (b : Bool) → ((b && true) || false) ≡ b
    plain true = refl
    plain false = refl

pub is_awaited-decided : (s : State) (token : List ℕ) (key : Key) (now n : ℕ)
    → is_awaited (decided s token key now) n ≡ (is_awaited s n || begins n (judge s token key now))
is_awaited-decided s token key now n = by (peer_with_token token (network_of s).peers)
  where
    verdict : Peer → Verdict
    verdict from = cond (is_full s) NoRoom (verdict_for_sender s from key (max (clock_of s) now))

    by : (o : Option Peer) → is_awaited (recorded s (record_left o key now ((o otherwise Unknown) (λ from. verdict from)))) n
        ≡ (is_awaited s n || begins n ((o otherwise Unknown) (λ from. verdict from)))
    by None = or-false (is_awaited s n)
    by (Some from) = after_verdict s from.number key now (verdict from) n

-- ---- an answer

ended_under : (n m : ℕ) (b : Bool) (h : Hold) → is_open_under n (hold_ended m b h) ≡ (is_open_under n h && not (eqb n m))
ended_under n m b h = by (eqb h.number n) refl
  where
    fate : (f : Fate) (t : Bool) → awaits_answer (cond (t && awaits_answer f) (Ended b) f) ≡ (awaits_answer f && not t)
    fate Held true = refl
    fate Held false = refl
    fate Marked true = refl
    fate Marked false = refl
    fate (Ended c) true = refl
    fate (Ended c) false = refl

    by : (t : Bool) → eqb h.number n ≡ t
        → (t && awaits_answer (cond (eqb h.number m && awaits_answer h.fate) (Ended b) h.fate)) ≡ ((t && awaits_answer h.fate) && not (eqb n m))
    by false e = refl
    by true e = fate h.fate (eqb h.number m) ∙ ap (λ k. awaits_answer h.fate && not (eqb k m)) (eqb-true h.number n e)

pub is_awaited-answered : (s : State) (hold now : ℕ) (key : AnswerKey) (n : ℕ)
    → is_awaited (answered s hold now key) n ≡ (is_awaited s n && not (eqb n hold))
is_awaited-answered s hold now key n = by (open_hold s hold) refl
  where
    none : (t : Bool) → eqb n hold ≡ t → is_some (open_hold s hold) ≡ false → is_awaited s n ≡ (is_awaited s n && not t)
    none false e is = and-true (is_awaited s n)
    none true e is = rw (eqb-true n hold e, is) refl

    ends : (h : Hold) → is_awaited (recorded s (Some (answer_record hold now key (settle_answer h (max (clock_of s) now) key)))) n ≡ (is_awaited s n && not (eqb n hold))
    ends h =
        let v : Verdict = settle_answer h (max (clock_of s) now) key in
        let b : Bool = is_fulfill key && is_relay v in
        let hs : List Hold = holds_of s in
        ap (λ (ks : List Hold). is_some (find (is_open_under n) ks)) (holds_of-answer s hold now key v)
        ∙ (is_some-find (is_open_under n) (map (hold_ended hold b) hs)
        ∙ (list_any-map-and (is_open_under n) (not (eqb n hold)) (hold_ended hold b) hs (ended_under n hold b)
        ∙ ap (λ t. t && not (eqb n hold)) (sym (is_some-find (is_open_under n) hs))))

    by : (o : Option Hold) → open_hold s hold ≡ o
        → is_awaited (recorded s (option_map (λ h. answer_record hold now key (settle_answer h (max (clock_of s) now) key)) o)) n ≡ (is_awaited s n && not (eqb n hold))
    by None e = none (eqb n hold) refl (ap is_some e)
    by (Some h) e = ends h

-- ---- a tick

pub is_awaited-ticked : (s : State) (now n : ℕ) → is_awaited (ticked s now) n ≡ is_awaited s n
is_awaited-ticked s now n = by (has_no_place s)
  where
    clock : ℕ
    clock = max (clock_of s) now

    by : (t : Bool) → is_awaited (recorded s (cond t None (Some (tick_record now (tick_count s clock))))) n ≡ is_awaited s n
    by true = refl
    by false =
        ap (λ (ks : List Hold). is_some (find (is_open_under n) ks)) (holds_of-tick s now (tick_count s clock))
        ∙ (is_some-find (is_open_under n) (map (hold_ticked clock) (holds_of s))
        ∙ (list_any-map-same (is_open_under n) (hold_ticked clock) (holds_of s) (λ h. ap (λ t. eqb h.number n && t) (ticked_awaits h.fate (nat_le h.expiry clock)))
        ∙ sym (is_some-find (is_open_under n) (holds_of s))))

-- ---- a command

none_open : (n : ℕ) (hs : List Hold) → count_by is_open hs ≡ 0 → is_some (find (is_open_under n) hs) ≡ false
none_open n [] e = refl
none_open n (h ∷ hs) e = by (eqb h.number n) (is_open h) (sym (sum_by-cons (λ (x : Hold). cond (is_open x) 1 0) h hs) ∙ e) (none_open n hs)
  where
    by : (a b : Bool) → cond b 1 0 + count_by is_open hs ≡ 0 → (count_by is_open hs ≡ 0 → is_some (find (is_open_under n) hs) ≡ false)
        → is_some (cond (a && b) (Some h) (find (is_open_under n) hs)) ≡ false
    by a true e rest = absurd (omega arith)
    by true false e rest = rest (omega arith)
    by false false e rest = rest (omega arith)

rolled : (s : State) (now n : ℕ) (t u : Bool) → ltb 0 (open_holds s) ≡ t
    → is_awaited (roll_left s (cond t (Some InUse) (cond u (Some Limit) None)) now) n ≡ is_awaited s n
rolled s now n true u e = refl
rolled s now n false true e = refl
rolled s now n false false e =
    let none : open_holds s ≡ 0 = let l = ltb-false 0 (open_holds s) e in omega arith in
    let next : State = opened (next_opening s (max (clock_of s) now)) in
    ap (λ (hs : List Hold). is_some (find (is_open_under n) hs)) (holds_of-opened next refl) ∙ sym (none_open n (holds_of s) none)

pub is_awaited-commanded : (s : State) (command : Command) (now n : ℕ) → is_awaited (commanded s command now) n ≡ is_awaited s n
is_awaited-commanded s (command.Order order) now n = by (ordered s order)
  where
    by : (r : Result Changed CommandFault) → is_awaited (order_left s r now) n ≡ is_awaited s n
    by (Ok change) = ap (λ (hs : List Hold). is_some (find (is_open_under n) hs)) (holds_of-change s change now)
    by (Err fault) = refl
is_awaited-commanded s command.Balances now n = refl
is_awaited-commanded s command.Roll now n = rolled s now n (ltb 0 (open_holds s)) (nat_le max_period s.opening.period) refl

-- ---- numbers

none_past : (n m : ℕ) (hs : List Hold) → AreNumbered m hs → m + length hs ≤ n → is_some (find (is_open_under n) hs) ≡ false
none_past n m [] e l = refl
none_past n m (h ∷ hs) e l =
    let first = e.0 in
    let other : eqb h.number n ≡ false = ne_eqb h.number n (λ same. omega arith) in
    rw other (none_past n (m + 1) hs e.1 (omega arith))

pub is_awaited-next : (s : State) → IsSound s → is_awaited s (next_hold s) ≡ false
is_awaited-next s sound = none_past (next_hold s) s.opening.next_hold (holds_of s) sound.numbers (le_refl (next_hold s))

begun_is_next : (s : State) (from amount n : ℕ) (v : Verdict) → IsPaid s from amount v → begins n v ≡ true → n ≡ next_hold s
begun_is_next s from amount n Unknown paid e = absurd cc
begun_is_next s from amount n NoRoom paid e = absurd cc
begun_is_next s from amount n (Refuse code amounts) paid e = absurd cc
begun_is_next s from amount n Fulfil paid e = absurd cc
begun_is_next s from amount n Relay paid e = absurd cc
begun_is_next s from amount n (Forward hold peer price expiry) paid e = sym (eqb-true hold n e) ∙ paid.2

pub begins-judge : (s : State) (token : List ℕ) (key : Key) (now n : ℕ) → IsSound s → begins n (judge s token key now) ≡ true → n ≡ next_hold s
begins-judge s token key now n sound = by (peer_with_token token (network_of s).peers) refl
  where
    verdict : Peer → Verdict
    verdict from = verdict_for_sender s from key (max (clock_of s) now)

    judged : (from : Peer) (t : Bool) → peer_with_token token (network_of s).peers ≡ Some from → begins n (cond t NoRoom (verdict from)) ≡ true → n ≡ next_hold s
    judged from true is e = absurd cc
    judged from false is e =
        let sender = subst (λ o. IfSome o (λ p. has_terms_within p ≡ true)) is (found_passes (λ p. bytes_eq p.terms.token token) (network_of s).peers sound.network.terms) in
        begun_is_next s from.number key.amount n (verdict from) (sender_paid s from key (max (clock_of s) now) sound.network.terms (has_limits from.terms sender)) e

    by : (o : Option Peer) → peer_with_token token (network_of s).peers ≡ o
        → begins n ((o otherwise Unknown) (λ from. cond (is_full s) NoRoom (verdict from))) ≡ true → n ≡ next_hold s
    by None is e = absurd cc
    by (Some from) is e = judged from (is_full s) is e

pub open_hold_laws : OpenHoldLaws
open_hold_laws =
    record {
      decided = is_awaited-decided;
      begun = begins-judge;
      fresh = is_awaited-next;
      answered = is_awaited-answered;
      ticked = is_awaited-ticked;
      commanded = is_awaited-commanded;
    }
