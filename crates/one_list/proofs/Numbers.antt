-- Holds are numbered one after the other, over all periods of a tenant: one step alone begins the hold of a number.
use Rattle.std.proofs.Common.{◌≡◌, ◌≤◌, ◌<◌, ◌+◌, ◌||◌, ℕ, Bool, true, false, cond, not, List, [], ◌∷◌, ◌++◌, map, fold, length, arith, length-append, refl, sym, ap, subst}
use Rattle.std.specs.Prelude.{Option, Some, None, Result, Ok, Err, find, max, nat_le, nat_lt, option_map}
use Rattle.std.proofs.lemmas.Bool.{eqb-true}
use Rattle.std.proofs.lemmas.List.{length-map}
use Rattle.std.proofs.lemmas.List.Sums.{fold_push}
use Rattle.ilp_addr.specs.Timestamp.{last_moment}
use Rattle.ildcp_core.specs.Request.{is_config, checked_request}
use Rattle.ildcp_core.specs.declared.fault.IldcpFault.{IldcpFault}
use Rattle.ildcp_core.specs.declared.fault.IldcpFault.TheVariants.{NotChild, Amount, Condition}
use Rattle.money_core.specs.Fraction.{Fraction}
use Rattle.money_core.specs.Price.{price_less, greatest_amount}
use Rattle.rate_bucket.specs.Bucket.{is_admitted}
use Rattle.tenant_core.specs.Bucket.{stretch_of}
use Rattle.tenant_core.specs.Checks.{◌otherwise◌}
use Rattle.tenant_core.specs.Holds.{Course, begun_by, course_after, hold_after, hold_begun, holds_of, next_hold, open_holds}
use Rattle.tenant_core.specs.Judge.{config_verdict, is_full, refuse, refuse_over, verdict_at_rate, verdict_for_sender}
use Rattle.tenant_core.specs.Key.{Key}
use Rattle.tenant_core.specs.Limits.{max_holds}
use Rattle.tenant_core.specs.Made.{IsMade}
use Rattle.tenant_core.specs.Network.{peer_numbered}
use Rattle.tenant_core.specs.Present.{network_of}
use Rattle.tenant_core.specs.Purse.{is_over_ceiling, is_over_credit}
use Rattle.tenant_core.specs.Replay.{decide_outcome, is_sayable, key_entered, outcome_of}
use Rattle.tenant_core.specs.Routing.{Way, stays_here, onward, rate_between, outgoing_expiry}
use Rattle.tenant_core.specs.State.{State, clock_of, extended, later, recorded}
use Rattle.tenant_core.specs.declared.hold.Hold.{Hold}
use Rattle.tenant_core.specs.declared.journal.DecideEntry.{DecideEntry}
use Rattle.tenant_core.specs.declared.journal.Entry.{Entry}
use Rattle.tenant_core.specs.declared.journal.Entry.TheVariants.{Decide, Answer, Tick, Change, Roll}
use Rattle.tenant_core.specs.declared.journal.Outcome.{Outcome}
use Rattle.tenant_core.specs.declared.journal.Outcome.TheVariants.{Packet}
use Rattle.tenant_core.specs.declared.journal.Record.{Record}
use Rattle.tenant_core.specs.declared.peer.Peer.{Peer}
use Rattle.tenant_core.specs.declared.verdict.RejectCode.{RejectCode}
use Rattle.tenant_core.specs.declared.verdict.RejectCode.TheVariants.{BadRequest, Unreachable, InvalidAmount, WrongCondition, AmountTooLarge, Busy}
use Rattle.tenant_core.specs.declared.verdict.RejectCode.TheVariants.{InsufficientLiquidity, RateLimited, InsufficientSource, InsufficientTimeout}
use Rattle.tenant_core.specs.declared.verdict.Verdict.{Verdict}
use Rattle.tenant_core.specs.declared.verdict.Verdict.TheVariants.{Refuse, Forward}
use Rattle.one_list.specs.History.{LeadTo, after_entry, after_record}
use Rattle.one_list.specs.Holds.{BeginsHold, begins_hold, holder, is_numbered}
use Rattle.one_list.specs.declared.step.Done.{Done}

-- ---- one record more

-- what a state's records leave of its holds
pub course_of : State → Course
course_of s = fold course_after (record { clock = s.opening.clock; holds = [] }) s.records

pub holds_pushed : (s : State) (r : Record)
    → holds_of (recorded s (Some r)) ≡ extended (map (hold_after (later (course_of s).clock r) r.entry r.outcome) (holds_of s)) (hold_begun r.entry r.outcome)
unfolding holds_of course_of
holds_pushed s r = ap (λ (c : Course). c.holds) (fold_push course_after (record { clock = s.opening.clock; holds = [] }) s.records r)

-- ---- verdicts: a packet goes on under the next number

abbrev Numbers : State → Verdict → Type 0
Numbers s v = (d : DecideEntry) (n : ℕ) → is_numbered n (begun_by d v) ≡ true → n ≡ next_hold s

refused : (s : State) (code : RejectCode) (amounts : Option (ℕ × ℕ)) → Numbers s (Refuse code amounts)
refused s code amounts d n is = absurd cc

forwarded : (s : State) (peer price expiry : ℕ) → Numbers s (Forward (next_hold s) peer price expiry)
forwarded s peer price expiry d n is = sym (eqb-true (next_hold s) n is)

check : (s : State) (b : Bool) (v w : Verdict) → Numbers s v → Numbers s w → Numbers s (cond b v w)
check s true v w p q = p
check s false v w p q = q

found : {A : Type 0} (s : State) (o : Option A) (v : Verdict) (f : A → Verdict) → Numbers s v → ((x : A) → Numbers s (f x)) → Numbers s ((o otherwise v) f)
found s None v f p q = p
found s (Some x) v f p q = q x

config : (s : State) (r : Result (Unit {0}) IldcpFault) → Numbers s (config_verdict r)
config s (Ok good) = λ d n is. absurd cc
config s (Err NotChild) = refused s BadRequest None
config s (Err Amount) = refused s InvalidAmount None
config s (Err Condition) = refused s WrongCondition None

module _ (s : State) (from : Peer) (way : Way) (rate : Fraction) (key : Key) (clock : ℕ) where
  abbrev expiry : ℕ
  expiry = outgoing_expiry s.opening key.expiry clock

  abbrev greatest : ℕ
  greatest = greatest_amount rate from.terms.limits.cap (way.peer.terms.limits.cap + way.fee)

  abbrev forward : ℕ → Verdict
  forward price = Forward (next_hold s) way.peer.number price expiry

  abbrev busy : ℕ → Verdict
  busy price = cond (nat_le max_holds (open_holds s)) (refuse Busy) (forward price)

  abbrev credit : ℕ → Verdict
  credit price = cond (is_over_credit s way.peer price) (refuse InsufficientLiquidity) (busy price)

  abbrev ceiling : ℕ → Verdict
  ceiling price = cond (is_over_ceiling s from key.amount) (refuse InsufficientLiquidity) (credit price)

  abbrev sooner : ℕ → Verdict
  sooner price = cond (nat_le expiry clock) (refuse InsufficientTimeout) (ceiling price)

  abbrev priced : ℕ → Verdict
  priced price = cond (nat_lt way.peer.terms.limits.cap price) (refuse_over key.amount greatest) (sooner price)

  numbers_priced : (price : ℕ) → Numbers s (priced price)
  numbers_priced price =
      check s (nat_lt way.peer.terms.limits.cap price) (refuse_over key.amount greatest) (sooner price) (refused s AmountTooLarge (Some (key.amount, greatest)))
      (check s (nat_le expiry clock) (refuse InsufficientTimeout) (ceiling price) (refused s InsufficientTimeout None)
      (check s (is_over_ceiling s from key.amount) (refuse InsufficientLiquidity) (credit price) (refused s InsufficientLiquidity None)
      (check s (is_over_credit s way.peer price) (refuse InsufficientLiquidity) (busy price) (refused s InsufficientLiquidity None)
      (check s (nat_le max_holds (open_holds s)) (refuse Busy) (forward price) (refused s Busy None) (forwarded s way.peer.number price expiry)))))

  numbers_at_rate : Numbers s (verdict_at_rate s from way rate key clock)
  numbers_at_rate = found s (price_less rate key.amount way.fee) (refuse InsufficientSource) (λ price. priced price) (refused s InsufficientSource None) numbers_priced

module _ (s : State) (from : Peer) (key : Key) (clock : ℕ) where
  abbrev rated : Way → Verdict
  rated way = (rate_between (network_of s) from.number way.peer.number otherwise refuse Unreachable) (λ rate. verdict_at_rate s from way rate key clock)

  abbrev routed : Verdict
  routed = (onward (network_of s) from.number key.destination otherwise refuse Unreachable) (λ way. rated way)

  abbrev capped : Verdict
  capped = cond (nat_lt from.terms.limits.cap key.amount) (refuse_over key.amount from.terms.limits.cap) routed

  abbrev here : Verdict
  here = cond (stays_here s.opening key.destination) (refuse Unreachable) capped

  abbrev configured : Verdict
  configured = cond (is_config key.destination) (config_verdict (checked_request from.terms.role key.amount key.condition)) here

  abbrev early : Verdict
  early = cond (nat_le key.expiry clock) (refuse InsufficientTimeout) configured

  numbers_rated : (way : Way) → Numbers s (rated way)
  numbers_rated way =
      found s (rate_between (network_of s) from.number way.peer.number) (refuse Unreachable) (λ rate. verdict_at_rate s from way rate key clock) (refused s Unreachable None)
      (λ rate. numbers_at_rate s from way rate key clock)

  numbers_routed : Numbers s routed
  numbers_routed = found s (onward (network_of s) from.number key.destination) (refuse Unreachable) (λ way. rated way) (refused s Unreachable None) numbers_rated

  numbers_for_sender : Numbers s (verdict_for_sender s from key clock)
  numbers_for_sender =
      check s (not (is_admitted (stretch_of s from) clock)) (refuse RateLimited) early (refused s RateLimited None)
      (check s (nat_le key.expiry clock) (refuse InsufficientTimeout) configured (refused s InsufficientTimeout None)
      (check s (is_config key.destination) (config_verdict (checked_request from.terms.role key.amount key.condition)) here (config s (checked_request from.terms.role key.amount key.condition))
      (check s (stays_here s.opening key.destination) (refuse Unreachable) capped (refused s Unreachable None)
      (check s (nat_lt from.terms.limits.cap key.amount) (refuse_over key.amount from.terms.limits.cap) routed (refused s AmountTooLarge (Some (key.amount, from.terms.limits.cap))) numbers_routed))))

-- ---- records

-- a record that begins a hold begins the next one
begins_next : (s : State) (r : Record) (n : ℕ) → IsMade s r → is_numbered n (hold_begun r.entry r.outcome) ≡ true → n ≡ next_hold s
begins_next s r n made begins = by r.entry r.outcome made begins
  where
    decided : (d : DecideEntry) (o : Outcome) (from : Option Peer) → option_map (λ (p : Peer). Packet (verdict_for_sender s p (key_entered d) (max (clock_of s) d.now))) from ≡ Some o
        → is_numbered n (hold_begun (Decide d) o) ≡ true → n ≡ next_hold s
    decided d o None is k = absurd cc
    decided d o (Some p) is k =
        let v : Verdict = verdict_for_sender s p (key_entered d) (max (clock_of s) d.now) in
        let same : Packet v ≡ o = cc in
        numbers_for_sender s p (key_entered d) (max (clock_of s) d.now) d n (subst (λ (x : Outcome). is_numbered n (hold_begun (Decide d) x) ≡ true) (sym same) k)

    roomy : (d : DecideEntry) (o : Outcome) (b : Bool)
        → cond b None (option_map (λ (p : Peer). Packet (verdict_for_sender s p (key_entered d) (max (clock_of s) d.now))) (peer_numbered d.peer (network_of s).peers)) ≡ Some o
        → is_numbered n (hold_begun (Decide d) o) ≡ true → n ≡ next_hold s
    roomy d o true is k = absurd cc
    roomy d o false is k = decided d o (peer_numbered d.peer (network_of s).peers) is k

    timely : (d : DecideEntry) (o : Outcome) (b : Bool) → cond b (decide_outcome s d) None ≡ Some o → is_numbered n (hold_begun (Decide d) o) ≡ true → n ≡ next_hold s
    timely d o true is k = roomy d o (is_full s || not (is_sayable (key_entered d))) is k
    timely d o false is k = absurd cc

    by : (e : Entry) (o : Outcome) → outcome_of s e ≡ Some o → is_numbered n (hold_begun e o) ≡ true → n ≡ next_hold s
    by (Decide d) o is k = timely d o (nat_le d.now last_moment) is k
    by (Answer a) o is k = absurd cc
    by (Tick t) o is k = absurd cc
    by (Change c) o is k = absurd cc
    by (Roll x) o is k = absurd cc

-- the next number only grows
next_after : (s : State) (r : Record) → next_hold s ≤ next_hold (recorded s (Some r))
next_after s r =
    let g : Hold → Hold = hold_after (later (course_of s).clock r) r.entry r.outcome in
    omega (arith, ap length (holds_pushed s r), longer (map g (holds_of s)) (hold_begun r.entry r.outcome), length-map (holds_of s) g)
  where
    longer : (hs : List Hold) (o : Option Hold) → length hs ≤ length (extended hs o)
    longer hs None = omega arith
    longer hs (Some h) = omega (arith, length-append hs (h ∷ []))

-- and is greater after a hold has begun
past : (s : State) (r : Record) (n : ℕ) → is_numbered n (hold_begun r.entry r.outcome) ≡ true → next_hold s < next_hold (recorded s (Some r))
past s r n begins =
    let g : Hold → Hold = hold_after (later (course_of s).clock r) r.entry r.outcome in
    omega (arith, ap length (holds_pushed s r), longer (map g (holds_of s)) (hold_begun r.entry r.outcome) begins, length-map (holds_of s) g)
  where
    longer : (hs : List Hold) (o : Option Hold) → is_numbered n o ≡ true → length hs < length (extended hs o)
    longer hs None is = absurd cc
    longer hs (Some h) is = omega (arith, length-append hs (h ∷ []))

-- ---- steps

-- a roll goes on with the next number
step_next : (s : State) (e : Done) → next_hold s ≤ next_hold (after_record s e.made)
unfolding holds_of
step_next s e = by e.made.entry
  where
    by : (x : Entry) → next_hold s ≤ next_hold (after_entry x s e.made)
    by (Decide d) = next_after s e.made
    by (Answer a) = next_after s e.made
    by (Tick t) = next_after s e.made
    by (Change c) = next_after s e.made
    by (Roll x) = omega arith

step_past : (s : State) (e : Done) (n : ℕ) → begins_hold n e ≡ true → next_hold s < next_hold (after_record s e.made)
step_past s e n begins = by e.made.entry e.made.outcome begins
  where
    by : (x : Entry) (o : Outcome) → is_numbered n (hold_begun x o) ≡ true → next_hold s < next_hold (after_entry x s e.made)
    by (Decide d) o is = past s e.made n begins
    by (Answer a) o is = absurd cc
    by (Tick t) o is = absurd cc
    by (Change c) o is = absurd cc
    by (Roll x) o is = absurd cc

-- the first step that begins the hold of a number is the one that does
first_begins : (s t : State) (earlier later : List Done) (e : Done) (n : ℕ) → LeadTo s (earlier ++ e ∷ later) t → BeginsHold n e
    → (find (begins_hold n) (earlier ++ e ∷ later) ≡ Some e) × (next_hold s ≤ n)
first_begins s t [] later e n led begins =
    (ap (λ b. cond b (Some e) (find (begins_hold n) later)) begins, let is : n ≡ next_hold s = begins_next s e.made n led.0.made begins in omega arith)
first_begins s t (x ∷ xs) later e n led begins =
    let rest = first_begins (after_record s x.made) t xs later e n led.1 begins in
    (by (begins_hold n x) refl rest, omega (arith, step_next s x, rest.1))
  where
    by : (b : Bool) → begins_hold n x ≡ b → (find (begins_hold n) (xs ++ e ∷ later) ≡ Some e) × (next_hold (after_record s x.made) ≤ n)
        → cond b (Some x) (find (begins_hold n) (xs ++ e ∷ later)) ≡ Some e
    by true is rest = absurd (let same : n ≡ next_hold s = begins_next s x.made n led.0.made is in omega (arith, step_past s x n is, rest.1))
    by false is rest = rest.0

-- so who sent its packet on is the worker of that step
pub held : (s t : State) (earlier later : List Done) (e : Done) (n : ℕ) → LeadTo s (earlier ++ e ∷ later) t → BeginsHold n e
    → holder n (earlier ++ e ∷ later) ≡ Some e.worker
held s t earlier later e n led begins = ap (option_map (λ (x : Done). x.worker)) (first_begins s t earlier later e n led begins).0
