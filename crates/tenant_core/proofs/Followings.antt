-- What an entry that is followed leads to is what the calls of a book say.
use Rattle.std.proofs.Common.{◌≡◌, ◌+◌, ℕ, List, true, false, refl, sym, ap, subst, ◌∙◌}
use Rattle.std.specs.Prelude.{◌==◌, not, Bool, cond, Option, Some, None, max, nat_le, nat_lt, option_map, Result, Ok, Err, IfOk, OnErr}
use Rattle.std.specs.Result.{result_ok}
use Rattle.std.specs.declared.alloc.AllocError.{AllocError}
use Rattle.std.specs.Str.{bytes_eq}
use Rattle.std.proofs.lemmas.Slice.Eq.{bytes_eq-Decides}
use Rattle.std.proofs.lemmas.Bool.{eqb-true}
use Rattle.ildcp_core.specs.declared.fault.IldcpFault.{IldcpFault}
use Rattle.ildcp_core.specs.declared.fault.IldcpFault.TheVariants.{NotChild, Amount, Condition}
use Rattle.money_core.specs.Fraction.{Fraction}
use Rattle.ildcp_core.specs.Request.{is_config, checked_request}
use Rattle.money_core.specs.Price.{price_less, greatest_amount}
use Rattle.rate_bucket.specs.Bucket.{is_admitted}
use Rattle.tenant_core.specs.Bucket.{stretch_of}
use Rattle.tenant_core.specs.Limits.{max_holds}
use Rattle.tenant_core.specs.Purse.{is_over_ceiling, is_over_credit}
use Rattle.tenant_core.specs.Answer.{has_no_place}
use Rattle.tenant_core.specs.Checks.{◌otherwise◌}
use Rattle.tenant_core.specs.Holds.{next_hold, open_holds}
use Rattle.tenant_core.specs.Judge.{judge, decided, decide_record, is_full, is_recorded, refuse, refuse_over, config_verdict, verdict_for_sender, verdict_at_rate}
use Rattle.tenant_core.specs.Key.{Key}
use Rattle.tenant_core.specs.Network.{Net, IsNetwork, peer_named, peer_numbered, peer_with_token}
use Rattle.tenant_core.specs.Orders.{IsOrdered, number_named, ordered, change_refusal, names_present, unless_refused}
use Rattle.tenant_core.specs.Present.{network_of}
use Rattle.tenant_core.specs.Reopening.{IsOrderFor, IsStep}
use Rattle.tenant_core.specs.Followed.{order_outcome}
use Rattle.tenant_core.specs.Replay.{is_sayable, key_entered, change_outcome, decide_outcome}
use Rattle.tenant_core.specs.Routing.{Way, onward, outgoing_expiry, rate_between, stays_here}
use Rattle.tenant_core.specs.State.{State, clock_of, recorded}
use Rattle.tenant_core.specs.declared.command.Order.{Order}
use Rattle.tenant_core.specs.declared.faults.CommandFault.{CommandFault}
use Rattle.tenant_core.specs.declared.faults.CommandFault.TheVariants.{Full, InUse, Present, Absent, Limit, Memory}
use Rattle.tenant_core.specs.declared.journal.Change.{Change as Changed}
use Rattle.tenant_core.specs.declared.journal.ChangeEntry.{ChangeEntry}
use Rattle.tenant_core.specs.declared.journal.DecideEntry.{DecideEntry}
use Rattle.tenant_core.specs.declared.journal.Entry.TheVariants.{Decide, Change}
use Rattle.tenant_core.specs.declared.journal.Outcome.TheVariants.{Packet, Done}
use Rattle.tenant_core.specs.declared.journal.Outcome.{Outcome}
use Rattle.tenant_core.specs.declared.peer.Peer.{Peer}
use Rattle.tenant_core.specs.declared.verdict.RejectCode.TheVariants.{Busy, InsufficientLiquidity, InsufficientSource, InsufficientTimeout, RateLimited, Unreachable}
use Rattle.tenant_core.specs.declared.verdict.Verdict.{Verdict}
use Rattle.tenant_core.specs.declared.verdict.Verdict.TheVariants.{Forward}
use Rattle.tenant_core.proofs.Courses.{find_passes}
use Rattle.tenant_core.proofs.Replays.{All-find}

-- ---- a packet's verdict is recorded

record IsTold (v : Verdict) : Type 0 where
  pub told : is_recorded v ≡ true

checked : (b : Bool) (v w : Verdict) → IsTold v → IsTold w → IsTold (cond b v w)
checked true v w first second = first
checked false v w first second = second

searched : {A : Type 0} (o : Option A) (v : Verdict) (f : A → Verdict) → IsTold v → ((x : A) → IsTold (f x)) → IsTold ((o otherwise v) f)
searched None v f first second = first
searched (Some x) v f first second = second x

told : (v : Verdict) → is_recorded v ≡ true → IsTold v
told v e = record { told = e }

configured : (r : Result (Unit {0}) IldcpFault) → IsTold (config_verdict r)
configured (Ok good) = record { told = refl }
configured (Err NotChild) = record { told = refl }
configured (Err Amount) = record { told = refl }
configured (Err Condition) = record { told = refl }

at_rate : (s : State) (from : Peer) (way : Way) (rate : Fraction) (key : Key) (clock : ℕ) → IsTold (verdict_at_rate s from way rate key clock)
at_rate s from way rate key clock =
    let to : Peer = way.peer in
    let expiry : ℕ = outgoing_expiry s.opening key.expiry clock in
    let greatest : ℕ = greatest_amount rate from.terms.limits.cap (to.terms.limits.cap + way.fee) in
    searched (price_less rate key.amount way.fee) (refuse InsufficientSource) _ (told _ refl) (λ price.
    checked (nat_lt to.terms.limits.cap price) (refuse_over key.amount greatest) _ (told _ refl)
    (checked (nat_le expiry clock) (refuse InsufficientTimeout) _ (told _ refl)
    (checked (is_over_ceiling s from key.amount) (refuse InsufficientLiquidity) _ (told _ refl)
    (checked (is_over_credit s to price) (refuse InsufficientLiquidity) _ (told _ refl)
    (checked (nat_le max_holds (open_holds s)) (refuse Busy) (Forward (next_hold s) to.number price expiry) (told _ refl) (told _ refl))))))

for_sender : (s : State) (from : Peer) (key : Key) (clock : ℕ) → IsTold (verdict_for_sender s from key clock)
for_sender s from key clock =
    checked (not (is_admitted (stretch_of s from) clock)) (refuse RateLimited) _ (told _ refl)
    (checked (nat_le key.expiry clock) (refuse InsufficientTimeout) _ (told _ refl)
    (checked (is_config key.destination) (config_verdict (checked_request from.terms.role key.amount key.condition)) _ (configured (checked_request from.terms.role key.amount key.condition))
    (checked (stays_here s.opening key.destination) (refuse Unreachable) _ (told _ refl)
    (checked (nat_lt from.terms.limits.cap key.amount) (refuse_over key.amount from.terms.limits.cap) _ (told _ refl)
    (searched (onward (network_of s) from.number key.destination) (refuse Unreachable) _ (told _ refl) (λ way.
    searched (rate_between (network_of s) from.number way.peer.number) (refuse Unreachable) _ (told _ refl) (λ rate.
    at_rate s from way rate key clock)))))))

pub verdict_recorded : (s : State) (from : Peer) (key : Key) (clock : ℕ) → is_recorded (verdict_for_sender s from key clock) ≡ true
verdict_recorded s from key clock = (for_sender s from key clock).told

-- ---- packets

pub decided_follows : (s : State) (d : DecideEntry) (p : Peer) → IsNetwork (network_of s) → peer_numbered d.peer (network_of s).peers ≡ Some p
    → is_full s ≡ false → is_sayable (key_entered d) ≡ true
    → IsStep s (decided s p.terms.token (key_entered d) d.now) (Decide d) (Some (Packet (judge s p.terms.token (key_entered d) d.now)))
decided_follows s d p net found room sayable =
    let key : Key = key_entered d in
    let v : Verdict = verdict_for_sender s p key (max (clock_of s) d.now) in
    let shown : peer_with_token p.terms.token (network_of s).peers ≡ Some p =
    All-find (λ q. peer_with_token q.terms.token (network_of s).peers ≡ Some q) (λ q. q.number == d.peer) (network_of s).peers p net.tokens found in
    let same : p.number ≡ d.peer = eqb-true p.number d.peer (find_passes (λ q. q.number == d.peer) (network_of s).peers p found) in
    let judged : judge s p.terms.token key d.now ≡ v = rw (shown, room) refl in
    let told : is_recorded v ≡ true = verdict_recorded s p key (max (clock_of s) d.now) in
    let made : decided s p.terms.token key d.now ≡ recorded s (Some (decide_record p.number key d.now v)) = rw (shown, room, told) refl in
    let comes : decide_outcome s d ≡ Some (Packet v) = rw (room, sayable, found) refl in (
      ap (λ (x : Verdict). Some (Packet x)) judged ∙ sym comes,
      made ∙ (ap (λ (n : ℕ). recorded s (Some (decide_record n key d.now v))) same
          ∙ ap (λ (x : Verdict). recorded s (Some (record { entry = Decide d; outcome = Packet x }))) (sym judged)),
    )

-- ---- names

-- a peer's number is found by its name
pub name_back : (net : Net) (n : ℕ) (p : Peer) → IsNetwork net → peer_numbered n net.peers ≡ Some p → number_named net p.terms.name ≡ Some n
name_back net n p is found =
    let named : peer_named p.terms.name net.peers ≡ Some p =
    All-find (λ q. peer_named q.terms.name net.peers ≡ Some q) (λ q. q.number == n) net.peers p is.names found in
    let same : p.number ≡ n = eqb-true p.number n (find_passes (λ q. q.number == n) net.peers p found) in
    ap (λ o. option_map (λ (q : Peer). q.number) o) named ∙ ap Some same

-- one name has one number
pub one_number : (net : Net) (a b : List ℕ) (n m : ℕ) → bytes_eq a b ≡ true → number_named net a ≡ Some n → number_named net b ≡ Some m → n ≡ m
one_number net a b n m same first second =
    let one : a ≡ b = (bytes_eq-Decides a b).0 same in
    let both : (Some n) ≡ (Some m) = sym first ∙ (ap (number_named net) one ∙ second) in
    cc

-- ---- changes

-- what was told of the entry of a change, and the state after it
abbrev pub Came : State → ChangeEntry → Option (Option Outcome) → State → Type 0
Came s c None after = after ≡ s
Came s c (Some o) after = IsStep s after (Change c) o

nothing_came : (s after : State) (c : ChangeEntry) (given : CommandFault) → None ≡ change_outcome s c → after ≡ s
    → Came s c (order_outcome (Err given)) after
nothing_came s after c Full none same = (none, same)
nothing_came s after c InUse none same = (none, same)
nothing_came s after c Present none same = (none, same)
nothing_came s after c Absent none same = (none, same)
nothing_came s after c Limit none same = (none, same)
nothing_came s after c Memory none same = same

refused_came : (s after : State) (c : ChangeEntry) (done : Result (Unit {0}) CommandFault) (fault : CommandFault) → None ≡ change_outcome s c
    → IsOrdered done (Err fault) s after c.now → Came s c (order_outcome done) after
refused_came s after c (Ok done) fault none is = absurd is
refused_came s after c (Err Full) fault none is = nothing_came s after c Full none is.1
refused_came s after c (Err InUse) fault none is = nothing_came s after c InUse none is.1
refused_came s after c (Err Present) fault none is = nothing_came s after c Present none is.1
refused_came s after c (Err Absent) fault none is = nothing_came s after c Absent none is.1
refused_came s after c (Err Limit) fault none is = nothing_came s after c Limit none is.1
refused_came s after c (Err Memory) fault none is = nothing_came s after c Memory none is.1

made_came : (s after : State) (c : ChangeEntry) (done : Result (Unit {0}) CommandFault) → Some Done ≡ change_outcome s c
    → IsOrdered done (Ok c.change) s after c.now → Came s c (order_outcome done) after
made_came s after c (Ok done) some is = (some, is)
made_came s after c (Err Full) some is = absurd is
made_came s after c (Err InUse) some is = absurd is
made_came s after c (Err Present) some is = absurd is
made_came s after c (Err Absent) some is = absurd is
made_came s after c (Err Limit) some is = absurd is
made_came s after c (Err Memory) some is = is

allowed_came : (s after : State) (c : ChangeEntry) (done : Result (Unit {0}) CommandFault) (refusal : Option CommandFault)
    → has_no_place s ≡ false → names_present (network_of s) c.change ≡ true → change_refusal s (network_of s) c.change ≡ refusal
    → IsOrdered done (unless_refused c.change refusal) s after c.now → Came s c (order_outcome done) after
allowed_came s after c done None room there e is = made_came s after c done (rw (room, there, e) refl) is
allowed_came s after c done (Some fault) room there e is = refused_came s after c done fault (rw (room, there, e) refl) is

-- what comes of an order for a change comes of the entry of that change
pub order_came : (s after : State) (c : ChangeEntry) (order : Order) (done : Result (Unit {0}) CommandFault)
    → IsOrderFor (network_of s) c.change (Some order) → IsOrdered done (ordered s order) s after c.now → Came s c (order_outcome done) after
order_came s after c order done for is = by (has_no_place s) refl
  where
    by : (full : Bool) → has_no_place s ≡ full → Came s c (order_outcome done) after
    by true e =
        let shape : ordered s order ≡ Err Full = rw e refl in
        refused_came s after c done Full (rw e refl) (subst (λ (x : Result Changed CommandFault). IsOrdered done x s after c.now) shape is)
    by false e =
        let shape : ordered s order ≡ unless_refused c.change (change_refusal s (network_of s) c.change) = rw (e, for.1) refl in
        allowed_came s after c done (change_refusal s (network_of s) c.change) e for.0 refl
        (subst (λ (x : Result Changed CommandFault). IsOrdered done x s after c.now) shape is)

pub followed_by : (s after : State) (c : ChangeEntry) (given : Option (Option Outcome)) (r : Result (Option Outcome) AllocError)
    → result_ok r ≡ given → Came s c given after → IfOk r (IsStep s after (Change c)) × OnErr r (after ≡ s)
followed_by s after c given (Ok o) is came = (subst (λ (x : Option (Option Outcome)). Came s c x after) (sym is) came, tt)
followed_by s after c given (Err e) is came = (tt, subst (λ (x : Option (Option Outcome)). Came s c x after) (sym is) came)
