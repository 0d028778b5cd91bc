-- A book keeps what its type says, one record more.
use Rattle.std.proofs.Common.{◌≡◌, ℕ, ◌+◌, ◌≤◌, List, length, map, arith, refl, sym, ap, subst, ◌∙◌, le_of_eq}
use Rattle.ilp_addr.specs.Timestamp.{last_moment}
use Rattle.std.specs.Prelude.{Option, Some, None, option_map, find, max, count_by, ◌&&◌, true, false}
use Rattle.std.proofs.lemmas.List.{length_push, length-map}
use Rattle.std.proofs.lemmas.List.Sums.{fold_push}
use Rattle.tenant_core.specs.declared.book.Book.TheInside.{Inside}
use Rattle.tenant_core.specs.declared.hold.Hold.{Hold}
use Rattle.tenant_core.specs.declared.journal.AnswerKey.{AnswerKey}
use Rattle.tenant_core.specs.declared.journal.Record.{Record}
use Rattle.tenant_core.specs.declared.opening.Opening.{Opening}
use Rattle.tenant_core.specs.declared.peer.Peer.{Peer}
use Rattle.tenant_core.specs.declared.verdict.Verdict.{Verdict}
use Rattle.tenant_core.specs.Answer.{settle_answer, answer_record, tick_record, tick_count, has_no_place}
use Rattle.tenant_core.specs.Holds.{holds_of, is_open_under, is_overdue, is_fulfill, is_relay, hold_ended, hold_ticked, begun_by}
use Rattle.tenant_core.specs.Called.{is_answer}
use Rattle.tenant_core.specs.declared.command.Order.{Order}
use Rattle.tenant_core.specs.Judge.{decide_entry, decide_record, is_full, is_recorded, verdict_for_sender}
use Rattle.tenant_core.specs.Journals.{Recorded, with_record}
use Rattle.tenant_core.specs.Kept.{state_of, BookInvariant}
use Rattle.tenant_core.specs.declared.journal.Change.{Change as Changed}
use Rattle.tenant_core.specs.Orders.{change_of, change_record, change_refusal, names_present}
use Rattle.tenant_core.specs.Key.{Key}
use Rattle.tenant_core.specs.Sound.{IsSound}
use Rattle.tenant_core.specs.Network.{Net, IsNetwork, peer_with_token, peer_numbered}
use Rattle.tenant_core.specs.Present.{network_of, net_after}
use Rattle.tenant_core.specs.Reopening.{opening_fault}
use Rattle.tenant_core.specs.Replay.{is_sayable}
use Rattle.tenant_core.specs.Called.{IsOfBytes}
use Rattle.tenant_core.specs.State.{State, clock_of, is_of, later, extended, recorded}
use Rattle.std.specs.Prelude.{pos, ◌+ℤ◌, ◌-ℤ◌, ◌<◌, All, sum_by, not}
use Rattle.std.specs.List.{slice_get}
use Rattle.std.proofs.Common.{add-zero}
use Rattle.std.proofs.lemmas.List.Elements.{All-push, All-map}
use Rattle.std.proofs.lemmas.List.Sums.{sum_by_push}
use Rattle.money_core.specs.Account.{Account}
use Rattle.rate_bucket.specs.Bucket.{is_admitted}
use Rattle.rate_bucket.specs.Running.{Level, RunningLaws}
use Rattle.tenant_core.specs.Bucket.{admits, is_limited, stretch_of}
use Rattle.tenant_core.specs.ChangedAt.{changed_at}
use Rattle.tenant_core.specs.Following.{charged}
use Rattle.tenant_core.specs.Purse.{settled_in, settled_out, taken_from, taken_for}
use Rattle.tenant_core.specs.Running.{purse_by, purse_of, AreLevels, IsNamed, CanHold}
use Rattle.money_core.specs.Account.{is_past_ceiling, is_past_credit}
use Rattle.tenant_core.specs.Standing.{CanGoOn}
use Rattle.tenant_core.specs.HoldTables.{Table}
use Rattle.std.specs.Prelude.{Vec}
use Rattle.std.specs.declared.alloc.Global.{Global}
use Rattle.tenant_core.specs.declared.hold.Fate.TheVariants.{Held}
use Rattle.tenant_core.specs.declared.verdict.Verdict.TheVariants.{Unknown, NoRoom, Refuse, Fulfil, Forward, Relay}
use Rattle.tenant_core.proofs.ChangedLists.{map-same, place_found_is, found_below, read_below, read_passes}
use Rattle.tenant_core.proofs.Levels.{levels_charged, levels_stay}
use Rattle.tenant_core.proofs.Purses.{base_after}
use Rattle.tenant_core.proofs.Courses.{holds_of-decide, holds_of-answer, holds_of-tick, holds_of-change}
use Rattle.tenant_core.proofs.Presents.{network_of-recorded, network_of-decide, network_of-answer, network_of-tick}
use Rattle.tenant_core.proofs.Soundness.{decided_sound, answered_sound, ticked_sound, changed_sound}

-- what a book keeps of another one, with a record more
pub record Follows (b c : Inside) (r : Record) : Type 0 where
  pub opening : c.opening ≡ b.opening
  pub journal : c.journal ≡ with_record r b.journal
  pub holds_room : c.holds.room ≡ b.holds.room
  pub clock : c.clock ≡ later b.clock r
  pub network : c.network ≡ net_after (state_of b) b.network (later b.clock r) r.entry

-- its holds are those of the state with that record
record HoldsFollow (b c : Inside) (r : Record) : Type 0 where
  few : length c.holds.holds ≤ length b.holds.holds + 1
  holds : c.holds.holds ≡ holds_of (recorded (state_of b) (Some r))

-- and so are its purses and its buckets
pub record RunningFollows (b c : Inside) (r : Record) : Type 0 where
  pub purses : c.purses.items ≡ map (purse_of (recorded (state_of b) (Some r))) (network_of (recorded (state_of b) (Some r))).peers
  pub buckets : AreLevels (recorded (state_of b) (Some r)) (network_of (recorded (state_of b) (Some r))).peers c.buckets.items
  pub named : IsNamed (recorded (state_of b) (Some r))

state_after : (b c : Inside) (r : Record) → Follows b c r → state_of c ≡ recorded (state_of b) (Some r)
state_after b c r f =
    ap (λ (o : Opening). record { opening = o; records = c.journal.records }) f.opening
    ∙ ap (λ (j : Recorded). record { opening = b.opening; records = j.records }) f.journal

network_follows : (b c : Inside) (r : Record) → BookInvariant b → Follows b c r → c.network ≡ network_of (recorded (state_of b) (Some r))
network_follows b c r k f =
    let s : State = state_of b in
    f.network
    ∙ (ap (λ (x : Net). net_after s x (later b.clock r) r.entry) k.network
    ∙ (ap (λ n. net_after s (network_of s) (later n r) r.entry) k.clock ∙ sym (network_of-recorded s r)))

kept : (b c : Inside) (r : Record) → BookInvariant b → Follows b c r → HoldsFollow b c r → RunningFollows b c r → IsSound (recorded (state_of b) (Some r)) → BookInvariant c
kept b c r k f h run sound =
    let is = state_after b c r f in
    let clock : c.clock ≡ clock_of (recorded (state_of b) (Some r)) =
    f.clock ∙ (ap (λ n. later n r) k.clock ∙ sym (fold_push later b.opening.clock b.journal.records r)) in
    let network = network_follows b c r k f in
    let longer : length c.journal.records ≡ length b.journal.records + 1 =
    ap (λ (j : Recorded). length j.records) f.journal ∙ length_push b.journal.records r in
    let places : c.journal.places ≡ b.journal.places = ap (λ (j : Recorded). j.places) f.journal in
    let journal : c.opening.journal ≡ b.opening.journal = ap (λ (o : Opening). o.journal) f.opening in
    let r1 = k.room in
    let r2 = k.holds_room in
    let r4 = f.holds_room in
    let r5 = h.few in
    let r6 = k.few in
    record {
      room = omega arith;
      holds_room = omega arith;
      few = omega arith;
      clock = clock ∙ ap clock_of (sym is);
      network = network ∙ ap network_of (sym is);
      holds = h.holds ∙ ap holds_of (sym is);
      purses = run.purses ∙ ap (λ (t : State). map (purse_of t) (network_of t).peers) (sym is);
      buckets = subst (λ (t : State). AreLevels t (network_of t).peers c.buckets.items) (sym is) run.buckets;
      named = subst (λ (t : State). IsNamed t) (sym is) run.named;
      begins = ap opening_fault f.opening ∙ k.begins;
      sound = subst (λ (t : State). IsSound t) (sym is) sound;
    }

-- ---- while a call is at work

-- the purses, by the holds and the peers that are kept
pub purses_here : (b : Inside) → BookInvariant b → b.purses.items ≡ map (purse_by (state_of b) b.holds.holds) b.network.peers
purses_here b k =
    let s : State = state_of b in
    k.purses
    ∙ (ap (λ (hs : List Hold). map (purse_by s hs) (network_of s).peers) (sym k.holds)
    ∙ ap (λ (n : Net). map (purse_by s b.holds.holds) n.peers) (sym k.network))

-- what may be held, by them
pub can_hold_here : (b : Inside) → BookInvariant b → (o : Option Hold)
    → CanHold (state_of b) (holds_of (state_of b)) (network_of (state_of b)).peers o → CanHold (state_of b) b.holds.holds b.network.peers o
can_hold_here b k o can =
    subst (λ (n : Net). CanHold (state_of b) b.holds.holds n.peers o) (sym k.network)
    (subst (λ (hs : List Hold). CanHold (state_of b) hs (network_of (state_of b)).peers o) (sym k.holds) can)

-- a packet that goes on may be held
pub can_hold : (s : State) (from : Peer) (place : ℕ) (key : Key) (now : ℕ) (v : Verdict) → IsNetwork (network_of s) → slice_get (network_of s).peers place ≡ Some from
    → CanGoOn s from key.amount v → CanHold s (holds_of s) (network_of s).peers (begun_by (decide_entry from.number key now) v)
can_hold s from place key now Unknown net stands can = tt
can_hold s from place key now NoRoom net stands can = tt
can_hold s from place key now (Refuse code amounts) net stands can = tt
can_hold s from place key now Fulfil net stands can = tt
can_hold s from place key now Relay net stands can = tt
can_hold s from place key now (Forward hold peer price expiry) net stands can = (
  (λ p found.
      let mine : peer_numbered from.number (network_of s).peers ≡ Some from = read_passes (network_of s).peers place from net.numbers stands in
      let both : Some from ≡ Some p = sym mine ∙ found in
      let one : from ≡ p = cc in
      subst (λ q. is_past_ceiling (purse_of s q) key.amount ≡ false) one can.1.1),
  (λ p found.
      let both : Some can.0 ≡ Some p = sym can.1.0 ∙ found in
      let one : can.0 ≡ p = cc in
      subst (λ q. is_past_credit (purse_of s q) price ≡ false) one can.1.2),
  can.1.3,
  refl,
)

pub mapped : {A B : Type 0} (f : A → B) (o : Option A) (v : B) → Some v ≡ option_map f o → (x : A) × (o ≡ Some x) × (v ≡ f x)
mapped f None v e = absurd cc
mapped f (Some x) v e = (x, refl, cc)

-- a record that settles nothing leaves each purse, as far as the holds stay
purses_stay : (s : State) (r : Record) (hs : List Hold) (peers : List Peer) → ((n : ℕ) → settled_in n r ≡ 0) → ((n : ℕ) → settled_out n r ≡ 0)
    → network_of (recorded s (Some r)) ≡ network_of s → holds_of (recorded s (Some r)) ≡ hs → peers ≡ (network_of s).peers
    → map (purse_by s hs) peers ≡ map (purse_of (recorded s (Some r))) (network_of (recorded s (Some r))).peers
purses_stay s r hs peers i o net holds is =
    let t : State = recorded s (Some r) in
    map-same (purse_by s hs) (purse_by t hs) peers (λ k p at. ap (λ b. let a : Account = record (purse_by s hs p) { balance = (b +ℤ pos (sum_by (taken_from p.number) hs)) -ℤ pos (sum_by (taken_for p.number) hs) } in a) (sym (base_after s r p.number (i p.number) (o p.number))))
    ∙ (ap (λ (ks : List Hold). map (purse_by t ks) peers) (sym holds)
    ∙ ap (map (purse_of t)) (is ∙ ap (λ (n : Net). n.peers) (sym net)))

-- a record that settles nothing names no number that was not given, if its holds don't
named_stays : (s : State) (r : Record) → ((n : ℕ) → settled_in n r ≡ 0) → ((n : ℕ) → settled_out n r ≡ 0)
    → network_of (recorded s (Some r)) ≡ network_of s
    → All (λ h. (h.from < (network_of s).next_peer) × (h.to < (network_of s).next_peer)) (holds_of (recorded s (Some r)))
    → IsNamed s → IsNamed (recorded s (Some r))
named_stays s r i o net holds is =
    let next : (network_of s).next_peer ≡ (network_of (recorded s (Some r))).next_peer = ap (λ (n : Net). n.next_peer) (sym net) in
    record {
      opening = subst (λ n. s.opening.network.next_peer ≤ n) next is.opening;
      opened = is.opened;
      holds = subst (λ n. All (λ h. (h.from < n) × (h.to < n)) (holds_of (recorded s (Some r)))) next holds;
      paid = λ n late. sum_by_push (settled_in n) s.records r ∙ (ap (λ k. sum_by (settled_in n) s.records + k) (i n) ∙ (add-zero (sum_by (settled_in n) s.records) ∙ is.paid n (subst (λ m. m ≤ n) (sym next) late)));
      got = λ n late. sum_by_push (settled_out n) s.records r ∙ (ap (λ k. sum_by (settled_out n) s.records + k) (o n) ∙ (add-zero (sum_by (settled_out n) s.records) ∙ is.got n (subst (λ m. m ≤ n) (sym next) late)));
    }

-- what runs in a book goes on by a record that settles nothing and charges no bucket, where each hold stays between its peers
stays_running : (b c : Inside) (r : Record) (change : Hold → Hold) → BookInvariant b → ((n : ℕ) → settled_in n r ≡ 0) → ((n : ℕ) → settled_out n r ≡ 0)
    → ((n : ℕ) → (is_of n r.entry && admits r.outcome) ≡ false) → network_of (recorded (state_of b) (Some r)) ≡ network_of (state_of b)
    → holds_of (recorded (state_of b) (Some r)) ≡ map change (holds_of (state_of b))
    → All (λ x. ((change x).from < (network_of (state_of b)).next_peer) × ((change x).to < (network_of (state_of b)).next_peer)) (holds_of (state_of b))
    → c.holds.holds ≡ holds_of (recorded (state_of b) (Some r)) → c.purses.items ≡ map (purse_by (state_of b) c.holds.holds) b.network.peers
    → c.buckets.items ≡ b.buckets.items → RunningFollows b c r
stays_running b c r change k no_in no_out none net after among holds moved same =
    let s : State = state_of b in
    record {
      purses = moved ∙ purses_stay s r c.holds.holds b.network.peers no_in no_out net (sym holds) (ap (λ (x : Net). x.peers) k.network);
      buckets = subst (λ (ls : List Level). AreLevels (recorded s (Some r)) (network_of (recorded s (Some r))).peers ls) (sym same)
          (subst (λ (x : Net). AreLevels (recorded s (Some r)) x.peers b.buckets.items) (sym net) (levels_stay s r (network_of s).peers b.buckets.items none k.buckets));
      named = named_stays s r no_in no_out net
          (subst (λ (hs : List Hold). All (λ x. (x.from < (network_of s).next_peer) × (x.to < (network_of s).next_peer)) hs) (sym after)
          (All-map (λ (x : Hold). (x.from < (network_of s).next_peer) × (x.to < (network_of s).next_peer)) change (holds_of s) among)) k.named;
    }

pub answered_kept : (b c : Inside) (n now clock : ℕ) (key : AnswerKey) (v : Verdict) → BookInvariant b → is_answer key ≡ true → now ≤ last_moment → clock ≡ max b.clock now
    → Follows b c (answer_record n now key v)
    → Some v ≡ option_map (λ h. settle_answer h clock key) (find (is_open_under n) b.holds.holds)
    → c.holds.holds ≡ map (hold_ended n (is_fulfill key && is_relay v)) b.holds.holds
    → c.purses.items ≡ map (purse_by (state_of b) c.holds.holds) b.network.peers
    → c.buckets.items ≡ b.buckets.items → BookInvariant c
answered_kept b c n now clock key v k answer early at f settled ended moved same =
    let s : State = state_of b in
    let r : Record = answer_record n now key v in
    let found = mapped (λ h. settle_answer h clock key) (find (is_open_under n) b.holds.holds) v settled in
    let h : Hold = found.0 in
    let is : find (is_open_under n) (holds_of s) ≡ Some h = ap (find (is_open_under n)) (sym k.holds) ∙ found.1 in
    let clock_is : clock ≡ max (clock_of s) now = at ∙ ap (λ x. max x now) k.clock in
    let verdict : v ≡ settle_answer h (max (clock_of s) now) key = found.2 ∙ ap (λ x. settle_answer h x key) clock_is in
    let sound : IsSound (recorded s (Some r)) =
    subst (λ (w : Verdict). IsSound (recorded s (Some (answer_record n now key w)))) (sym verdict) (answered_sound s n now key h k.sound is answer early) in
    let after : holds_of (recorded s (Some r)) ≡ map (hold_ended n (is_fulfill key && is_relay v)) (holds_of s) = holds_of-answer s n now key v in
    let holds : c.holds.holds ≡ holds_of (recorded s (Some r)) =
    ended ∙ (ap (map (hold_ended n (is_fulfill key && is_relay v))) k.holds ∙ sym after) in
    let long : length c.holds.holds ≡ length b.holds.holds = ap length ended ∙ length-map b.holds.holds (hold_ended n (is_fulfill key && is_relay v)) in
    let net = network_of-answer s n now key v in
    let run = stays_running b c r (hold_ended n (is_fulfill key && is_relay v)) k (λ m. refl) (λ m. refl) (λ m. refl) net after k.named.holds holds moved same in
    kept b c r k f (record { few = omega arith; holds = holds }) run sound

length-extended : {A : Type 0} (xs : List A) (o : Option A) → length (extended xs o) ≤ length xs + 1
length-extended xs None = omega arith
length-extended xs (Some x) = le_of_eq (length_push xs x)

-- the hold that begins names peers that are there
begun_named : (s : State) (from : Peer) (key : Key) (now : ℕ) (v : Verdict) → IsNetwork (network_of s) → from.number < (network_of s).next_peer
    → CanGoOn s from key.amount v → All (λ h. (h.from < (network_of s).next_peer) × (h.to < (network_of s).next_peer)) (holds_of s)
    → All (λ h. (h.from < (network_of s).next_peer) × (h.to < (network_of s).next_peer)) (extended (holds_of s) (begun_by (decide_entry from.number key now) v))
begun_named s from key now Unknown net known can all = all
begun_named s from key now NoRoom net known can all = all
begun_named s from key now (Refuse code amounts) net known can all = all
begun_named s from key now Fulfil net known can all = all
begun_named s from key now Relay net known can all = all
begun_named s from key now (Forward hold peer price expiry) net known can all =
    let h : Hold = record { number = hold; from = from.number; to = peer; amount = key.amount; price = price; expiry = expiry; condition = key.condition; fate = Held } in
    All-push (λ (x : Hold). (x.from < (network_of s).next_peer) × (x.to < (network_of s).next_peer)) (holds_of s) h all
    (known, found_below peer (network_of s).peers (network_of s).next_peer can.0 net.next can.1.0)

pub decided_kept : (laws : RunningLaws) (b c : Inside) (token : List ℕ) (key : Key) (now clock place : ℕ) (from : Peer) (v : Verdict) → BookInvariant b → now ≤ last_moment → clock ≡ max b.clock now
    → IsNetwork (network_of (state_of b))
    → peer_with_token token (network_of (state_of b)).peers ≡ Some from → slice_get (network_of (state_of b)).peers place ≡ Some from → is_full (state_of b) ≡ false
    → is_sayable key ≡ true → IsOfBytes key → v ≡ verdict_for_sender (state_of b) from key clock → is_recorded v ≡ true
    → is_limited v ≡ not (is_admitted (stretch_of (state_of b) from) clock) → CanGoOn (state_of b) from key.amount v
    → Follows b c (decide_record from.number key now v)
    → c.holds.holds ≡ extended b.holds.holds (begun_by (decide_entry from.number key now) v)
    → c.purses.items ≡ map (purse_by (state_of b) c.holds.holds) b.network.peers
    → c.buckets.items ≡ changed_at (charged clock) b.buckets.items place → BookInvariant c
decided_kept laws b c token key now clock place from v k early at network is stands room sayable octets verdict told limited can f begun moved charges =
    let s : State = state_of b in
    let r : Record = decide_record from.number key now v in
    let clock_is : clock ≡ max (clock_of s) now = at ∙ ap (λ x. max x now) k.clock in
    let sure : v ≡ verdict_for_sender s from key (max (clock_of s) now) = verdict ∙ ap (verdict_for_sender s from key) clock_is in
    let sound : IsSound (recorded s (Some r)) =
    subst (λ (w : Verdict). IsSound (recorded s (Some (decide_record from.number key now w)))) (sym sure) (decided_sound s token key now from k.sound is room sayable octets early (ap is_recorded (sym sure) ∙ told)) in
    let after : holds_of (recorded s (Some r)) ≡ extended (holds_of s) (begun_by (decide_entry from.number key now) v) = holds_of-decide s from.number key now v in
    let holds : c.holds.holds ≡ holds_of (recorded s (Some r)) =
    begun ∙ (ap (λ hs. extended hs (begun_by (decide_entry from.number key now) v)) k.holds ∙ sym after) in
    let longer = length-extended b.holds.holds (begun_by (decide_entry from.number key now) v) in
    let long : length c.holds.holds ≡ length (extended b.holds.holds (begun_by (decide_entry from.number key now) v)) = ap length begun in
    let net = network_of-decide s from.number key now v in
    let limited_is : is_limited v ≡ not (is_admitted (stretch_of s from) (max (clock_of s) now)) = limited ∙ ap (λ x. not (is_admitted (stretch_of s from) x)) clock_is in
    let known : from.number < (network_of s).next_peer = read_below (network_of s).peers (network_of s).next_peer place from network.next stands in
    let charged_is : c.buckets.items ≡ changed_at (charged (max (clock_of s) now)) b.buckets.items place = charges ∙ ap (λ x. changed_at (charged x) b.buckets.items place) clock_is in
    let levels = levels_charged laws s key now v (network_of s).peers b.buckets.items place from stands (place_found_is (network_of s) place from network stands) limited_is k.buckets in
    let run : RunningFollows b c r = record {
      purses = moved ∙ purses_stay s r c.holds.holds b.network.peers (λ m. refl) (λ m. refl) net (sym holds) (ap (λ (x : Net). x.peers) k.network);
      buckets = subst (λ (ls : List Level). AreLevels (recorded s (Some r)) (network_of (recorded s (Some r))).peers ls) (sym charged_is)
          (subst (λ (x : Net). AreLevels (recorded s (Some r)) x.peers (changed_at (charged (max (clock_of s) now)) b.buckets.items place)) (sym net) levels);
      named = named_stays s r (λ m. refl) (λ m. refl) net
          (subst (λ (hs : List Hold). All (λ x. (x.from < (network_of s).next_peer) × (x.to < (network_of s).next_peer)) hs) (sym after) (begun_named s from key now v network known can k.named.holds)) k.named;
    } in
    kept b c r k f (record { few = omega arith; holds = holds }) run sound

pub ticked_kept : (b c : Inside) (now clock count : ℕ) → BookInvariant b → now ≤ last_moment → clock ≡ max b.clock now
    → has_no_place (state_of b) ≡ false
    → count ≡ count_by (is_overdue clock) b.holds.holds
    → Follows b c (tick_record now count)
    → c.holds.holds ≡ map (hold_ticked clock) b.holds.holds
    → c.purses.items ≡ map (purse_by (state_of b) c.holds.holds) b.network.peers
    → c.buckets.items ≡ b.buckets.items → BookInvariant c
ticked_kept b c now clock count k early at room counted f marked moved same =
    let s : State = state_of b in
    let r : Record = tick_record now count in
    let clock_is : clock ≡ max (clock_of s) now = at ∙ ap (λ x. max x now) k.clock in
    let sure : count ≡ tick_count s (max (clock_of s) now) = counted ∙ (ap (count_by (is_overdue clock)) k.holds ∙ ap (tick_count s) clock_is) in
    let sound : IsSound (recorded s (Some r)) =
    subst (λ n. IsSound (recorded s (Some (tick_record now n)))) (sym sure) (ticked_sound s now k.sound room early) in
    let after : holds_of (recorded s (Some r)) ≡ map (hold_ticked (max (clock_of s) now)) (holds_of s) = holds_of-tick s now count in
    let here : map (hold_ticked clock) b.holds.holds ≡ map (hold_ticked (max (clock_of s) now)) (holds_of s) =
    ap (map (hold_ticked clock)) k.holds ∙ ap (λ n. map (hold_ticked n) (holds_of s)) clock_is in
    let holds : c.holds.holds ≡ holds_of (recorded s (Some r)) = marked ∙ (here ∙ sym after) in
    let long : length c.holds.holds ≡ length b.holds.holds = ap length marked ∙ length-map b.holds.holds (hold_ticked clock) in
    let net = network_of-tick s now count in
    let run = stays_running b c r (hold_ticked (max (clock_of s) now)) k (λ m. refl) (λ m. refl) (λ m. refl) net after k.named.holds holds moved same in
    kept b c r k f (record { few = omega arith; holds = holds }) run sound

pub changed_kept : (b c : Inside) (order : Order) (change : Changed) (now clock : ℕ) → BookInvariant b → now ≤ last_moment → clock ≡ max b.clock now
    → has_no_place (state_of b) ≡ false → change_of b.network order ≡ Some change → names_present b.network change ≡ true → change_refusal (state_of b) b.network change ≡ None
    → IsNetwork c.network → Follows b c (change_record change now) → c.holds.holds ≡ b.holds.holds → RunningFollows b c (change_record change now) → BookInvariant c
changed_kept b c order change now clock k early at room found present allowed is f same run =
    let s : State = state_of b in
    let r : Record = change_record change now in
    let network : IsNetwork (network_of (recorded s (Some r))) = subst (λ (n : Net). IsNetwork n) (network_follows b c r k f) is in
    let there : names_present (network_of s) change ≡ true = ap (λ (n : Net). names_present n change) (sym k.network) ∙ present in
    let free : change_refusal s (network_of s) change ≡ None = ap (λ (n : Net). change_refusal s n change) (sym k.network) ∙ allowed in
    let ordered : change_of (network_of s) order ≡ Some change = ap (λ (n : Net). change_of n order) (sym k.network) ∙ found in
    let sound : IsSound (recorded s (Some r)) = changed_sound s order change now k.sound room early ordered there free network in
    let holds : c.holds.holds ≡ holds_of (recorded s (Some r)) = same ∙ (k.holds ∙ sym (holds_of-change s change now)) in
    let long : length c.holds.holds ≡ length b.holds.holds = ap length same in
    kept b c r k f (record { few = omega arith; holds = holds }) run sound

-- a call that found nothing to do
pub untouched_kept : (b : Inside) (holds : Table) (purses : Vec Account Global) → BookInvariant b → holds ≡ b.holds
    → purses.items ≡ map (purse_by (state_of b) holds.holds) b.network.peers
    → BookInvariant (record { opening = b.opening; network = b.network; journal = b.journal; clock = b.clock; holds = holds; purses = purses; buckets = b.buckets })
untouched_kept b holds purses k same moved =
    let s : State = state_of b in
    record {
      room = k.room;
      holds_room = subst (λ (t : Table). b.opening.journal ≤ t.room) (sym same) k.holds_room;
      few = subst (λ (t : Table). length t.holds ≤ length b.journal.records) (sym same) k.few;
      clock = k.clock;
      network = k.network;
      holds = ap (λ (t : Table). t.holds) same ∙ k.holds;
      purses = moved
          ∙ (ap (λ (t : Table). map (purse_by s t.holds) b.network.peers) same
          ∙ (ap (λ (hs : List Hold). map (purse_by s hs) b.network.peers) k.holds
          ∙ ap (λ (n : Net). map (purse_of s) n.peers) k.network));
      buckets = k.buckets;
      named = k.named;
      begins = k.begins;
      sound = k.sound;
    }
