-- What a decide leads to, by its verdict.
use Rattle.std.proofs.Common.{◌≡◌, ℕ, ◌+◌, Bool, true, false, cond, eqb, List, [], ◌∷◌, ◌++◌, length, take, drop, refl, sym, ap, subst, ◌∙◌, eq-eqb, arith}
use Rattle.std.specs.Prelude.{Result, Ok, Err, Option, Some, None, IsSome, IsOk, IsOkAnd, nat_le, nat_lt, not, option_and_then, option_map, find, max, IfOk}
use Rattle.std.proofs.Math.Seq.{take-append_seam}
use Rattle.ilp_addr.specs.Target.{Parts as TargetParts}
use Rattle.ilp_addr.specs.Timestamp.{timestamp_of}
use Rattle.ilp_view.specs.Packet.{Prepare, with_amount_and_expiry}
use Rattle.ilp_view.specs.Places.{ArePlaces, ArePlacesIn}
use Rattle.ilp_view.specs.Reading.{prepare_at}
use Rattle.ilp_view.specs.declared.fault.ViewFault.{ViewFault}
use Rattle.ilp_view.specs.declared.prepare.places.PreparePlaces.{PreparePlaces}
use Rattle.ildcp_core.specs.Request.{is_config, checked_request}
use Rattle.ildcp_core.specs.declared.fault.IldcpFault.{IldcpFault}
use Rattle.ildcp_core.specs.declared.fault.IldcpFault.TheVariants.{NotChild, Amount, Condition}
use Rattle.money_core.specs.Fraction.{Fraction}
use Rattle.money_core.specs.Price.{price_less}
use Rattle.rate_bucket.specs.Bucket.{is_admitted}
use Rattle.route_table.specs.Routes.{best_route}
use Rattle.route_table.specs.declared.hop.Hop.{Hop}
use Rattle.oer_core.specs.Writing.{Writes}
use Rattle.tenant_core.specs.Bucket.{stretch_of}
use Rattle.tenant_core.specs.Checks.{◌otherwise◌}
use Rattle.tenant_core.specs.Holds.{open_holds}
use Rattle.tenant_core.specs.Judge.{judge, decided, decide_made, is_full, verdict_for_sender, verdict_at_rate, config_verdict, refuse, child_of}
use Rattle.tenant_core.specs.Key.{Key}
use Rattle.tenant_core.specs.Limits.{max_holds}
use Rattle.tenant_core.specs.Network.{Net, peer_numbered, peer_with_token}
use Rattle.tenant_core.specs.Present.{network_of}
use Rattle.tenant_core.specs.Purse.{is_over_ceiling, is_over_credit}
use Rattle.tenant_core.specs.Routing.{Way, another, onward, way_by, stays_here, rate_between, outgoing_expiry}
use Rattle.tenant_core.specs.State.{State, clock_of, recorded}
use Rattle.tenant_core.specs.declared.journal.Record.{Record}
use Rattle.tenant_core.specs.declared.opening.Opening.{Opening}
use Rattle.tenant_core.specs.declared.peer.Peer.{Peer}
use Rattle.tenant_core.specs.declared.verdict.RejectCode.TheVariants.{InsufficientSource, Unreachable}
use Rattle.tenant_core.specs.declared.verdict.Verdict.{Verdict}
use Rattle.tenant_core.specs.declared.verdict.Verdict.TheVariants.{Unknown, NoRoom, Refuse, Fulfil, Forward, Relay}
use Rattle.floor_core.specs.Replies.{decision_reply, busy_reply, refusal_reply, config_reply}
use Rattle.floor_core.specs.Rooms.{refilled}
use Rattle.floor_core.specs.Work.{Job, Work, Called, decide_call, frame_call, verdict_call, job_decided, only, replied, telling, target_of}
use Rattle.floor_core.specs.World.{key_in}
use Rattle.floor_core.specs.SlotView.{IsReadAt, job_of, work_of}
use Rattle.floor_core.specs.declared.slot.Slot.TheInside.{Inside}
use Rattle.floor_core.specs.declared.slot.Stage.{Stage}
use Rattle.floor_core.specs.declared.slot.Stage.TheVariants.{Loaded}
use Rattle.floor_core.specs.declared.parts.Turn.TheVariants.{Stray, Reply, Send}

-- ---- a packet that goes on goes to a peer

abbrev GoesSomewhere : State → Verdict → Type 0
GoesSomewhere s (Forward hold peer amount expiry) = IsSome (target_of s peer)
GoesSomewhere s _ = Unit {0}

passed : (s : State) (b : Bool) (v w : Verdict) → GoesSomewhere s v → GoesSomewhere s w → GoesSomewhere s (cond b v w)
passed s true v w p q = p
passed s false v w p q = q

found : {A : Type 0} (s : State) (o : Option A) (v : Verdict) (next : A → Verdict) → GoesSomewhere s v
    → ((x : A) → o ≡ Some x → GoesSomewhere s (next x)) → GoesSomewhere s ((o otherwise v) next)
found s None v next p q = p
found s (Some x) v next p q = q x refl

rate_goes : (s : State) (from : Peer) (way : Way) (rate : Fraction) (key : Key) (clock : ℕ) → IsSome (target_of s way.peer.number)
    → GoesSomewhere s (verdict_at_rate s from way rate key clock)
rate_goes s from way rate key clock there =
    found s (price_less rate key.amount way.fee) (refuse InsufficientSource) _ tt (λ price _.
    passed s (nat_lt way.peer.terms.limits.cap price) _ _ tt (
    passed s (nat_le (outgoing_expiry s.opening key.expiry clock) clock) _ _ tt (
    passed s (is_over_ceiling s from key.amount) _ _ tt (
    passed s (is_over_credit s way.peer price) _ _ tt (
    passed s (nat_le max_holds (open_holds s)) _ _ tt there)))))

config_goes : (s : State) (r : Result (Unit {0}) IldcpFault) → GoesSomewhere s (config_verdict r)
config_goes s (Ok good) = tt
config_goes s (Err NotChild) = tt
config_goes s (Err Amount) = tt
config_goes s (Err Condition) = tt

-- what is found by one test is there for another that it passes
some_again : (q r : Peer → Bool) (ps : List Peer) (p : Peer) → find q ps ≡ Some p → r p ≡ true → IsSome (find r ps)
some_again q r [] p e is = absurd cc
some_again q r (x ∷ xs) p e is = by (q x) (r x) refl e (λ f. some_again q r xs p f is)
  where
    by : (b d : Bool) → r x ≡ d → cond b (Some x) (find q xs) ≡ Some p → (find q xs ≡ Some p → IsSome (find r xs)) → IsSome (cond d (Some x) (find r xs))
    by b true e f next = refl
    by true false e f next = let same : x ≡ p = cc in absurd cc
    by false false e f next = next f

-- who is found under a number is found under its own
own_number : (n : ℕ) (peers : List Peer) (p : Peer) → peer_numbered n peers ≡ Some p → IsSome (peer_numbered p.number peers)
own_number n peers p e = some_again (λ (k : Peer). eqb k.number n) (λ (k : Peer). eqb k.number p.number) peers p e (eq-eqb p.number p.number refl)

target_there : (o : Option Peer) → IsSome o → IsSome (option_map (λ p. p.terms.target) o)
target_there None is = absurd cc
target_there (Some p) is = refl

-- the peer of a way, or another where there is none
abbrev peer_or : Peer → Option Way → Peer
peer_or p None = p
peer_or p (Some way) = way.peer

peer_of_way : (fee : ℕ) (o : Option Peer) (way : Way) → option_map (λ p. let w : Way = record { peer = p; fee = fee } in w) o ≡ Some way → o ≡ Some way.peer
peer_of_way fee None way e = absurd cc
peer_of_way fee (Some p) way e = let same : p ≡ way.peer = ap (λ (o : Option Way). peer_or p o) e in ap Some same

onward_there : (s : State) (n : Option Hop) (way : Way) → option_and_then (way_by (network_of s)) n ≡ Some way
    → IsSome (target_of s way.peer.number)
onward_there s None way e = absurd cc
onward_there s (Some hop) way e =
    target_there (peer_numbered way.peer.number (network_of s).peers)
    (own_number hop.peer (network_of s).peers way.peer (peer_of_way hop.fee (peer_numbered hop.peer (network_of s).peers) way e))

sender_goes : (s : State) (from : Peer) (key : Key) (clock : ℕ) → GoesSomewhere s (verdict_for_sender s from key clock)
sender_goes s from key clock =
    passed s (not (is_admitted (stretch_of s from) clock)) _ _ tt (
    passed s (nat_le key.expiry clock) _ _ tt (
    passed s (is_config key.destination) _ _ (config_goes s (checked_request from.terms.role key.amount key.condition)) (
    passed s (stays_here s.opening key.destination) _ _ tt (
    passed s (nat_lt from.terms.limits.cap key.amount) _ _ tt (
    found s (onward (network_of s) from.number key.destination) (refuse Unreachable) _ tt (λ way is.
    found s (rate_between (network_of s) from.number way.peer.number) (refuse Unreachable) _ tt (λ rate _.
    rate_goes s from way rate key clock
    (onward_there s (option_and_then (another from.number) (best_route (network_of s).routes key.destination)) way is))))))))

goes : (s : State) (token : List ℕ) (key : Key) (now : ℕ) → GoesSomewhere s (judge s token key now)
goes s token key now =
    found s (peer_with_token token (network_of s).peers) Unknown _ tt (λ from _.
    passed s (is_full s) _ _ tt (sender_goes s from key (max (clock_of s) now)))

-- ---- what a decide of a frame comes to

if_ok_at : (r : Result Prepare ViewFault) (P : Prepare → Type 0) (p : Prepare) → IfOk r P → r ≡ Ok p → P p
if_ok_at (Ok q) P p holds e = let same : q ≡ p = cc in subst P same holds
if_ok_at (Err f) P p holds e = absurd cc

prepare_in : (r : Result Prepare ViewFault) → IsOk r → (p : Prepare) × (r ≡ Ok p)
prepare_in (Ok p) is = (p, refl)
prepare_in (Err f) is = absurd cc

-- the packet of a slot, and what its verdict comes to
pub record IsDecided (w : Work) (s t : State) (tenant : ℕ) (token frame : List ℕ) (now : ℕ) (v : Verdict) : Type 0 where
  pub packet : Prepare
  pub reading : prepare_at frame ≡ Ok packet
  pub judged : v ≡ judge s token (key_in packet) now
  pub call : decide_call w s now ≡ verdict_call s tenant token packet w.room (decide_made s token (key_in packet) now) v
  pub book : t ≡ recorded s (decide_made s token (key_in packet) now)

own_by : (tenant : ℕ) (s : State) (w : Work) (c : Called) (b : Bool) → b ≡ true → cond b c (only Stray w) ≡ c
own_by tenant s w c true e = refl
own_by tenant s w c false e = absurd cc

pub decided_by : (w : Work) (s t : State) (tenant : ℕ) (token frame : List ℕ) (now : ℕ) (v : Verdict) → w.job ≡ Job.Carries tenant token frame
    → s.opening.tenant ≡ tenant → IsOk (prepare_at frame) → IfOk (prepare_at frame) (λ p. v ≡ judge s token (key_in p) now)
    → IfOk (prepare_at frame) (λ p. t ≡ decided s token (key_in p) now) → IsDecided w s t tenant token frame now v
decided_by w s t tenant token frame now v job same is verdict book =
    let p = prepare_in (prepare_at frame) is in
    let judged : v ≡ judge s token (key_in p.0) now = if_ok_at (prepare_at frame) (λ p. v ≡ judge s token (key_in p) now) p.0 verdict p.1 in
    record {
      packet = p.0;
      reading = p.1;
      judged = judged;
      call =
          ap (λ (j : Job). job_decided j w s now) job
          ∙ own_by tenant s w (frame_call w s tenant token (prepare_at frame) now) (eqb s.opening.tenant tenant) (eq-eqb s.opening.tenant tenant same)
          ∙ ap (λ (r : Result Prepare ViewFault). frame_call w s tenant token r now) p.1
          ∙ ap (λ (u : Verdict). verdict_call s tenant token p.0 w.room (decide_made s token (key_in p.0) now) u) (sym judged);
      book = if_ok_at (prepare_at frame) (λ p. t ≡ decided s token (key_in p) now) p.0 book p.1;
    }

made_is : (s : State) (tenant : ℕ) (token : List ℕ) (p : Prepare) (room : List ℕ) (made : Option Record) (v : Verdict) → (verdict_call s tenant token p room made v).made ≡ made
made_is s tenant token p room made Unknown = refl
made_is s tenant token p room made NoRoom = refl
made_is s tenant token p room made (Refuse code amounts) = refl
made_is s tenant token p room made Fulfil = refl
made_is s tenant token p room made (Forward hold peer amount expiry) = refl
made_is s tenant token p room made Relay = refl

-- the book has what the call makes
pub book_called : (w : Work) (s t : State) (tenant : ℕ) (token frame : List ℕ) (now : ℕ) (v : Verdict) → IsDecided w s t tenant token frame now v
    → t ≡ recorded s (decide_call w s now).made
book_called w s t tenant token frame now v d =
    let made = decide_made s token (key_in d.packet) now in
    d.book ∙ ap (recorded s) (sym (made_is s tenant token d.packet w.room made v)) ∙ ap (λ (c : Called). recorded s c.made) (sym d.call)

-- every verdict but two is told to the sender
pub told_after : (s : State) (tenant : ℕ) (token : List ℕ) (p : Prepare) (room : List ℕ) (made : Option Record) (v : Verdict) → (v ≡ Unknown → ⊥)
    → ((hold peer amount expiry : ℕ) → v ≡ Forward hold peer amount expiry → ⊥) → verdict_call s tenant token p room made v ≡ replied (decision_reply s token v) room made
told_after s tenant token p room made Unknown n m = absurd (n refl)
told_after s tenant token p room made NoRoom n m = refl
told_after s tenant token p room made (Refuse code amounts) n m = refl
told_after s tenant token p room made Fulfil n m = refl
told_after s tenant token p room made (Forward hold peer amount expiry) n m = absurd (m hold peer amount expiry refl)
told_after s tenant token p room made Relay n m = refl

pub call_told : {w : Work} {s t : State} {tenant : ℕ} {token frame : List ℕ} {now : ℕ} {v : Verdict} (d : IsDecided w s t tenant token frame now v) → (v ≡ Unknown → ⊥)
    → ((hold peer amount expiry : ℕ) → v ≡ Forward hold peer amount expiry → ⊥)
    → decide_call w s now ≡ replied (decision_reply s token v) w.room (decide_made s token (key_in d.packet) now)
call_told {w} {s} {t} {tenant} {token} {frame} {now} {v} d n m = d.call ∙ told_after s tenant token d.packet w.room (decide_made s token (key_in d.packet) now) v n m

-- what a state tells is by its opening and its network
pub told_alike : (s t : State) (token : List ℕ) (v : Verdict) → t.opening ≡ s.opening → network_of t ≡ network_of s
    → decision_reply t token v ≡ decision_reply s token v
told_alike s t token Unknown o n = refl
told_alike s t token NoRoom o n = ap (λ (x : Opening). busy_reply x.address) o
told_alike s t token (Refuse code amounts) o n = ap (λ (x : Opening). refusal_reply x.address code amounts) o
told_alike s t token Fulfil o n =
    ap (λ (x : Opening). config_reply (option_map (child_of x) (peer_with_token token (network_of t).peers))) o
    ∙ ap (λ (x : Net). config_reply (option_map (child_of s.opening) (peer_with_token token x.peers))) n
told_alike s t token (Forward hold peer amount expiry) o n = refl
told_alike s t token Relay o n = refl

-- ---- rooms

-- as many bytes as there were fill the room
pub refilled_same : (old bytes : List ℕ) → length bytes ≡ length old → refilled old bytes ≡ bytes
refilled_same old bytes e =
    ap (λ (n : ℕ). take n (bytes ++ drop (length bytes) old)) (sym e) ∙ take-append_seam bytes (drop (length bytes) old)

zero_first : (n : ℕ) → 0 + n ≡ n
zero_first n = omega arith

-- what was written at the front of a room
written_front : (room reply out : List ℕ) (len : ℕ) → Writes room 0 reply out len → take len out ≡ reply
written_front room reply out len written =
    ap (λ (x : List ℕ). take len x) written.1
    ∙ ap (λ (n : ℕ). take n (reply ++ drop (0 + length reply) room)) (written.0 ∙ zero_first (length reply))
    ∙ take-append_seam reply (drop (0 + length reply) room)

-- ---- what a decide leaves of a slot

abbrev pub ended : List ℕ → List ℕ → Work
ended reply room = record { job = Job.NoJob; target = None; expiry = None; reply = reply; room = room }

abbrev pub waiting : ℕ → ℕ → List ℕ → Option TargetParts → ℕ → List ℕ → List ℕ → Work
waiting tenant hold frame target expiry reply room =
    record { job = Job.Waits tenant hold frame; target = target; expiry = Some expiry; reply = reply; room = room }

-- the sender is told, and the slot is idle
pub told : (w : Work) (s t : State) (tenant : ℕ) (token frame out : List ℕ) (now len : ℕ) (v : Verdict) → IsDecided w s t tenant token frame now v
    → (v ≡ Unknown → ⊥) → ((hold peer amount expiry : ℕ) → v ≡ Forward hold peer amount expiry → ⊥)
    → t.opening ≡ s.opening → network_of t ≡ network_of s → Writes w.room 0 (decision_reply t token v) out len
    → record { turn = Reply; work = ended (take len out) out; made = (decide_call w s now).made } ≡ decide_call w s now
told w s t tenant token frame out now len v d n m o net written =
    let reply : List ℕ = decision_reply t token v in
    let made = decide_made s token (key_in d.packet) now in
    let call : decide_call w s now ≡ replied (decision_reply s token v) w.room made = call_told d n m in
    let work : ended (take len out) out ≡ telling (decision_reply s token v) w.room =
    ap (λ (r : List ℕ). ended r out) (written_front w.room reply out len written)
    ∙ ap (λ (x : List ℕ). ended reply x) written.1
    ∙ ap (λ (r : List ℕ). telling r w.room) (told_alike s t token v o net) in
    (λ i. record { turn = Reply; work = work i; made = (call i).made }) ∙ sym call

target_alike : (s t : State) (peer : ℕ) → network_of t ≡ network_of s → target_of t peer ≡ target_of s peer
target_alike s t peer net = ap (λ (x : Net). option_map (λ p. p.terms.target) (peer_numbered peer x.peers)) net

-- the peer of a packet that goes on is there
pub target_is_there : (s t : State) (token : List ℕ) (r : Result Prepare ViewFault) (now hold peer amount expiry : ℕ)
    → IsOk r → IfOk r (λ p. Forward hold peer amount expiry ≡ judge s token (key_in p) now) → network_of t ≡ network_of s → IsSome (target_of t peer)
target_is_there s t token r now hold peer amount expiry is verdict net =
    let p = prepare_in r is in
    let judged = if_ok_at r (λ p. Forward hold peer amount expiry ≡ judge s token (key_in p) now) p.0 verdict p.1 in
    let there = subst (λ (v : Verdict). GoesSomewhere s v) (sym judged) (goes s token (key_in p.0) now) in
    subst (λ (o : Option TargetParts). IsSome o) (sym (target_alike s t peer net)) there

-- the frame went on, and the slot awaits its answer
pub sent : (w : Work) (s t : State) (tenant : ℕ) (token frame after reply : List ℕ) (target : Option TargetParts) (now hold peer amount expiry : ℕ)
    → IsDecided w s t tenant token frame now (Forward hold peer amount expiry)
    → IfOk (prepare_at frame) (λ p. after ≡ with_amount_and_expiry p amount (timestamp_of expiry))
    → network_of t ≡ network_of s → target ≡ target_of t peer → reply ≡ []
    → record { turn = Send peer hold; work = waiting tenant hold after target expiry reply w.room; made = (decide_call w s now).made } ≡ decide_call w s now
sent w s t tenant token frame after reply target now hold peer amount expiry d written net there quiet =
    let frame_is : after ≡ with_amount_and_expiry d.packet amount (timestamp_of expiry) =
    if_ok_at (prepare_at frame) (λ p. after ≡ with_amount_and_expiry p amount (timestamp_of expiry)) d.packet written d.reading in
    let target_is : target ≡ target_of s peer = there ∙ target_alike s t peer net in
    (λ i. record { turn = Send peer hold; work = waiting tenant hold (frame_is i) (target_is i) expiry (quiet i) w.room; made = (d.call i).made }) ∙ sym d.call

-- ---- what a slot shows of it

-- a slot that is loaded carries its frame
pub carried : (x : Inside) (w : Work) (tenant : ℕ) (places : PreparePlaces) → work_of x ≡ w → x.stage ≡ Loaded tenant places
    → w.job ≡ Job.Carries tenant x.token (take x.frame_len x.frame)
carried x w tenant places view is =
    sym (ap (λ (v : Work). v.job) view) ∙ ap (λ (y : Stage). job_of y x.token (take x.frame_len x.frame)) is

is_there : (r : Result Prepare ViewFault) (P : Prepare → Type 0) → IsOkAnd r P → IsOk r
is_there (Ok p) P holds = refl
is_there (Err e) P holds = absurd holds

-- what was read of a frame was read of a Prepare
pub read_is_readable : (frame : List ℕ) (places : PreparePlaces) → ArePlacesIn frame places → IsOk (prepare_at frame)
read_is_readable frame places read = is_there (prepare_at frame) (λ p. ArePlaces p places) read

-- what a token and a frame are shown as
pub shown_as : (P : List ℕ → List ℕ → Type 0) {shown token bytes room : List ℕ} → shown ≡ token → bytes ≡ room → P shown bytes → P token room
shown_as P {shown} {token} {bytes} {room} t r p = subst (λ (b : List ℕ). P token b) r (subst (λ (k : List ℕ). P k bytes) t p)

-- what a loaded slot decides, by what was shown of it
pub slot_decided : (x : Inside) (w : Work) (s t : State) (tenant : ℕ) (places : PreparePlaces) (token room : List ℕ) (now : ℕ) (v : Verdict) → work_of x ≡ w → x.stage ≡ Loaded tenant places
    → s.opening.tenant ≡ tenant → IsReadAt x.stage (take x.frame_len x.frame) → token ≡ x.token → room ≡ x.frame
    → IfOk (prepare_at (take x.frame_len room)) (λ p. v ≡ judge s token (key_in p) now) → IfOk (prepare_at (take x.frame_len room)) (λ p. t ≡ decided s token (key_in p) now)
    → IsDecided w s t tenant x.token (take x.frame_len x.frame) now v
slot_decided x w s t tenant places token room now v view is same read token_is room_is verdict book =
    let frame : List ℕ = take x.frame_len x.frame in
    decided_by w s t tenant x.token frame now v (carried x w tenant places view is) same
    (read_is_readable frame places (subst (λ (y : Stage). IsReadAt y frame) is read))
    (shown_as (λ k b. IfOk (prepare_at (take x.frame_len b)) (λ p. v ≡ judge s k (key_in p) now)) token_is room_is verdict)
    (shown_as (λ k b. IfOk (prepare_at (take x.frame_len b)) (λ p. t ≡ decided s k (key_in p) now)) token_is room_is book)

-- what was written into the room that was lent stands in it
pub written_back : (room lent out reply : List ℕ) (len : ℕ) → lent ≡ room → length out ≡ length lent → Writes lent 0 reply out len
    → (refilled room out ≡ out) × Writes room 0 reply out len
written_back room lent out reply len same kept written = (
  refilled_same room out (kept ∙ ap length same),
  subst (λ (x : List ℕ). Writes x 0 reply out len) same written,
)
