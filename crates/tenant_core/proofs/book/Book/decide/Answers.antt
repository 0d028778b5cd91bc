use Rattle.std.proofs.Common.{◌≡◌, ◌+◌, ◌≤◌, ℕ, length, refl, arith, ◌∙◌, sym, ap, subst, false}
use Rattle.std.specs.Prelude.{Some, max, not}
use Rattle.std.specs.List.{slice_get}
use Rattle.ilp_addr.specs.Timestamp.{last_moment}
use Rattle.rate_bucket.specs.Bucket.{is_admitted}
use Rattle.tenant_core.specs.declared.book.Book.TheInside.{Inside}
use Rattle.tenant_core.specs.Journals.{with_record}
use Rattle.tenant_core.specs.declared.journal.DecideEntry.{DecideEntry}
use Rattle.tenant_core.specs.declared.journal.Entry.TheVariants.{Decide}
use Rattle.tenant_core.specs.declared.journal.Outcome.TheVariants.{Packet}
use Rattle.tenant_core.specs.declared.peer.Peer.{Peer}
use Rattle.tenant_core.specs.Bucket.{is_limited, stretch_of}
use Rattle.tenant_core.specs.Holds.{begun_by, holds_of, open_holds}
use Rattle.std.proofs.lemmas.Bool.{ltb-false}
use Rattle.tenant_core.specs.Running.{CanHold}
use Rattle.tenant_core.specs.declared.verdict.Verdict.{Verdict}
use Rattle.tenant_core.specs.Key.{Key, key_of}
use Rattle.tenant_core.specs.Judge.{is_full, verdict_for_sender}
use Rattle.tenant_core.specs.Kept.{state_of}
use Rattle.tenant_core.specs.Standing.{state_shown, peer_of, CanGoOn}
use Rattle.tenant_core.specs.Network.{Net, peer_with_token}
use Rattle.tenant_core.specs.Present.{network_of}
use Rattle.tenant_core.specs.State.{State, extended}
use Rattle.tenant_core.proofs.Keeping.{decided_kept, purses_here, can_hold, can_hold_here}
use Rattle.tenant_core.proofs.book.Book.decide.Goals as goal

pub charge-requires-clause-later : goal.charge-requires-clause-later
charge-requires-clause-later c = λ l here.
    let b : Inside = c.self.inside in
    let s : State = state_of b in
    let from : Peer = peer_of c.in-Some.from in
    let shown : state_shown c.standing-standing.result ≡ s = c.standing-standing.ensures.state ∙ sym c.self.view_is in
    let net : c.standing-standing.result.network.now ≡ network_of s = c.standing-standing.ensures.shown.network ∙ ap network_of shown in
    let stands : slice_get (network_of s).peers c.in-Some.from.place ≡ Some from = subst (λ (n : Net). slice_get n.peers c.in-Some.from.place ≡ Some from) net c.in-Some.ensures.place in
    let level = c.self.invariant.buckets.each c.in-Some.from.place from l stands here in
    let before = level.clock in
    let now = c.self.invariant.clock in
    let at = c.max-clock.ensures in
    omega arith

pub begin_hold-requires-clause-room : goal.begin_hold-requires-clause-room
begin_hold-requires-clause-room c =
    let b : Inside = c.self.inside in
    let s : State = state_of b in
    let shown : state_shown c.standing-standing.result ≡ s = c.standing-standing.ensures.state ∙ sym c.self.view_is in
    let room : is_full s ≡ false = ap is_full (sym shown) ∙ (sym c.is_full.ensures ∙ c.if-is_full.false) in
    let fits : length b.journal.records + open_holds s + 2 ≤ b.opening.journal = ltb-false _ _ room in
    let few = c.self.invariant.few in
    let reserved = c.self.invariant.holds_room in
    omega arith

pub begin_hold-requires-clause-purses : goal.begin_hold-requires-clause-purses
begin_hold-requires-clause-purses c = purses_here c.self.inside c.self.invariant

pub begin_hold-requires-clause-can : goal.begin_hold-requires-clause-can
begin_hold-requires-clause-can c =
    let b : Inside = c.self.inside in
    let s : State = state_of b in
    let from : Peer = peer_of c.in-Some.from in
    let key : Key = key_of c.args.key.now in
    let v : Verdict = c.verdict_for_sender-verdict.result in
    let shown : state_shown c.standing-standing.result ≡ s = c.standing-standing.ensures.state ∙ sym c.self.view_is in
    let net : c.standing-standing.result.network.now ≡ network_of s = c.standing-standing.ensures.shown.network ∙ ap network_of shown in
    let stands : slice_get (network_of s).peers c.in-Some.from.place ≡ Some from = subst (λ (n : Net). slice_get n.peers c.in-Some.from.place ≡ Some from) net c.in-Some.ensures.place in
    let can : CanGoOn s from key.amount v = subst (λ (t : State). CanGoOn t from key.amount v) shown c.verdict_for_sender-verdict.ensures.goes in
    can_hold_here b c.self.invariant c.begun_by.result
    (subst (λ o. CanHold s (holds_of s) (network_of s).peers o) (sym (c.begun_by.ensures ∙ ap (λ (d : DecideEntry). begun_by d v) c.decide_view-entry.ensures.value)) (can_hold s from c.in-Some.from.place key c.args.now v c.self.invariant.sound.network stands can))

pub invariant_of-self : goal.invariant_of-self
invariant_of-self c =
    let b : Inside = c.self.inside in
    let s : State = state_of b in
    let from : Peer = peer_of c.in-Some.from in
    let place : ℕ = c.in-Some.from.place in
    let key : Key = key_of c.args.key.now in
    let v : Verdict = c.verdict_for_sender-verdict.result in
    let clock : ℕ = c.max-clock.result in
    let after : Inside = record { opening = b.opening; network = b.network; journal = c.push_decide.new.self; clock = clock; holds = c.begin_hold.new.holds; purses = c.begin_hold.new.purses; buckets = c.charge.new.buckets } in
    let early = subst (λ n. n ≤ last_moment) c.millis.ensures.value c.millis.ensures.bound in
    let at = c.max-clock.ensures ∙ ap (λ n. max b.clock n) c.millis.ensures.value in
    let shown : state_shown c.standing-standing.result ≡ s = c.standing-standing.ensures.state ∙ sym c.self.view_is in
    let net : c.standing-standing.result.network.now ≡ network_of s = c.standing-standing.ensures.shown.network ∙ ap network_of shown in
    let found : peer_with_token c.args.token.now (network_of s).peers ≡ Some from = sym (c.in-Some.ensures.peer ∙ ap (λ (n : Net). peer_with_token c.args.token.now n.peers) net) in
    let stands : slice_get (network_of s).peers place ≡ Some from = subst (λ (n : Net). slice_get n.peers place ≡ Some from) net c.in-Some.ensures.place in
    let room : is_full s ≡ false = ap is_full (sym shown) ∙ (sym c.is_full.ensures ∙ c.if-is_full.false) in
    let verdict : v ≡ verdict_for_sender s from key clock = c.verdict_for_sender-verdict.ensures.verdict ∙ ap (λ (t : State). verdict_for_sender t from key clock) shown in
    let limited : is_limited v ≡ not (is_admitted (stretch_of s from) clock) = c.verdict_for_sender-verdict.ensures.limited ∙ ap (λ (t : State). not (is_admitted (stretch_of t from) clock)) shown in
    let can : CanGoOn s from key.amount v = subst (λ (t : State). CanGoOn t from key.amount v) shown c.verdict_for_sender-verdict.ensures.goes in
    decided_kept c.running.ensures b after c.args.token.now key c.args.now clock place from v c.self.invariant early at c.self.invariant.sound.network found stands room c.decide_view-entry.ensures.sayable c.decide_view-entry.ensures.octets verdict c.verdict_for_sender-verdict.ensures.recorded limited can
    (record {
      opening = refl;
      journal = c.push_decide.ensures ∙ ap (λ (d : DecideEntry). with_record (record { entry = Decide d; outcome = Packet v }) b.journal) c.decide_view-entry.ensures.value;
      holds_room = c.begin_hold.ensures.room;
      clock = at;
      network = refl;
    }) (c.begin_hold.ensures.holds ∙ ap (λ o. extended b.holds.holds o) (c.begun_by.ensures ∙ ap (λ (d : DecideEntry). begun_by d v) c.decide_view-entry.ensures.value))
    c.begin_hold.ensures.purses
    c.charge.ensures
