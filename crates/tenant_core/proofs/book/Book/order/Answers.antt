use Rattle.std.proofs.Common.{◌≡◌, ℕ, ◌≤◌, List, arith, refl, ◌∙◌, sym, ap, subst, true}
use Rattle.std.specs.Prelude.{Option, Some, None, IfSome, max, slice_get}
use Rattle.ilp_addr.specs.Timestamp.{last_moment}
use Rattle.money_core.specs.Account.{Account}
use Rattle.tenant_core.specs.declared.book.Book.TheInside.{Inside}
use Rattle.tenant_core.specs.Journals.{with_record}
use Rattle.tenant_core.specs.declared.command.Order.{Order}
use Rattle.tenant_core.specs.declared.faults.CommandFault.TheVariants.{Absent}
use Rattle.tenant_core.specs.declared.journal.Change.{Change as Changed}
use Rattle.tenant_core.specs.declared.journal.ChangeEntry.{ChangeEntry}
use Rattle.tenant_core.specs.declared.journal.Entry.TheVariants.{Change}
use Rattle.tenant_core.specs.declared.journal.Outcome.TheVariants.{Done}
use Rattle.tenant_core.specs.declared.peer.Level.{Level as PeerLevel}
use Rattle.rate_bucket.specs.Running.{Level}
use Rattle.tenant_core.specs.Answer.{has_no_place}
use Rattle.tenant_core.specs.Checks.{◌otherwise◌}
use Rattle.tenant_core.specs.Following.{CanFollow, levels_after, purses_after}
use Rattle.tenant_core.specs.Kept.{state_of, BookInvariant}
use Rattle.tenant_core.specs.Network.{Net}
use Rattle.tenant_core.specs.Orders.{change_of, change_record, change_refusal, order_refusal, names_present}
use Rattle.tenant_core.specs.Present.{changed, level_left, network_of}
use Rattle.tenant_core.specs.Standing.{state_shown}
use Rattle.tenant_core.specs.State.{State}
use Rattle.tenant_core.proofs.Follow.{buckets_before, can_follow_kept, changed_follows}
use Rattle.tenant_core.proofs.Keeping.{changed_kept}
use Rattle.tenant_core.proofs.book.Book.order.Goals as goal

-- a change is allowed that nothing shown refuses
allowed_by : (b : Inside) (order : Order) (change : Changed) (shown : State) (net : Net) → BookInvariant b → shown ≡ state_of b → net ≡ network_of shown
    → None ≡ order_refusal shown net order → change_of b.network order ≡ Some change → change_refusal (state_of b) b.network change ≡ None
allowed_by b order change shown net k same there refused found =
    let s : State = state_of b in
    let here : net ≡ b.network = there ∙ (ap network_of same ∙ sym k.network) in
    let refusal : order_refusal s b.network order ≡ None =
    sym (refused ∙ (ap (λ (x : State). order_refusal x net order) same ∙ ap (λ (n : Net). order_refusal s n order) here)) in
    subst (λ o. (o otherwise Some Absent) (λ (x : Changed). change_refusal s b.network x) ≡ None) found refusal

pub follow_purses-requires-clause-can : goal.follow_purses-requires-clause-can
follow_purses-requires-clause-can c =
    let b : Inside = c.self.inside in
    let change : Changed = c.in-Some-2.change in
    let shown : state_shown c.standing.result ≡ state_of b = c.standing.ensures.state ∙ sym c.self.view_is in
    let found : change_of b.network c.args.order.now ≡ Some change = sym c.in_ok-change.ensures.exact ∙ c.in-Some-2.is in
    let allowed = allowed_by b c.args.order.now change (state_shown c.standing.result) c.standing.result.network.now c.self.invariant shown c.standing.ensures.shown.network c.in_default.ensures.exact found in
    let same : c.get.result.now.change ≡ change = ap (λ (e : ChangeEntry). e.change) (c.get.ensures ∙ c.in_ok-entry.ensures) in
    subst (λ (x : Changed). CanFollow x c.place_changed-place.result c.reserve.new.self.items) (sym same)
    (subst (λ (xs : List Account). CanFollow change c.place_changed-place.result xs) (sym c.reserve.ensures.items)
    (can_follow_kept b change c.place_changed-place.result c.self.invariant c.place_changed-place.ensures.inside c.place_changed-place.ensures.value allowed))

pub follow_buckets-requires-clause-later : goal.follow_buckets-requires-clause-later
follow_buckets-requires-clause-later c =
    let b : Inside = c.self.inside in
    let at = c.max-clock.ensures in
    subst (λ (ls : List Level). (i : ℕ) (l : Level) → slice_get ls i ≡ Some l → l.clock ≤ c.max-clock.result) (sym c.reserve-2.ensures.items)
    (buckets_before b c.max-clock.result c.self.invariant (omega arith))

pub invariant_of-self-2 : goal.invariant_of-self-2
invariant_of-self-2 c =
    let b : Inside = c.self.inside in
    let s : State = state_of b in
    let change : Changed = c.in-Some-2.change in
    let place : Option ℕ = c.place_changed-place.result in
    let clock : ℕ = c.max-clock.result in
    let after : Inside = record { opening = b.opening; network = c.apply.new.self; journal = c.push_change.new.self; clock = clock; holds = b.holds; purses = c.follow_purses.new.purses; buckets = c.follow_buckets.new.buckets } in
    let early = subst (λ n. n ≤ last_moment) c.millis.ensures.value c.millis.ensures.bound in
    let at = c.max-clock.ensures ∙ ap (λ n. max b.clock n) c.millis.ensures.value in
    let room = ap has_no_place c.self.view_is ∙ (sym c.has_no_place.ensures ∙ c.if-has_no_place.false) in
    let shown : state_shown c.standing.result ≡ s = c.standing.ensures.state ∙ sym c.self.view_is in
    let shown2 : state_shown c.standing-2.result ≡ s = c.standing-2.ensures.state ∙ sym c.self.view_is in
    let net2 : c.standing-2.result.network.now ≡ b.network = c.standing-2.ensures.shown.network ∙ (ap network_of shown2 ∙ sym c.self.invariant.network) in
    let found : change_of b.network c.args.order.now ≡ Some change = sym c.in_ok-change.ensures.exact ∙ c.in-Some-2.is in
    let allowed = allowed_by b c.args.order.now change (state_shown c.standing.result) c.standing.result.network.now c.self.invariant shown c.standing.ensures.shown.network c.in_default.ensures.exact found in
    let present : names_present b.network change ≡ true =
    subst (λ o. IfSome o (λ (x : Changed). names_present b.network x ≡ true)) c.in-Some-2.is c.in_ok-change.ensures.present in
    let level : c.level_left-level.result ≡ level_left s b.network (max b.clock c.args.now) change =
    c.level_left-level.ensures
    ∙ (ap (λ (x : State). level_left x c.standing-2.result.network.now clock change) shown2
    ∙ (ap (λ (n : Net). level_left s n clock change) net2 ∙ ap (λ k. level_left s b.network k change) at)) in
    let is = c.in_ok-entry.ensures in
    let same : c.get.result.now.change ≡ change = ap (λ (e : ChangeEntry). e.change) (c.get.ensures ∙ is) in
    let purses : c.follow_purses.new.purses.items ≡ purses_after change place b.purses.items =
    c.follow_purses.ensures
    ∙ (ap (λ (x : Changed). purses_after x place c.reserve.new.self.items) same ∙ ap (purses_after change place) c.reserve.ensures.items) in
    let buckets : c.follow_buckets.new.buckets.items ≡ levels_after change place clock b.buckets.items =
    c.follow_buckets.ensures
    ∙ (ap (λ (x : Changed). levels_after x place clock c.reserve-2.new.self.items) same ∙ ap (levels_after change place clock) c.reserve-2.ensures.items) in
    changed_kept b after c.args.order.now change c.args.now clock c.self.invariant early at room found present allowed c.is_network.ensures
    (record {
      opening = refl;
      journal = c.push_change.ensures
          ∙ (ap (λ (e : ChangeEntry). with_record (record { entry = Change e; outcome = Done }) b.journal) is
          ∙ ap (λ (n : ℕ). with_record (change_record change n) b.journal) c.millis-now.ensures.value);
      holds_room = refl;
      clock = at;
      network = c.in_ok-apply.ensures.1
          ∙ (ap (λ (x : Changed). changed b.network x c.level_left-level.result) same ∙ ap (λ (l : PeerLevel). changed b.network change l) level);
    }) refl
    (changed_follows c.running.ensures b after change c.args.now clock place c.self.invariant at present c.place_changed-place.ensures.inside c.place_changed-place.ensures.value purses buckets)
