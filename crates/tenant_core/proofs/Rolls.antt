-- A book keeps what its type says, a period on.
use Rattle.std.proofs.Common.{◌≡◌, ℕ, ◌+◌, ◌<◌, ◌≤◌, List, [], length, arith, refl, sym, ap, subst, ◌∙◌}
use Rattle.std.specs.Prelude.{count_by}
use Rattle.ilp_addr.specs.Timestamp.{last_moment}
use Rattle.tenant_core.specs.declared.book.Book.TheInside.{Inside}
use Rattle.tenant_core.specs.declared.hold.Hold.{Hold}
use Rattle.tenant_core.specs.declared.journal.Record.{Record}
use Rattle.tenant_core.specs.declared.opening.Opening.{Opening}
use Rattle.tenant_core.specs.Holds.{hold_count, open_holds, next_hold, is_open, AreNumbered}
use Rattle.tenant_core.specs.Journals.{Recorded}
use Rattle.tenant_core.specs.Kept.{state_of, BookInvariant}
use Rattle.tenant_core.specs.Limits.{max_period}
use Rattle.tenant_core.specs.Network.{Net, IsNetwork}
use Rattle.tenant_core.specs.Periods.{next_opening}
use Rattle.tenant_core.specs.Sound.{IsSound}
use Rattle.tenant_core.specs.State.{State, opened, clock_of}
use Rattle.std.specs.Prelude.{map}
use Rattle.rate_bucket.specs.Running.{RunningLaws}
use Rattle.tenant_core.specs.Periods.{carried_net}
use Rattle.tenant_core.specs.Present.{network_of}
use Rattle.tenant_core.specs.Running.{opened_purse, opened_level, purse_of, AreLevels, IsNamed}
use Rattle.tenant_core.proofs.Levels.{levels_opened}
use Rattle.tenant_core.proofs.Openings.{purses_opened, named_opened, AreFresh, carried_fresh}
use Rattle.tenant_core.specs.Fresh.{IsFresh}
use Rattle.tenant_core.specs.HoldTables.{Table}
use Rattle.tenant_core.specs.declared.fresh.Fresh.{Fresh}
use Rattle.tenant_core.proofs.Calling.{calls_opened}
use Rattle.tenant_core.proofs.Courses.{holds_of-opened}
use Rattle.tenant_core.proofs.Presents.{network_of-opened}
use Rattle.tenant_core.proofs.Purses.{opened_within}
use Rattle.tenant_core.proofs.Reopenings.{opening_free}
use Rattle.tenant_core.proofs.Replays.{opened_replay}

-- what a book with an empty journal keeps beside its opening
pub record IsEmpty (c : Inside) : Type 0 where
  pub room : c.opening.journal + 1 ≤ c.journal.places
  pub holds_room : c.opening.journal ≤ c.holds.room
  pub records : c.journal.records ≡ []
  pub holds : c.holds.holds ≡ []
  pub network : c.network ≡ c.opening.network
  pub clock : c.clock ≡ c.opening.clock
  pub purses : c.purses.items ≡ map opened_purse c.opening.network.peers
  pub buckets : c.buckets.items ≡ map opened_level c.opening.network.peers

opened_sound : (o : Opening) (s : State) (clock : ℕ) → IsSound s → hold_count s ≤ length s.records → o ≡ next_opening s clock → s.opening.period < max_period
    → clock ≤ last_moment → IsNetwork o.network → IsSound (opened o)
opened_sound o s clock sound few is before early network =
    let t : State = opened o in
    let none = holds_of-opened t refl in
    let count : open_holds t ≡ 0 = ap (count_by is_open) none in
    let journal : o.journal ≡ s.opening.journal = ap (λ (x : Opening). x.journal) is in
    let tenant : o.tenant ≡ s.opening.tenant = ap (λ (x : Opening). x.tenant) is in
    let hold : o.hold ≡ s.opening.hold = ap (λ (x : Opening). x.hold) is in
    let margin : o.margin ≡ s.opening.margin = ap (λ (x : Opening). x.margin) is in
    let period : o.period ≡ s.opening.period + 1 = ap (λ (x : Opening). x.period) is in
    let first : o.next_hold ≡ next_hold s = ap (λ (x : Opening). x.next_hold) is in
    let at : o.clock ≡ clock = ap (λ (x : Opening). x.clock) is in
    let r1 = sound.room in
    let r2 = sound.journal in
    let r3 = sound.first_hold in
    let r4 = sound.tenant in
    let r5 = sound.hold in
    let r6 = sound.places in
    let r7 = sound.some_hold in
    let r8 = sound.margin in
    record {
      replay = opened_replay t refl;
      calls = calls_opened t refl;
      tenant = omega arith;
      network = subst (λ (n : Net). IsNetwork n) (sym (network_of-opened t refl)) network;
      room = omega arith;
      journal = omega arith;
      places = omega arith;
      numbers = subst (λ (hs : List Hold). AreNumbered o.next_hold hs) (sym none) tt;
      purses = opened_within t refl none network;
      hold = omega arith;
      some_hold = omega arith;
      margin = omega arith;
      first_hold = omega arith;
      period = omega arith;
      clock = omega arith;
    }

-- a book with an empty journal keeps what its type says
pub empty_kept : (laws : RunningLaws) (c : Inside) → IsSound (opened c.opening) → IsNetwork c.opening.network → AreFresh c.opening.clock c.opening.network.peers → IsEmpty c → BookInvariant c
empty_kept laws c sound network fresh e =
    let o : Opening = c.opening in
    let shown : state_of c ≡ opened o = ap (λ (rs : List Record). record { opening = o; records = rs }) e.records in
    let net_now : network_of (opened o) ≡ o.network = network_of-opened (opened o) refl in
    let none = holds_of-opened (state_of c) e.records in
    let r1 = e.room in
    let r2 = e.holds_room in
    let short : length c.holds.holds ≡ 0 = ap length e.holds in
    record {
      room = omega arith;
      holds_room = omega arith;
      few = omega arith;
      clock = e.clock ∙ ap clock_of (sym shown);
      network = e.network ∙ sym (network_of-opened (state_of c) e.records);
      holds = e.holds ∙ sym none;
      purses = e.purses ∙ (purses_opened o o.network.peers network refl ∙ ap (λ (t : State). map (purse_of t) (network_of t).peers) (sym shown));
      buckets = subst (λ (t : State). AreLevels t (network_of t).peers c.buckets.items) (sym shown) (subst (λ (n : Net). AreLevels (opened o) n.peers c.buckets.items) (sym net_now) (levels_opened laws o o.network.peers c.buckets.items e.buckets fresh));
      named = subst (λ (t : State). IsNamed t) (sym shown) (named_opened o network);
      begins = opening_free o sound fresh;
      sound = subst (λ (t : State). IsSound t) (sym shown) sound;
    }

-- a book with what is fresh is empty
pub fresh_empty : (o : Opening) (clock : ℕ) (f : Fresh) → o.clock ≡ clock → IsFresh o.network o.journal f
    → IsEmpty (record { opening = o; network = f.network; journal = f.journal; clock = clock; holds = f.holds; purses = f.purses; buckets = f.buckets })
fresh_empty o clock f at is =
    record {
      room = let places : o.journal + 1 ≡ f.journal.places = sym (ap (λ (j : Recorded). j.places) is.journal) in omega arith;
      holds_room = let room : o.journal ≡ f.holds.room = sym (ap (λ (t : Table). t.room) is.holds) in omega arith;
      records = ap (λ (j : Recorded). j.records) is.journal;
      holds = ap (λ (t : Table). t.holds) is.holds;
      network = is.network;
      clock = sym at;
      purses = is.purses;
      buckets = is.buckets;
    }

pub rolled_kept : (laws : RunningLaws) (b c : Inside) (clock : ℕ) → BookInvariant b → c.opening ≡ next_opening (state_of b) clock → b.opening.period < max_period → clock ≤ last_moment
    → IsNetwork c.opening.network → IsEmpty c → BookInvariant c
rolled_kept laws b c clock k is before early network e =
    let o : Opening = c.opening in
    let few : hold_count (state_of b) ≤ length (state_of b).records = subst (λ (hs : List Hold). length hs ≤ length b.journal.records) k.holds k.few in
    let peers : o.network.peers ≡ (carried_net (state_of b) clock (network_of (state_of b))).peers = ap (λ (x : Opening). x.network.peers) is in
    let at : o.clock ≡ clock = ap (λ (x : Opening). x.clock) is in
    let fresh : AreFresh o.clock o.network.peers = subst (λ n. AreFresh n o.network.peers) (sym at) (subst (λ ps. AreFresh clock ps) (sym peers) (carried_fresh (state_of b) clock (network_of (state_of b)))) in
    empty_kept laws c (opened_sound o (state_of b) clock k.sound few is before early network) network fresh e
