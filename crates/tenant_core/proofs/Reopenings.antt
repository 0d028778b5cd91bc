-- An opening that breaks no limit begins a period.
use Rattle.std.proofs.Common.{◌≡◌, ℕ, ◌<◌, ◌≤◌, ◌*◌, true, false, not, List, refl, sym, ap, subst, arith}
use Rattle.std.specs.Prelude.{Bool, cond, Option, Some, None, count_by, nat_le, nat_lt}
use Rattle.std.proofs.lemmas.Bool.Decides.{nat_tests}
use Rattle.common_types.specs.Numbers.{is_between}
use Rattle.ilp_addr.specs.Timestamp.{last_moment}
use Rattle.tenant_core.specs.Holds.{is_open, open_holds, AreNumbered}
use Rattle.tenant_core.specs.Limits.{max_tenants, max_journal, max_margin, max_hold, max_period}
use Rattle.tenant_core.specs.Network.{Net, IsNetwork}
use Rattle.tenant_core.specs.Reopening.{opening_fault}
use Rattle.tenant_core.specs.Sound.{IsSound}
use Rattle.tenant_core.specs.State.{State, opened}
use Rattle.tenant_core.specs.declared.hold.Hold.{Hold}
use Rattle.tenant_core.specs.declared.opening.Opening.{Opening}
use Rattle.tenant_core.proofs.Calling.{calls_opened}
use Rattle.tenant_core.proofs.Courses.{holds_of-opened}
use Rattle.tenant_core.proofs.Openings.{AreFresh}
use Rattle.tenant_core.proofs.Presents.{network_of-opened}
use Rattle.tenant_core.proofs.Purses.{opened_within}
use Rattle.tenant_core.proofs.Replays.{opened_replay}

-- what an opening's limits are
pub record IsOpening (o : Opening) : Type 0 where
  pub tenant : o.tenant < max_tenants
  pub journal_least : 2 ≤ o.journal
  pub journal_most : o.journal ≤ max_journal
  pub margin : o.margin ≤ max_margin
  pub hold_least : 1 ≤ o.hold
  pub hold_most : o.hold ≤ max_hold
  pub period : o.period ≤ max_period
  pub clock : o.clock ≤ last_moment
  pub number : o.next_hold ≤ max_journal * o.period
  pub fresh : AreFresh o.clock o.network.peers

passed : {F : Type 0} (b : Bool) (f : F) (x : Option F) → cond b (Some f) x ≡ None → (b ≡ false) × (x ≡ None)
passed true f x e = absurd cc
passed false f x e = (refl, e)

at_most : (m n : ℕ) → nat_lt m n ≡ false → n ≤ m
at_most m n e = grind (arith, nat_tests)

below : (m n : ℕ) → nat_le m n ≡ false → n < m
below m n e = grind (arith, nat_tests)

between : (low high n : ℕ) → not (is_between low high n) ≡ false → (low ≤ n) × (n ≤ high)
between low high n e = (grind (arith, nat_tests), grind (arith, nat_tests))

truly : (b : Bool) → not b ≡ false → b ≡ true
truly true e = refl
truly false e = absurd cc

pub opening_within : (o : Opening) → opening_fault o ≡ None → IsOpening o
opening_within o e =
    let a = passed _ _ _ e in
    let b = passed _ _ _ a.1 in
    let c = passed _ _ _ b.1 in
    let d = passed _ _ _ c.1 in
    let f = passed _ _ _ d.1 in
    let g = passed _ _ _ f.1 in
    let h = passed _ _ _ g.1 in
    let i = passed _ _ _ h.1 in
    let journal = between 2 max_journal o.journal b.0 in
    let hold = between 1 max_hold o.hold d.0 in
    record {
      tenant = below max_tenants o.tenant a.0;
      journal_least = journal.0;
      journal_most = journal.1;
      margin = at_most max_margin o.margin c.0;
      hold_least = hold.0;
      hold_most = hold.1;
      period = at_most max_period o.period f.0;
      clock = at_most last_moment o.clock g.0;
      number = at_most (max_journal * o.period) o.next_hold h.0;
      fresh = truly _ i.0;
    }

-- a period that begins with it is within its limits
pub opening_sound : (o : Opening) → IsOpening o → IsNetwork o.network → IsSound (opened o)
opening_sound o is network =
    let s : State = opened o in
    let holds = holds_of-opened s refl in
    let count : open_holds s ≡ 0 = ap (count_by is_open) holds in
    let places = is.journal_least in
    record {
      replay = opened_replay s refl;
      calls = calls_opened s refl;
      tenant = is.tenant;
      network = subst (λ (n : Net). IsNetwork n) (sym (network_of-opened s refl)) network;
      room = omega arith;
      journal = is.journal_most;
      places = is.journal_least;
      numbers = subst (λ (hs : List Hold). AreNumbered o.next_hold hs) (sym holds) tt;
      purses = opened_within s refl holds network;
      hold = is.hold_most;
      some_hold = is.hold_least;
      margin = is.margin;
      first_hold = is.number;
      period = is.period;
      clock = is.clock;
    }

-- a state in which nothing has happened, within its limits, has an opening that breaks none
pub opening_free : (o : Opening) → IsSound (opened o) → AreFresh o.clock o.network.peers → opening_fault o ≡ None
opening_free o sound fresh =
    let a : nat_le max_tenants o.tenant ≡ false = let is = sound.tenant in grind (arith, nat_tests) in
    let b : not (is_between 2 max_journal o.journal) ≡ false =
    let least = sound.places in let most = sound.journal in grind (arith, nat_tests) in
    let c : nat_lt max_margin o.margin ≡ false = let is = sound.margin in grind (arith, nat_tests) in
    let d : not (is_between 1 max_hold o.hold) ≡ false =
    let least = sound.some_hold in let most = sound.hold in grind (arith, nat_tests) in
    let e : nat_lt max_period o.period ≡ false = let is = sound.period in grind (arith, nat_tests) in
    let f : nat_lt last_moment o.clock ≡ false = let is : o.clock ≤ last_moment = sound.clock in grind (arith, nat_tests) in
    let g : nat_lt (max_journal * o.period) o.next_hold ≡ false = let is = sound.first_hold in grind (arith, nat_tests) in
    rw (a, b, c, d, e, f, g, fresh) refl
