use Rattle.std.proofs.Common.{arith, refl, true, ◌≡◌, ◌≤◌, ◌<◌, ℕ, sym, ap, subst, ◌∙◌}
use Rattle.std.specs.Prelude.{count_by}
use Rattle.std.proofs.lemmas.Bool.Decides.{nat_tests}
use Rattle.ilp_addr.specs.Timestamp.{last_moment}
use Rattle.tenant_core.specs.declared.opening.Opening.{Opening}
use Rattle.tenant_core.specs.declared.terms.TenantTerms.{TenantTerms}
use Rattle.tenant_core.specs.Holds.{is_open, open_holds}
use Rattle.tenant_core.specs.Limits.{max_hold, max_journal, max_margin, max_tenants}
use Rattle.tenant_core.specs.Network.{Net, IsNetwork}
use Rattle.tenant_core.specs.Setup.{is_tenant_setup}
use Rattle.tenant_core.specs.Sound.{IsSound}
use Rattle.tenant_core.specs.State.{State, opened, opening_of}
use Rattle.tenant_core.proofs.Calling.{calls_opened}
use Rattle.tenant_core.proofs.Courses.{holds_of-opened}
use Rattle.tenant_core.proofs.Openings.{AreFresh, begun_fresh}
use Rattle.tenant_core.proofs.Presents.{network_of-opened}
use Rattle.tenant_core.proofs.Purses.{opened_within}
use Rattle.tenant_core.proofs.Replays.{opened_replay}
use Rattle.tenant_core.proofs.Reopenings.{opening_free}
use Rattle.tenant_core.proofs.book.Book.new.Goals as goal

-- the limits of a setup
record IsWithin (journal margin hold : ℕ) : Type 0 where
  pub journal_most : journal ≤ max_journal
  pub journal_least : 2 ≤ journal
  pub hold_most : hold ≤ max_hold
  pub hold_least : 1 ≤ hold
  pub margin_most : margin ≤ max_margin

limits : (t : TenantTerms) → is_tenant_setup t ≡ true → IsWithin t.journal t.margin t.hold
limits t e = record {
  journal_most = grind (arith, nat_tests);
  journal_least = grind (arith, nat_tests);
  hold_most = grind (arith, nat_tests);
  hold_least = grind (arith, nat_tests);
  margin_most = grind (arith, nat_tests);
}

-- a first period is within its limits
first_sound : (o : Opening) → o.tenant < max_tenants → IsWithin o.journal o.margin o.hold → o.period ≡ 0 → o.next_hold ≡ 0 → o.clock ≤ last_moment → IsNetwork o.network
    → IsSound (opened o)
first_sound o tenant within period first clock network =
    let s : State = opened o in
    let holds = holds_of-opened s refl in
    let count : open_holds s ≡ 0 = ap (count_by is_open) holds in
    let places = within.journal_least in
    record {
      replay = opened_replay s refl;
      calls = calls_opened s refl;
      tenant = tenant;
      network = subst (λ (n : Net). IsNetwork n) (sym (network_of-opened s refl)) network;
      room = omega arith;
      journal = within.journal_most;
      places = within.journal_least;
      numbers = rw holds tt;
      purses = opened_within s refl holds network;
      hold = within.hold_most;
      some_hold = within.hold_least;
      margin = within.margin_most;
      first_hold = omega arith;
      period = omega arith;
      clock = clock;
    }

pub begun-requires : goal.begun-requires
begun-requires c =
    let t : TenantTerms = c.args.setup.now in
    let legal : is_tenant_setup t ≡ true = subst (λ (x : TenantTerms). is_tenant_setup x ≡ true) c.terms.ensures.same c.terms.ensures.within in
    let o : Opening = c.in_ok-opening.opening in
    let start : ℕ = c.args.start in
    let e : o ≡ opening_of c.args.tenant t start = c.in_ok-opening.ensures in
    let within : IsWithin o.journal o.margin o.hold =
    subst (λ (x : Opening). IsWithin x.journal x.margin x.hold) (sym e) (limits t legal) in
    let tenant : o.tenant < max_tenants = subst (λ (x : Opening). x.tenant < max_tenants) (sym e) c.requires in
    let period : o.period ≡ 0 = ap (λ (x : Opening). x.period) e in
    let first : o.next_hold ≡ 0 = ap (λ (x : Opening). x.next_hold) e in
    let begins : o.clock ≡ start = ap (λ (x : Opening). x.clock) e in
    let early : o.clock ≤ last_moment = subst (λ (n : ℕ). n ≤ last_moment) (sym (begins ∙ sym c.millis.ensures.value)) c.millis.ensures.bound in
    let network : IsNetwork o.network = c.is_network.ensures in
    let fresh : AreFresh o.clock o.network.peers =
    subst (λ (x : Opening). AreFresh x.clock x.network.peers) (sym e) (begun_fresh t.network start) in
    opening_free o (first_sound o tenant within period first early network) fresh
