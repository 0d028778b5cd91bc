-- A tenant as it is now, as a setup.
use Rattle.std.specs.Prelude.{ℕ, ◌≡◌, List}
use Rattle.tenant_core.specs.Network.{begun}
use Rattle.tenant_core.specs.Periods.{carried_net, next_opening}
use Rattle.tenant_core.specs.Present.{network_of}
use Rattle.tenant_core.specs.State.{State, clock_of, opening_of}
use Rattle.tenant_core.specs.declared.terms.TenantTerms.{TenantTerms}

-- The tenant's own terms, and whom it deals with now: each peer with what it owes now. What is held is in no balance.
abbrev pub present_setup : State → List ℕ → TenantTerms
present_setup s admin =
    record {
      name = s.opening.name;
      address = s.opening.address;
      admin = admin;
      journal = s.opening.journal;
      margin = s.opening.margin;
      hold = s.opening.hold;
      network = carried_net s (clock_of s) (network_of s);
    }

-- A book of this setup begins as the tenant's next period would, with full buckets. Its place, its clock, and the
-- numbers of the period and of the next hold may differ.
abbrev pub PresentSetupLaw : Type 0
PresentSetupLaw =
    (s : State) (admin : List ℕ) (tenant start : ℕ)
    → opening_of tenant (present_setup s admin) start
    ≡ record (next_opening s (clock_of s)) {
      tenant = tenant;
      period = 0;
      clock = start;
      next_hold = 0;
      network = begun start (next_opening s (clock_of s)).network;
    }
