-- Setups: what a TOML document says of the tenants.
use Rattle.std.specs.Prelude.{◌≡◌, ◌≤◌, ℕ, List, length, nat_le, if◌then◌else◌, Option, Some, None, Result, Ok, Err, codes}
use Rattle.std.specs.Str.{is_utf8}
use Rattle.toml.specs.Data.{Members}
use Rattle.toml.specs.Parse.{parse_document}
use Rattle.ilp_addr.specs.Timestamp.{last_moment}
use Rattle.tenant_core.specs.Limits.{max_tenants}
use Rattle.tenant_core.specs.declared.terms.TenantTerms.{TenantTerms}
use Rattle.common_types.specs.OptionChain.{◌>>=◌}
use Rattle.admin_text.specs.Keys.{number_under, array_under}
use Rattle.admin_text.specs.Tenants.{tenants_of_array}
use Rattle.admin_text.specs.declared.setup.SetupFault.{SetupFault}
use Rattle.admin_text.specs.declared.setup.SetupFault.TheVariants.{Toml, Start}
use Rattle.admin_text.specs.declared.setup.SetupFault.TheVariants as fault
use Rattle.admin_text.specs.declared.setup.Setup.{Setup}
use Rattle.admin_text.specs.declared.version.Version.{Version}
use Rattle.admin_text.specs.Versions.{version_numbered}

-- a moment that a setup may begin at
abbrev pub moment_within : ℕ → Option ℕ
moment_within n = if nat_le n last_moment then Some n else None

-- the start is looked at before the tenants
abbrev pub from_start : Option ℕ → Result (List TenantTerms) SetupFault → Result Setup SetupFault
from_start None tenants = Err Start
from_start (Some start) (Ok tenants) = Ok (record { start = start; tenants = tenants })
from_start (Some start) (Err fault) = Err fault

-- the moment at the key `start`
abbrev pub start_of : Members → Option ℕ
start_of t = number_under (codes "start") t >>= moment_within

-- the version at the key `version`
abbrev pub version_of : Members → Option Version
version_of t = number_under (codes "version") t >>= version_numbered

-- what a document of a version says
abbrev pub setup_by : Option Version → Members → Result Setup SetupFault
setup_by None t = Err fault.Version
setup_by (Some version) t = from_start (start_of t) (tenants_of_array version (array_under (codes "tenant") t))

-- what a document says, or its first fault
unfoldable pub setup_of_table : Members → Result Setup SetupFault
setup_of_table t = setup_by (version_of t) t

-- a text that is not TOML is a fault
abbrev pub document_of : Option Members → Result Members SetupFault
document_of None = Err Toml
document_of (Some members) = Ok members

-- what a document that was read says
abbrev pub then_setup : Result Members SetupFault → Result Setup SetupFault
then_setup (Err fault) = Err fault
then_setup (Ok members) = setup_of_table members

-- what a text says
unfoldable pub setup_of : List ℕ → Result Setup SetupFault
setup_of text = if is_utf8 text then then_setup (document_of (parse_document text)) else Err Toml

-- What holds of every setup: it has a tenant, and 64 at most.
abbrev pub SetupLaw : Type 0
SetupLaw = (text : List ℕ) (s : Setup) → setup_of text ≡ Ok s → (1 ≤ length s.tenants) × (length s.tenants ≤ max_tenants)
