-- The tenants of a setup, one after the other: the first that breaks a rule is the fault.
use Rattle.std.specs.Prelude.{ℕ, Bool, List, [], ◌∷◌, ◌++◌, length, nat_le, if◌then◌else◌}
use Rattle.std.specs.Prelude.{Option, Some, None, option_and_then, Result, Ok, Err}
use Rattle.std.specs.List.{list_any}
use Rattle.std.specs.Str.{bytes_eq}
use Rattle.toml.specs.Data.{Data, Items, no_items, item, as_table}
use Rattle.tenant_core.specs.Limits.{max_tenants}
use Rattle.tenant_core.specs.declared.terms.TenantTerms.{TenantTerms}
use Rattle.common_types.specs.ResultChain.{◌>>=◌}
use Rattle.admin_text.specs.TenantTable.{tenant_of_table}
use Rattle.admin_text.specs.declared.version.Version.{Version}
use Rattle.admin_text.specs.declared.setup.SetupFault.{SetupFault}
use Rattle.admin_text.specs.declared.setup.SetupFault.TheVariants.{Tenant}

-- one of the tenants has that name
abbrev pub is_there : List TenantTerms → List ℕ → Bool
is_there tenants name = list_any (λ t. bytes_eq t.name name) tenants

-- the tenant, unless one of these has its name
abbrev pub unless_there : List TenantTerms → TenantTerms → Option TenantTerms
unless_there tenants t = if is_there tenants t.name then None else Some t

-- the tenant of a value that follows these tenants, which are at most 64
abbrev pub next_tenant : Version → List TenantTerms → Data → Option TenantTerms
next_tenant version tenants value =
    if nat_le max_tenants (length tenants) then None
    else option_and_then (unless_there tenants) (option_and_then (tenant_of_table version) (as_table value))

-- the tenants with one more, or its number as the fault
abbrev pub with_one_more : List TenantTerms → Option TenantTerms → Result (List TenantTerms) SetupFault
with_one_more tenants None = Err (Tenant (length tenants))
with_one_more tenants (Some t) = Ok (tenants ++ t ∷ [])

-- the tenants of the items that follow these, or the number of the first that breaks a rule
unfoldable pub tenants_of_items : Version → List TenantTerms → Items → Result (List TenantTerms) SetupFault
tenants_of_items version tenants no_items = Ok tenants
tenants_of_items version tenants (item first others) =
    with_one_more tenants (next_tenant version tenants first) >>= (λ more. tenants_of_items version more others)

-- the tenants of the items, of which there is one at least
abbrev pub some_tenants : Version → Items → Result (List TenantTerms) SetupFault
some_tenants version no_items = Err (Tenant 0)
some_tenants version (item first others) = tenants_of_items version [] (item first others)

-- the tenants of an array of tables
unfoldable pub tenants_of_array : Version → Option Items → Result (List TenantTerms) SetupFault
tenants_of_array version None = Err (Tenant 0)
tenants_of_array version (Some items) = some_tenants version items
