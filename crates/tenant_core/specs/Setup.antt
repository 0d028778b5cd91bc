-- The limits that a tenant's setup keeps.
use Rattle.std.specs.Prelude.{Bool, ◌&&◌, nat_le}
use Rattle.common_types.specs.Numbers.{is_between}
use Rattle.tenant_core.specs.Limits.{max_journal, max_margin, max_hold}
use Rattle.tenant_core.specs.declared.terms.TenantTerms.{TenantTerms}

-- a journal of 2 to 16,384 places, a margin of at most a minute, a hold of at most ten
abbrev pub is_tenant_setup : TenantTerms → Bool
is_tenant_setup t = is_between 2 max_journal t.journal && nat_le t.margin max_margin && is_between 1 max_hold t.hold
