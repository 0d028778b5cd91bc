-- What the table of a tenant says.
use Rattle.std.specs.Prelude.{Option, Some, codes}
use Rattle.toml.specs.Data.{Members}
use Rattle.tenant_core.specs.Limits.{max_journal, max_margin, max_hold}
use Rattle.tenant_core.specs.Network.{Net}
use Rattle.tenant_core.specs.declared.terms.TenantTerms.{TenantTerms}
use Rattle.common_types.specs.OptionChain.{◌>>=◌}
use Rattle.admin_text.specs.Under.{name_under, token_under}
use Rattle.admin_text.specs.Keys.{address_under, number_or, within}
use Rattle.admin_text.specs.Networks.{network_in_table}
use Rattle.admin_text.specs.declared.fields.tenant.OwnTerms.{OwnTerms}
use Rattle.admin_text.specs.declared.version.Version.{Version}

-- what its own keys say, but for whom it deals with: each within its limits
abbrev pub own_terms_of : Members → Option OwnTerms
own_terms_of t = do
  name ← name_under (codes "name") t
  address ← address_under (codes "address") t
  admin ← token_under (codes "admin") t
  journal ← number_or 1024 (codes "journal") t >>= within 2 max_journal
  margin ← number_or 1000 (codes "margin") t >>= within 0 max_margin
  hold ← number_or 30000 (codes "hold") t >>= within 1 max_hold
  Some (record {
    name = name;
    address = address;
    admin = admin;
    journal = journal;
    margin = margin;
    hold = hold;
  })

-- the terms of a tenant that deals with these
abbrev pub terms_with : OwnTerms → Net → TenantTerms
terms_with own network = record {
  name = own.name;
  address = own.address;
  admin = own.admin;
  journal = own.journal;
  margin = own.margin;
  hold = own.hold;
  network = network;
}

-- a tenant
unfoldable pub tenant_of_table : Version → Members → Option TenantTerms
tenant_of_table version t = do
  own ← own_terms_of t
  network ← network_in_table version t
  Some (terms_with own network)
