-- Only the keys that are listed count.
use Rattle.std.specs.Prelude.{ℕ, ◌≡◌, List, [], ◌∷◌}
use Rattle.toml.specs.Data.{Members, get_member}
use Rattle.tenant_core.specs.Network.{Net}
use Rattle.admin_text.specs.Networks.{with_peer_of, with_route_of, with_rate_of}
use Rattle.admin_text.specs.Setup.{setup_of_table}
use Rattle.admin_text.specs.Versions.{top_keys, keys_of}
use Rattle.admin_text.specs.TenantTable.{tenant_of_table}
use Rattle.admin_text.specs.declared.places.TableKind.TheVariants.{Tenant, Peer, Route, Rate}
use Rattle.admin_text.specs.declared.version.Version.{Version}

-- two tables have the same at these keys, or both have nothing there
abbrev pub AgreeAt : List (List ℕ) → Members → Members → Type 0
AgreeAt [] t u = Unit {0}
AgreeAt (key ∷ keys) t u = (get_member key t ≡ get_member key u) × AgreeAt keys t u

-- Tables that agree at the keys that count have the same meaning, whatever else they have.
pub record KeyLaws : Type 0 where
  pub top : (t u : Members) → AgreeAt top_keys t u → setup_of_table t ≡ setup_of_table u
  pub tenant : (version : Version) (t u : Members)
      → AgreeAt (keys_of version Tenant) t u → tenant_of_table version t ≡ tenant_of_table version u
  pub peer : (version : Version) (net : Net) (t u : Members)
      → AgreeAt (keys_of version Peer) t u → with_peer_of net t ≡ with_peer_of net u
  pub route : (version : Version) (net : Net) (t u : Members)
      → AgreeAt (keys_of version Route) t u → with_route_of version net t ≡ with_route_of version net u
  pub rate : (version : Version) (net : Net) (t u : Members)
      → AgreeAt (keys_of version Rate) t u → with_rate_of net t ≡ with_rate_of net u
