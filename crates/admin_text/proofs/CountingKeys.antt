-- Tables that have the same at the keys that count say the same: each key is read by itself.
use Rattle.std.proofs.Common.{◌≡◌, Option, Some, None, refl, ap, ◌∙◌}
use Rattle.toml.specs.Data.{Members}
use Rattle.tenant_core.specs.Network.{Net}
use Rattle.admin_text.specs.Keys.{string_under, address_under, integer_under, number_under, between_under}
use Rattle.admin_text.specs.Under.{under}
use Rattle.admin_text.specs.Keys.{integer_or, number_or, array_under, items_under}
use Rattle.admin_text.specs.Under.{peer_terms_of, starting_balance}
use Rattle.admin_text.specs.KeyLaws.{AgreeAt, KeyLaws}
use Rattle.admin_text.specs.Networks.{network_in_table, peer_under, fee_of, rate_of, with_peer_of, with_route_of, with_rate_of}
use Rattle.admin_text.specs.Setup.{setup_by, setup_of_table, version_of}
use Rattle.admin_text.specs.Versions.{top_keys, keys_of}
use Rattle.admin_text.specs.TenantTable.{tenant_of_table}
use Rattle.admin_text.specs.declared.places.TableKind.TheVariants.{Tenant, Peer, Route, Rate}
use Rattle.admin_text.specs.declared.version.Version.{Version}
use Rattle.admin_text.specs.declared.version.Version.TheVariants.{One, Two}

top_agrees : (t u : Members) → AgreeAt top_keys t u → setup_of_table t ≡ setup_of_table u
unfolding setup_of_table number_under integer_under array_under
top_agrees t u h = ap (λ (o : Option Version). setup_by o t) version ∙ by (version_of u)
  where
    version : version_of t ≡ version_of u
    version = rw h.0 refl

    by : (o : Option Version) → setup_by o t ≡ setup_by o u
    by None = refl
    by (Some v) = rw (h.1.0, h.1.1.0) refl

tenant_agrees : (version : Version) (t u : Members) → AgreeAt (keys_of version Tenant) t u → tenant_of_table version t ≡ tenant_of_table version u
unfolding tenant_of_table network_in_table items_under array_under under address_under number_or number_under integer_under string_under
tenant_agrees version t u h =
    rw (h.0, h.1.0, h.1.1.0, h.1.1.1.0, h.1.1.1.1.0, h.1.1.1.1.1.0, h.1.1.1.1.1.1.0, h.1.1.1.1.1.1.1.0, h.1.1.1.1.1.1.1.1.0) refl

peer_agrees : (version : Version) (net : Net) (t u : Members) → AgreeAt (keys_of version Peer) t u → with_peer_of net t ≡ with_peer_of net u
unfolding peer_terms_of starting_balance under number_under between_under integer_or integer_under string_under
peer_agrees version net t u h =
    let a = h.1.1.1.1 in
    let b = a.1.1.1.1 in
    rw (h.0, h.1.0, h.1.1.0, h.1.1.1.0, a.0, a.1.0, a.1.1.0, a.1.1.1.0, b.0, b.1.0, b.1.1.0, b.1.1.1.0, b.1.1.1.1.0) refl

route_agrees : (version : Version) (net : Net) (t u : Members) → AgreeAt (keys_of version Route) t u → with_route_of version net t ≡ with_route_of version net u
unfolding with_route_of peer_under fee_of number_or number_under integer_under under string_under
route_agrees One net t u h = rw (h.0, h.1.0) refl
route_agrees Two net t u h = rw (h.0, h.1.0, h.1.1.0) refl

rate_agrees : (version : Version) (net : Net) (t u : Members) → AgreeAt (keys_of version Rate) t u → with_rate_of net t ≡ with_rate_of net u
unfolding with_rate_of rate_of peer_under under number_under integer_under string_under
rate_agrees version net t u h = rw (h.0, h.1.0, h.1.1.0, h.1.1.1.0) refl

pub keys_count : KeyLaws
keys_count = record {
  top = top_agrees;
  tenant = tenant_agrees;
  peer = peer_agrees;
  route = route_agrees;
  rate = rate_agrees;
}
