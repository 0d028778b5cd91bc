-- How many tenants a setup has.
use Rattle.std.proofs.Common.{◌≡◌, ◌≤◌, ◌<◌, ◌+◌, ℕ, Bool, true, false, cond, List, [], ◌∷◌, ◌++◌, length, Option, Some, None, Result, Ok, Err, refl, subst, arith}
use Rattle.std.proofs.lemmas.Bool.{leb-false}
use Rattle.std.specs.Prelude.{nat_le, codes}
use Rattle.std.specs.Str.{is_utf8}
use Rattle.toml.specs.Data.{Items, Members, no_items, item}
use Rattle.toml.specs.Parse.{parse_document}
use Rattle.tenant_core.specs.Limits.{max_tenants}
use Rattle.tenant_core.specs.declared.terms.TenantTerms.{TenantTerms}
use Rattle.common_types.specs.ResultChain.{◌>>=◌}
use Rattle.admin_text.specs.Keys.{array_under}
use Rattle.admin_text.specs.Setup.{SetupLaw, document_of, from_start, setup_of, setup_by, setup_of_table, start_of, then_setup, version_of}
use Rattle.admin_text.specs.Tenants.{next_tenant, tenants_of_array, tenants_of_items, with_one_more}
use Rattle.admin_text.specs.declared.setup.Setup.{Setup}
use Rattle.admin_text.specs.declared.setup.SetupFault.{SetupFault}
use Rattle.admin_text.specs.declared.setup.SetupFault.TheVariants.{Toml}
use Rattle.admin_text.specs.declared.version.Version.{Version}

abbrev Are : ℕ → List TenantTerms → Type 0
Are low ts = (low ≤ length ts) × (length ts ≤ max_tenants)

-- there was room for one more
had_room : (ts : List TenantTerms) (b : Bool) (x : Option TenantTerms) (t : TenantTerms) → nat_le max_tenants (length ts) ≡ b → cond b None x ≡ Some t → length ts < max_tenants
had_room ts true x t e is = absurd cc
had_room ts false x t e is = leb-false max_tenants (length ts) e

one_longer : (ts : List TenantTerms) (t : TenantTerms) → length (ts ++ t ∷ []) ≡ length ts + 1
one_longer [] t = refl
one_longer (x ∷ xs) t = let e = one_longer xs t in omega arith

few : (version : Version) (ts : List TenantTerms) (items : Items) (r : List TenantTerms) → length ts ≤ max_tenants → tenants_of_items version ts items ≡ Ok r
    → Are (length ts) r
unfolding tenants_of_items
few version ts no_items r le e = let same : ts ≡ r = cc in subst (λ (us : List TenantTerms). Are (length ts) us) same (omega arith, le)
few version ts (item first others) r le e = step (next_tenant version ts first) refl (λ more. few version more others r) e
  where
    step : (o : Option TenantTerms) → next_tenant version ts first ≡ o → ((more : List TenantTerms) → length more ≤ max_tenants → tenants_of_items version more others ≡ Ok r → Are (length more) r) → (with_one_more ts o >>= (λ more. tenants_of_items version more others)) ≡ Ok r → Are (length ts) r
    step None is rest e = absurd cc
    step (Some t) is rest e =
        let room = had_room ts (nat_le max_tenants (length ts)) _ t refl is in
        let longer = one_longer ts t in
        let k = rest (ts ++ t ∷ []) (omega arith) e in
        (omega (arith, k.0), k.1)

some_few : (version : Version) (o : Option Items) (r : List TenantTerms) → tenants_of_array version o ≡ Ok r → Are 1 r
unfolding tenants_of_array tenants_of_items
some_few version None r e = absurd cc
some_few version (Some no_items) r e = absurd cc
some_few version (Some (item first others)) r e = step (next_tenant version [] first) e
  where
    step : (o : Option TenantTerms) → (with_one_more [] o >>= (λ more. tenants_of_items version more others)) ≡ Ok r → Are 1 r
    step None e = absurd cc
    step (Some t) e = few version (t ∷ []) others r (omega arith) e

started_few : (start : Option ℕ) (tenants : Result (List TenantTerms) SetupFault) (s : Setup) → ((r : List TenantTerms) → tenants ≡ Ok r → Are 1 r)
    → from_start start tenants ≡ Ok s → Are 1 s.tenants
started_few None tenants s are e = absurd cc
started_few (Some start) (Ok ts) s are e = let same : ts ≡ s.tenants = cc in subst (λ (us : List TenantTerms). Are 1 us) same (are ts refl)
started_few (Some start) (Err f) s are e = absurd cc

table_few : (t : Members) (s : Setup) → setup_of_table t ≡ Ok s → Are 1 s.tenants
unfolding setup_of_table
table_few t s e = by (version_of t) e
  where
    by : (o : Option Version) → setup_by o t ≡ Ok s → Are 1 s.tenants
    by None e = absurd cc
    by (Some version) e = started_few (start_of t) _ s (some_few version (array_under (codes "tenant") t)) e

document_few : (r : Result Members SetupFault) (s : Setup) → then_setup r ≡ Ok s → Are 1 s.tenants
document_few (Ok t) s e = table_few t s e
document_few (Err f) s e = absurd cc

pub setup_law : SetupLaw
unfolding setup_of
setup_law text s e = by (is_utf8 text) e
  where
    by : (b : Bool) → cond b (then_setup (document_of (parse_document text))) (Err Toml) ≡ Ok s → Are 1 s.tenants
    by true e = document_few (document_of (parse_document text)) s e
    by false e = absurd cc
