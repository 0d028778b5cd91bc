-- What is read as a setup may be written, and is read then as the same.
use Rattle.std.proofs.Common.{◌≡◌, ℕ, Bool, true, false, cond, List, [], ◌∷◌, ◌++◌, length, map, Option, Some, None, Ok, Err, Result, refl, ap, subst, ◌∙◌}
use Rattle.std.specs.Prelude.{codes, option_and_then, nat_le, ◌||◌}
use Rattle.std.specs.List.{AllByRecursion, IsDistinct}
use Rattle.std.specs.Str.{bytes_eq, is_utf8}
use Rattle.toml.specs.Data.{Data, Items, no_items, item, Members, as_table}
use Rattle.toml.specs.Parse.{parse_document}
use Rattle.std.specs.Option.{option_map_or}
use Rattle.common_types.specs.ResultChain.{◌>>=◌}
use Rattle.tenant_core.specs.Limits.{max_tenants}
use Rattle.admin_text.specs.Again.{SetupAgainLaw}
use Rattle.admin_text.specs.Setup.{document_of, from_start, setup_of, setup_by, setup_of_table, start_of, then_setup, version_of}
use Rattle.admin_text.specs.TenantTable.{own_terms_of, tenant_of_table}
use Rattle.admin_text.specs.Tenants.{is_there, unless_there, next_tenant, with_one_more, tenants_of_items, tenants_of_array}
use Rattle.admin_text.specs.declared.setup.Setup.{Setup}
use Rattle.admin_text.specs.declared.setup.SetupFault.{SetupFault}
use Rattle.admin_text.specs.declared.setup.SetupFault.TheVariants.{Toml}
use Rattle.admin_text.proofs.Few.{setup_law}
use Rattle.tenant_core.specs.Network.{Net}
use Rattle.tenant_core.specs.declared.terms.TenantTerms.{TenantTerms}
use Rattle.admin_text.specs.Anew.{net_anew, anew}
use Rattle.admin_text.specs.Keys.{array_under}
use Rattle.admin_text.specs.Networks.{network_in_table}
use Rattle.admin_text.specs.declared.version.Version.{Version}
use Rattle.admin_text.proofs.SetupsAnew.{bound, network_anew}

-- ---- tenants

tenant_anew : (version : Version) (m : Members) (t : TenantTerms) → tenant_of_table version m ≡ Some t → anew t ≡ t
unfolding tenant_of_table
tenant_anew version m t e =
    let own = bound (own_terms_of m) _ t e in
    let net = bound (network_in_table version m) _ t own.2 in
    let network = ap (λ (o : Option TenantTerms). option_map_or (λ (x : TenantTerms). x.network) o net.0) net.2 in
    let same : net_anew t.network ≡ t.network = subst (λ (n : Net). net_anew n ≡ n) network (network_anew version m net.0 net.1) in
    λ i. record t { network = same i }

abbrev named : TenantTerms → List ℕ
named t = t.name

-- tenants that a setup has
record AreAgain (ts : List TenantTerms) : Type 0 where
  pub names : IsDistinct bytes_eq (map named ts)
  pub same : map anew ts ≡ ts

pushed_name : (x : TenantTerms) (ts : List TenantTerms) (t : TenantTerms) → AllByRecursion (λ y. bytes_eq x.name y ≡ false) (map named ts) → bytes_eq x.name t.name ≡ false
    → AllByRecursion (λ y. bytes_eq x.name y ≡ false) (map named (ts ++ t ∷ []))
pushed_name x [] t all new = (new, tt)
pushed_name x (y ∷ ts) t all new = (all.0, pushed_name x ts t all.1 new)

either_false : (a b : Bool) → (a || b) ≡ false → (a ≡ false) × (b ≡ false)
either_false true b e = absurd cc
either_false false b e = (refl, e)

distinct_push : (ts : List TenantTerms) (t : TenantTerms) → IsDistinct bytes_eq (map named ts) → is_there ts t.name ≡ false → IsDistinct bytes_eq (map named (ts ++ t ∷ []))
unfolding IsDistinct
distinct_push [] t all absent = (tt, tt)
distinct_push (x ∷ ts) t all absent =
    let two = either_false (bytes_eq x.name t.name) (is_there ts t.name) absent in
    (pushed_name x ts t all.0 two.0, distinct_push ts t all.1 two.1)

same_push : (ts : List TenantTerms) (t : TenantTerms) → map anew ts ≡ ts → anew t ≡ t → map anew (ts ++ t ∷ []) ≡ ts ++ t ∷ []
same_push ts t all new = mapped ts ∙ (λ i. all i ++ new i ∷ [])
  where
    mapped : (us : List TenantTerms) → map anew (us ++ t ∷ []) ≡ map anew us ++ anew t ∷ []
    mapped [] = refl
    mapped (u ∷ us) = ap (λ (xs : List TenantTerms). anew u ∷ xs) (mapped us)

one_more : (version : Version) (ts : List TenantTerms) (d : Data) (t : TenantTerms) → AreAgain ts → next_tenant version ts d ≡ Some t → AreAgain (ts ++ t ∷ [])
one_more version ts d t k e = by (nat_le max_tenants (length ts)) e
  where
    free : (u : TenantTerms) (b : Bool) → is_there ts u.name ≡ b → cond b None (Some u) ≡ Some t → anew u ≡ u → AreAgain (ts ++ t ∷ [])
    free u true there h same = absurd cc
    free u false there h same =
        let is : u ≡ t = cc in
        subst (λ (x : TenantTerms). AreAgain (ts ++ x ∷ [])) is (record { names = distinct_push ts u k.names there; same = same_push ts u k.same same })

    by : (b : Bool) → cond b None (option_and_then (unless_there ts) (option_and_then (tenant_of_table version) (as_table d))) ≡ Some t → AreAgain (ts ++ t ∷ [])
    by true h = absurd cc
    by false h =
        let u = bound (option_and_then (tenant_of_table version) (as_table d)) (unless_there ts) t h in
        let m = bound (as_table d) (tenant_of_table version) u.0 u.1 in
        free u.0 (is_there ts u.0.name) refl u.2 (tenant_anew version m.0 u.0 m.2)

all_again : (version : Version) (ts : List TenantTerms) (items : Items) (r : List TenantTerms) → AreAgain ts → tenants_of_items version ts items ≡ Ok r → AreAgain r
unfolding tenants_of_items
all_again version ts no_items r k e = let same : ts ≡ r = cc in subst AreAgain same k
all_again version ts (item first others) r k e = step (next_tenant version ts first) refl (λ more. all_again version more others r) e
  where
    step : (o : Option TenantTerms) → next_tenant version ts first ≡ o → ((more : List TenantTerms) → AreAgain more → tenants_of_items version more others ≡ Ok r → AreAgain r) → (with_one_more ts o >>= (λ more. tenants_of_items version more others)) ≡ Ok r → AreAgain r
    step None is rest e = absurd cc
    step (Some t) is rest e = rest (ts ++ t ∷ []) (one_more version ts first t k is) e

none_again : AreAgain []
unfolding IsDistinct
none_again = record { names = tt; same = refl }

array_again : (version : Version) (o : Option Items) (r : List TenantTerms) → tenants_of_array version o ≡ Ok r → AreAgain r
unfolding tenants_of_array
array_again version None r e = absurd cc
array_again version (Some no_items) r e = absurd cc
array_again version (Some (item first others)) r e = all_again version [] (item first others) r none_again e

started_again : (start : Option ℕ) (tenants : Result (List TenantTerms) SetupFault) (s : Setup) → ((r : List TenantTerms) → tenants ≡ Ok r → AreAgain r) → from_start start tenants ≡ Ok s → AreAgain s.tenants
started_again None tenants s are e = absurd cc
started_again (Some start) (Ok ts) s are e = let same : ts ≡ s.tenants = cc in subst AreAgain same (are ts refl)
started_again (Some start) (Err f) s are e = absurd cc

table_again : (t : Members) (s : Setup) → setup_of_table t ≡ Ok s → AreAgain s.tenants
unfolding setup_of_table
table_again t s e = by (version_of t) e
  where
    by : (o : Option Version) → setup_by o t ≡ Ok s → AreAgain s.tenants
    by None e = absurd cc
    by (Some version) e = started_again (start_of t) _ s (array_again version (array_under (codes "tenant") t)) e

document_again : (r : Result Members SetupFault) (s : Setup) → then_setup r ≡ Ok s → AreAgain s.tenants
document_again (Ok t) s e = table_again t s e
document_again (Err f) s e = absurd cc

text_again : (text : List ℕ) (s : Setup) → setup_of text ≡ Ok s → AreAgain s.tenants
unfolding setup_of
text_again text s e = by (is_utf8 text) e
  where
    by : (b : Bool) → cond b (then_setup (document_of (parse_document text))) (Err Toml) ≡ Ok s → AreAgain s.tenants
    by true e = document_again (document_of (parse_document text)) s e
    by false e = absurd cc

pub again_law : SetupAgainLaw
again_law text s e =
    let k = text_again text s e in
    let n = setup_law text s e in
    (record { some = n.0; few = n.1; names = k.names }, k.same)
