-- What readers find in the tables of tenants, and of a setup.
use Rattle.std.proofs.Common.{◌≡◌, ◌<◌, ◌≤◌, ◌+◌, ℕ, true, false, List, [], ◌∷◌, ◌++◌, length, get_or, take, map, Some, Ok, refl, sym, ap, subst, ◌∙◌, arith}
use Rattle.std.specs.Prelude.{codes, nat_le, option_and_then}
use Rattle.std.specs.FinMap.{empty}
use Rattle.std.specs.List.{AllByRecursion, IsDistinct}
use Rattle.std.specs.Str.{bytes_eq, IsUtf8}
use Rattle.std.proofs.lemmas.Bool.Decides.{nat_tests}
use Rattle.std.proofs.lemmas.List.{append-nil, append_assoc, length_push, take_more}
use Rattle.std.proofs.lemmas.List.Folds.{list_any-append}
use Rattle.toml.specs.Data.{Data, Items, no_items, item, Members, get_member, as_table, depth, items_depth, members_depth, has_valid_dates, items_have_valid_dates, members_have_valid_dates, push_item}
use Rattle.toml.specs.View.{view, items_view}
use Rattle.toml.specs.declared.value.Value.{Value}
use Rattle.toml.proofs.Views.{items_view-push}
use Rattle.common_types.specs.Numbers.{is_between}
use Rattle.ilp_addr.specs.Laws.{PrefixWordLaws, TargetLaws}
use Rattle.ilp_addr.specs.Timestamp.{last_moment}
use Rattle.route_table.specs.declared.route.Route.{Route}
use Rattle.money_core.specs.Account.{max_money}
use Rattle.tenant_core.specs.Limits.{max_journal, max_margin, max_hold, max_tenants}
use Rattle.tenant_core.specs.Network.{Net, nobody}
use Rattle.tenant_core.specs.Setup.{is_tenant_setup}
use Rattle.tenant_core.specs.declared.peer.Peer.{Peer}
use Rattle.tenant_core.specs.declared.terms.RateTerms.{RateTerms}
use Rattle.tenant_core.specs.declared.terms.TenantTerms.{TenantTerms}
use Rattle.admin_text.specs.Anew.{peers_from, routes_anew, net_anew, anew, AreTenants}
use Rattle.admin_text.specs.Keys.{items_under, array_under, address_under, number_or}
use Rattle.admin_text.specs.Under.{under}
use Rattle.admin_text.specs.Made.{peer_members, route_members, rate_members, tenant_members, setup_members, number_data}
use Rattle.admin_text.specs.Networks.{network_in_table}
use Rattle.admin_text.specs.Setup.{setup_of, setup_of_table}
use Rattle.admin_text.specs.TenantTable.{own_terms_of, tenant_of_table}
use Rattle.admin_text.specs.Tenants.{is_there, next_tenant, tenants_of_items, tenants_of_array}
use Rattle.admin_text.specs.Told.{AllTold, TellsPeer, TellsRoute, TellsRate, TellsNetwork, TellsTenant}
use Rattle.admin_text.specs.declared.fields.tenant.OwnTerms.{OwnTerms}
use Rattle.admin_text.specs.declared.version.Version.TheVariants.{Two}
use Rattle.toml.specs.Parse.{parse_document}
use Rattle.admin_text.proofs.Texts.{setup_of-document}
use Rattle.admin_text.proofs.TellsPeers.{text_there, word_there, peers_read, from_nobody, all_follow}
use Rattle.admin_text.proofs.TellsRoutes.{routes_read, added_are, all_route, rates_read, all_rate}

pub told_push : {A : Type 0} (tells : Data → A → Type 0) (items : Items) (xs : List A) (d : Data) (x : A) → AllTold tells items xs → tells d x → AllTold tells (push_item items d) (xs ++ x ∷ [])
told_push tells no_items [] d x all new = (new, tt)
told_push tells no_items (y ∷ xs) d x all new = absurd all
told_push tells (item e items) [] d x all new = absurd all
told_push tells (item e items) (y ∷ xs) d x all new = (all.0, told_push tells items xs d x all.1 new)

-- what is known of the words and the addresses
pub record Laws : Type 0 where
  pub prefixes : PrefixWordLaws
  pub targets : TargetLaws

-- ---- a network

network_read : Laws → (t : TenantTerms) (ps rs qs : Items) → TellsNetwork ps rs qs t.network → network_in_table Two (tenant_members t ps rs qs) ≡ Some (net_anew t.network)
unfolding network_in_table items_under array_under tenant_members
network_read laws t ps rs qs n =
    let net : Net = t.network in
    let now : Net = record { next_peer = length net.peers; peers = peers_from 0 net.peers; routes = empty; rates = [] } in
    let routed : Net = record now { routes = routes_anew net.peers net.routes } in
    let reached = peers_read laws.targets nobody ps net.peers n.peers_told (all_follow net n.network) ∙ ap Some (from_nobody net.peers) in
    let with_routes = routes_read laws.prefixes net now empty n.network refl rs n.list n.routes_told (all_route net.peers n.list n.listed.once n.listed.few)
    ∙ ap (λ m. Some (record now { routes = m })) (added_are net.peers net.routes n.list n.listed.once n.listed.all) in
    let with_rates = rates_read net routed [] n.network refl qs net.rates n.rates_told (all_rate net n.network n.apart) in
    rw (reached, with_routes) with_rates

-- ---- a tenant

within_from : (t : TenantTerms) → is_tenant_setup t ≡ true
    → (is_between 2 max_journal t.journal ≡ true) × (is_between 0 max_margin t.margin ≡ true) × (is_between 1 max_hold t.hold ≡ true)
    × (t.journal ≤ max_money) × (t.margin ≤ max_money) × (t.hold ≤ max_money)
within_from t e = (grind (arith, nat_tests), grind (arith, nat_tests), grind (arith, nat_tests), grind (arith, nat_tests), grind (arith, nat_tests), grind (arith, nat_tests))

number_or_there : (default : ℕ) (key : List ℕ) (ms : Members) (n : ℕ) → get_member key ms ≡ Some (number_data n) → n ≤ max_money → number_or default key ms ≡ Some n
unfolding number_or
number_or_there default key ms n e h = rw (e, word_there key ms n e h) refl

own_terms : TenantTerms → OwnTerms
own_terms t = record { name = t.name; address = t.address; admin = t.admin; journal = t.journal; margin = t.margin; hold = t.hold }

own_read : (t : TenantTerms) (ps rs qs : Items) (d : Data) → TellsTenant d t → Some (own_terms t) ≡ own_terms_of (tenant_members t ps rs qs)
unfolding under address_under tenant_members own_terms
own_read t ps rs qs d k =
    let ms : Members = tenant_members t ps rs qs in
    let w = within_from t k.within in
    rw (
      text_there (codes "name") ms t.name refl,
      k.name,
      text_there (codes "address") ms t.address refl,
      k.address,
      text_there (codes "admin") ms t.admin refl,
      k.admin,
      number_or_there 1024 (codes "journal") ms t.journal refl w.3,
      w.0,
      number_or_there 1000 (codes "margin") ms t.margin refl w.4,
      w.1,
      number_or_there 30000 (codes "hold") ms t.hold refl w.5,
      w.2,
    ) refl

tenant_read : Laws → (d : Data) (t : TenantTerms) → TellsTenant d t → option_and_then (tenant_of_table Two) (as_table d) ≡ Some (anew t)
unfolding own_terms tenant_of_table
tenant_read laws d t k =
    rw (k.told, ← own_read t k.peers k.routes k.rates d k, network_read laws t k.peers k.routes k.rates k.network) refl

-- ---- all tenants

abbrev named : TenantTerms → List ℕ
named t = t.name

not_there : (there : List TenantTerms) (name : List ℕ) → is_there there name ≡ false → nat_le max_tenants (length there) ≡ false → (d : Data) (t : TenantTerms) → t.name ≡ name
    → option_and_then (tenant_of_table Two) (as_table d) ≡ Some (anew t) → next_tenant Two there d ≡ Some (anew t)
not_there there name absent room d t is read =
    let free : is_there there t.name ≡ false = ap (is_there there) is ∙ absent in
    rw (room, read, free) refl

there_later : (there : List TenantTerms) (t : TenantTerms) (ts : List TenantTerms) → AllByRecursion (λ y. bytes_eq t.name y ≡ false) (map named ts)
    → AllByRecursion (λ y. is_there there y ≡ false) (map named ts) → AllByRecursion (λ y. is_there (there ++ anew t ∷ []) y ≡ false) (map named ts)
there_later there t [] apart absent = tt
there_later there t (u ∷ ts) apart absent =
    (list_any-append (λ x. bytes_eq x.name u.name) there (anew t ∷ []) ∙ rw (absent.0, apart.0) refl, there_later there t ts apart.1 absent.1)

all_read : Laws → (there : List TenantTerms) (items : Items) (ts : List TenantTerms) → AllTold TellsTenant items ts → IsDistinct bytes_eq (map named ts)
    → AllByRecursion (λ y. is_there there y ≡ false) (map named ts) → length there + length ts ≤ max_tenants → tenants_of_items Two there items ≡ Ok (there ++ map anew ts)
unfolding IsDistinct tenants_of_items
all_read laws there no_items [] told apart absent few = ap Ok (sym (append-nil there))
all_read laws there no_items (t ∷ ts) told apart absent few = absurd told
all_read laws there (item d ds) [] told apart absent few = absurd told
all_read laws there (item d ds) (t ∷ ts) told apart absent few =
    let room : nat_le max_tenants (length there) ≡ false = grind (arith, nat_tests) in
    let longer = length_push there (anew t) in
    rw (not_there there t.name absent.0 room d t refl (tenant_read laws d t told.0))
    (all_read laws (there ++ anew t ∷ []) ds ts told.1 apart.1 (there_later there t ts apart.0 absent.1) (omega arith)
    ∙ ap Ok (append_assoc there (anew t ∷ []) (map anew ts)))

nobody_there : (names : List (List ℕ)) → AllByRecursion (λ y. is_there [] y ≡ false) names
nobody_there [] = tt
nobody_there (n ∷ names) = (refl, nobody_there names)

some_read : Laws → (items : Items) (ts : List TenantTerms) → AllTold TellsTenant items ts → AreTenants ts → tenants_of_array Two (Some items) ≡ Ok (map anew ts)
unfolding tenants_of_array
some_read laws no_items [] told are = let some = are.some in absurd (omega arith)
some_read laws no_items (t ∷ ts) told are = absurd told
some_read laws (item d ds) [] told are = absurd told
some_read laws (item d ds) (t ∷ ts) told are =
    let few = are.few in
    all_read laws [] (item d ds) (t ∷ ts) told are.names (nobody_there (map named (t ∷ ts))) (omega arith)

pub setup_read : Laws → (start : ℕ) (items : Items) (ts : List TenantTerms) → start ≤ last_moment → AllTold TellsTenant items ts → AreTenants ts
    → setup_of_table (setup_members start items) ≡ Ok (record { start = start; tenants = map anew ts })
unfolding setup_of_table array_under setup_members
setup_read laws start items ts early told are =
    let ms : Members = setup_members start items in
    let moment : nat_le start last_moment ≡ true = grind (arith, nat_tests) in
    rw (word_there (codes "version") ms 2 refl (omega arith), word_there (codes "start") ms start refl (omega arith), moment, some_read laws items ts told are) refl

-- ---- it can be printed

-- as deep as that, and with no date that can't be written
record IsPlain (deep : ℕ) (d : Data) : Type 0 where
  pub shallow : depth d ≤ deep
  pub dates : has_valid_dates d ≡ true

record ArePlain (deep : ℕ) (items : Items) : Type 0 where
  pub shallow : items_depth items ≤ deep
  pub dates : items_have_valid_dates items ≡ true

all_plain : {A : Type 0} (tells : Data → A → Type 0) (deep : ℕ) → ((d : Data) (x : A) → tells d x → IsPlain deep d) → (items : Items) (xs : List A) → AllTold tells items xs → ArePlain deep items
all_plain tells deep each no_items [] told = record { shallow = omega arith; dates = refl }
all_plain tells deep each no_items (x ∷ xs) told = absurd told
all_plain tells deep each (item d ds) [] told = absurd told
all_plain tells deep each (item d ds) (x ∷ xs) told =
    let here = each d x told.0 in
    let others = all_plain tells deep each ds xs told.1 in
    let a = here.shallow in
    let b = others.shallow in
    record { shallow = omega arith; dates = rw (here.dates, others.dates) refl }

peer_plain : (d : Data) (p : Peer) → TellsPeer d p → IsPlain 1 d
unfolding peer_members
peer_plain d p k = rw k.0 (record { shallow = omega arith; dates = refl })

route_plain : (peers : List Peer) (d : Data) (r : Route) → TellsRoute peers d r → IsPlain 1 d
unfolding route_members
route_plain peers d r k = rw k.told (record { shallow = omega arith; dates = refl })

rate_plain : (peers : List Peer) (d : Data) (r : RateTerms) → TellsRate peers d r → IsPlain 1 d
unfolding rate_members
rate_plain peers d r k = rw k.told (record { shallow = omega arith; dates = refl })

tenant_plain : (d : Data) (t : TenantTerms) → TellsTenant d t → IsPlain 3 d
unfolding tenant_members
tenant_plain d t k =
    let n = k.network in
    let ps = all_plain TellsPeer 1 peer_plain k.peers t.network.peers n.peers_told in
    let rs = all_plain (TellsRoute t.network.peers) 1 (route_plain t.network.peers) k.routes n.list n.routes_told in
    let qs = all_plain (TellsRate t.network.peers) 1 (rate_plain t.network.peers) k.rates t.network.rates n.rates_told in
    let a = ps.shallow in
    let b = rs.shallow in
    let e = qs.shallow in
    rw k.told (record { shallow = omega arith; dates = rw (ps.dates, rs.dates, qs.dates) refl })

pub setup_plain : (start : ℕ) (items : Items) (ts : List TenantTerms) → AllTold TellsTenant items ts → (members_depth (setup_members start items) ≤ 80) × (members_have_valid_dates (setup_members start items) ≡ true)
unfolding setup_members
setup_plain start items ts told =
    let all = all_plain TellsTenant 3 tenant_plain items ts told in
    let a = all.shallow in
    (omega arith, rw all.dates refl)

-- ---- one value after the other

pub told_more : {A : Type 0} (tells : Data → A → Type 0) (vs new : List Value) (xs : List A) (i : ℕ) (x : A) (v : Value) → AllTold tells (items_view vs) (take i xs) → i < length xs
    → x ≡ get_or xs i x → tells (view v) x → new ≡ vs ++ v ∷ [] → AllTold tells (items_view new) (take (i + 1) xs)
told_more tells vs new xs i x v told inside is tell e =
    let items : items_view new ≡ push_item (items_view vs) (view v) = ap items_view e ∙ items_view-push vs v in
    let list : take (i + 1) xs ≡ take i xs ++ x ∷ [] = take_more xs i x inside ∙ ap (λ y. take i xs ++ y ∷ []) (sym is) in
    rw (items, list) (told_push tells (items_view vs) (take i xs) (view v) x told tell)

-- ---- the text

pub written : Laws → (start : ℕ) (items : Items) (ts : List TenantTerms) (text : List ℕ) (t : Members) → start ≤ last_moment → AllTold TellsTenant items ts → t ≡ setup_members start items → IsUtf8 text
    → (members_depth t ≤ 80 → parse_document text ≡ Some t) → AreTenants ts → setup_of text ≡ Ok (record { start = start; tenants = map anew ts })
written laws start items ts text t early told is utf8 read are =
    let deep : members_depth t ≤ 80 = subst (λ (m : Members). members_depth m ≤ 80) (sym is) (setup_plain start items ts told).0 in
    setup_of-document text t utf8 (read deep) ∙ ap setup_of_table is ∙ setup_read laws start items ts early told are
