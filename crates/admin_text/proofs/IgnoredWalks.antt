-- Keys that are found one table after the other.
use Rattle.std.proofs.Common.{◌≡◌, ℕ, Bool, true, false, cond, ◌+◌, ◌<◌, ◌≤◌, List, [], ◌∷◌, ◌++◌, String, Global, length, get_or, drop, string_bytes, refl, sym, ap, ◌∙◌, append_assoc}
use Rattle.std.proofs.lemmas.List.{append-nil, drop_all}
use Rattle.toml.proofs.Views.{items_view-drop}
use Rattle.toml.specs.Data.{Data, Members, member}
use Rattle.toml.specs.View.{view, items_view, members_view}
use Rattle.toml.specs.declared.value.Value.{Value}
use Rattle.admin_text.specs.Ignored.{KeyAt, is_key, ignored_at, ignored_in_parts, ignored_in_tenant_value, ignored_in_tenants, ignored_in_value}
use Rattle.admin_text.specs.declared.places.TableKind.{TableKind}
use Rattle.admin_text.specs.declared.places.TablePlace.{TablePlace}
use Rattle.admin_text.specs.declared.places.TablePlace.TheVariants.{Part}
use Rattle.admin_text.specs.declared.version.Version.{Version}

-- one step of a walk: what it found stands behind what was found, and what is left to find behind that
one_step : (old new all found rest left : List KeyAt) → new ≡ old ++ found → left ≡ found ++ rest → old ++ left ≡ all → new ++ rest ≡ all
one_step old new all found rest left is parts so_far =
    ap (λ (xs : List KeyAt). xs ++ rest) is ∙ append_assoc old found rest ∙ ap (λ (xs : List KeyAt). old ++ xs) (sym parts) ∙ so_far

-- its end: nothing is left to find
walked : (old all left : List KeyAt) → left ≡ [] → old ++ left ≡ all → old ≡ all
walked old all left none so_far = sym (append-nil old) ∙ ap (λ (xs : List KeyAt). old ++ xs) (sym none) ∙ so_far

-- ---- the entries of a table

one_or_none : (b : Bool) (first : KeyAt) (others : List KeyAt) → cond b others (first ∷ others) ≡ cond b [] (first ∷ []) ++ others
one_or_none true first others = refl
one_or_none false first others = refl

members_left : (version : Version) (place : TablePlace) (key : List ℕ) (value : Data) (others : Members)
    → ignored_at version place (member key value others) ≡ cond (is_key version place key) [] ((place, key) ∷ []) ++ ignored_at version place others
unfolding ignored_at
members_left version place key value others = one_or_none (is_key version place key) (place, key) (ignored_at version place others)

abbrev pub Entry : Type 0
Entry = String Global × Value

pub table_step : (version : Version) (place : TablePlace) (entries rest : List Entry) (name : String Global) (value : Value) (key : List ℕ) (old new all : List KeyAt)
    → entries ≡ (name, value) ∷ rest → key ≡ string_bytes name
    → new ≡ old ++ cond (is_key version place key) [] ((place, key) ∷ [])
    → old ++ ignored_at version place (members_view entries) ≡ all → new ++ ignored_at version place (members_view rest) ≡ all
table_step version place entries rest name value key old new all split is put so_far =
    let left : ignored_at version place (members_view entries) ≡ cond (is_key version place key) [] ((place, key) ∷ []) ++ ignored_at version place (members_view rest) =
    ap (λ (es : List Entry). ignored_at version place (members_view es)) split
    ∙ ap (λ (k : List ℕ). ignored_at version place (member k (view value) (members_view rest))) (sym is)
    ∙ members_left version place key (view value) (members_view rest) in
    one_step old new all (cond (is_key version place key) [] ((place, key) ∷ [])) (ignored_at version place (members_view rest)) (ignored_at version place (members_view entries)) put left so_far

pub table_end : (version : Version) (place : TablePlace) (entries : List Entry) (old all : List KeyAt) → entries ≡ [] → old ++ ignored_at version place (members_view entries) ≡ all → old ≡ all
unfolding ignored_at
table_end version place entries old all none so_far =
    walked old all (ignored_at version place (members_view entries)) (ap (λ (es : List Entry). ignored_at version place (members_view es)) none) so_far

-- ---- the peers, routes or rates of a tenant

parts_left : (version : Version) (tenant : ℕ) (kind : TableKind) (number : ℕ) (values : List Value) (at : ℕ) (value : Value) → at < length values → value ≡ get_or values at value
    → ignored_in_parts version tenant kind number (items_view (drop at values))
    ≡ ignored_in_value version (Part tenant kind number) (view value) ++ ignored_in_parts version tenant kind (number + 1) (items_view (drop (at + 1) values))
unfolding ignored_in_parts
parts_left version tenant kind number values at value within is =
    rw (items_view-drop values at value within) (ap (λ (v : Value). ignored_in_value version (Part tenant kind number) (view v) ++ ignored_in_parts version tenant kind (number + 1) (items_view (drop (at + 1) values))) (sym is))

pub parts_step : (version : Version) (tenant : ℕ) (kind : TableKind) (values : List Value) (at : ℕ) (value : Value) (k : TableKind) (n : ℕ) (old new all : List KeyAt)
    → at < length values → value ≡ get_or values at value → k ≡ kind → n ≡ at + 1
    → new ≡ old ++ ignored_in_value version (Part tenant k n) (view value)
    → old ++ ignored_in_parts version tenant kind (at + 1) (items_view (drop at values)) ≡ all
    → new ++ ignored_in_parts version tenant kind (at + 1 + 1) (items_view (drop (at + 1) values)) ≡ all
parts_step version tenant kind values at value k n old new all within is same_kind same_number put so_far =
    one_step old new all (ignored_in_value version (Part tenant kind (at + 1)) (view value)) (ignored_in_parts version tenant kind (at + 1 + 1) (items_view (drop (at + 1) values)))
    (ignored_in_parts version tenant kind (at + 1) (items_view (drop at values)))
    (put ∙ (λ i. old ++ ignored_in_value version (Part tenant (same_kind i) (same_number i)) (view value)))
    (parts_left version tenant kind (at + 1) values at value within is) so_far

pub parts_end : (version : Version) (tenant : ℕ) (kind : TableKind) (values : List Value) (at : ℕ) (old all : List KeyAt) → length values ≤ at
    → old ++ ignored_in_parts version tenant kind (at + 1) (items_view (drop at values)) ≡ all → old ≡ all
unfolding ignored_in_parts
parts_end version tenant kind values at old all past so_far =
    walked old all (ignored_in_parts version tenant kind (at + 1) (items_view (drop at values)))
    (ap (λ (vs : List Value). ignored_in_parts version tenant kind (at + 1) (items_view vs)) (drop_all at values past)) so_far

-- ---- tenants

tenants_left : (version : Version) (values : List Value) (number : ℕ) (value : Value) → number < length values → value ≡ get_or values number value
    → ignored_in_tenants version number (items_view (drop number values))
    ≡ ignored_in_tenant_value version number (view value) ++ ignored_in_tenants version (number + 1) (items_view (drop (number + 1) values))
unfolding ignored_in_tenants
tenants_left version values number value within is =
    rw (items_view-drop values number value within) (ap (λ (v : Value). ignored_in_tenant_value version number (view v) ++ ignored_in_tenants version (number + 1) (items_view (drop (number + 1) values))) (sym is))

pub tenants_step : (version : Version) (values : List Value) (number : ℕ) (value : Value) (old new all : List KeyAt)
    → number < length values → value ≡ get_or values number value
    → new ≡ old ++ ignored_in_tenant_value version number (view value)
    → old ++ ignored_in_tenants version number (items_view (drop number values)) ≡ all
    → new ++ ignored_in_tenants version (number + 1) (items_view (drop (number + 1) values)) ≡ all
tenants_step version values number value old new all within is put so_far =
    one_step old new all (ignored_in_tenant_value version number (view value)) (ignored_in_tenants version (number + 1) (items_view (drop (number + 1) values)))
    (ignored_in_tenants version number (items_view (drop number values))) put (tenants_left version values number value within is) so_far

pub tenants_end : (version : Version) (values : List Value) (number : ℕ) (old all : List KeyAt) → length values ≤ number
    → old ++ ignored_in_tenants version number (items_view (drop number values)) ≡ all → old ≡ all
unfolding ignored_in_tenants
tenants_end version values number old all past so_far =
    walked old all (ignored_in_tenants version number (items_view (drop number values)))
    (ap (λ (vs : List Value). ignored_in_tenants version number (items_view vs)) (drop_all number values past)) so_far
