-- The address of a child is an address.
use Rattle.std.proofs.Common.{◌≡◌, ◌≤◌, ℕ, ◌+◌, Bool, true, false, eqb, leb, ◌||◌, List, [], ◌∷◌, ◌++◌, length, refl, sym, subst, ap, arith, inl, inr}
use Rattle.std.specs.List.{list_all}
use Rattle.std.specs.Prelude.{count_by}
use Rattle.std.proofs.lemmas.Bool.{and_parts, and_from, leb-true, ne_eqb, cases_Bool}
use Rattle.std.proofs.lemmas.List.{length-append}
use Rattle.std.proofs.lemmas.List.Folds.{list_all-append}
use Rattle.std.proofs.lemmas.List.Splits.{length-slice_split}
use Rattle.common_types.specs.Numbers.{is_between}
use Rattle.ilp_addr.specs.Address.{segments, is_segment_byte, is_segment, AreAddressParts, IsAddress}
use Rattle.common_types.specs.Names.{is_name_byte, is_asset_byte}
use Rattle.ildcp_core.specs.Client.{Client, IsClient, client_address}

spread : (a c d u t m : Bool) → (a || d || m) ≡ true → (a || c || d || u || t || m) ≡ true
spread true c d u t m h = refl
spread false true d u t m h = refl
spread false false true u t m h = refl
spread false false false true t m h = refl
spread false false false false true m h = refl
spread false false false false false m h = h

in_segment : (b : ℕ) → is_name_byte b ≡ true → is_segment_byte b ≡ true
unfolding is_segment_byte
in_segment b h = spread (is_between 97 122 b) (is_between 65 90 b) (is_between 48 57 b) (eqb b 95) (eqb b 126) (eqb b 45) h

all_in_segment : (text : List ℕ) → list_all is_name_byte text ≡ true → list_all is_segment_byte text ≡ true
all_in_segment [] h = refl
all_in_segment (b ∷ text) h =
    let parts = and_parts (is_name_byte b) (list_all is_name_byte text) h in
    and_from (is_segment_byte b) (list_all is_segment_byte text) (in_segment b parts.0) (all_in_segment text parts.1)

not_dot : (b : ℕ) → is_name_byte b ≡ true → eqb b 46 ≡ false
not_dot b h = ne_eqb b 46 (λ e. let dot : is_name_byte 46 ≡ true = subst (λ (x : ℕ). is_name_byte x ≡ true) e h in absurd cc)

-- a name is one segment
segments_of_name : (text : List ℕ) → list_all is_name_byte text ≡ true → segments text ≡ text ∷ []
segments_of_name [] h = refl
segments_of_name (b ∷ text) h =
    let parts = and_parts (is_name_byte b) (list_all is_name_byte text) h in
    rw (not_dot b parts.0, segments_of_name text parts.1) refl

-- there is a first part
first_part : (bytes : List ℕ) → (first : List ℕ) × (others : List (List ℕ)) × (segments bytes ≡ first ∷ others)
first_part bytes = by (segments bytes) (length-slice_split (λ b. eqb b 46) bytes)
  where
    by : (parts : List (List ℕ)) → length parts ≡ count_by (λ b. eqb b 46) bytes + 1 → (first : List ℕ) × (others : List (List ℕ)) × (parts ≡ first ∷ others)
    by [] some = absurd (omega arith)
    by (first ∷ others) some = (first, others, refl)

-- a name behind a dot is one segment more
segments_more : (tenant name : List ℕ) → segments name ≡ name ∷ [] → segments (tenant ++ 46 ∷ name) ≡ segments tenant ++ name ∷ []
segments_more [] name one = ap (λ (x : List (List ℕ)). [] ∷ x) one
segments_more (b ∷ tenant) name one =
    let more = segments_more tenant name one in
    let front = first_part tenant in
    elim (cases_Bool (eqb b 46)) [
      | inl dot ↦ rw (dot, more) refl
      | inr other ↦ rw (other, more, front.2) refl
    ]

parts_more : (parts : List (List ℕ)) (name : List ℕ) → AreAddressParts parts → is_segment name ≡ true → AreAddressParts (parts ++ name ∷ [])
parts_more [] name h good = absurd h
parts_more (scheme ∷ []) name h good = absurd h
parts_more (scheme ∷ first ∷ others) name h good =
    let both : list_all is_segment (others ++ name ∷ []) ≡ true = rw (list_all-append, h.2, good) refl in
    (h.0, h.1, both)

name_is_segment : (name : List ℕ) → 1 ≤ length name → list_all is_name_byte name ≡ true → is_segment name ≡ true
unfolding is_segment
name_is_segment name some all = rw (ne_eqb (length name) 0 (λ e. omega arith)) (all_in_segment name all)

-- how long the parts of a child are, and which bytes its name has
pub record Limits (c : Client) : Type 0 where
  pub tenant : length c.tenant ≤ 900
  pub some : 1 ≤ length c.name
  pub name : length c.name ≤ 32
  pub bytes : list_all is_name_byte c.name ≡ true
  pub code : length c.code ≤ 16

pub limits_of : (c : Client) → IsClient c → Limits c
limits_of c h =
    let name = and_parts (is_between 1 32 (length c.name)) (list_all is_name_byte c.name) h.name in
    let size = and_parts (leb 1 (length c.name)) (leb (length c.name) 32) name.0 in
    let code = and_parts (is_between 1 16 (length c.code)) (list_all is_asset_byte c.code) h.code in
    let least = and_parts (leb 1 (length c.code)) (leb (length c.code) 16) code.0 in
    record {
      tenant = h.short;
      some = leb-true 1 (length c.name) size.0;
      name = leb-true (length c.name) 32 size.1;
      bytes = name.1;
      code = leb-true (length c.code) 16 least.1;
    }

pub is_address : (c : Client) → IsClient c → IsAddress (client_address c)
is_address c h =
    let l : Limits c = limits_of c h in
    let one : segments c.name ≡ c.name ∷ [] = segments_of_name c.name l.bytes in
    record {
      short = omega (arith, l.tenant, l.name, length-append c.tenant (46 ∷ c.name));
      parts = subst AreAddressParts (sym (segments_more c.tenant c.name one)) (parts_more (segments c.tenant) c.name h.tenant.parts (name_is_segment c.name l.some l.bytes));
    }
