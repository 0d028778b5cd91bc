-- A prefix has no dot at its end, and no space.
use Rattle.std.proofs.Common.{◌≡◌, ◌≢◌, ℕ, ◌-◌, ◌<◌, zero, suc, Bool, true, false, not, eqb, ◌&&◌}
use Rattle.std.proofs.Common.{List, [], ◌∷◌, ◌++◌, length, get_or, take, Ok, refl, sym, ap, ◌∙◌, subst, arith, inl, inr}
use Rattle.std.specs.List.{list_all, list_any, onto_first}
use Rattle.std.specs.Str.{bytes_eq}
use Rattle.std.proofs.lemmas.Slice.Eq.{bytes_eq-Decides}
use Rattle.std.proofs.lemmas.Bool.{and_parts, cases_Bool, eqb-true}
use Rattle.std.proofs.lemmas.List.Splits.{slice_split-cons_no, slice_split-cons_yes}
use Rattle.ilp_addr.specs.Address.{segments, is_segment, is_segment_byte, is_scheme, schemes, IsPrefix, ArePrefixParts, prefix_segments, without_last_dot, prefix_at}
use Rattle.ilp_addr.proofs.Parts.{prefix_at_again}

-- the parts behind the first
abbrev behind : List (List ℕ) → List (List ℕ)
behind [] = []
behind (first ∷ parts) = parts

no_empty : is_segment [] ≡ false
unfolding is_segment
no_empty = refl

behind-onto_first : (x : ℕ) (parts : List (List ℕ)) → behind (onto_first x parts) ≡ behind parts
behind-onto_first x [] = refl
behind-onto_first x (part ∷ parts) = refl

-- what holds of all holds of those behind the first
fewer : (p : List ℕ → Bool) (parts : List (List ℕ)) → list_all p (behind parts) ≡ false → list_all p parts ≡ false
fewer p [] h = h
fewer p (first ∷ parts) h = elim (p first) as (λ b. b && list_all p parts ≡ false) [ true ↦ h | false ↦ refl ]

-- a dot at the end leaves an empty part behind the first
empty_part : (xs : List ℕ) → list_all is_segment (behind (segments (xs ++ 46 ∷ []))) ≡ false
empty_part [] = ap (λ b. b && true) no_empty
empty_part (x ∷ xs) =
    elim (cases_Bool (eqb x 46)) [
      | inl is ↦ rw (slice_split-cons_yes (λ b. eqb b 46) x (xs ++ 46 ∷ []) is) (fewer is_segment (segments (xs ++ 46 ∷ [])) (empty_part xs))
      | inr other ↦ rw (slice_split-cons_no (λ b. eqb b 46) x (xs ++ 46 ∷ []) other, behind-onto_first x (segments (xs ++ 46 ∷ []))) (empty_part xs)
    ]

all_behind : (parts : List (List ℕ)) → ArePrefixParts parts → list_all is_segment (behind parts) ≡ true
all_behind [] h = refl
all_behind (scheme ∷ others) h = h.1

no_dot_at_end : (xs : List ℕ) → ArePrefixParts (prefix_segments (xs ++ 46 ∷ [])) → ⊥
no_dot_at_end [] h = let g : true ≡ false = sym (all_behind (prefix_segments (46 ∷ [])) h) ∙ empty_part [] in absurd cc
no_dot_at_end (x ∷ xs) h =
    let g : true ≡ false = sym (all_behind (prefix_segments (x ∷ xs ++ 46 ∷ [])) h) ∙ empty_part (x ∷ xs) in absurd cc

-- a list ends with its last
ends_at : (xs : List ℕ) (n : ℕ) → suc n ≡ length xs → get_or xs n 0 ≡ 46 → xs ≡ take n xs ++ 46 ∷ []
ends_at [] n e h = absurd (omega arith)
ends_at (x ∷ []) zero e h = ap (λ (b : ℕ). b ∷ []) h
ends_at (x ∷ []) (suc n) e h = absurd (omega arith)
ends_at (x ∷ y ∷ xs) zero e h = absurd (omega arith)
ends_at (x ∷ y ∷ xs) (suc n) e h = ap (λ (more : List ℕ). x ∷ more) (ends_at (y ∷ xs) n (omega arith) h)

some_byte : (xs : List ℕ) → get_or xs (length xs - 1) 0 ≡ 46 → 0 < length xs
some_byte [] h = absurd (omega arith)
some_byte (x ∷ xs) h = omega arith

ends_with : (xs : List ℕ) → get_or xs (length xs - 1) 0 ≡ 46 → xs ≡ take (length xs - 1) xs ++ 46 ∷ []
ends_with xs h = let some = some_byte xs h in ends_at xs (length xs - 1) (omega arith) h

itself : (prefix : List ℕ) → IsPrefix prefix → without_last_dot prefix ≡ prefix
itself prefix h =
    elim (cases_Bool (eqb (get_or prefix (length prefix - 1) 0) 46)) [
      | inl is ↦ absurd (no_dot_at_end (take (length prefix - 1) prefix) (subst (λ (p : List ℕ). ArePrefixParts (prefix_segments p)) (ends_with prefix (eqb-true _ 46 is)) h.parts))
      | inr other ↦ rw other refl
    ]

no_lone_dot : (prefix : List ℕ) → IsPrefix prefix → prefix ≢ 46 ∷ []
no_lone_dot prefix h e = no_dot_at_end [] (subst (λ (p : List ℕ). ArePrefixParts (prefix_segments p)) e h.parts)

pub prefix_is_itself : (prefix : List ℕ) → IsPrefix prefix → prefix_at prefix ≡ Ok prefix
prefix_is_itself prefix h =
    prefix_at_again prefix (no_lone_dot prefix h) (subst IsPrefix (sym (itself prefix h)) h) ∙ ap (λ (p : List ℕ). Ok p) (itself prefix h)

-- no byte is a space
abbrev spaceless : List ℕ → Bool
spaceless bytes = list_all (λ b. not (eqb b 32)) bytes

segment_byte : (b : ℕ) → is_segment_byte b ≡ true → not (eqb b 32) ≡ true
unfolding is_segment_byte
segment_byte b h =
    elim (cases_Bool (eqb b 32)) [
      | inl is ↦ let g : is_segment_byte 32 ≡ true = subst (λ n. is_segment_byte n ≡ true) (eqb-true b 32 is) h in absurd cc
      | inr other ↦ rw other refl
    ]

segment_bytes : (bytes : List ℕ) → list_all is_segment_byte bytes ≡ true → spaceless bytes ≡ true
segment_bytes [] h = refl
segment_bytes (b ∷ bytes) h =
    let k = and_parts (is_segment_byte b) (list_all is_segment_byte bytes) h in
    rw (segment_byte b k.0) (segment_bytes bytes k.1)

spaceless_segment : (text : List ℕ) → is_segment text ≡ true → spaceless text ≡ true
unfolding is_segment
spaceless_segment text h = segment_bytes text (and_parts (not (eqb (length text) 0)) (list_all is_segment_byte text) h).1

one_of : (text : List ℕ) (texts : List (List ℕ)) → list_all spaceless texts ≡ true → list_any (λ t. bytes_eq text t) texts ≡ true → spaceless text ≡ true
one_of text [] all any = absurd cc
one_of text (first ∷ texts) all any =
    let k = and_parts (spaceless first) (list_all spaceless texts) all in
    elim (cases_Bool (bytes_eq text first)) [
      | inl is ↦ rw ((bytes_eq-Decides text first).0 is) k.0
      | inr other ↦ one_of text texts k.1 (rw other at any)
    ]

spaceless_scheme : (text : List ℕ) → is_scheme text ≡ true → spaceless text ≡ true
unfolding is_scheme
spaceless_scheme text h = one_of text schemes refl h

onto_first_spaceless : (x : ℕ) (parts : List (List ℕ)) → list_all spaceless (onto_first x parts) ≡ true → (not (eqb x 32) ≡ true) × (list_all spaceless parts ≡ true)
onto_first_spaceless x [] h = ((and_parts (not (eqb x 32)) true (and_parts (not (eqb x 32) && true) true h).0).0, refl)
onto_first_spaceless x (part ∷ parts) h =
    let k = and_parts (not (eqb x 32) && spaceless part) (list_all spaceless parts) h in
    let m = and_parts (not (eqb x 32)) (spaceless part) k.0 in
    (m.0, rw (m.1, k.1) refl)

-- where no part has a space, the whole has none
whole : (xs : List ℕ) → list_all spaceless (segments xs) ≡ true → spaceless xs ≡ true
whole [] h = refl
whole (x ∷ xs) h =
    elim (cases_Bool (eqb x 46)) [
      | inl is ↦ rw (eqb-true x 46 is) (whole xs (rw (slice_split-cons_yes (λ b. eqb b 46) x xs is) at h))
      | inr other ↦
          let k = onto_first_spaceless x (segments xs) (rw (slice_split-cons_no (λ b. eqb b 46) x xs other) at h) in
          rw k.0 (whole xs k.1)
    ]

all_spaceless : (parts : List (List ℕ)) → list_all is_segment parts ≡ true → list_all spaceless parts ≡ true
all_spaceless [] h = refl
all_spaceless (part ∷ parts) h =
    let k = and_parts (is_segment part) (list_all is_segment parts) h in
    rw (spaceless_segment part k.0, all_spaceless parts k.1) refl

parts_spaceless : (parts : List (List ℕ)) → ArePrefixParts parts → list_all spaceless parts ≡ true
parts_spaceless [] h = refl
parts_spaceless (scheme ∷ others) h = rw (spaceless_scheme scheme h.0, all_spaceless others h.1) refl

pub prefix_has_no_space : (prefix : List ℕ) → IsPrefix prefix → spaceless prefix ≡ true
prefix_has_no_space [] h = refl
prefix_has_no_space (b ∷ bytes) h = whole (b ∷ bytes) (parts_spaceless (segments (b ∷ bytes)) h.parts)
