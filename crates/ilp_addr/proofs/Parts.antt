-- The parts of an address, checked from left to right, and the relation, joined.
use Rattle.std.proofs.Common.{◌≡◌, ◌≤◌, ◌+◌, ℕ, Bool, true, false, cond, eqb, ltb, List, [], ◌∷◌, length, count_by, Result, Ok, Err, sym, subst, refl, arith}
use Rattle.std.proofs.lemmas.List.Splits.{length-slice_split}
use Rattle.std.proofs.lemmas.Bool.{ltb-false, le-ltb, and_parts}
use Rattle.std.specs.List.{list_all}
use Rattle.ilp_addr.specs.declared.fault.AddrFault.TheVariants.{Scheme, Segment, Length}
use Rattle.ilp_addr.specs.Address.{segments, is_scheme, is_segment, AreAddressParts, IsAddress, with_segments, parts_at, address_at, prefix_segments, ArePrefixParts, IsPrefix, prefix_parts_at, checked_prefix, prefix_at, without_last_dot}
use Rattle.std.specs.Str.{bytes_eq}
use Rattle.std.specs.Prelude.{IfOk, ◌≢◌}
use Rattle.std.proofs.lemmas.Slice.Eq.{bytes_eq-Decides}
use Rattle.common_types.specs.declared.read_error.ReadError.{ReadError}
use Rattle.common_types.specs.Outcomes.{GivesUnlessMemory}
use Rattle.ilp_addr.specs.declared.fault.AddrFault.{AddrFault}

-- a test that went one way
chosen : {A : Type 0} (b : Bool) (x y z : A) → cond b x y ≡ z → (y ≡ z → ⊥) → (b ≡ true) × (x ≡ z)
chosen true x y z h n = (refl, h)
chosen false x y z h n = absurd (n h)

parts_found : (bytes r : List ℕ) (parts : List (List ℕ)) → parts_at bytes parts ≡ Ok r → AreAddressParts parts × (r ≡ bytes)
parts_found bytes r [] h = absurd cc
parts_found bytes r (scheme ∷ []) h = absurd cc
parts_found bytes r (scheme ∷ first ∷ others) h =
    let a = chosen (is_scheme scheme) (with_segments bytes (first ∷ others)) (Err Scheme) (Ok r) h (λ e. cc) in
    let b = chosen (list_all is_segment (first ∷ others)) (Ok bytes) (Err Segment) (Ok r) a.1 (λ e. cc) in
    let c = and_parts (is_segment first) (list_all is_segment others) b.0 in
    ((a.0, c.0, c.1), cc)

parts_again : (bytes : List ℕ) (parts : List (List ℕ)) → AreAddressParts parts → parts_at bytes parts ≡ Ok bytes
parts_again bytes [] h = absurd h
parts_again bytes (scheme ∷ []) h = absurd h
parts_again bytes (scheme ∷ first ∷ others) h = rw (h.0, h.1, h.2) refl

pub address_found : (bytes r : List ℕ) → address_at bytes ≡ Ok r → IsAddress bytes × (r ≡ bytes)
unfolding address_at
address_found bytes r h =
    elim (ltb 1023 (length bytes)) as (λ b. (ltb 1023 (length bytes) ≡ b) → cond b (Err Length) (parts_at bytes (segments bytes)) ≡ Ok r → IsAddress bytes × (r ≡ bytes)) [
      | true ↦ λ t e. absurd cc
      | false ↦ λ t e. let p = parts_found bytes r (segments bytes) e in (record { short = ltb-false 1023 (length bytes) t; parts = p.0 }, p.1)
    ] refl h

pub address_again : (bytes : List ℕ) → IsAddress bytes → address_at bytes ≡ Ok bytes
unfolding address_at
address_again bytes h = rw (le-ltb 1023 (length bytes) h.short) (parts_again bytes (segments bytes) h.parts)

-- where a dot follows the first part, the rest is checked as segments
pub checked : (bytes scheme rest : List ℕ) → segments bytes ≡ scheme ∷ segments rest → length bytes ≤ 1023 → is_scheme scheme ≡ true
    → list_all is_segment (segments rest) ≡ true → address_at bytes ≡ Ok bytes
unfolding address_at
checked bytes scheme rest cut short known fine =
    elim (segments rest) as (λ (parts : List (List ℕ)). length parts ≡ count_by (λ b. eqb b 46) rest + 1 → segments bytes ≡ scheme ∷ parts
    → list_all is_segment parts ≡ true → cond (ltb 1023 (length bytes)) (Err Length) (parts_at bytes (segments bytes)) ≡ Ok bytes) [
      | [] ↦ λ some e f. absurd (omega arith)
      | first ∷ others ↦ λ some e f. rw (le-ltb 1023 (length bytes) short, e, known, f) refl
    ] (length-slice_split (λ b. eqb b 46) rest) cut fine

-- ---- prefixes

prefix_parts_found : (bytes r : List ℕ) (parts : List (List ℕ)) → prefix_parts_at bytes parts ≡ Ok r → ArePrefixParts parts × (r ≡ bytes)
prefix_parts_found bytes r [] h = (tt, cc)
prefix_parts_found bytes r (scheme ∷ others) h =
    let a = chosen (is_scheme scheme) (with_segments bytes others) (Err Scheme) (Ok r) h (λ e. cc) in
    let b = chosen (list_all is_segment others) (Ok bytes) (Err Segment) (Ok r) a.1 (λ e. cc) in
    ((a.0, b.0), cc)

prefix_parts_again : (bytes : List ℕ) (parts : List (List ℕ)) → ArePrefixParts parts → prefix_parts_at bytes parts ≡ Ok bytes
prefix_parts_again bytes [] h = refl
prefix_parts_again bytes (scheme ∷ others) h = rw (h.0, h.1) refl

pub prefix_found : (bytes r : List ℕ) → checked_prefix bytes ≡ Ok r → IsPrefix bytes × (r ≡ bytes)
unfolding checked_prefix
prefix_found bytes r h =
    elim (ltb 1023 (length bytes)) as (λ b. (ltb 1023 (length bytes) ≡ b) → cond b (Err Length) (prefix_parts_at bytes (prefix_segments bytes)) ≡ Ok r → IsPrefix bytes × (r ≡ bytes)) [
      | true ↦ λ t e. absurd cc
      | false ↦ λ t e. let p = prefix_parts_found bytes r (prefix_segments bytes) e in (record { short = ltb-false 1023 (length bytes) t; parts = p.0 }, p.1)
    ] refl h

pub prefix_again : (bytes : List ℕ) → IsPrefix bytes → checked_prefix bytes ≡ Ok bytes
unfolding checked_prefix
prefix_again bytes h = rw (le-ltb 1023 (length bytes) h.short) (prefix_parts_again bytes (prefix_segments bytes) h.parts)

pub lone_dot : (bytes : List ℕ) → bytes_eq bytes (46 ∷ []) ≡ true → prefix_at bytes ≡ Err Scheme
unfolding prefix_at
lone_dot bytes h = rw h refl

pub but_a_dot : (bytes : List ℕ) → bytes_eq bytes (46 ∷ []) ≡ false → prefix_at bytes ≡ checked_prefix (without_last_dot bytes)
unfolding prefix_at
but_a_dot bytes h = rw h refl

pub prefix_at_found : (bytes r : List ℕ) → prefix_at bytes ≡ Ok r → IsPrefix r × (r ≡ without_last_dot bytes)
unfolding prefix_at
prefix_at_found bytes r h =
    elim (bytes_eq bytes (46 ∷ [])) as (λ b. cond b (Err Scheme) (checked_prefix (without_last_dot bytes)) ≡ Ok r → IsPrefix r × (r ≡ without_last_dot bytes)) [
      | true ↦ λ e. absurd cc
      | false ↦ λ e. let p = prefix_found (without_last_dot bytes) r e in (subst IsPrefix (sym p.1) p.0, p.1)
    ] h

pub prefix_at_again : (bytes : List ℕ) → bytes ≢ 46 ∷ [] → IsPrefix (without_last_dot bytes) → prefix_at bytes ≡ Ok (without_last_dot bytes)
unfolding prefix_at
prefix_at_again bytes other h =
    elim (bytes_eq bytes (46 ∷ [])) as (λ b. bytes_eq bytes (46 ∷ []) ≡ b → cond b (Err Scheme) (checked_prefix (without_last_dot bytes)) ≡ Ok (without_last_dot bytes)) [
      | true ↦ λ t. absurd (other ((bytes_eq-Decides bytes (46 ∷ [])).0 t))
      | false ↦ λ t. prefix_again (without_last_dot bytes) h
    ] refl

pub found_prefix : (bytes : List ℕ) (r : Result (List ℕ) (ReadError AddrFault)) → GivesUnlessMemory (λ p. p) r (prefix_at bytes) → IfOk r (λ p. IsPrefix p × (p ≡ without_last_dot bytes))
found_prefix bytes (Ok p) h = prefix_at_found bytes p h
found_prefix bytes (Err e) h = tt

pub only_prefix : (bytes : List ℕ) (r : Result (List ℕ) (ReadError AddrFault)) → GivesUnlessMemory (λ p. p) r (prefix_at bytes) → bytes ≢ 46 ∷ []
    → IsPrefix (without_last_dot bytes) → GivesUnlessMemory (λ p. p) r (Ok (without_last_dot bytes))
only_prefix bytes r h other p = subst (GivesUnlessMemory (λ p. p) r) (prefix_at_again bytes other p) h
