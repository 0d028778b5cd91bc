-- The function that reads a length and the relation, joined.
use Rattle.std.proofs.Common.{◌≡◌, ◌≤◌, suc, ◌+◌, ◌-◌, ℕ, List, [], ◌∷◌, ◌++◌, length, take, cond, eqb, ltb, leb, ◌||◌, Ok, Err, refl, sym, ap, ◌∙◌, subst, inl, inr, arith}
use Rattle.std.proofs.lemmas.Bool.{cases_lt, ltb-false, leb-true, lt-ltb, le-ltb, le-leb, eqb-false, ne_eqb, or_parts}
use Rattle.std.proofs.lemmas.List.{length-take-le, length-append}
use Rattle.std.proofs.Math.Seq.{take-append_seam}
use Rattle.oer_core.specs.declared.fault.OerFault.TheVariants.{Short, BadLength, TooLong}
use Rattle.oer_core.specs.Length.{IsLength, big_endian, limited, length_at}
use Rattle.oer_core.proofs.Results.{chosen}

limited_ok : (limit n taken : ℕ) (r : ℕ × ℕ) → limited limit n taken ≡ Ok r → (n ≤ limit) × (r.0 ≡ n) × (r.1 ≡ taken)
limited_ok limit n taken r h =
    elim (chosen (leb n limit) (Ok (n, taken)) (Err TooLong) (Ok r) h) [
      | inl p ↦ (leb-true n limit p.0, cc, cc)
      | inr p ↦ absurd cc
    ]

limited_again : (limit n taken : ℕ) → n ≤ limit → limited limit n taken ≡ Ok (n, taken)
limited_again limit n taken h = rw (le-leb n limit h) refl

pub length_takes : (limit : ℕ) (bytes : List ℕ) (r : ℕ × ℕ) → length_at limit bytes ≡ Ok r → (r.1 ≤ length bytes) × IsLength (take r.1 bytes) r.0 × (r.0 ≤ limit)
unfolding length_at
length_takes limit [] r h = absurd cc
length_takes limit (b ∷ bytes) r h =
    elim (cases_lt b 128) [
      | inl lt ↦
          let q = limited_ok limit b 1 r (rw (lt-ltb b 128 lt) at h) in
          rw (q.1, q.2) (omega arith, inl (lt, refl, refl), q.0)
      | inr ge ↦
          let h1 = rw (le-ltb b 128 ge) at h in
          elim (chosen (eqb b 128 || ltb 136 b) (Err BadLength) (cond (ltb (length bytes) (b - 128)) (Err Short) (limited limit (big_endian (take (b - 128) bytes)) (b - 128 + 1))) (Ok r) h1) [
            | inl q ↦ absurd cc
            | inr q ↦
                elim (cases_lt (length bytes) (b - 128)) [
                  | inl t ↦ let bad = rw (lt-ltb _ _ t) at q.1 in absurd cc
                  | inr t ↦
                      let v = limited_ok limit (big_endian (take (b - 128) bytes)) (b - 128 + 1) r (rw (le-ltb _ _ t) at q.1) in
                      let w = or_parts _ _ q.0 in
                      let high = ltb-false 136 b w.1 in
                      let not128 = eqb-false b 128 w.0 in
                      let e : r.1 ≡ suc (b - 128) = omega arith in
                      rw (v.1, e) (omega arith, inr (omega arith, high, length-take-le (b - 128) bytes t, refl), v.0)
                ]
          ]
    ]

pub length_again : (limit n : ℕ) (s rest : List ℕ) → IsLength s n → n ≤ limit → length_at limit (s ++ rest) ≡ Ok (n, length s)
unfolding length_at
length_again limit n [] rest h l = absurd h
length_again limit n (b ∷ bytes) rest (inl h) l =
    let low : b ≤ limit = omega arith in
    rw (lt-ltb b 128 h.0, h.1, h.2) (limited_again limit b 1 low)
length_again limit n (b ∷ bytes) rest (inr h) l =
    let low : 128 ≤ b = omega arith in
    let not128 : b ≡ 128 → ⊥ = omega arith in
    let enough : b - 128 ≤ length (bytes ++ rest) = omega (arith, length-append bytes rest) in
    let count : suc (length bytes) ≡ b - 128 + 1 = omega arith in
    let body : take (b - 128) (bytes ++ rest) ≡ bytes = subst (λ (k : ℕ). take k (bytes ++ rest) ≡ bytes) h.2 (take-append_seam bytes rest) in
    let value : big_endian (take (b - 128) (bytes ++ rest)) ≡ n = ap big_endian body ∙ sym h.3 in
    rw (le-ltb b 128 low, ne_eqb b 128 not128, le-ltb 136 b h.1, le-ltb _ _ enough, value, count) (limited_again limit n (b - 128 + 1) l)
