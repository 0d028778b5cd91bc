-- What is written is read back.
use Rattle.std.proofs.Common.{◌≡◌, ℕ, ◌<◌, ◌≤◌, ◌^◌, true, false, ◌&&◌, leb, List, [], ◌∷◌, ◌++◌, Ok, Some, append_assoc, refl, subst, inl, inr, arith}
use Rattle.std.specs.Fmt.{decimal}
use Rattle.std.specs.Prelude.{codes}
use Rattle.std.specs.Str.{bytes_eq}
use Rattle.std.proofs.lemmas.Bool.{and_parts, cases_Bool, leb-true, le-leb, le-ltb, ne_eqb}
use Rattle.std.proofs.lemmas.Slice.Eq.{bytes_eq-Decides}
use Rattle.common_types.specs.Numbers.{is_between}
use Rattle.common_types.specs.Numerals.{NumeralLaws}
use Rattle.hex.specs.Hex.{encode_lower}
use Rattle.hex.proofs.HexLemmas.{decode_sized-encode_lower}
use Rattle.ildcp_core.specs.declared.child.Role.{Role}
use Rattle.ildcp_core.specs.declared.child.Role.TheVariants.{Child, Peer as Equal}
use Rattle.ilp_addr.specs.Address.{IsPrefix, is_scheme}
use Rattle.ilp_addr.specs.Laws.{PrefixWordLaws}
use Rattle.money_core.specs.Account.{max_money}
use Rattle.money_core.specs.Fraction.{Fraction, IsFraction, max_term}
use Rattle.money_core.specs.Price.{rate_at}
use Rattle.route_table.specs.declared.hop.Hop.{Hop}
use Rattle.statements.specs.ReadBack.{AreWritable, IsHash, IsHop, IsRate, hidden_terms}
use Rattle.statements.specs.Reading.{bucket_read, hash_read, hop_read, limits_read, max_number, number_read, prefix_spelled, rate_read, role_spelled, read_part, terms_read}
use Rattle.statements.specs.Statement.{bucket_words, limits_words, prefix_word, rate_words, role_word, terms_words}
use Rattle.tenant_core.specs.Limits.{max_burst, max_per_second}
use Rattle.tenant_core.specs.Terms.{are_limits_within, is_bucket_within}
use Rattle.tenant_core.specs.declared.terms.BucketTerms.{BucketTerms}
use Rattle.tenant_core.specs.declared.terms.PeerLimits.{PeerLimits}
use Rattle.tenant_core.specs.declared.terms.PeerTerms.{PeerTerms}
use Rattle.tenant_core.specs.declared.terms.RateTerms.{RateTerms}

pub number_back : NumeralLaws → (low high n : ℕ) (rest : List (List ℕ)) → high < 2 ^ 64 → is_between low high n ≡ true
    → number_read low high (decimal n ∷ rest) ≡ Some (read_part n rest)
unfolding number_read
number_back laws low high n rest small within = rw (laws.numeral_is_read low high n small within) refl

pub within : (high n : ℕ) → n ≤ high → is_between 0 high n ≡ true
within high n h = rw (le-leb 0 n (omega arith), le-leb n high h) refl

-- the same of a number that has an upper limit alone
pub up_to_back : NumeralLaws → (high n : ℕ) (rest : List (List ℕ)) → high < 2 ^ 64 → n ≤ high
    → number_read 0 high (decimal n ∷ rest) ≡ Some (read_part n rest)
up_to_back laws high n rest small h = number_back laws 0 high n rest small (within high n h)

below_back : NumeralLaws → (high n : ℕ) (rest : List (List ℕ)) → high < 2 ^ 64 → leb n high ≡ true
    → number_read 0 high (decimal n ∷ rest) ≡ Some (read_part n rest)
below_back laws high n rest small h = up_to_back laws high n rest small (leb-true n high h)

pub hash_back : (bytes : List ℕ) (rest : List (List ℕ)) → IsHash bytes
    → hash_read (encode_lower bytes ∷ rest) ≡ Some (read_part bytes rest)
unfolding hash_read
hash_back bytes rest h = rw (decode_sized-encode_lower bytes 32 h.0 h.1) refl

pub limits_back : NumeralLaws → (l : PeerLimits) (rest : List (List ℕ)) → are_limits_within l ≡ true
    → limits_read (limits_words l ++ rest) ≡ Some (read_part l rest)
unfolding limits_read limits_words
limits_back laws l rest h =
    let k = and_parts (leb l.cap max_money && leb l.ceiling max_money) (leb l.credit max_money) h in
    let m = and_parts (leb l.cap max_money) (leb l.ceiling max_money) k.0 in
    rw (
      below_back laws max_money l.cap (decimal l.ceiling ∷ decimal l.credit ∷ rest) (omega arith) m.0,
      below_back laws max_money l.ceiling (decimal l.credit ∷ rest) (omega arith) m.1,
      below_back laws max_money l.credit rest (omega arith) k.1,
    ) refl

pub bucket_back : NumeralLaws → (b : BucketTerms) (rest : List (List ℕ)) → is_bucket_within b ≡ true
    → bucket_read (bucket_words b ++ rest) ≡ Some (read_part b rest)
unfolding bucket_read
bucket_back laws b rest h =
    let k = and_parts (is_between 1 max_burst b.burst) (leb b.per_second max_per_second) h in
    rw (
      number_back laws 1 max_burst b.burst (decimal b.per_second ∷ rest) (omega arith) k.0,
      below_back laws max_per_second b.per_second rest (omega arith) k.1,
    ) refl

role_back : (r : Role) → role_spelled (role_word r) ≡ Some r
role_back Child = refl
role_back Equal = refl

pub terms_back : NumeralLaws → (n : ℕ) (t : PeerTerms) (rest : List (List ℕ)) → AreWritable t
    → terms_read n (terms_words t ++ rest) ≡ Some (read_part (hidden_terms n t) rest)
unfolding terms_read terms_words
terms_back laws n t rest h =
    rw (
      h.name,
      role_back t.role,
      h.asset,
      up_to_back laws 255 t.scale (limits_words t.limits ++ bucket_words t.bucket ++ rest) (omega arith) h.scale,
      append_assoc (limits_words t.limits) (bucket_words t.bucket) rest,
      limits_back laws t.limits (bucket_words t.bucket ++ rest) h.limits,
      bucket_back laws t.bucket rest h.bucket,
    ) refl

-- a star is no prefix
no_star : IsPrefix (codes "*") → ⊥
unfolding is_scheme
no_star h = let g : false ≡ true = h.parts.0 in absurd cc

pub prefix_back : PrefixWordLaws → (prefix : List ℕ) → IsPrefix prefix → prefix_spelled (prefix_word prefix) ≡ Some prefix
unfolding prefix_spelled
prefix_back laws [] h = rw (laws.prefix_is_itself [] h) refl
prefix_back laws (b ∷ bytes) h =
    elim (cases_Bool (bytes_eq (b ∷ bytes) (codes "*"))) [
      | inl is ↦ absurd (no_star (subst IsPrefix ((bytes_eq-Decides (b ∷ bytes) (codes "*")).0 is) h))
      | inr other ↦ rw (other, laws.prefix_is_itself (b ∷ bytes) h) refl
    ]

pub hop_back : NumeralLaws → (h : Hop) (rest : List (List ℕ)) → IsHop h
    → hop_read (decimal h.peer ∷ decimal h.fee ∷ rest) ≡ Some (read_part h rest)
unfolding hop_read
hop_back laws h rest is =
    rw (
      up_to_back laws 65_535 h.peer (decimal h.fee ∷ rest) (omega arith) is.peer,
      up_to_back laws max_money h.fee rest (omega arith) is.fee,
    ) refl

fraction_is_rate : (f : Fraction) → IsFraction f.numerator f.denominator → rate_at f.numerator f.denominator ≡ Ok f
fraction_is_rate f is =
    rw (
      ne_eqb f.numerator 0 (λ e. omega (arith, e, is.some_numerator)),
      ne_eqb f.denominator 0 (λ e. omega (arith, e, is.some_denominator)),
      le-ltb max_term f.numerator is.small_numerator,
      le-ltb max_term f.denominator is.small_denominator,
    ) refl

pub rate_back : NumeralLaws → (r : RateTerms) (rest : List (List ℕ)) → IsRate r
    → rate_read (rate_words r ++ rest) ≡ Some (read_part r rest)
unfolding rate_read
rate_back laws r rest is =
    let f = is.rate in
    rw (
      up_to_back laws 65_535 r.from (decimal r.to ∷ decimal r.rate.numerator ∷ decimal r.rate.denominator ∷ rest) (omega arith) is.from,
      up_to_back laws 65_535 r.to (decimal r.rate.numerator ∷ decimal r.rate.denominator ∷ rest) (omega arith) is.to,
      up_to_back laws max_number r.rate.numerator (decimal r.rate.denominator ∷ rest) (omega arith) (omega (arith, f.small_numerator)),
      up_to_back laws max_number r.rate.denominator rest (omega arith) (omega (arith, f.small_denominator)),
      fraction_is_rate r.rate f,
    ) refl
