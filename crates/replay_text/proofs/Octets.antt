-- The bytes that a word spells are below 256.
use Rattle.std.proofs.Common.{◌≡◌, ◌<◌, ◌≤◌, ◌+◌, ◌-◌, ◌*◌, ℕ, zero, suc, List, [], ◌∷◌, length, Bool, true, false, cond, Option, Some, None, refl, subst, arith}
use Rattle.std.specs.Prelude.{Result, Ok, Err, ◌&&◌, ◌==◌, nat_le, codes, ◌%◌}
use Rattle.std.specs.Result.{result_ok}
use Rattle.std.specs.Str.{bytes_eq}
use Rattle.std.proofs.lemmas.Bool.{and_parts, leb-true}
use Rattle.hex.specs.Hex.{◌>>=◌, decode_of, decode_pairs, digit_or_error, hex_digit_value, pair_value, value_at}
use Rattle.hex.specs.declared.error.FromHexError.{FromHexError}
use Rattle.hex.specs.declared.error.FromHexError.TheVariants.{OddLength}
use Rattle.oer_core.specs.Length.{AreBytes}
use Rattle.replay_text.specs.Script.{frame_word, is_empty}

some_is : {A : Type 0} (x y : A) → (let o : Option A = Some x in o) ≡ Some y → x ≡ y
some_is x y e = cc

bind_ok : {A B P : Type 0} (r : Result A FromHexError) (f : A → Result B FromHexError) (y : B) → (r >>= f) ≡ Ok y
    → ((x : A) → r ≡ Ok x → f x ≡ Ok y → P) → P
bind_ok (Ok x) f y e then = then x refl e
bind_ok (Err fault) f y e then = absurd cc

ok_is : {A : Type 0} (x y : A) → (let r : Result A FromHexError = Ok x in r) ≡ Ok y → x ≡ y
ok_is x y e = cc

digit_small : (c v : ℕ) → hex_digit_value c ≡ Some v → v < 16
digit_small c v e = by (nat_le 65 c && nat_le c 70) (nat_le 97 c && nat_le c 102) (nat_le 48 c && nat_le c 57) refl refl refl e
  where
    by : (a b d : Bool) → (nat_le 65 c && nat_le c 70) ≡ a → (nat_le 97 c && nat_le c 102) ≡ b → (nat_le 48 c && nat_le c 57) ≡ d
        → cond a (Some (c - 55)) (cond b (Some (c - 87)) (cond d (Some (c - 48)) None)) ≡ Some v → v < 16
    by true b d p q r e =
        let is : c - 55 ≡ v = some_is (c - 55) v e in
        let most : c ≤ 70 = leb-true c 70 (and_parts (nat_le 65 c) (nat_le c 70) p).1 in
        omega (arith, is)
    by false true d p q r e =
        let is : c - 87 ≡ v = some_is (c - 87) v e in
        let most : c ≤ 102 = leb-true c 102 (and_parts (nat_le 97 c) (nat_le c 102) q).1 in
        omega (arith, is)
    by false false true p q r e =
        let is : c - 48 ≡ v = some_is (c - 48) v e in
        let most : c ≤ 57 = leb-true c 57 (and_parts (nat_le 48 c) (nat_le c 57) r).1 in
        omega (arith, is)
    by false false false p q r e = absurd cc

value_small : (c i v : ℕ) → value_at c i ≡ Ok v → v < 16
value_small c i v e = by (hex_digit_value c) refl e
  where
    by : (o : Option ℕ) → hex_digit_value c ≡ o → digit_or_error c i o ≡ Ok v → v < 16
    by (Some w) is e = subst (λ k. k < 16) (ok_is w v e) (digit_small c w is)
    by None is e = absurd cc

pair_small : (high low i byte : ℕ) → pair_value high low i ≡ Ok byte → byte < 256
pair_small high low i byte e =
    bind_ok (value_at high i) _ byte e (λ h h_is rest.
    bind_ok (value_at low (i + 1)) _ byte rest (λ l l_is rest.
    let is : h * 16 + l ≡ byte = ok_is (h * 16 + l) byte rest in
    let a = value_small high i h h_is in
    let b = value_small low (i + 1) l l_is in
    omega (arith, is)))

consed : (byte : ℕ) (bytes : List ℕ) → byte < 256 → AreBytes bytes → AreBytes (byte ∷ bytes)
consed byte bytes small are zero = small
consed byte bytes small are (suc i) = are i

pairs_small : (i : ℕ) (text bytes : List ℕ) → decode_pairs i text ≡ Ok bytes → AreBytes bytes
unfolding decode_pairs
pairs_small i [] bytes e = subst AreBytes (ok_is [] bytes e) (λ k. omega arith)
pairs_small i (digit ∷ []) bytes e = absurd cc
pairs_small i (high ∷ low ∷ rest) bytes e =
    bind_ok (pair_value high low i) _ bytes e (λ byte byte_is e.
    bind_ok (decode_pairs (i + 2) rest) _ bytes e (λ more more_is e.
    subst AreBytes (ok_is (byte ∷ more) bytes e) (consed byte more (pair_small high low i byte byte_is) (pairs_small (i + 2) rest more more_is))))

-- what a word spells are bytes
pub frame_bytes : (word bytes : List ℕ) → frame_word word ≡ Some bytes → AreBytes bytes
frame_bytes word bytes e = by (bytes_eq word (codes "-")) (is_empty word) e
  where
    decoded : (r : Result (List ℕ) FromHexError) → decode_of word ≡ r → result_ok r ≡ Some bytes → AreBytes bytes
    decoded (Ok found) is e = odd (length word % 2 == 1) (subst (λ (x : List ℕ). decode_of word ≡ Ok x) (some_is found bytes e) is)
      where
        odd : (b : Bool) → cond b (Err OddLength) (decode_pairs 0 word) ≡ Ok bytes → AreBytes bytes
        odd true e = absurd cc
        odd false e = pairs_small 0 word bytes e
    decoded (Err fault) is e = absurd cc

    by : (dash empty : Bool) → cond dash (Some []) (cond empty None (result_ok (decode_of word))) ≡ Some bytes → AreBytes bytes
    by true empty e = subst AreBytes (some_is [] bytes e) (λ k. omega arith)
    by false true e = absurd cc
    by false false e = decoded (decode_of word) refl e
