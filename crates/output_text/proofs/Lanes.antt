-- Vectors lane by lane.
use Rattle.std.proofs.Common.{arith, refl, subst, ap, sym, ◌∙◌, ◌≡◌, ◌+◌, ◌*◌, ◌-◌, ◌/◌, ◌%◌, ◌^◌, ◌<◌, ◌≤◌, ◌++◌, ◌⊎◌, ◌==◌, ◌||◌, ◌&&◌, ◌↔◌, eqb, ltb, not, eqb-true, eq-eqb, ltb-true, ltb-false, w8, Fits, ℕ, zero, suc, List, [], ◌∷◌, Bool, true, false, IsTrue, Some, Ok, length, slice_index, slice_index_or, bit_and}
use Rattle.std.proofs.lemmas.Nat.{and_mask}
use Rattle.std.proofs.lemmas.Bool.Decides.{leb_tells}
use Rattle.hex.specs.Hex.{hex_digit_value, is_hex_digit, lower_digits, pair_value}
use lib.Dec.{leb}
use lib.Lanes.{zip2, sel_l, mask_l, top, Each1}
use lib.ListN.{replicate}
use mathlib.Core.Bool.{cond}
use mathlib.Core.List.{map}
use Rattle.std.proofs.lemmas.List.{get_or_append_left, get_or-append_right, get_or-map, length-map}
use Rattle.std.proofs.lemmas.Simd.{bitmask_splat}

-- so many lanes by their numbers, from that number on
unfoldable pub lanes_from : (ℕ → ℕ) → ℕ → ℕ → List ℕ
lanes_from f n zero = []
lanes_from f n (suc count) = f n ∷ lanes_from f (suc n) count

pub lane_at : (f : ℕ → ℕ) (count n i : ℕ) → i < count → slice_index (lanes_from f n count) i ≡ f (n + i)
unfolding lanes_from
lane_at f zero n i lt = absurd (omega arith)
lane_at f (suc count) n zero lt = ap f (omega arith)
lane_at f (suc count) n (suc i) lt = lane_at f count (suc n) i (omega arith) ∙ ap f (omega arith)

-- so many pairs of lanes by their numbers, from that number on
unfoldable pub pairs_from : (f g : ℕ → ℕ) → ℕ → ℕ → List ℕ
pairs_from f g n zero = []
pairs_from f g n (suc count) = f n ∷ g n ∷ pairs_from f g (suc n) count

pub pair_at : (f g : ℕ → ℕ) (count n i : ℕ) → i < count
    → (slice_index (pairs_from f g n count) (2 * i) ≡ f (n + i)) × (slice_index (pairs_from f g n count) (2 * i + 1) ≡ g (n + i))
unfolding pairs_from
pair_at f g zero n i lt = absurd (omega arith)
pair_at f g (suc count) n zero lt = (ap f (omega arith), ap g (omega arith))
pair_at f g (suc count) n (suc i) lt =
    let three : 2 * suc i + 1 ≡ suc (suc (2 * i + 1)) = omega arith in
    let two : 2 * suc i ≡ suc (suc (2 * i)) = omega arith in
    let later = pair_at f g count (suc n) i (omega arith) in
    rw (three, two) (later.0 ∙ ap f (omega arith), later.1 ∙ ap g (omega arith))

-- two values put together
pub joined_at : (v : List ℕ) → length v ≡ 32 → (a b : ℕ) → a < 32 → b < 32 → slice_index v a < 16 → slice_index v b < 16
    → (slice_index_or (v ++ v) a 0 * 16 % 256 + slice_index_or (v ++ v) b 0) % 256 ≡ slice_index v a * 16 + slice_index v b
joined_at v size a b la lb sa sb =
    let ea : slice_index_or (v ++ v) a 0 ≡ slice_index v a = get_or_append_left v v 0 a (omega arith) in
    let eb : slice_index_or (v ++ v) b 0 ≡ slice_index v b = get_or_append_left v v 0 b (omega arith) in
    rw (ea, eb) (omega arith)

-- one vector computed from the lanes of another, lane by lane
pub lanes : (f g h : ℕ → ℕ → ℕ) (t : ℕ → Bool) (m k p q n : ℕ) (xs : List ℕ) → length xs ≡ n
    → zip2 f (zip2 g xs (replicate n m)) (sel_l (map t (zip2 h (replicate n k) xs)) (replicate n p) (replicate n q))
    ≡ map (λ x. f (g x m) (cond (t (h k x)) p q)) xs
lanes f g h t m k p q zero [] e = refl
lanes f g h t m k p q (suc n) (x ∷ xs) e = ap (λ l. f (g x m) (cond (t (h k x)) p q) ∷ l) (lanes f g h t m k p q n xs (omega arith))
lanes f g h t m k p q zero (x ∷ xs) e = absurd (omega arith)
lanes f g h t m k p q (suc n) [] e = absurd (omega arith)

-- the low four bits of a digit, and 9 more of a letter
abbrev pub lane : ℕ → ℕ
lane d = (bit_and d 15 + cond (leb 128 (cond (leb 64 d) 255 0)) 9 0) % 256

pub lane_value : (d : ℕ) → IsTrue (is_hex_digit d) → hex_digit_value d ≡ Some (lane d)
lane_value d h =
    let low : bit_and d 15 ≡ d % 16 = and_mask d 4 in
    rw low (by d (leb 64 d) (leb_tells 64 d) h)
  where
    by : (d : ℕ) (b : Bool) → ((b ≡ true) × (64 ≤ d)) ⊎ ((b ≡ false) × (d < 64)) → IsTrue (is_hex_digit d)
        → hex_digit_value d ≡ Some ((d % 16 + cond (leb 128 (cond b 255 0)) 9 0) % 256)
    by d true t h = grind (arith)
    by d false t h = grind (arith)

pub lane_small : (d : ℕ) → IsTrue (is_hex_digit d) → lane d < 16
lane_small d h =
    let low : bit_and d 15 ≡ d % 16 = and_mask d 4 in
    rw low (by d (leb 64 d) (leb_tells 64 d) h)
  where
    by : (d : ℕ) (b : Bool) → ((b ≡ true) × (64 ≤ d)) ⊎ ((b ≡ false) × (d < 64)) → IsTrue (is_hex_digit d)
        → (d % 16 + cond (leb 128 (cond b 255 0)) 9 0) % 256 < 16
    by d true t h = grind (arith)
    by d false t h = grind (arith)

-- the byte of two digits whose values are known
pub pair_of : (a b x y i : ℕ) → hex_digit_value a ≡ Some x → hex_digit_value b ≡ Some y → pair_value a b i ≡ Ok (x * 16 + y)
pair_of a b x y i ha hb = rw (ha, hb) refl

-- what is added to each lane hangs on the lane
pub lanes_added : (f h : ℕ → ℕ → ℕ) (t : ℕ → Bool) (k p q n : ℕ) (xs : List ℕ) → length xs ≡ n
    → zip2 f xs (sel_l (map t (zip2 h (replicate n k) xs)) (replicate n p) (replicate n q))
    ≡ map (λ x. f x (cond (t (h k x)) p q)) xs
lanes_added f h t k p q zero [] e = refl
lanes_added f h t k p q (suc n) (x ∷ xs) e = ap (λ l. f x (cond (t (h k x)) p q) ∷ l) (lanes_added f h t k p q n xs (omega arith))
lanes_added f h t k p q zero (x ∷ xs) e = absurd (omega arith)
lanes_added f h t k p q (suc n) [] e = absurd (omega arith)

-- the digit of a value
abbrev pub digit_lane : ℕ → ℕ
digit_lane v = (v + cond (leb 128 (cond (leb 10 v) 255 0)) 87 48) % 256

pub digit_is : (v : ℕ) → v < 16 → digit_lane v ≡ slice_index lower_digits v
digit_is zero lt = refl
digit_is (suc zero) lt = refl
digit_is (suc (suc zero)) lt = refl
digit_is (suc (suc (suc zero))) lt = refl
digit_is (suc (suc (suc (suc zero)))) lt = refl
digit_is (suc (suc (suc (suc (suc zero))))) lt = refl
digit_is (suc (suc (suc (suc (suc (suc zero)))))) lt = refl
digit_is (suc (suc (suc (suc (suc (suc (suc zero))))))) lt = refl
digit_is (suc (suc (suc (suc (suc (suc (suc (suc zero)))))))) lt = refl
digit_is (suc (suc (suc (suc (suc (suc (suc (suc (suc zero))))))))) lt = refl
digit_is (suc (suc (suc (suc (suc (suc (suc (suc (suc (suc zero)))))))))) lt = refl
digit_is (suc (suc (suc (suc (suc (suc (suc (suc (suc (suc (suc zero))))))))))) lt = refl
digit_is (suc (suc (suc (suc (suc (suc (suc (suc (suc (suc (suc (suc zero)))))))))))) lt = refl
digit_is (suc (suc (suc (suc (suc (suc (suc (suc (suc (suc (suc (suc (suc zero))))))))))))) lt = refl
digit_is (suc (suc (suc (suc (suc (suc (suc (suc (suc (suc (suc (suc (suc (suc zero)))))))))))))) lt = refl
digit_is (suc (suc (suc (suc (suc (suc (suc (suc (suc (suc (suc (suc (suc (suc (suc zero))))))))))))))) lt = refl
digit_is (suc (suc (suc (suc (suc (suc (suc (suc (suc (suc (suc (suc (suc (suc (suc (suc v)))))))))))))))) lt = absurd (omega arith)

-- two vectors computed from one, one after the other
pub in_first : (f g : ℕ → ℕ) (xs : List ℕ) (i : ℕ) → i < length xs → slice_index_or (map f xs ++ map g xs) i 0 ≡ f (slice_index xs i)
in_first f g xs i lt =
    let size = length-map xs f in
    get_or_append_left (map f xs) (map g xs) 0 i (omega (arith, size)) ∙ get_or-map f xs i 0 0 lt

pub in_second : (f g : ℕ → ℕ) (xs : List ℕ) (n i : ℕ) → length xs ≡ n → i < n → slice_index_or (map f xs ++ map g xs) (n + i) 0 ≡ g (slice_index xs i)
in_second f g xs n i size lt =
    let over : n + i - n ≡ i = omega arith in
    get_or-append_right (map f xs) (map g xs) n (n + i) 0 (length-map xs f ∙ size) (omega arith) ∙ ap (λ k. slice_index (map g xs) k) over ∙ get_or-map g xs i 0 0 (omega arith)

-- two vectors computed from one, lane by lane in turns
pub in_turns : (f g : ℕ → ℕ) (xs : List ℕ) → length xs ≡ 16
    → let l : ℕ → ℕ = λ k. slice_index_or (map f xs ++ map g xs) k 0 in
    let all : List ℕ = pairs_from l (λ k. l (16 + k)) 0 16 in
    (i : ℕ) → i < 16 → (slice_index all (2 * i) ≡ f (slice_index xs i)) × (slice_index all (2 * i + 1) ≡ g (slice_index xs i))
in_turns f g xs size i lt =
    let l : ℕ → ℕ = λ k. slice_index_or (map f xs ++ map g xs) k 0 in
    let both = pair_at l (λ k. l (16 + k)) 16 0 i lt in
    (both.0 ∙ ap l (omega arith) ∙ in_first f g xs i (omega arith), both.1 ∙ ap l (omega arith) ∙ in_second f g xs 16 i size lt)

-- what holds of each lane with an even number, and of each with an odd one
pub even_and_odd : (P : ℕ → Type 0) → ((k : ℕ) → k < 16 → P (2 * k)) → ((k : ℕ) → k < 16 → P (2 * k + 1)) → (i : ℕ) → i < 32 → P i
even_and_odd P even odd i lt = by (i % 2) refl
  where
    by : (r : ℕ) → i % 2 ≡ r → P i
    by zero e = subst P (omega (arith, e)) (even (i / 2) (omega arith))
    by (suc zero) e = subst P (omega (arith, e)) (odd (i / 2) (omega arith))
    by (suc (suc r)) e = absurd (omega (arith, e))

-- ---- tests of lanes

pub lane_fits : (xs : List ℕ) (i : ℕ) → Each1 (Fits w8) xs → slice_index xs i < 256
lane_fits [] i h = omega arith
lane_fits (x ∷ xs) zero h = h.0.fits
lane_fits (x ∷ xs) (suc i) h = lane_fits xs i h.1

-- one byte less another, which wraps
abbrev pub less : ℕ → ℕ → ℕ
less a b = (a + (256 - b)) % 256

-- all bits, where one byte is below another
abbrev pub below_mask : ℕ → ℕ → ℕ
below_mask a b = cond (ltb a b) 255 0

-- the larger of two bytes, less the second
one_past : (a m : ℕ) → a < 256 → m < 256 → less (cond (top 7 (below_mask a m)) m a) m ≡ a - m
one_past a m la lm = by (ltb a m) refl
  where
    by : (t : Bool) → ltb a m ≡ t → less (cond (top 7 (cond t 255 0)) m a) m ≡ a - m
    by true e = omega (arith, ltb-true _ _ e)
    by false e = omega (arith, ltb-false _ _ e)

-- how much each byte less the first of a range is past the range's last
pub past_at : (first more n : ℕ) (xs : List ℕ) (i : ℕ) → length xs ≡ n → i < n → more < 256
    → slice_index (zip2 less (sel_l (map (top 7) (zip2 below_mask (zip2 less xs (replicate n first)) (replicate n more))) (replicate n more) (zip2 less xs (replicate n first))) (replicate n more)) i
    ≡ less (slice_index xs i) first - more
past_at first more zero xs i size lt small = absurd (omega arith)
past_at first more (suc n) [] i size lt small = absurd (omega arith)
past_at first more (suc n) (x ∷ xs) zero size lt small = one_past (less x first) more (omega arith) small
past_at first more (suc n) (x ∷ xs) (suc i) size lt small = past_at first more n xs i (omega arith) (omega arith) small

zero_of_smaller : (x y : ℕ) → (cond (top 7 (below_mask x y)) x y == 0) ≡ (x == 0 || y == 0)
zero_of_smaller x y = by (ltb x y) refl
  where
    by : (t : Bool) → ltb x y ≡ t → (cond (top 7 (cond t 255 0)) x y == 0) ≡ (x == 0 || y == 0)
    by true e = let lt = ltb-true _ _ e in grind arith
    by false e = let le = ltb-false _ _ e in grind arith

zero_of_larger : (x y : ℕ) → (cond (top 7 (below_mask x y)) y x == 0) ≡ (x == 0 && y == 0)
zero_of_larger x y = by (ltb x y) refl
  where
    by : (t : Bool) → ltb x y ≡ t → (cond (top 7 (cond t 255 0)) y x == 0) ≡ (x == 0 && y == 0)
    by true e = let lt = ltb-true _ _ e in grind arith
    by false e = let le = ltb-false _ _ e in grind arith

-- where the smaller of two lanes is 0
pub zero_in_smaller : (xs ys : List ℕ) (i : ℕ) → i < length xs → i < length ys
    → (slice_index (sel_l (map (top 7) (zip2 below_mask xs ys)) xs ys) i == 0) ≡ (slice_index xs i == 0 || slice_index ys i == 0)
zero_in_smaller [] ys i lx ly = absurd (omega arith)
zero_in_smaller (x ∷ xs) [] i lx ly = absurd (omega arith)
zero_in_smaller (x ∷ xs) (y ∷ ys) zero lx ly = zero_of_smaller x y
zero_in_smaller (x ∷ xs) (y ∷ ys) (suc i) lx ly = zero_in_smaller xs ys i (omega arith) (omega arith)

-- where the larger of two lanes is 0
pub zero_in_larger : (xs ys : List ℕ) (i : ℕ) → i < length xs → i < length ys
    → (slice_index (sel_l (map (top 7) (zip2 below_mask xs ys)) ys xs) i == 0) ≡ (slice_index xs i == 0 && slice_index ys i == 0)
zero_in_larger [] ys i lx ly = absurd (omega arith)
zero_in_larger (x ∷ xs) [] i lx ly = absurd (omega arith)
zero_in_larger (x ∷ xs) (y ∷ ys) zero lx ly = zero_of_larger x y
zero_in_larger (x ∷ xs) (y ∷ ys) (suc i) lx ly = zero_in_larger xs ys i (omega arith) (omega arith)

-- a byte that is in one of three ranges is a digit
pub digit_tells : (d : ℕ) → d < 256
    → ((less d 48 - 9 == 0 || less d 65 - 5 == 0) || less d 97 - 5 == 0) ≡ is_hex_digit d
digit_tells d lt = grind arith

abbrev pub is_more : ℕ → Bool
is_more x = not (eqb x 0)

no_more : (n x : ℕ) (xs : List ℕ) → (mask_l (map is_more xs) ≡ 0) ↔ ((i : ℕ) → i < n → slice_index xs i ≡ 0)
    → (mask_l (map is_more (x ∷ xs)) ≡ 0) ↔ ((i : ℕ) → i < suc n → slice_index (x ∷ xs) i ≡ 0)
no_more n x xs later = by (eqb x 0) refl
  where
    differ : false ≡ true → ⊥
    differ e = cc

    by : (t : Bool) → eqb x 0 ≡ t → (cond (not t) 1 0 + 2 * mask_l (map is_more xs) ≡ 0) ↔ ((i : ℕ) → i < suc n → slice_index (x ∷ xs) i ≡ 0)
    by true e = (λ none. elim [ zero ↦ λ lt. eqb-true _ _ e | suc i ↦ λ lt. later.0 (omega arith) i (omega arith) ], λ h. omega (arith, later.1 (λ i lt. h (suc i) (omega arith))))
    by false e = (λ none. absurd (omega arith), λ h. absurd (differ (sym e ∙ eq-eqb _ _ (h 0 (omega arith)))))

no_bits : (n : ℕ) (xs : List ℕ) → length xs ≡ n → (mask_l (map is_more xs) ≡ 0) ↔ ((i : ℕ) → i < n → slice_index xs i ≡ 0)
no_bits zero [] size = (λ e i lt. absurd (omega arith), λ h. refl)
no_bits (suc n) [] size = absurd (omega arith)
no_bits zero (x ∷ xs) size = absurd (omega arith)
no_bits (suc n) (x ∷ xs) size = no_more n x xs (no_bits n xs (omega arith))

-- no lane is more than 0
pub none_more : (xs : List ℕ) → length xs ≡ 32
    → (eqb (mask_l (map (top 7) (zip2 (λ a b. cond (not (eqb a b)) 255 0) xs (replicate 32 0))) % 2 ^ 64) 0 ≡ true) ↔ ((i : ℕ) → i < 32 → slice_index xs i ≡ 0)
none_more xs size =
    let mask = bitmask_splat w8 (λ a b. not (eqb a b)) xs 32 0 size (omega arith) in
    let zeros = no_bits 32 xs size in
    (λ e. zeros.0 (sym mask ∙ eqb-true _ _ e), λ h. eq-eqb _ _ (mask ∙ zeros.1 h))
