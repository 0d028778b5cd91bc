-- A file that is overwritten piece by piece.
use Rattle.std.proofs.Common.{◌≡◌, ◌⊎◌, inl, inr, ℕ, zero, suc, ◌+◌, ◌-◌, ◌≤◌, List, [], ◌∷◌, ◌++◌, length, take, drop, replicate, refl, sym, ◌∙◌, ap, subst, arith, append_assoc, length-append, length-take-le, take_at}
use Rattle.std.proofs.lemmas.List.{drop-replicate, length-replicate}
use Rattle.std.proofs.Math.Seq.{take-add, drop-nil}
use Rattle.line_log.specs.File.{IsMix, Mixes, overwritten, Follows}
use Rattle.line_log.specs.Blank.{blanked}
use Rattle.line_log.proofs.Mix.{mix_none}

byte_of : (w x y z d : ℕ) → (d ≡ x) ⊎ (d ≡ y) → (w ≡ x) ⊎ (w ≡ y) → (z ≡ d) ⊎ (z ≡ w) → (z ≡ x) ⊎ (z ≡ y)
byte_of w x y z d (inl a) e (inl c) = inl (c ∙ a)
byte_of w x y z d (inr a) e (inl c) = inr (c ∙ a)
byte_of w x y z d a (inl e) (inr c) = inl (c ∙ e)
byte_of w x y z d a (inr e) (inr c) = inr (c ∙ e)

-- a mix of two mixes is a mix
mix_of_mixes : (old new d e c : List ℕ) → IsMix old new d → IsMix old new e → IsMix d e c → IsMix old new c
mix_of_mixes [] [] [] [] [] a b m = tt
mix_of_mixes [] [] [] [] (z ∷ c) a b m = absurd m
mix_of_mixes [] [] [] (w ∷ e) c a b m = absurd b
mix_of_mixes [] [] (y ∷ d) e c a b m = absurd a
mix_of_mixes [] (y ∷ new) d e c a b m = absurd a
mix_of_mixes (x ∷ old) [] d e c a b m = absurd a
mix_of_mixes (x ∷ old) (y ∷ new) [] e c a b m = absurd a
mix_of_mixes (x ∷ old) (y ∷ new) (v ∷ d) [] c a b m = absurd b
mix_of_mixes (x ∷ old) (y ∷ new) (v ∷ d) (w ∷ e) [] a b m = absurd m
mix_of_mixes (x ∷ old) (y ∷ new) (v ∷ d) (w ∷ e) (z ∷ c) a b m = (byte_of w x y z v a.0 b.0 m.0, mix_of_mixes old new d e c a.1 b.1 m.1)

abbrev head_or : List ℕ → ℕ
head_or [] = 0
head_or (x ∷ xs) = x

-- the first bytes of the new file, over a mix of both
over_front : (bytes old new d : List ℕ) → IsMix old new d → bytes ≡ take (length bytes) new → IsMix old new (bytes ++ drop (length bytes) d)
over_front [] old new d mix is = mix
over_front (b ∷ bytes) [] [] d mix is = absurd (cc is)
over_front (b ∷ bytes) [] (y ∷ new) d mix is = absurd mix
over_front (b ∷ bytes) (x ∷ old) [] d mix is = absurd mix
over_front (b ∷ bytes) (x ∷ old) (y ∷ new) [] mix is = absurd mix
over_front (b ∷ bytes) (x ∷ old) (y ∷ new) (z ∷ d) mix is =
    (inr (ap head_or is), over_front bytes old new d mix.1 (ap (λ (l : List ℕ). drop 1 l) is))

-- bytes of the new file, in their place
over : (at : ℕ) (bytes old new d : List ℕ) → IsMix old new d → bytes ≡ take (length bytes) (drop at new) → at + length bytes ≤ length d → IsMix old new (overwritten d at bytes)
over zero bytes old new d mix is within =
    let same : length bytes ≡ 0 + length bytes = omega arith in
    subst (λ (k : ℕ). IsMix old new (bytes ++ drop k d)) same (over_front bytes old new d mix is)
over (suc at) bytes old new [] mix is within = absurd (omega (arith, within))
over (suc at) bytes [] [] (z ∷ d) mix is within = absurd mix
over (suc at) bytes [] (y ∷ new) (z ∷ d) mix is within = absurd mix
over (suc at) bytes (x ∷ old) [] (z ∷ d) mix is within = absurd mix
over (suc at) bytes (x ∷ old) (y ∷ new) (z ∷ d) mix is within =
    let same : suc (at + length bytes) ≡ suc at + length bytes = omega arith in
    subst (λ (k : ℕ). IsMix (x ∷ old) (y ∷ new) (z ∷ (take at d ++ (bytes ++ drop k (z ∷ d))))) same
    (mix.0, over at bytes old new d mix.1 is (omega (arith, within)))

length_mix : (old new d : List ℕ) → IsMix old new d → length d ≡ length old
length_mix [] [] [] mix = refl
length_mix [] [] (z ∷ d) mix = absurd mix
length_mix [] (y ∷ new) d mix = absurd mix
length_mix (x ∷ old) [] d mix = absurd mix
length_mix (x ∷ old) (y ∷ new) [] mix = absurd mix
length_mix (x ∷ old) (y ∷ new) (z ∷ d) mix = ap suc (length_mix old new d mix.1)

length_blanked : (from : ℕ) (file : List ℕ) → from ≤ length file → length (blanked from file) ≡ length file
length_blanked from file within =
    let both : length (blanked from file) ≡ length (take from file) + length (replicate {A = ℕ} (length file - from) 0) = length-append (take from file) (replicate {A = ℕ} (length file - from) 0) in
    omega (arith, both, length-take-le from file within, length-replicate {A = ℕ} (length file - from) 0, within)

-- up to that offset the file is the new one
abbrev pub so_far : (old new : List ℕ) (at : ℕ) → List ℕ
so_far old new at = take at new ++ drop at old

-- before the first piece
pub not_yet : (from : ℕ) (file : List ℕ) → from ≤ length file → file ≡ so_far file (blanked from file) from
not_yet from file within =
    sym (take-append-drop from file)
    ∙ ap (λ (l : List ℕ). l ++ drop from file) (sym (take_at (take from file) (replicate {A = ℕ} (length file - from) 0) from (length-take-le from file within)))
  where
    take-append-drop : (n : ℕ) (xs : List ℕ) → take n xs ++ drop n xs ≡ xs
    take-append-drop zero xs = refl
    take-append-drop (suc n) [] = refl
    take-append-drop (suc n) (x ∷ xs) = ap (λ (l : List ℕ). x ∷ l) (take-append-drop n xs)

drop_drop : (m n : ℕ) (xs : List ℕ) → drop n (drop m xs) ≡ drop (m + n) xs
drop_drop zero n xs = let same : n ≡ 0 + n = omega arith in ap (λ (k : ℕ). drop k xs) same
drop_drop (suc m) n [] = drop-nil n ∙ sym (drop-nil (suc m + n))
drop_drop (suc m) n (x ∷ xs) = let same : suc (m + n) ≡ suc m + n = omega arith in drop_drop m n xs ∙ ap (λ (k : ℕ). drop k (x ∷ xs)) same

drop_past : (xs ys : List ℕ) (m n : ℕ) → m ≡ length xs + n → drop m (xs ++ ys) ≡ drop n ys
drop_past [] ys m n is = let same : m ≡ n = omega (arith, is) in ap (λ (k : ℕ). drop k ys) same
drop_past (x ∷ xs) ys zero n is = absurd (omega (arith, is))
drop_past (x ∷ xs) ys (suc m) n is = drop_past xs ys m n (omega (arith, is))

-- one piece more
pub piece : (old new bytes : List ℕ) (at : ℕ) → at ≤ length new → bytes ≡ take (length bytes) (drop at new)
    → overwritten (so_far old new at) at bytes ≡ so_far old new (at + length bytes)
piece old new bytes at within is =
    let front : take at (so_far old new at) ≡ take at new = take_at (take at new) (drop at old) at (length-take-le at new within) in
    let rest : drop (at + length bytes) (so_far old new at) ≡ drop (at + length bytes) old =
    drop_past (take at new) (drop at old) (at + length bytes) (length bytes) (omega (arith, length-take-le at new within)) ∙ drop_drop at (length bytes) old in
    ap (λ (l : List ℕ). l ++ (bytes ++ drop (at + length bytes) (so_far old new at))) front
    ∙ ap (λ (l : List ℕ). take at new ++ (bytes ++ l)) rest
    ∙ sym (append_assoc (take at new) bytes (drop (at + length bytes) old))
    ∙ ap (λ (l : List ℕ). (take at new ++ l) ++ drop (at + length bytes) old) is
    ∙ ap (λ (l : List ℕ). l ++ drop (at + length bytes) old) (sym (take-add at (length bytes) new))

-- zeros are a piece of the file with zeros
pub zeros_are : (from at : ℕ) (file zeros bytes : List ℕ) → from ≤ at → from ≤ length file → at + length bytes ≤ length file
    → zeros ≡ replicate (length zeros) 0 → bytes ≡ take (length bytes) zeros → length bytes ≤ length zeros
    → bytes ≡ take (length bytes) (drop at (blanked from file))
zeros_are from at file zeros bytes later within fits blank is few =
    let n = length bytes in
    let rest : drop at (blanked from file) ≡ replicate {A = ℕ} (length file - from - (at - from)) 0 =
    drop_past (take from file) (replicate {A = ℕ} (length file - from) 0) at (at - from) (omega (arith, length-take-le from file within, later))
    ∙ drop-replicate (at - from) (length file - from) 0 in
    is ∙ ap (λ (l : List ℕ). take n l) blank ∙ take_replicate n (length zeros) few
    ∙ sym (ap (λ (l : List ℕ). take n l) rest ∙ take_replicate n (length file - from - (at - from)) (omega (arith, fits, later)))
  where
    take_replicate : (n m : ℕ) → n ≤ m → take n (replicate {A = ℕ} m 0) ≡ replicate {A = ℕ} n 0
    take_replicate zero m few = refl
    take_replicate (suc n) zero few = absurd (omega (arith, few))
    take_replicate (suc n) (suc m) few = ap (λ (l : List ℕ). 0 ∷ l) (take_replicate n m (omega (arith, few)))

-- what a crash may leave during one piece more
pub piece_crash : (old new bytes : List ℕ) (at : ℕ) (before after : List ℕ → Type 0) → at + length bytes ≤ length old → bytes ≡ take (length bytes) (drop at new)
    → ((c : List ℕ) → before c → IsMix old new c) → Follows (Mixes at bytes) before after → (c : List ℕ) → after c → IsMix old new c
piece_crash old new bytes at before after fits is mixes follows c left =
    let from = follows c left in
    let mix = mixes from.0 from.1 in
    mix_of_mixes old new from.0 (overwritten from.0 at bytes) c mix (over at bytes old new from.0 mix is (omega (arith, fits, length_mix old new from.0 mix))) from.2

-- nothing was written yet
pub mix_at_first : (from : ℕ) (file c : List ℕ) → from ≤ length file → c ≡ file → IsMix file (blanked from file) c
mix_at_first from file c within is = subst (λ (l : List ℕ). IsMix file (blanked from file) l) (sym is) (mix_none file (blanked from file) (length_blanked from file within))

-- all was written
pub all_pieces : (from at : ℕ) (file : List ℕ) → from ≤ length file → length file ≤ at → at ≤ length file → so_far file (blanked from file) at ≡ blanked from file
all_pieces from at file within past most =
    let size : length (blanked from file) ≤ at = omega (arith, length_blanked from file within, past) in
    ap (λ (l : List ℕ). l ++ drop at file) (take_whole at (blanked from file) size) ∙ ap (λ (l : List ℕ). blanked from file ++ l) (drop_whole at file past) ∙ append-nil' (blanked from file)
  where
    take_whole : (n : ℕ) (xs : List ℕ) → length xs ≤ n → take n xs ≡ xs
    take_whole zero [] few = refl
    take_whole zero (x ∷ xs) few = absurd (omega (arith, few))
    take_whole (suc n) [] few = refl
    take_whole (suc n) (x ∷ xs) few = ap (λ (l : List ℕ). x ∷ l) (take_whole n xs (omega (arith, few)))

    drop_whole : (n : ℕ) (xs : List ℕ) → length xs ≤ n → drop n xs ≡ []
    drop_whole zero [] few = refl
    drop_whole zero (x ∷ xs) few = absurd (omega (arith, few))
    drop_whole (suc n) [] few = refl
    drop_whole (suc n) (x ∷ xs) few = drop_whole n xs (omega (arith, few))

    append-nil' : (xs : List ℕ) → xs ++ [] ≡ xs
    append-nil' [] = refl
    append-nil' (x ∷ xs) = ap (λ (l : List ℕ). x ∷ l) (append-nil' xs)

pub within_blanked : (from at : ℕ) (file : List ℕ) → from ≤ length file → at ≤ length file → at ≤ length (blanked from file)
within_blanked from at file within le = omega (arith, length_blanked from file within, le)
