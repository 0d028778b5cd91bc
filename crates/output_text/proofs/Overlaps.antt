-- Tests of a text in chunks, the last of which may begin in the one before it.
use Rattle.std.proofs.Common.{◌≡◌, ℕ, zero, suc, ◌+◌, ◌-◌, ◌*◌, ◌≤◌, Bool, true, false, ◌&&◌, List, take, drop, refl, sym, ap, ◌∙◌, arith}
use Rattle.std.specs.List.{list_all}
use Rattle.std.specs.Simd.{first_chunks}
use Rattle.std.proofs.lemmas.List.{take-append-drop, drop-drop}
use Rattle.std.proofs.lemmas.List.Folds.{list_all-append}

-- a text up to a place, and from there on
in_two : (p : ℕ → Bool) (k : ℕ) (s : List ℕ) → list_all p s ≡ (list_all p (take k s) && list_all p (drop k s))
in_two p k s = ap (list_all p) (sym (take-append-drop k s)) ∙ list_all-append p (take k s) (drop k s)

-- the first chunks, and what follows them
in_chunks : (p : ℕ → Bool) (size n : ℕ) (s : List ℕ) → list_all p s ≡ (list_all (list_all p) (first_chunks size n s) && list_all p (drop (n * size) s))
in_chunks p size zero s = let none : 0 * size ≡ 0 = omega arith in rw none refl
in_chunks p size (suc n) s =
    let later : drop (suc n * size) s ≡ drop (n * size) (drop size s) = ap (λ k. drop k s) (next n size) ∙ sym (drop-drop (n * size) size s) in
    in_two p size s ∙ ap (λ b. list_all p (take size s) && b) (in_chunks p size n (drop size s))
    ∙ regroup (list_all p (take size s)) (list_all (list_all p) (first_chunks size n (drop size s))) (list_all p (drop (n * size) (drop size s)))
    ∙ ap (λ l. (list_all p (take size s) && list_all (list_all p) (first_chunks size n (drop size s))) && list_all p l) (sym later)
  where
    next : (n size : ℕ) → suc n * size ≡ size + n * size
    next n size = omega arith

    regroup : (a b c : Bool) → (a && (b && c)) ≡ ((a && b) && c)
    regroup true b c = refl
    regroup false b c = refl

-- a text passes if its chunks do and its end, which they overlap, does
pub overlapped : (p : ℕ → Bool) (size n m : ℕ) (s : List ℕ) → m ≤ n * size → list_all p s ≡ (list_all (list_all p) (first_chunks size n s) && list_all p (drop m s))
overlapped p size n m s within =
    let k : ℕ = n * size - m in
    let tail : drop k (drop m s) ≡ drop (n * size) s = drop-drop k m s ∙ ap (λ i. drop i s) (omega arith) in
    let whole = in_chunks p size n s in
    let end = in_two p k (drop m s) ∙ ap (λ l. list_all p (take k (drop m s)) && list_all p l) tail in
    let both = in_two p m s ∙ ap (λ b. list_all p (take m s) && b) end in
    both_ways (list_all p (take m s)) (list_all p (take k (drop m s))) (list_all p (drop (n * size) s)) _ _ _ both whole end
  where
    both_ways : (a b c all chunks rest : Bool) → all ≡ (a && (b && c)) → all ≡ (chunks && c) → rest ≡ (b && c) → all ≡ (chunks && rest)
    both_ways true true true all chunks rest f g h = rw (f, h) (sym (by chunks (sym g ∙ f)))
      where
        by : (chunks : Bool) → (chunks && true) ≡ true → (chunks && true) ≡ true
        by chunks e = e
    both_ways true true false all chunks rest f g h = rw (f, h) (sym (sym g ∙ f))
    both_ways true false c all chunks rest f g h = rw (f, h) (none chunks)
      where
        none : (chunks : Bool) → false ≡ (chunks && false)
        none true = refl
        none false = refl
    both_ways false b c all true rest f g h = rw h (f ∙ sym (chain b c (sym g ∙ f)))
      where
        chain : (b c : Bool) → (true && c) ≡ false → (true && (b && c)) ≡ false
        chain true c e = e
        chain false c e = refl
    both_ways false b c all false rest f g h = f
