-- The first part of a list that is split, and the parts after it.
use Rattle.std.proofs.Common.{◌≡◌, ◌≢◌, ℕ, ◌+◌, ◌-◌, ◌<◌, Bool, true, false, not, cond, eqb, ltb, List, [], ◌∷◌, ◌++◌, length, length-append, take, drop, Some, None, refl, ap, ◌∙◌, arith}
use Rattle.std.specs.List.{slice_split, position, position_or_len, prefix_len}
use Rattle.std.proofs.lemmas.Bool.{ltb-true, ltb-false, lt-ltb}
use Rattle.std.proofs.lemmas.List.{take_rest, take-append-le, drop-append-le}
use Rattle.std.proofs.lemmas.List.Sums.{fails_before_first}
use Rattle.std.proofs.lemmas.List.Splits.{slice_split_first, slice_split_none, length-slice_split}
use Rattle.replay_text.specs.Script.{without_empty_end, lines_of}

-- a choice that gave a value, and one that gave none
some_chosen : (b : Bool) (n i : ℕ) → cond b (Some n) None ≡ Some i → (b ≡ true) × (n ≡ i)
some_chosen true n i h = (refl, cc)
some_chosen false n i h = absurd cc

none_chosen : (b : Bool) (n : ℕ) → cond b (Some n) None ≡ None → b ≡ false
none_chosen true n h = absurd cc
none_chosen false n h = refl

pub split_found : (p : ℕ → Bool) (xs : List ℕ) (i : ℕ) → position p xs ≡ Some i → slice_split p xs ≡ take i xs ∷ slice_split p (drop (i + 1) xs)
split_found p xs i h =
    let found = some_chosen (ltb (position_or_len p xs) (length xs)) (position_or_len p xs) i h in
    rw (← found.1) (slice_split_first p xs 0 (ltb-true _ _ found.0))

pub split_none : (p : ℕ → Bool) (xs : List ℕ) → position p xs ≡ None → slice_split p xs ≡ xs ∷ []
split_none p xs h =
    let past = ltb-false _ _ (none_chosen (ltb (position_or_len p xs) (length xs)) (position_or_len p xs) h) in
    slice_split_none p xs (λ k d lt. fails_before_first p xs k d (omega arith))

-- a line before others is kept, whatever it is
kept : (line : List ℕ) (lines : List (List ℕ)) → 0 < length lines → without_empty_end (line ∷ lines) ≡ line ∷ without_empty_end lines
kept line [] h = absurd (omega arith)
kept line (next ∷ lines) h = refl

pub lines_found : (text : List ℕ) (i : ℕ) → position (λ b. eqb b 10) text ≡ Some i → lines_of text ≡ take i text ∷ lines_of (drop (i + 1) text)
lines_found text i h =
    let others = length-slice_split (λ b. eqb b 10) (drop (i + 1) text) in
    ap without_empty_end (split_found (λ b. eqb b 10) text i h) ∙ kept (take i text) (slice_split (λ b. eqb b 10) (drop (i + 1) text)) (omega arith)

alone : (text : List ℕ) → text ≢ [] → without_empty_end (text ∷ []) ≡ text ∷ []
alone [] some = absurd (some refl)
alone (b ∷ text) some = refl

pub lines_none : (text : List ℕ) → text ≢ [] → position (λ b. eqb b 10) text ≡ None → lines_of text ≡ text ∷ []
lines_none text some h = ap without_empty_end (split_none (λ b. eqb b 10) text h) ∙ alone text some

-- what a range to the end leaves
pub rest_is : (text : List ℕ) (i : ℕ) → take (length text - i) (drop i text) ≡ drop i text
rest_is text i = take_rest text i

-- ---- a line whose end is there, whatever comes after

-- a place that is found stays where it is
same_prefix : (p : ℕ → Bool) (xs ys : List ℕ) → prefix_len p xs < length xs → prefix_len p (xs ++ ys) ≡ prefix_len p xs
same_prefix p [] ys h = absurd (omega arith)
same_prefix p (x ∷ xs) ys h = by (p x) refl (same_prefix p xs ys)
  where
    by : (b : Bool) → p x ≡ b → (prefix_len p xs < length xs → prefix_len p (xs ++ ys) ≡ prefix_len p xs) → prefix_len p ((x ∷ xs) ++ ys) ≡ prefix_len p (x ∷ xs)
    by true e others = rw e (ap (λ n. 1 + n) (others (omega (arith, rw e at h))))
    by false e others = rw e refl

pub found_still : (p : ℕ → Bool) (xs ys : List ℕ) (i : ℕ) → position p xs ≡ Some i → (position p (xs ++ ys) ≡ Some i) × (i < length xs)
found_still p xs ys i h =
    let found = some_chosen (ltb (position_or_len p xs) (length xs)) (position_or_len p xs) i h in
    let within : position_or_len p xs < length xs = ltb-true _ _ found.0 in
    let same : position_or_len p (xs ++ ys) ≡ position_or_len p xs = same_prefix (λ x. not (p x)) xs ys within in
    let long : position_or_len p xs < length (xs ++ ys) = omega (arith, within, length-append xs ys) in (
      rw (same, lt-ltb (position_or_len p xs) (length (xs ++ ys)) long) (ap (λ n. Some n) found.1),
      omega (arith, within, found.1),
    )

pub lines_ended : (text more : List ℕ) (i : ℕ) → position (λ b. eqb b 10) text ≡ Some i → lines_of (text ++ more) ≡ take i text ∷ lines_of (drop (i + 1) text ++ more)
lines_ended text more i h =
    let still = found_still (λ b. eqb b 10) text more i h in
    rw (← take-append-le i text more (omega (arith, still.1)), ← drop-append-le (i + 1) text more (omega (arith, still.1))) (lines_found (text ++ more) i still.0)
