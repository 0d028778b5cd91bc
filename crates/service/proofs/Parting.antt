-- The lines of a text, by what is before the first line feed and what is after it.
use Rattle.std.proofs.Common.{◌≡◌, ℕ, ◌+◌, ◌++◌, Bool, true, false, cond, ltb, List, [], ◌∷◌, length, take, drop, Option, Some, None, refl, sym, ap, ◌∙◌, append_assoc, append-nil, arith}
use Rattle.std.specs.Prelude.{option_map, ◌==◌}
use Rattle.std.specs.List.{flat_map, slice_split, position, position_or_len}
use Rattle.std.proofs.lemmas.Bool.{ltb-true, ltb-false}
use Rattle.std.proofs.lemmas.List.Sums.{fails_before_first}
use Rattle.std.proofs.lemmas.List.Splits.{slice_split_first, slice_split_none}
use Rattle.http_link.specs.OperatorDoor.{parted}

-- the parts of a text by such a byte, by its first part
abbrev pub parts_by : ℕ → List ℕ → Option (List ℕ × List ℕ) → List (List ℕ)
parts_by mark text None = text ∷ []
parts_by mark text (Some parts) = parts.0 ∷ slice_split (λ b. b == mark) parts.1

found : (p : ℕ → Bool) (xs : List ℕ) (b : Bool) (i : ℕ) → ltb (position_or_len p xs) (length xs) ≡ b → cond b (Some (position_or_len p xs)) None ≡ Some i
    → slice_split p xs ≡ take i xs ∷ slice_split p (drop (i + 1) xs)
found p xs true i h e = let is : position_or_len p xs ≡ i = cc in rw (← is) (slice_split_first p xs 0 (ltb-true _ _ h))
found p xs false i h e = absurd cc

none : (p : ℕ → Bool) (xs : List ℕ) (b : Bool) → ltb (position_or_len p xs) (length xs) ≡ b → cond b (Some (position_or_len p xs)) None ≡ None
    → slice_split p xs ≡ xs ∷ []
none p xs true h e = absurd cc
none p xs false h e = let past = ltb-false _ _ h in slice_split_none p xs (λ k d lt. fails_before_first p xs k d (omega arith))

pub parts_parted : (mark : ℕ) (text : List ℕ) → slice_split (λ b. b == mark) text ≡ parts_by mark text (parted mark text)
parts_parted mark text = by (position (λ b. b == mark) text) refl
  where
    by : (o : Option ℕ) → position (λ b. b == mark) text ≡ o
        → slice_split (λ b. b == mark) text ≡ parts_by mark text (option_map (λ at. (take at text, drop (at + 1) text)) o)
    by None e = none (λ b. b == mark) text (ltb (position_or_len (λ b. b == mark) text) (length text)) refl e
    by (Some i) e = found (λ b. b == mark) text (ltb (position_or_len (λ b. b == mark) text) (length text)) i refl e

-- a text after a line was put, and what is left to put
pub line_put : (f : List ℕ → List ℕ) (mark : ℕ) (text rest line after new whole : List ℕ) → Some (line, after) ≡ parted mark rest → new ≡ text ++ f line
    → text ++ flat_map f (slice_split (λ b. b == mark) rest) ≡ whole
    → new ++ flat_map f (slice_split (λ b. b == mark) after) ≡ whole
line_put f mark text rest line after new whole is put all =
    let split : slice_split (λ b. b == mark) rest ≡ line ∷ slice_split (λ b. b == mark) after
    = parts_parted mark rest ∙ ap (parts_by mark rest) (sym is) in
    ap (λ (t : List ℕ). t ++ flat_map f (slice_split (λ b. b == mark) after)) put
    ∙ (append_assoc text (f line) (flat_map f (slice_split (λ b. b == mark) after))
    ∙ (ap (λ (lines : List (List ℕ)). text ++ flat_map f lines) (sym split) ∙ all))

-- a text after the last line was put
pub last_put : (f : List ℕ → List ℕ) (mark : ℕ) (text rest new whole : List ℕ) → None ≡ parted mark rest → new ≡ text ++ f rest
    → text ++ flat_map f (slice_split (λ b. b == mark) rest) ≡ whole → new ≡ whole
last_put f mark text rest new whole is put all =
    let split : slice_split (λ b. b == mark) rest ≡ rest ∷ []
    = parts_parted mark rest ∙ ap (parts_by mark rest) (sym is) in
    put ∙ (ap (λ (t : List ℕ). text ++ t) (sym (append-nil (f rest)))
    ∙ (ap (λ (lines : List (List ℕ)). text ++ flat_map f lines) (sym split) ∙ all))
