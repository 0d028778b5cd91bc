-- Words that are written: of which bytes they are.
use Rattle.std.proofs.Common.{◌≡◌, ◌≢◌, ℕ, ◌+◌, ◌<◌, ◌^◌, Bool, true, false, cond, ltb, ◌||◌, eqb, List, [], ◌∷◌, length, take, drop, refl, ap, ◌∙◌, arith}
use Rattle.std.specs.Fmt.{decimal}
use Rattle.std.specs.Prelude.{◌==◌, codes, Some, None}
use Rattle.std.specs.List.{list_all, list_any, position, position_or_len, slice_split}
use Rattle.std.proofs.lemmas.Bool.{and_parts, le-leb, ltb-false}
use Rattle.std.proofs.lemmas.Fmt.{decimal_is_IsNumeral, length-decimal-le}
use Rattle.std.proofs.lemmas.List.Quantifiers.{position-Some}
use Rattle.std.proofs.lemmas.List.Splits.{length-slice_split, slice_split_first, slice_split_none}
use Rattle.std.proofs.lemmas.List.Sums.{fails_before_first, position_or_len_is}
use Rattle.common_types.specs.Numbers.{is_between}
use Rattle.common_types.specs.Numerals.{is_digit, NumeralLaws}
use Rattle.common_types.specs.Token.{is_token, is_token_byte}
use Rattle.statements.specs.Reading.{line_read, text_lines, read_part}

-- what passes one test passes another
pub list_all_by : {X : Type 0} (p q : X → Bool) → ((x : X) → p x ≡ true → q x ≡ true) → (xs : List X) → list_all p xs ≡ true
    → list_all q xs ≡ true
list_all_by p q by [] h = refl
list_all_by p q by (x ∷ xs) h =
    let k = and_parts (p x) (list_all p xs) h in
    rw (by x k.0, list_all_by p q by xs k.1) refl

or_third : (a b d : Bool) → (a || b || true || d) ≡ true
or_third true b d = refl
or_third false true d = refl
or_third false false d = refl

digit_of_token : (b : ℕ) → is_digit b ≡ true → is_token_byte b ≡ true
digit_of_token b h = rw h (or_third (is_between 65 90 b) (is_between 97 122 b) (list_any (λ c. c == b) (codes "-._~+/=")))

-- a numeral is a token
pub numeral_is_token : NumeralLaws → (n : ℕ) → n < 2 ^ 64 → is_token (decimal n) ≡ true
numeral_is_token laws n small =
    let short = length-decimal-le 20 n (omega arith) (omega arith) small in
    rw (
      le-leb 1 (length (decimal n)) (omega (arith, (decimal_is_IsNumeral n small).0.0)),
      le-leb (length (decimal n)) 64 (omega (arith, short)),
      list_all_by is_digit is_token_byte digit_of_token (decimal n) (laws.numeral_has_digits n small),
    ) refl

-- ---- lines

-- the lines behind a first one
pub behind : (line : List ℕ) (lines : List (List ℕ)) → lines ≢ [] → line_read (line ∷ lines) ≡ Some (read_part line lines)
behind line [] some = absurd (some refl)
behind line (next ∷ others) some = refl

pub some_line : (text : List ℕ) → text_lines text ≢ []
unfolding text_lines
some_line text none = absurd (omega (arith, length-slice_split (λ b. eqb b 10) text, ap length none))

abbrev pub is_end : ℕ → Bool
is_end = λ b. b == 10

split_at_end : (text : List ℕ) (i : ℕ) → position is_end text ≡ Some i → slice_split is_end text ≡ take i text ∷ slice_split is_end (drop (i + 1) text)
split_at_end text i at =
    let first = position-Some is_end text i 0 at in
    let place : position_or_len is_end text ≡ i = position_or_len_is is_end text i 0 (omega (arith, first.0)) first.2 (λ inside. first.1) in
    rw (← place) (slice_split_first is_end text 0 (omega (arith, first.0, place)))

no_place : (there : Bool) (i : ℕ) → cond there (Some i) None ≡ None → there ≡ false
no_place true i none = absurd cc
no_place false i none = refl

unsplit : (text : List ℕ) → position is_end text ≡ None → slice_split is_end text ≡ text ∷ []
unsplit text none =
    let past = ltb-false _ _ (no_place (ltb (position_or_len is_end text) (length text)) _ none) in
    slice_split_none is_end text (λ k d inside. fails_before_first is_end text k d (omega (arith, past, inside)))

pub line_found : (text : List ℕ) (i : ℕ) → position (λ b. b == 10) text ≡ Some i
    → line_read (text_lines text) ≡ Some (read_part (take i text) (text_lines (drop (i + 1) text)))
unfolding text_lines
line_found text i at =
    ap line_read (split_at_end text i at) ∙ behind (take i text) (text_lines (drop (i + 1) text)) (some_line (drop (i + 1) text))

pub line_none : (text : List ℕ) → position (λ b. b == 10) text ≡ None → line_read (text_lines text) ≡ None
unfolding text_lines
line_none text at = ap line_read (unsplit text at)
