-- A line that is written is taken off the text that it begins, and its words are those that were written.
use Rattle.std.proofs.Common.{◌≡◌, ℕ, ◌≤◌, true, false, eqb, ltb, List, [], ◌∷◌, ◌++◌, append_assoc, refl, ap, ◌∙◌, arith}
use Rattle.std.specs.List.{All, list_all}
use Rattle.std.proofs.lemmas.Bool.{and_parts, ltb-true, ne_eqb}
use Rattle.std.proofs.lemmas.List.{append-nil}
use Rattle.std.proofs.lemmas.List.Elements.{All-append, All-cons, All-nil}
use Rattle.std.proofs.lemmas.List.Splits.{slice_split_at, slice_split_none}
use Rattle.common_types.specs.Words.{words_of}
use Rattle.statements.specs.ReadBack.{is_word}
use Rattle.statements.specs.Reading.{line_read, text_lines, read_part}
use Rattle.statements.specs.Statement.{line, spaced}
use Rattle.statements.proofs.WordLaws.{behind, some_line}
use Rattle.std.specs.Prelude.{Some}

-- no byte of a word is that one
apart : (c : ℕ) → c ≤ 32 → (text : List ℕ) → is_word text ≡ true → All (λ b. eqb b c ≡ false) text
apart c low [] h = All-nil (λ b. eqb b c ≡ false)
apart c low (b ∷ bytes) h =
    let k = and_parts (ltb 32 b) (is_word bytes) h in
    All-cons (λ b. eqb b c ≡ false) b bytes (ne_eqb b c (λ e. omega (arith, e, ltb-true 32 b k.0))) (apart c low bytes k.1)

pub words_back : (first : List ℕ) (others : List (List ℕ)) → is_word first ≡ true → list_all is_word others ≡ true
    → words_of (first ++ spaced others) ≡ first ∷ others
words_back first [] one all =
    ap words_of (append-nil first) ∙ slice_split_none (λ b. eqb b 32) first (apart 32 (omega arith) first one)
words_back first (next ∷ others) one all =
    let k = and_parts (is_word next) (list_all is_word others) all in
    slice_split_at (λ b. eqb b 32) first 32 (next ++ spaced others) (apart 32 (omega arith) first one) refl
    ∙ ap (λ (ws : List (List ℕ)). first ∷ ws) (words_back next others k.0 k.1)

no_feed : (others : List (List ℕ)) → list_all is_word others ≡ true → All (λ b. eqb b 10 ≡ false) (spaced others)
no_feed [] all = All-nil (λ b. eqb b 10 ≡ false)
no_feed (next ∷ others) all =
    let k = and_parts (is_word next) (list_all is_word others) all in
    All-cons (λ b. eqb b 10 ≡ false) 32 (next ++ spaced others) refl
    (All-append (λ b. eqb b 10 ≡ false) next (spaced others) (apart 10 (omega arith) next k.0) (no_feed others k.1))

pub line_back : (first : List ℕ) (others : List (List ℕ)) (text : List ℕ) → is_word first ≡ true → list_all is_word others ≡ true
    → line_read (text_lines (line first others ++ text)) ≡ Some (read_part (first ++ spaced others) (text_lines text))
unfolding text_lines
line_back first others text one all =
    let whole = first ++ spaced others in
    ap (λ (t : List ℕ). line_read (text_lines t)) (append_assoc whole (10 ∷ []) text)
    ∙ ap line_read (slice_split_at (λ b. eqb b 10) whole 10 text
    (All-append (λ b. eqb b 10 ≡ false) first (spaced others) (apart 10 (omega arith) first one) (no_feed others all)) refl)
    ∙ behind whole (text_lines text) (some_line text)
