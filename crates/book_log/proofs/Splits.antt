-- Texts as lines and as words, and the parts that have neither a space nor a line feed.
use Rattle.std.proofs.Common.{◌≡◌, ◌≢◌, ℕ, ◌+◌, ◌<◌, ◌≤◌, true, false, eqb, ltb, List, [], ◌∷◌, ◌++◌, length, take, drop, get_or, append_assoc, refl, sym, ap, subst, ◌∙◌, arith}
use Rattle.std.specs.List.{All, AllByRecursion, join_with_byte, list_all}
use Rattle.std.specs.Prelude.{Some}
use Rattle.std.proofs.lemmas.Bool.{and_parts, eqb-true, false_from_ne_true, ltb-true, ne_eqb}
use Rattle.std.proofs.lemmas.List.{append-nil, drop_more, get_or-take, get_or_default, length-take-le, take-append-drop, take_all}
use Rattle.std.proofs.lemmas.List.Elements.{All-append, All-cons, All-head, All-nil, All-tail}
use Rattle.std.proofs.lemmas.List.Splits.{join_with_byte-slice_split, length-slice_split, slice_split-cons_no, slice_split_at, slice_split_none}
use Rattle.std.proofs.lemmas.Option.{same_Some}
use Rattle.common_types.specs.Words.{words_of}
use Rattle.memchr.specs.Find.{Nowhere, Passes, is_byte}
use Rattle.line_log.specs.Log.{lines}
use Rattle.statements.specs.ReadBack.{is_word}
use Rattle.statements.specs.Reading.{ReadPart, line_read, read_part, text_lines}
use Rattle.statements.specs.Statement.{spaced}

-- no byte is that one
abbrev pub IsFree : ℕ → List ℕ → Type 0
IsFree c text = All (λ b. eqb b c ≡ false) text

pub word_is_free : (c : ℕ) → c ≤ 32 → (text : List ℕ) → is_word text ≡ true → IsFree c text
word_is_free c low [] h = All-nil (λ b. eqb b c ≡ false)
word_is_free c low (b ∷ bytes) h =
    let k = and_parts (ltb 32 b) (is_word bytes) h in
    All-cons (λ b. eqb b c ≡ false) b bytes (ne_eqb b c (λ e. omega (arith, e, ltb-true 32 b k.0))) (word_is_free c low bytes k.1)

pub spaced_is_free : (words : List (List ℕ)) → list_all is_word words ≡ true → IsFree 10 (spaced words)
spaced_is_free [] all = All-nil (λ b. eqb b 10 ≡ false)
spaced_is_free (next ∷ others) all =
    let k = and_parts (is_word next) (list_all is_word others) all in
    All-cons (λ b. eqb b 10 ≡ false) 32 (next ++ spaced others) refl
    (All-append (λ b. eqb b 10 ≡ false) next (spaced others) (word_is_free 10 (omega arith) next k.0) (spaced_is_free others k.1))

-- ---- words

pub word_more : (w rest : List ℕ) → is_word w ≡ true → words_of (w ++ 32 ∷ rest) ≡ w ∷ words_of rest
word_more w rest h = slice_split_at (λ b. eqb b 32) w 32 rest (word_is_free 32 (omega arith) w h) refl

pub words_more : (others : List (List ℕ)) (first rest : List ℕ) → is_word first ≡ true → list_all is_word others ≡ true
    → words_of (first ++ spaced others ++ 32 ∷ rest) ≡ first ∷ others ++ words_of rest
words_more [] first rest one all = ap (λ (t : List ℕ). words_of (t ++ 32 ∷ rest)) (append-nil first) ∙ word_more first rest one
words_more (next ∷ others) first rest one all =
    let k = and_parts (is_word next) (list_all is_word others) all in
    ap words_of (append_assoc first (32 ∷ next ++ spaced others) (32 ∷ rest))
    ∙ word_more first (next ++ spaced others ++ 32 ∷ rest) one
    ∙ ap (λ (ws : List (List ℕ)). first ∷ ws) (words_more others next rest k.0 k.1)

-- ---- lines

pub some_line : (text : List ℕ) → text_lines text ≢ []
unfolding text_lines
some_line text none = absurd (omega (arith, length-slice_split (λ b. eqb b 10) text, ap length none))

joined : (line : List ℕ) (parts : List (List ℕ)) → parts ≢ [] → join_with_byte 10 (line ∷ parts) ≡ line ++ 10 ∷ join_with_byte 10 parts
joined line [] some = absurd (some refl)
joined line (next ∷ others) some = refl

same_text : (text : List ℕ) → join_with_byte 10 (text_lines text) ≡ text
unfolding text_lines
same_text text = join_with_byte-slice_split 10 text

-- texts of the same lines are the same
pub one_text : (text other : List ℕ) → text_lines text ≡ text_lines other → text ≡ other
one_text text other same = sym (same_text text) ∙ ap (join_with_byte 10) same ∙ same_text other

-- a first line, its line feed, and what follows it
pub first_of : (text line rest : List ℕ) → text_lines text ≡ line ∷ text_lines rest → text ≡ line ++ 10 ∷ rest
first_of text line rest is =
    sym (same_text text) ∙ ap (join_with_byte 10) is ∙ joined line (text_lines rest) (some_line rest)
    ∙ ap (λ (t : List ℕ). line ++ 10 ∷ t) (same_text rest)

pub line_read_is : (parts others : List (List ℕ)) (line : List ℕ) → line_read parts ≡ Some (read_part line others) → parts ≡ line ∷ others
line_read_is [] others line is = absurd (cc is)
line_read_is (x ∷ []) others line is = absurd (cc is)
line_read_is (x ∷ y ∷ more) others line is =
    ap (λ (p : ReadPart (List ℕ)). p.value ∷ p.rest) (same_Some (read_part x (y ∷ more)) (read_part line others) is)

-- what is free of line feeds comes in front of the first line
pub in_front : (front text line : List ℕ) (others : List (List ℕ)) → IsFree 10 front → text_lines text ≡ line ∷ others
    → text_lines (front ++ text) ≡ (front ++ line) ∷ others
unfolding text_lines
in_front [] text line others free is = is
in_front (b ∷ front) text line others free is =
    slice_split-cons_no (λ b. eqb b 10) b (front ++ text) (All-head (λ b. eqb b 10 ≡ false) b front free)
    ∙ (let later = in_front front text line others (All-tail (λ b. eqb b 10 ≡ false) b front free) is in rw later refl)

pub free_line : (line text : List ℕ) → IsFree 10 line → text_lines (line ++ 10 ∷ text) ≡ line ∷ text_lines text
unfolding text_lines
free_line line text free = slice_split_at (λ b. eqb b 10) line 10 text free refl

pub no_line : (text : List ℕ) → IsFree 10 text → text_lines text ≡ text ∷ []
unfolding text_lines
no_line text free = slice_split_none (λ b. eqb b 10) text free

-- the text before its first line feed, and after it
pub free_before : (text : List ℕ) (end : ℕ) → end ≤ length text → Nowhere (Passes (is_byte 10) text) 0 end → IsFree 10 (take end text)
free_before text end within none = λ k d inside.
    let size : length (take end text) ≡ end = length-take-le end text within in
    let low : k < end = omega (arith, size, inside) in
    let here : k < length text = omega (arith, low, within) in
    ap (λ (b : ℕ). eqb b 10) (get_or-take end text k d low ∙ get_or_default text k d 0 here)
    ∙ false_from_ne_true (eqb (get_or text k 0) 10) (none k (omega arith) low)

pub free_all : (text : List ℕ) → Nowhere (Passes (is_byte 10) text) 0 (length text) → IsFree 10 text
free_all text none =
    subst (λ (t : List ℕ). IsFree 10 t) (take_all (length text) text (omega arith)) (free_before text (length text) (omega arith) none)

pub first_parts : (text : List ℕ) (end : ℕ) → end < length text → eqb (get_or text end 0) 10 ≡ true
    → text ≡ take end text ++ 10 ∷ drop (end + 1) text
first_parts text end within feed =
    sym (take-append-drop end text)
    ∙ ap (λ (t : List ℕ). take end text ++ t) (drop_more text end 0 within ∙ (let is : get_or text end 0 ≡ 10 = eqb-true (get_or text end 0) 10 feed in ap (λ (b : ℕ). b ∷ drop (end + 1) text) is))

-- lines that are each one line
abbrev pub IsLine : List ℕ → Type 0
IsLine line = (text : List ℕ) → text_lines (line ++ 10 ∷ text) ≡ line ∷ text_lines text

pub lines_split : (ls : List (List ℕ)) (text : List ℕ) → AllByRecursion IsLine ls → text_lines (lines ls ++ text) ≡ ls ++ text_lines text
lines_split [] text are = refl
lines_split (l ∷ ls) text are =
    ap text_lines (append_assoc l (10 ∷ lines ls) text) ∙ are.0 (lines ls ++ text) ∙ ap (λ (ps : List (List ℕ)). l ∷ ps) (lines_split ls text are.1)
