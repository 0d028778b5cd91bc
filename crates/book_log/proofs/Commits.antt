-- The first commit of a text.
use Rattle.std.proofs.Common.{◌≡◌, ◌≢◌, ℕ, ◌/◌, ◌%◌, true, false, eqb, ltb, List, [], ◌∷◌, ◌++◌, Option, append_assoc, append-nil, refl, sym, ap, ◌∙◌, inl, inr, arith}
use Rattle.std.specs.List.{AllByRecursion}
use Rattle.std.specs.Prelude.{None, Some, codes, option_map, slice_index}
use Rattle.std.proofs.lemmas.Bool.{cases_lt, ltb-true, ne_eqb}
use Rattle.std.proofs.lemmas.List.{get_or_past}
use Rattle.std.proofs.lemmas.List.Elements.{All-append, All-cons, All-nil}
use Rattle.std.proofs.lemmas.List.Sums.{AllPass-from_list_all}
use Rattle.hex.specs.Hex.{encode_lower, encode_with, lower_digits}
use Rattle.line_log.specs.Log.{lines}
use Rattle.statements.specs.Reading.{text_lines}
use Rattle.book_log.specs.Sums.{CommitRead, commit_read, is_sum, sum_line, with_line}
use Rattle.book_log.proofs.Splits.{IsFree, IsLine, free_line, lines_split, some_line}

-- what is read of a text, with these lines before it
abbrev pub with_lines : List (List ℕ) → CommitRead → CommitRead
with_lines ls c = record c { lines = ls ++ c.lines }

pub with_none : (read : Option CommitRead) → read ≡ option_map (with_lines []) read
with_none None = refl
with_none (Some c) = refl

pub with_more : (ls : List (List ℕ)) (l : List ℕ) (read : Option CommitRead)
    → option_map (with_lines ls) (option_map (with_line l) read) ≡ option_map (with_lines (ls ++ l ∷ [])) read
with_more ls l None = refl
with_more ls l (Some c) =
    ap (λ (all : List (List ℕ)). Some (record c { lines = all })) (sym (append_assoc ls (l ∷ []) c.lines))

-- a line that is no sum
pub line_read_on : (l : List ℕ) (parts : List (List ℕ)) → parts ≢ [] → is_sum l ≡ false
    → commit_read (l ∷ parts) ≡ option_map (with_line l) (commit_read parts)
line_read_on l [] some other = absurd (some refl)
line_read_on l (next ∷ others) some other = rw other refl

-- a line that is one
pub sum_read : (l : List ℕ) (parts : List (List ℕ)) → parts ≢ [] → is_sum l ≡ true
    → commit_read (l ∷ parts) ≡ Some (record { lines = []; sum = l; rest = parts })
sum_read l [] some is = absurd (some refl)
sum_read l (next ∷ others) some is = rw is refl

-- lines that are no sums
abbrev pub AreNoSums : List (List ℕ) → Type 0
AreNoSums ls = AllByRecursion (λ l. is_sum l ≡ false) ls

more_some : (ls : List (List ℕ)) (l : List ℕ) (parts : List (List ℕ)) → ls ++ l ∷ parts ≢ []
more_some [] l parts none = absurd (cc none)
more_some (x ∷ ls) l parts none = absurd (cc none)

pub commit_is_read : (ls : List (List ℕ)) (s : List ℕ) (parts : List (List ℕ)) → parts ≢ [] → AreNoSums ls → is_sum s ≡ true
    → commit_read (ls ++ s ∷ parts) ≡ Some (record { lines = ls; sum = s; rest = parts })
commit_is_read [] s parts some others is = sum_read s parts some is
commit_is_read (l ∷ ls) s parts some others is =
    line_read_on l (ls ++ s ∷ parts) (more_some ls s parts) others.0 ∙ ap (option_map (with_line l)) (commit_is_read ls s parts some others.1 is)

pub none_is_read : (ls : List (List ℕ)) (last : List ℕ) → AreNoSums ls → commit_read (ls ++ last ∷ []) ≡ None
none_is_read [] last others = refl
none_is_read (l ∷ ls) last others =
    line_read_on l (ls ++ last ∷ []) (more_some ls last []) others.0 ∙ ap (option_map (with_line l)) (none_is_read ls last others.1)

-- ---- the line of a sum

digit_is_free : (d : ℕ) → eqb (slice_index lower_digits d) 10 ≡ false
digit_is_free d =
    elim (cases_lt d 16) [
      | inl low ↦
          let shown : ltb 32 (slice_index lower_digits d) ≡ true = AllPass-from_list_all (λ b. ltb 32 b) lower_digits refl d 0 low in
          ne_eqb (slice_index lower_digits d) 10 (λ e. omega (arith, e, ltb-true 32 (slice_index lower_digits d) shown))
      | inr high ↦ ap (λ (b : ℕ). eqb b 10) (get_or_past lower_digits d 0 high)
    ]

hex_is_free : (bytes : List ℕ) → IsFree 10 (encode_lower bytes)
unfolding encode_with
hex_is_free [] = All-nil (λ b. eqb b 10 ≡ false)
hex_is_free (b ∷ bytes) =
    All-cons (λ b. eqb b 10 ≡ false) (slice_index lower_digits (b / 16)) (slice_index lower_digits (b % 16) ∷ encode_lower bytes) (digit_is_free (b / 16))
    (All-cons (λ b. eqb b 10 ≡ false) (slice_index lower_digits (b % 16)) (encode_lower bytes) (digit_is_free (b % 16)) (hex_is_free bytes))

-- that line, without its line feed
abbrev pub sum_text : List ℕ → List ℕ
sum_text sum = codes "sum " ++ encode_lower sum

marks_are_free : IsFree 10 (codes "sum ")
marks_are_free =
    All-cons (λ b. eqb b 10 ≡ false) 115 (117 ∷ 109 ∷ 32 ∷ []) refl
    (All-cons (λ b. eqb b 10 ≡ false) 117 (109 ∷ 32 ∷ []) refl
    (All-cons (λ b. eqb b 10 ≡ false) 109 (32 ∷ []) refl
    (All-cons (λ b. eqb b 10 ≡ false) 32 [] refl (All-nil (λ b. eqb b 10 ≡ false)))))

pub sum_is_line : (sum : List ℕ) → IsLine (sum_text sum)
sum_is_line sum text =
    free_line (sum_text sum) text
    (All-append (λ b. eqb b 10 ≡ false) (codes "sum ") (encode_lower sum) marks_are_free (hex_is_free sum))

sum_is_sum : (sum : List ℕ) → is_sum (sum_text sum) ≡ true
unfolding is_sum
sum_is_sum sum = refl

-- the first commit of lines, their sum and a rest
pub commit_of_lines : (ls : List (List ℕ)) (sum rest : List ℕ) → AllByRecursion IsLine ls → AreNoSums ls
    → commit_read (text_lines (lines ls ++ sum_line sum ++ rest)) ≡ Some (record { lines = ls; sum = sum_text sum; rest = text_lines rest })
unfolding sum_line
commit_of_lines ls sum rest are others =
    ap (λ (t : List ℕ). commit_read (text_lines t)) (append_assoc (lines ls) (sum_text sum ++ 10 ∷ []) rest
    ∙ ap (λ (t : List ℕ). lines ls ++ t) (append_assoc (sum_text sum) (10 ∷ []) rest))
    ∙ ap commit_read (lines_split ls (sum_text sum ++ 10 ∷ rest) are ∙ ap (λ (ps : List (List ℕ)). ls ++ ps) (sum_is_line sum rest))
    ∙ commit_is_read ls (sum_text sum) (text_lines rest) (some_line rest) others (sum_is_sum sum)

-- lines alone have none
pub none_of_lines : (ls : List (List ℕ)) → AllByRecursion IsLine ls → AreNoSums ls → commit_read (text_lines (lines ls)) ≡ None
unfolding text_lines
none_of_lines ls are others =
    ap (λ (t : List ℕ). commit_read (text_lines t)) (sym (append-nil (lines ls)))
    ∙ ap commit_read (lines_split ls [] are)
    ∙ none_is_read ls [] others

-- what was passed over of a text: lines that begin no commit
pub record IsReadSoFar (text rest : List ℕ) : Type 0 where
  pub each : List (List ℕ)
  pub parts : text ≡ lines each ++ rest
  pub read : commit_read (text_lines text) ≡ option_map (with_lines each) (commit_read (text_lines rest))
