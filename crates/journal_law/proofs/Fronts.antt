-- A front of a written log.
use Rattle.std.proofs.Common.{◌≡◌, ◌⊎◌, ℕ, zero, suc, ◌/◌, ◌%◌, true, false, eqb, ltb, List, [], ◌∷◌, ◌++◌, length, map, take, append_assoc, append-nil, refl, sym, ap, subst, ◌∙◌, inl, inr, arith}
use Rattle.std.specs.List.{AllByRecursion, onto_first, slice_split}
use Rattle.std.specs.Prelude.{codes, slice_index}
use Rattle.std.proofs.Math.Seq.{take-append_seam}
use Rattle.std.proofs.lemmas.Bool.{cases_Bool, cases_lt, ltb-true, ne_eqb}
use Rattle.std.proofs.lemmas.List.{get_or_past}
use Rattle.std.proofs.lemmas.List.Splits.{slice_split-cons_no, slice_split-cons_yes}
use Rattle.std.proofs.lemmas.List.Sums.{AllPass-from_list_all}
use Rattle.book_log.specs.Laws.{LineLaws}
use Rattle.book_log.specs.Sums.{sum_line, summed}
use Rattle.book_log.specs.Written.{AreWritten, IsTextWritten}
use Rattle.hex.specs.Hex.{encode_lower, encode_with, lower_digits}
use Rattle.line_log.specs.Log.{all_of, lines, records_from, recovered}
use Rattle.sha2.specs.Sha256.{sha256}
use Rattle.statements.specs.Reading.{text_lines}
use Rattle.tenant_core.specs.State.{State}
use Rattle.journal_law.proofs.NewLines.{lines-append}
use Rattle.journal_law.proofs.Noting.{all_in_two}

-- ---- line feeds

-- no byte is a line feed
abbrev IsFree : List ℕ → Type 0
IsFree text = AllByRecursion (λ b. eqb b 10 ≡ false) text

first_part : List (List ℕ) → List ℕ
first_part [] = []
first_part (p ∷ ps) = p

first_onto : (b : ℕ) (ps : List (List ℕ)) → first_part (onto_first b ps) ≡ b ∷ first_part ps
unfolding first_part
first_onto b [] = refl
first_onto b (p ∷ ps) = refl

first_is_free : (xs : List ℕ) → IsFree (first_part (slice_split (λ b. eqb b 10) xs))
unfolding first_part
first_is_free [] = tt
first_is_free (b ∷ xs) =
    elim (cases_Bool (eqb b 10)) [
      | inl feed ↦ subst (λ (ps : List (List ℕ)). IsFree (first_part ps)) (sym (slice_split-cons_yes (λ b. eqb b 10) b xs feed)) tt
      | inr other ↦
          subst (λ (ps : List (List ℕ)). IsFree (first_part ps)) (sym (slice_split-cons_no (λ b. eqb b 10) b xs other))
          (subst IsFree (sym (first_onto b (slice_split (λ b. eqb b 10) xs))) (other, first_is_free xs))
    ]

line_is_free : (line : List ℕ) → text_lines (line ++ 10 ∷ []) ≡ line ∷ text_lines [] → IsFree line
unfolding text_lines first_part
line_is_free line is = subst IsFree (ap first_part is) (first_is_free (line ++ 10 ∷ []))

written_are_free : LineLaws → (ls : List (List ℕ)) (before after : List State) → AreWritten ls before after → AllByRecursion IsFree ls
written_are_free laws [] before after written = tt
written_are_free laws (l ∷ ls) before after written = (
  line_is_free l (laws.one_line l before written.0 written.1 []),
  written_are_free laws ls written.0 after written.2,
)

-- ---- the line of a sum

sum_text : List ℕ → List ℕ
sum_text sum = codes "sum " ++ encode_lower sum

digit_is_free : (d : ℕ) → eqb (slice_index lower_digits d) 10 ≡ false
digit_is_free d =
    elim (cases_lt d 16) [
      | inl low ↦
          let shown : ltb 32 (slice_index lower_digits d) ≡ true = AllPass-from_list_all (λ b. ltb 32 b) lower_digits refl d 0 low in
          ne_eqb (slice_index lower_digits d) 10 (λ e. omega (arith, e, ltb-true 32 (slice_index lower_digits d) shown))
      | inr high ↦ ap (λ (b : ℕ). eqb b 10) (get_or_past lower_digits d 0 high)
    ]

hex_is_free : (bytes : List ℕ) → IsFree (encode_lower bytes)
unfolding encode_with
hex_is_free [] = tt
hex_is_free (b ∷ bytes) = (digit_is_free (b / 16), (digit_is_free (b % 16), hex_is_free bytes))

sum_is_free : (sum : List ℕ) → IsFree (sum_text sum)
unfolding sum_text
sum_is_free sum = (refl, (refl, (refl, (refl, hex_is_free sum))))

sum_line_is : (sum : List ℕ) → sum_line sum ≡ sum_text sum ++ 10 ∷ []
unfolding sum_line sum_text
sum_line_is sum = refl

-- ---- lines that are recovered

line_recovered : (line begun rest : List ℕ) → IsFree line
    → (records_from begun (line ++ 10 ∷ rest) ≡ []) ⊎ (records_from begun (line ++ 10 ∷ rest) ≡ (begun ++ line) ∷ records_from [] rest)
line_recovered [] begun rest free = inr (ap (λ (l : List ℕ). l ∷ records_from [] rest) (sym (append-nil begun)))
line_recovered (b ∷ line) begun rest free =
    elim (cases_Bool (eqb b 0)) [
      | inl end ↦ inl (rw end refl)
      | inr other ↦
          let on : records_from begun (b ∷ (line ++ 10 ∷ rest)) ≡ records_from (begun ++ b ∷ []) (line ++ 10 ∷ rest) = rw (other, free.0) refl in
          elim (line_recovered line (begun ++ b ∷ []) rest free.1) [
            | inl none ↦ inl (on ∙ none)
            | inr one ↦ inr (on ∙ one ∙ ap (λ (l : List ℕ). l ∷ records_from [] rest) (append_assoc begun (b ∷ []) line))
          ]
    ]

lines_recovered : (ls : List (List ℕ)) → AllByRecursion IsFree ls → (m : ℕ) × (recovered (lines ls) ≡ take m ls)
lines_recovered [] free = (0, refl)
lines_recovered (l ∷ ls) free =
    elim (line_recovered l [] (lines ls) free.0) [
      | inl none ↦ (0, none)
      | inr one ↦ let rest = lines_recovered ls free.1 in (suc rest.0, one ∙ ap (λ (rs : List (List ℕ)). l ∷ rs) rest.1)
    ]

-- ---- fronts of lists

take_again : {X : Type 0} (n m : ℕ) (xs : List X) → (k : ℕ) × (take n (take m xs) ≡ take k xs)
take_again zero m xs = (0, refl)
take_again (suc n) zero xs = (0, refl)
take_again (suc n) (suc m) [] = (0, refl)
take_again (suc n) (suc m) (x ∷ xs) = let rest = take_again n m xs in (suc rest.0, ap (λ (ys : List _). x ∷ ys) rest.1)

take_over : {X : Type 0} (xs ys : List X) (k : ℕ) → (take k (xs ++ ys) ≡ take k xs) ⊎ ((j : ℕ) × (take k (xs ++ ys) ≡ xs ++ take j ys))
take_over [] ys k = inr (k, refl)
take_over (x ∷ xs) ys zero = inl refl
take_over (x ∷ xs) ys (suc k) =
    elim (take_over xs ys k) [
      | inl short ↦ inl (ap (λ (zs : List _). x ∷ zs) short)
      | inr far ↦ inr (far.0, ap (λ (zs : List _). x ∷ zs) far.1)
    ]

take_within : {X : Type 0} (k : ℕ) (xs ys : List X) → (j : ℕ) × (take k xs ≡ take j (xs ++ ys))
take_within zero xs ys = (0, refl)
take_within (suc k) [] ys = (0, refl)
take_within (suc k) (x ∷ xs) ys = let rest = take_within k xs ys in (suc rest.0, ap (λ (zs : List _). x ∷ zs) rest.1)

take_after : {X : Type 0} (xs ys : List X) (n : ℕ) → (j : ℕ) × (xs ++ take n ys ≡ take j (xs ++ ys))
take_after [] ys n = (n, refl)
take_after (x ∷ xs) ys n = let rest = take_after xs ys n in (suc rest.0, ap (λ (zs : List _). x ∷ zs) rest.1)

all_and : {X : Type 0} (P : X → Type 0) (xs ys : List X) → AllByRecursion P xs → AllByRecursion P ys → AllByRecursion P (xs ++ ys)
all_and P [] ys one two = two
all_and P (x ∷ xs) ys one two = (one.0, all_and P xs ys one.1 two)

-- ---- the lines of a log

-- the lines of commits, each with the line of its sum, and then others
all_lines : List ℕ → List (List (List ℕ)) → List (List ℕ) → List (List ℕ)
all_lines first [] others = others
all_lines first (c ∷ cs) others = c ++ sum_text (sha256 (first ++ lines c)) ∷ all_lines (sha256 (first ++ lines c)) cs others

text_is : (cs : List (List (List ℕ))) (others : List (List ℕ)) (first : List ℕ)
    → summed first (map lines cs) ++ lines others ≡ lines (all_lines first cs others)
unfolding all_lines
text_is [] others first = refl
text_is (c ∷ cs) others first =
    let sum : List ℕ = sha256 (first ++ lines c) in
    let rest : List (List ℕ) = all_lines sum cs others in
    append_assoc (lines c ++ sum_line sum) (summed sum (map lines cs)) (lines others)
    ∙ ap (λ (l : List ℕ). (lines c ++ sum_line sum) ++ l) (text_is cs others sum)
    ∙ append_assoc (lines c) (sum_line sum) (lines rest)
    ∙ ap (λ (l : List ℕ). lines c ++ (l ++ lines rest)) (sum_line_is sum)
    ∙ ap (λ (l : List ℕ). lines c ++ l) (append_assoc (sum_text sum) (10 ∷ []) (lines rest))
    ∙ sym (lines-append c (sum_text sum ∷ rest))

all_are_free : (cs : List (List (List ℕ))) (others : List (List ℕ)) (first : List ℕ) → AllByRecursion IsFree (all_of cs ++ others)
    → AllByRecursion IsFree (all_lines first cs others)
unfolding all_lines
all_are_free [] others first free = free
all_are_free (c ∷ cs) others first free =
    let sum : List ℕ = sha256 (first ++ lines c) in
    let two = all_in_two IsFree c (all_of cs ++ others) (subst (AllByRecursion IsFree) (append_assoc c (all_of cs) others) free) in
    all_and IsFree c (sum_text sum ∷ all_lines sum cs others) two.0 (sum_is_free sum, all_are_free cs others sum two.1)

-- lines that are those of commits and others again, which are a front of all
record IsFront (first : List ℕ) (taken all : List (List ℕ)) : Type 0 where
  commits : List (List (List ℕ))
  others : List (List ℕ)
  is : taken ≡ all_lines first commits others
  count : ℕ
  front : all_of commits ++ others ≡ take count all

-- the front ends after the lines of the first commit
past_commit : (c : List (List ℕ)) (cs : List (List (List ℕ))) (others : List (List ℕ)) (first sum : List ℕ) (taken : List (List ℕ)) (j : ℕ)
    → sum ≡ sha256 (first ++ lines c) → ((i : ℕ) → IsFront sum (take i (all_lines sum cs others)) (all_of cs ++ others))
    → taken ≡ c ++ take j (sum_text sum ∷ all_lines sum cs others) → IsFront first taken ((c ++ all_of cs) ++ others)
unfolding all_lines
past_commit c cs others first sum taken zero sum_is more is = record {
  commits = [];
  others = c;
  is = is ∙ append-nil c;
  count = length c;
  front = sym (ap (take (length c)) (append_assoc c (all_of cs) others) ∙ take-append_seam c (all_of cs ++ others));
}
past_commit c cs others first sum taken (suc i) sum_is more is =
    let f = more i in
    let after = take_after c (all_of cs ++ others) f.count in
    record {
      commits = c ∷ f.commits;
      others = f.others;
      is = is ∙ ap (λ (ls : List (List ℕ)). c ++ sum_text sum ∷ ls) f.is
          ∙ ap (λ (s : List ℕ). c ++ sum_text s ∷ all_lines s f.commits f.others) sum_is;
      count = after.0;
      front = append_assoc c (all_of f.commits) f.others ∙ ap (λ (ls : List (List ℕ)). c ++ ls) f.front ∙ after.1
          ∙ ap (take after.0) (sym (append_assoc c (all_of cs) others));
    }

front_is : (cs : List (List (List ℕ))) (others : List (List ℕ)) (first : List ℕ) (k : ℕ)
    → IsFront first (take k (all_lines first cs others)) (all_of cs ++ others)
unfolding all_lines
front_is [] others first k = record { commits = []; others = take k others; is = refl; count = k; front = refl }
front_is (c ∷ cs) others first k =
    let sum : List ℕ = sha256 (first ++ lines c) in
    let rest : List (List ℕ) = all_lines sum cs others in
    let taken : List (List ℕ) = take k (c ++ sum_text sum ∷ rest) in
    elim (take_over c (sum_text sum ∷ rest) k) [
      | inl short ↦
          let within = take_within k c (all_of cs ++ others) in
          record {
            commits = [];
            others = take k c;
            is = short;
            count = within.0;
            front = within.1 ∙ ap (take within.0) (sym (append_assoc c (all_of cs) others));
          }
      | inr far ↦ past_commit c cs others first sum taken far.0 refl (λ i. front_is cs others sum i) far.1
    ]

front_written : (k : ℕ) (ls : List (List ℕ)) (before after : List State) → AreWritten ls before after
    → (between : List State) × AreWritten (take k ls) before between
front_written zero ls before after written = (before, refl)
front_written (suc k) [] before after written = (before, refl)
front_written (suc k) (l ∷ ls) before after written =
    let rest = front_written k ls written.0 after written.2 in
    (rest.0, (written.0, written.1, rest.1))

-- the first records of a written text are lines again: of commits, each with its sum, and of others
pub record TextFront (first text : List ℕ) (all : List (List ℕ)) (n : ℕ) : Type 0 where
  pub commits : List (List (List ℕ))
  pub others : List (List ℕ)
  pub is : lines (take n (recovered text)) ≡ summed first (map lines commits) ++ lines others
  pub count : ℕ
  pub front : all_of commits ++ others ≡ take count all

pub text_front : LineLaws → (first text : List ℕ) (before after : List State) (n : ℕ) → (is : IsTextWritten first text before after)
    → TextFront first text (all_of is.commits ++ is.others) n
text_front laws first text before after n is =
    let all : List (List ℕ) = all_of is.commits ++ is.others in
    let each : List (List ℕ) = all_lines first is.commits is.others in
    let free : AllByRecursion IsFree each =
    all_are_free is.commits is.others first (written_are_free laws all before after is.written) in
    let read = lines_recovered each free in
    let again = take_again n read.0 each in
    let taken : take n (recovered text) ≡ take again.0 each =
    ap (λ (t : List ℕ). take n (recovered t)) (is.is ∙ text_is is.commits is.others first) ∙ ap (take n) read.1 ∙ again.1 in
    let front = front_is is.commits is.others first again.0 in
    record {
      commits = front.commits;
      others = front.others;
      is = ap lines (taken ∙ front.is) ∙ sym (text_is front.commits front.others first);
      count = front.count;
      front = front.front;
    }

pub front_is_written : LineLaws → (first text : List ℕ) (before after : List State) (n : ℕ) → IsTextWritten first text before after
    → (between : List State) × IsTextWritten first (lines (take n (recovered text))) before between
front_is_written laws first text before after n is =
    let front = text_front laws first text before after n is in
    let written = front_written front.count (all_of is.commits ++ is.others) before after is.written in (
      written.0,
      record {
        commits = front.commits;
        others = front.others;
        is = front.is;
        written = subst (λ (ls : List (List ℕ)). AreWritten ls before written.0) (sym front.front) written.1;
      },
    )
