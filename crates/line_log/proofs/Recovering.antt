-- What lines of records stand for.
use Rattle.std.proofs.Common.{◌≡◌, ◌≢◌, ◌≤◌, ◌<◌, get_or, inl, inr, ℕ, ◌+◌, List, [], ◌∷◌, ◌++◌, length, refl, sym, ◌∙◌, ap, subst, arith, append_assoc, append-nil, length-append}
use Rattle.std.proofs.lemmas.Bool.{cases_eq}
use Rattle.std.proofs.lemmas.Bool.Decides.{nat_tests}
use Rattle.std.specs.List.{AllByRecursion}
use Rattle.std.specs.Prelude.{if◌then◌else◌, ◌==◌}
use Rattle.line_log.specs.Log.{records_from, recovered, lines, IsRecord, IsLines}

abbrev pub Is : ℕ → Type 0
Is b = (b ≢ 0) × (b ≢ 10)

-- one byte more of a record
pub goes_on : (s : List ℕ) (b : ℕ) (bytes : List ℕ) → b ≢ 0 → b ≢ 10 → records_from s (b ∷ bytes) ≡ records_from (s ++ b ∷ []) bytes
goes_on s b bytes some other = grind (arith, nat_tests)

pub stops : (s : List ℕ) (b : ℕ) (bytes : List ℕ) → b ≡ 0 → records_from s (b ∷ bytes) ≡ []
stops s b bytes none = grind (arith, nat_tests)

pub ends : (s : List ℕ) (b : ℕ) (bytes : List ℕ) → b ≡ 10 → records_from s (b ∷ bytes) ≡ s ∷ records_from [] bytes
ends s b bytes is = grind (arith, nat_tests)

-- many bytes more
pub begun : (s r rest : List ℕ) → IsRecord r → records_from s (r ++ rest) ≡ records_from (s ++ r) rest
begun s [] rest ok = ap (λ (l : List ℕ). records_from l rest) (sym (append-nil s))
begun s (b ∷ r) rest ok =
    goes_on s b (r ++ rest) ok.0.0 ok.0.1 ∙ begun (s ++ b ∷ []) r rest ok.1 ∙ ap (λ (l : List ℕ). records_from l rest) (append_assoc s (b ∷ []) r)

pub recovered_line : (r rest : List ℕ) → IsRecord r → recovered (r ++ 10 ∷ rest) ≡ r ∷ recovered rest
recovered_line r rest ok = begun [] r (10 ∷ rest) ok ∙ ends r 10 rest refl

-- lines, and then whatever the rest stands for
pub recovered_lines : (rs : List (List ℕ)) (rest : List ℕ) → AllByRecursion IsRecord rs → recovered (lines rs ++ rest) ≡ rs ++ recovered rest
recovered_lines [] rest ok = refl
recovered_lines (r ∷ rs) rest ok =
    ap recovered (append_assoc r (10 ∷ lines rs) rest) ∙ recovered_line r (lines rs ++ rest) ok.0
    ∙ ap (λ (l : List (List ℕ)). r ∷ l) (recovered_lines rs rest ok.1)

pub lines_more : (rs more : List (List ℕ)) → lines (rs ++ more) ≡ lines rs ++ lines more
lines_more [] more = refl
lines_more (r ∷ rs) more = ap (λ (l : List ℕ). r ++ 10 ∷ l) (lines_more rs more) ∙ sym (append_assoc r (10 ∷ lines rs) (lines more))

pub all_more : (rs more : List (List ℕ)) → AllByRecursion IsRecord rs → AllByRecursion IsRecord more → AllByRecursion IsRecord (rs ++ more)
all_more [] more one two = two
all_more (r ∷ rs) more one two = (one.0, all_more rs more one.1 two)

record_more : (s : List ℕ) (b : ℕ) → IsRecord s → b ≢ 0 → b ≢ 10 → IsRecord (s ++ b ∷ [])
record_more [] b ok some other = ((some, other), tt)
record_more (x ∷ s) b ok some other = (ok.0, record_more s b ok.1 some other)

-- a file is its lines, and an end that stands for nothing
pub record PartsFrom (s bytes : List ℕ) : Type 0 where
  pub end : List ℕ
  pub split : s ++ bytes ≡ lines (records_from s bytes) ++ end
  pub nothing : recovered end ≡ []
  pub each : AllByRecursion IsRecord (records_from s bytes)

no_lines : (s bytes : List ℕ) → records_from s bytes ≡ [] → recovered (s ++ bytes) ≡ [] → PartsFrom s bytes
no_lines s bytes none all = record {
  end = s ++ bytes;
  split = ap (λ (rs : List (List ℕ)). lines rs ++ (s ++ bytes)) (sym none);
  nothing = all;
  each = subst (λ (rs : List (List ℕ)). AllByRecursion IsRecord rs) (sym none) tt;
}

pub parts_from : (s bytes : List ℕ) → IsRecord s → PartsFrom s bytes
parts_from s [] ok = no_lines s [] refl (begun [] s [] ok)
parts_from s (b ∷ bytes) ok = elim (cases_eq b 0) [
  | inl none ↦ no_lines s (b ∷ bytes) (stops s b bytes none) (begun [] s (b ∷ bytes) ok ∙ stops s b bytes none)
  | inr some ↦ elim (cases_eq b 10) [
    | inl is ↦
        let later = parts_from [] bytes tt in
        let all : records_from s (b ∷ bytes) ≡ s ∷ recovered bytes = ends s b bytes is in
        record {
          end = later.end;
          split = (λ i. s ++ is i ∷ later.split i) ∙ sym (append_assoc s (10 ∷ lines (recovered bytes)) later.end)
              ∙ ap (λ (rs : List (List ℕ)). lines rs ++ later.end) (sym all);
          nothing = later.nothing;
          each = subst (λ (rs : List (List ℕ)). AllByRecursion IsRecord rs) (sym all) (ok, later.each);
        }
    | inr other ↦
        let later = parts_from (s ++ b ∷ []) bytes (record_more s b ok some other) in
        let all : records_from s (b ∷ bytes) ≡ records_from (s ++ b ∷ []) bytes = goes_on s b bytes some other in
        record {
          end = later.end;
          split = sym (append_assoc s (b ∷ []) bytes) ∙ later.split ∙ ap (λ (rs : List (List ℕ)). lines rs ++ later.end) (sym all);
          nothing = later.nothing;
          each = subst (λ (rs : List (List ℕ)). AllByRecursion IsRecord rs) (sym all) later.each;
        }
  ]
]

pub parts : (bytes : List ℕ) → PartsFrom [] bytes
parts bytes = parts_from [] bytes tt

-- the end of the last line, by one pass
abbrev pub whole_from : (at end : ℕ) → List ℕ → ℕ
whole_from at end [] = end
whole_from at end (b ∷ bytes) =
    if b == 0 then end else (if b == 10 then whole_from (at + 1) (at + 1) bytes else whole_from (at + 1) end bytes)

pub whole_stops : (at end b : ℕ) (bytes : List ℕ) → b ≡ 0 → whole_from at end (b ∷ bytes) ≡ end
whole_stops at end b bytes none = grind (arith, nat_tests)

pub whole_ends : (at end b : ℕ) (bytes : List ℕ) → b ≡ 10 → whole_from at end (b ∷ bytes) ≡ whole_from (at + 1) (at + 1) bytes
whole_ends at end b bytes is = grind (arith, nat_tests)

pub whole_goes_on : (at end b : ℕ) (bytes : List ℕ) → b ≢ 0 → b ≢ 10 → whole_from at end (b ∷ bytes) ≡ whole_from (at + 1) end bytes
whole_goes_on at end b bytes some other = grind (arith, nat_tests)

pub whole_is : (s bytes : List ℕ) (at end : ℕ) → at ≡ end + length s → whole_from at end bytes ≡ end + length (lines (records_from s bytes))
whole_is s [] at end is = omega arith
whole_is s (b ∷ bytes) at end is = elim (cases_eq b 0) [
  | inl none ↦
      let plain : end ≡ end + length (lines []) = omega arith in
      whole_stops at end b bytes none ∙ plain ∙ ap (λ (rs : List (List ℕ)). end + length (lines rs)) (sym (stops s b bytes none))
  | inr some ↦ elim (cases_eq b 10) [
    | inl line ↦
        let later : whole_from (at + 1) (at + 1) bytes ≡ at + 1 + length (lines (recovered bytes)) = whole_is [] bytes (at + 1) (at + 1) (omega arith) in
        let size : at + 1 + length (lines (recovered bytes)) ≡ end + length (lines (s ∷ recovered bytes)) =
        omega (arith, is, length-append s (10 ∷ lines (recovered bytes))) in
        whole_ends at end b bytes line ∙ later ∙ size ∙ ap (λ (rs : List (List ℕ)). end + length (lines rs)) (sym (ends s b bytes line))
    | inr other ↦
        whole_goes_on at end b bytes some other
        ∙ whole_is (s ++ b ∷ []) bytes (at + 1) end (omega (arith, is, length-append s (b ∷ [])))
        ∙ ap (λ (rs : List (List ℕ)). end + length (lines rs)) (sym (goes_on s b bytes some other))
  ]
]

pub whole_within : (bytes : List ℕ) → length (lines (recovered bytes)) ≤ length bytes
whole_within bytes =
    let p = parts bytes in
    let size : length bytes ≡ length (lines (recovered bytes)) + length p.end = ap length p.split ∙ length-append (lines (recovered bytes)) p.end in
    omega (arith, size)

pub whole_at_zero : (at end : ℕ) (rest : List ℕ) → 1 ≤ length rest → get_or rest 0 0 ≡ 0 → whole_from at end rest ≡ end
whole_at_zero at end [] some none = absurd (omega (arith, some))
whole_at_zero at end (b ∷ rest) some none = whole_stops at end b rest none

pub whole_at_end : (at end : ℕ) (rest : List ℕ) → length rest < 1 → whole_from at end rest ≡ end
whole_at_end at end [] short = refl
whole_at_end at end (b ∷ rest) short = absurd (omega (arith, short))

pub whole_of : (bytes : List ℕ) → whole_from 0 0 bytes ≡ length (lines (recovered bytes))
whole_of bytes = whole_is [] bytes 0 0 (omega arith) ∙ (let plain : 0 + length (lines (recovered bytes)) ≡ length (lines (recovered bytes)) = omega arith in plain)

-- a line more
pub line_more : (text r more : List ℕ) → IsLines text → IsRecord r → more ≡ text ++ r ++ 10 ∷ [] → IsLines more × (recovered more ≡ recovered text ++ r ∷ [])
line_more text r more whole ok is =
    let rs = recovered text in
    let all : AllByRecursion IsRecord (rs ++ r ∷ []) = all_more rs (r ∷ []) (parts text).each (ok, tt) in
    let bytes : more ≡ lines (rs ++ r ∷ []) =
    is ∙ append_assoc text r (10 ∷ []) ∙ ap (λ (l : List ℕ). l ++ (r ++ 10 ∷ [])) whole ∙ sym (lines_more rs (r ∷ [])) in
    let back : recovered more ≡ rs ++ r ∷ [] =
    ap recovered bytes ∙ ap recovered (sym (append-nil (lines (rs ++ r ∷ [])))) ∙ recovered_lines (rs ++ r ∷ []) [] all ∙ append-nil (rs ++ r ∷ []) in (
      bytes ∙ ap lines (sym back),
      back,
    )

-- what is read back is whole lines, and reads as the same
pub read_back : (bytes text : List ℕ) → text ≡ lines (recovered bytes) → (text ≡ lines (recovered text)) × (recovered text ≡ recovered bytes)
read_back bytes text is =
    let same : recovered text ≡ recovered bytes =
    ap recovered (is ∙ sym (append-nil (lines (recovered bytes)))) ∙ recovered_lines (recovered bytes) [] (parts bytes).each ∙ append-nil (recovered bytes) in
    (is ∙ ap lines (sym same), same)

pub one_line : (r : List ℕ) → IsRecord r → IsLines (r ++ 10 ∷ []) × (recovered (r ++ 10 ∷ []) ≡ r ∷ [])
one_line r ok = (ap lines (sym (recovered_line r [] ok)), recovered_line r [] ok)

pub joined_lines : (a b : List ℕ) → IsLines a → IsLines b → IsLines (a ++ b) × (recovered (a ++ b) ≡ recovered a ++ recovered b)
joined_lines a b one two =
    let same : recovered (a ++ b) ≡ recovered a ++ recovered b =
    ap (λ (l : List ℕ). recovered (l ++ b)) one ∙ recovered_lines (recovered a) b (parts a).each in (
      ap (λ (l : List ℕ). l ++ b) one ∙ ap (λ (l : List ℕ). lines (recovered a) ++ l) two
          ∙ sym (lines_more (recovered a) (recovered b)) ∙ ap lines (sym same),
      same,
    )
