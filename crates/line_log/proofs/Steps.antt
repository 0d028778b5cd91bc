-- What a crash leaves in each step of a log.
use Rattle.std.proofs.Common.{◌≡◌, ℕ, zero, suc, ◌+◌, ◌-◌, ◌<◌, ◌≤◌, List, [], ◌∷◌, ◌++◌, length, take, drop, replicate, refl, sym, ◌∙◌, ap, subst, arith, append_assoc, append-nil, length-append, length-take-le, length-drop, take_at, drop_at}
use Rattle.std.proofs.lemmas.List.{take-append-drop, drop-replicate, length-replicate, replicate-append-replicate}
use Rattle.std.specs.List.{AllByRecursion}
use Rattle.line_log.specs.File.{IsMix, Mixes, overwritten, Follows, Only}
use Rattle.line_log.specs.Log.{recovered, lines, filled, end_of_lines, IsBlankAfterLines, IsRecord, IsLines, IsSettled, IsWithSome, LogState}
use Rattle.line_log.specs.Blank.{blanked}
use Rattle.line_log.proofs.Recovering.{recovered_lines, lines_more, parts}
use Rattle.line_log.proofs.Mix.{blank, blank_is, behind, mix_lines, mix_blank, mix_all, mix_none}

drop_past : (xs ys : List ℕ) (m n : ℕ) → m ≡ length xs + n → drop m (xs ++ ys) ≡ drop n ys
drop_past [] ys m n is = let same : m ≡ n = omega (arith, is) in ap (λ (k : ℕ). drop k ys) same
drop_past (x ∷ xs) ys zero n is = absurd (omega (arith, is))
drop_past (x ∷ xs) ys (suc m) n is = drop_past xs ys m n (omega (arith, is))

zero_first : (n : ℕ) → 0 < n → replicate {A = ℕ} n 0 ≡ 0 ∷ replicate {A = ℕ} (n - 1) 0
zero_first zero some = absurd (omega (arith, some))
zero_first (suc n) some = let same : n ≡ suc n - 1 = omega arith in ap (λ (k : ℕ). 0 ∷ replicate {A = ℕ} k 0) same

pub recovered_filled : (rs : List (List ℕ)) (size end : ℕ) → AllByRecursion IsRecord rs → end < size → recovered (filled rs size end) ≡ rs
recovered_filled rs size end ok room =
    ap (λ (l : List ℕ). recovered (lines rs ++ l)) (zero_first (size - end) (omega (arith, room)))
    ∙ recovered_lines rs (0 ∷ replicate (size - end - 1) 0) ok ∙ append-nil rs

-- what is written behind the records
pub overwritten_is : (front bytes : List ℕ) (size at : ℕ) → at ≡ length front → at + length bytes ≤ size
    → overwritten (front ++ replicate (size - at) 0) at bytes ≡ front ++ (bytes ++ replicate (size - (at + length bytes)) 0)
overwritten_is front bytes size at is fits =
    let zeros : drop (at + length bytes) (front ++ replicate (size - at) 0) ≡ replicate (size - (at + length bytes)) 0 =
    drop_past front (replicate (size - at) 0) (at + length bytes) (length bytes) (omega (arith, is))
    ∙ drop-replicate (length bytes) (size - at) 0
    ∙ (let same : size - at - length bytes ≡ size - (at + length bytes) = omega (arith, fits) in ap (λ (k : ℕ). replicate {A = ℕ} k 0) same) in
    ap (λ (l : List ℕ). l ++ (bytes ++ drop (at + length bytes) (front ++ replicate (size - at) 0))) (take_at front (replicate (size - at) 0) at (sym is))
    ∙ ap (λ (l : List ℕ). front ++ (bytes ++ l)) zeros

zeros_split : (bytes : List ℕ) (size at : ℕ) → at + length bytes ≤ size
    → replicate (size - at) 0 ≡ blank bytes ++ replicate (size - (at + length bytes)) 0
zeros_split bytes size at fits =
    let same : size - at ≡ length bytes + (size - (at + length bytes)) = omega (arith, fits) in
    ap (λ (k : ℕ). replicate {A = ℕ} k 0) same
    ∙ sym (replicate-append-replicate (length bytes) (size - (at + length bytes)) 0)
    ∙ ap (λ (l : List ℕ). l ++ replicate (size - (at + length bytes)) 0) (sym (blank_is bytes))

-- each mix of the file before a write and after it
mixed : (rs new : List (List ℕ)) (size at : ℕ) (c : List ℕ) → AllByRecursion IsRecord rs → AllByRecursion IsRecord new
    → at ≡ length (lines rs) → at + length (lines new) < size → Mixes at (lines new) (filled rs size at) c → IsWithSome rs new c
mixed rs new size at c ok ok_new is room mix =
    let bytes = lines new in
    let n = size - (at + length bytes) in
    let last : replicate n 0 ≡ 0 ∷ replicate (n - 1) 0 = zero_first n (omega (arith, room)) in
    let was : filled rs size at ≡ lines rs ++ (blank bytes ++ 0 ∷ replicate (n - 1) 0) =
    ap (λ (l : List ℕ). lines rs ++ l) (zeros_split bytes size at (omega (arith, room)) ∙ ap (λ (l : List ℕ). blank bytes ++ l) last) in
    let now : overwritten (filled rs size at) at bytes ≡ lines rs ++ (bytes ++ 0 ∷ replicate (n - 1) 0) =
    overwritten_is (lines rs) bytes size at is (omega (arith, room)) ∙ ap (λ (l : List ℕ). lines rs ++ (bytes ++ l)) last in
    let both : IsMix (lines rs ++ (blank bytes ++ 0 ∷ replicate (n - 1) 0)) (lines rs ++ (bytes ++ 0 ∷ replicate (n - 1) 0)) c =
    subst (λ (l : List ℕ). IsMix l (lines rs ++ (bytes ++ 0 ∷ replicate (n - 1) 0)) c) was (subst (λ (l : List ℕ). IsMix (filled rs size at) l c) now mix) in
    let b = behind (lines rs) (blank bytes ++ 0 ∷ replicate (n - 1) 0) (bytes ++ 0 ∷ replicate (n - 1) 0) c both in
    let some = mix_lines new (replicate (n - 1) 0) (replicate (n - 1) 0) b.rest ok_new b.mix in
    record {
      count = some.count;
      few = some.few;
      is = ap recovered b.is ∙ recovered_lines rs b.rest ok ∙ ap (λ (l : List (List ℕ)). rs ++ l) some.is;
    }

pub nothing_yet : (rs new : List (List ℕ)) (c : List ℕ) → recovered c ≡ rs → IsWithSome rs new c
nothing_yet rs new c is = record { count = 0; few = omega arith; is = is ∙ sym (append-nil rs) }

-- a crash during a write of records, or before the sync after it
pub write_crash : (file records : List ℕ) (size at : ℕ) (old new : List ℕ → Type 0)
    → file ≡ filled (recovered file) size at → at ≡ length (lines (recovered file))
    → IsLines records → at + length records < size → Only file old → Follows (Mixes at records) old new
    → (c : List ℕ) → new c → IsWithSome (recovered file) (recovered records) c
write_crash file records size at old new is end whole room only follows c left =
    let from = follows c left in
    let mix : Mixes at records (filled (recovered file) size at) c = subst (λ (d : List ℕ). Mixes at records d c) (only from.0 from.1 ∙ is) from.2 in
    mixed (recovered file) (recovered records) size at c (parts file).each (parts records).each end
    (omega (arith, room, ap length whole))
    (subst (λ (l : List ℕ). Mixes at l (filled (recovered file) size at) c) whole mix)

-- the file once they are written
pub write_done : (file records after : List ℕ) (size at : ℕ) → file ≡ filled (recovered file) size at → at ≡ length (lines (recovered file))
    → IsLines records → at + length records < size → after ≡ overwritten file at records
    → after ≡ filled (recovered file ++ recovered records) size (at + length records)
write_done file records after size at is end whole room written =
    let zeros = replicate (size - (at + length records)) 0 in
    let placed : overwritten file at records ≡ lines (recovered file) ++ (records ++ zeros) =
    ap (λ (f : List ℕ). overwritten f at records) is ∙ overwritten_is (lines (recovered file)) records size at end (omega (arith, room)) in
    let joined : lines (recovered file) ++ records ≡ lines (recovered file ++ recovered records) =
    ap (λ (l : List ℕ). lines (recovered file) ++ l) whole ∙ sym (lines_more (recovered file) (recovered records)) in
    written ∙ placed ∙ sym (append_assoc (lines (recovered file)) records zeros) ∙ ap (λ (l : List ℕ). l ++ zeros) joined

-- a file of records and zeros, all of it on the disk
pub settled : {D : Type 0} (seen : D → List ℕ) (may_leave : D → List ℕ → Type 0) (log : LogState D) (rs : List (List ℕ))
    → seen log.file ≡ filled rs log.size log.end → AllByRecursion IsRecord rs → log.end ≡ length (lines rs) → log.end < log.size
    → Only (seen log.file) (may_leave log.file) → IsSettled seen may_leave log × (recovered (seen log.file) ≡ rs)
settled seen may_leave log rs is ok end room only =
    let stands_for : recovered (seen log.file) ≡ rs = ap recovered is ∙ recovered_filled rs log.size log.end ok room in
    let size : log.size ≡ length (seen log.file) =
    omega (arith, ap length is, length-append (lines rs) (replicate {A = ℕ} (log.size - log.end) 0), length-replicate {A = ℕ} (log.size - log.end) 0, end, room) in (
      record {
        file = is ∙ ap (λ (l : List (List ℕ)). filled l log.size log.end) (sym stands_for);
        end = end ∙ ap (λ (l : List (List ℕ)). length (lines l)) (sym stands_for);
        room = room;
        size = size;
        durable = only;
      },
      stands_for,
    )

pub length_lines : (rs : List (List ℕ)) (records : List ℕ) (at : ℕ) → at ≡ length (lines rs) → IsLines records
    → at + length records ≡ length (lines (rs ++ recovered records))
length_lines rs records at is whole =
    omega (arith, is, ap length whole, ap length (lines_more rs (recovered records)), length-append (lines rs) (lines (recovered records)))

-- a file whose end is overwritten by zeros
module _ (file : List ℕ) (at : ℕ) (is : at ≡ end_of_lines file) where
  abbrev end : List ℕ
  end = (parts file).end

  split : file ≡ lines (recovered file) ++ end
  split = (parts file).split

  size : length file ≡ at + length end
  size =
      let both : length file ≡ length (lines (recovered file)) + length end = ap length split ∙ length-append (lines (recovered file)) end in
      omega (arith, is, both)

  pub front_is : take at file ≡ lines (recovered file)
  front_is = ap (λ (f : List ℕ). take at f) split ∙ take_at (lines (recovered file)) end at (sym is)

  pub rest_is : drop at file ≡ end
  rest_is = ap (λ (f : List ℕ). drop at f) split ∙ drop_at (lines (recovered file)) end at (sym is)

  pub blanked_is : blanked at file ≡ filled (recovered file) (length file) at
  blanked_is = ap (λ (l : List ℕ). l ++ replicate {A = ℕ} (length file - at) 0) front_is

  -- each mix of the file and of the file with zeros has the same records
  pub blanked_mix : (c : List ℕ) → IsMix file (blanked at file) c → recovered c ≡ recovered file
  blanked_mix c mix =
      let zeros : replicate {A = ℕ} (length file - at) 0 ≡ blank end =
      (let same : length file - at ≡ length end = omega (arith, size) in ap (λ (k : ℕ). replicate {A = ℕ} k 0) same) ∙ sym (blank_is end) in
      let now : blanked at file ≡ lines (recovered file) ++ blank end = blanked_is ∙ ap (λ (l : List ℕ). lines (recovered file) ++ l) zeros in
      let both : IsMix (lines (recovered file) ++ end) (lines (recovered file) ++ blank end) c =
      subst (λ (f : List ℕ). IsMix f (lines (recovered file) ++ blank end) c) split (subst (λ (l : List ℕ). IsMix file l c) now mix) in
      let b = behind (lines (recovered file)) end (blank end) c both in
      ap recovered b.is ∙ recovered_lines (recovered file) b.rest (parts file).each
      ∙ ap (λ (l : List (List ℕ)). recovered file ++ l) (mix_blank [] end b.rest (parts file).nothing b.mix) ∙ append-nil (recovered file)

  -- a log begins where the file has zeros after its lines
  pub begins : {D : Type 0} (seen : D → List ℕ) (may_leave : D → List ℕ → Type 0) (log : LogState D) → log.end ≡ at → log.size ≡ length file → at < length file
      → seen log.file ≡ filled (recovered file) (length file) at → Only (seen log.file) (may_leave log.file)
      → IsSettled seen may_leave log × (recovered (seen log.file) ≡ recovered file)
  begins seen may_leave log ends sized room shows only =
      let same : filled (recovered file) (length file) at ≡ filled (recovered file) log.size log.end =
      ap (λ (k : ℕ). filled (recovered file) k at) (sym sized) ∙ ap (λ (k : ℕ). filled (recovered file) log.size k) (sym ends) in
      settled seen may_leave log (recovered file) (shows ∙ same) (parts file).each (ends ∙ is) (omega (arith, ends, sized, room)) only

-- the rest is zeros, so nothing has to be written
pub already_blank : (file : List ℕ) (at : ℕ) → at ≡ end_of_lines file → at ≤ length file → drop at file ≡ replicate (length (drop at file)) 0 → file ≡ filled (recovered file) (length file) at
already_blank file at is within zeros =
    let count : length (drop at file) ≡ length file - at = length-drop at file in
    sym (take-append-drop at file)
    ∙ ap (λ (l : List ℕ). take at file ++ l) (zeros ∙ ap (λ (k : ℕ). replicate {A = ℕ} k 0) count)
    ∙ blanked_is file at is

-- where the file has zeros after its lines, the rest is zeros
pub blank_rest : (file : List ℕ) (at : ℕ) → at ≡ end_of_lines file → IsBlankAfterLines file → drop at file ≡ replicate (length (drop at file)) 0
blank_rest file at is blank_after =
    let rest : drop at file ≡ replicate {A = ℕ} (length file - end_of_lines file) 0 =
    ap (λ (l : List ℕ). drop at l) blank_after.zeros ∙ drop_at (lines (recovered file)) (replicate {A = ℕ} (length file - end_of_lines file) 0) at (sym is) in
    rest ∙ ap (λ (k : ℕ). replicate {A = ℕ} k 0) (sym (ap length rest ∙ length-replicate {A = ℕ} (length file - end_of_lines file) 0))

-- what a write that is done at once, or not at all, leaves
length_overwritten : (xs bytes : List ℕ) (at : ℕ) → at + length bytes ≤ length xs → length (overwritten xs at bytes) ≡ length xs
length_overwritten xs bytes at within =
    let front : length (take at xs) ≡ at = length-take-le at xs (omega (arith, within)) in
    let rest : length (drop (at + length bytes) xs) ≡ length xs - (at + length bytes) = length-drop (at + length bytes) xs in
    let both : length (overwritten xs at bytes) ≡ length (take at xs) + (length bytes + length (drop (at + length bytes) xs)) =
    length-append (take at xs) (bytes ++ drop (at + length bytes) xs) ∙ ap (λ (k : ℕ). length (take at xs) + k) (length-append bytes (drop (at + length bytes) xs)) in
    omega (arith, both, front, rest, within)

pub none_of_it : (xs bytes : List ℕ) (at : ℕ) → at + length bytes ≤ length xs → (c : List ℕ) → c ≡ xs → (d : List ℕ) × (d ≡ xs) × Mixes at bytes d c
none_of_it xs bytes at within c is =
    (xs, refl, subst (λ (l : List ℕ). IsMix xs (overwritten xs at bytes) l) (sym is) (mix_none xs (overwritten xs at bytes) (length_overwritten xs bytes at within)))

pub all_of_it : (xs bytes : List ℕ) (at : ℕ) → at + length bytes ≤ length xs → (c : List ℕ) → c ≡ overwritten xs at bytes → (d : List ℕ) × (d ≡ xs) × Mixes at bytes d c
all_of_it xs bytes at within c is =
    (xs, refl, subst (λ (l : List ℕ). IsMix xs (overwritten xs at bytes) l) (sym is) (mix_all xs (overwritten xs at bytes) (length_overwritten xs bytes at within)))
