-- The test of a timestamp, part by part.
use Rattle.std.proofs.Common.{◌≡◌, ◌<◌, ◌≤◌, ℕ, true, false, cond, eqb, ltb, leb, ◌&&◌, List, length, All, Result, Ok, Err, refl, sym, ◌∙◌, arith, pos}
use Rattle.jiff_core.proofs.SignedLemmas.{signed_arith}
use Rattle.jiff_core.specs.Calendar.{IsCivilDate, days_in_month}
use Rattle.std.proofs.lemmas.Bool.{eq-eqb, eqb-true, ltb-true, lt-ltb, leb-true, le-leb, and_parts}
use Rattle.std.proofs.lemmas.List.Sums.{AllPass-from_list_all, list_all-from_AllPass}
use Rattle.std.specs.List.{list_all}
use Rattle.std.specs.Char.{IsAsciiDigit, is_ascii_digit}
use Rattle.std.specs.Prelude.{IfOk}
use Rattle.ilp_addr.specs.declared.fault.AddrFault.{AddrFault}
use Rattle.ilp_addr.specs.declared.fault.AddrFault.TheVariants.{NotADate}
use Rattle.ilp_addr.specs.Timestamp.{IsTimestamp, digit_at, year_of, month_of, day_of, hour_of, minute_of, second_of, is_civil_date, is_time, is_timestamp, moment_of, timestamp_at}

is_digit : (b : ℕ) → is_ascii_digit b ≡ true → IsAsciiDigit b
is_digit b h = grind arith

digit_is : (b : ℕ) → IsAsciiDigit b → is_ascii_digit b ≡ true
digit_is b h = grind arith

pub digits_from_test : (text : List ℕ) → list_all is_ascii_digit text ≡ true → All IsAsciiDigit text
digits_from_test text h = λ k d lt. is_digit _ (AllPass-from_list_all is_ascii_digit text h k d lt)

pub test_from_digits : (text : List ℕ) → All IsAsciiDigit text → list_all is_ascii_digit text ≡ true
test_from_digits text h = list_all-from_AllPass is_ascii_digit text (λ k d lt. digit_is _ (h k d lt))

-- a text with anything but digits is none
pub no_digits : (text : List ℕ) → list_all is_ascii_digit text ≡ false → timestamp_at text ≡ Err NotADate
unfolding timestamp_at is_timestamp
no_digits text h =
    elim (eqb (length text) 17) as (λ b. cond (b && list_all is_ascii_digit text && is_civil_date (year_of text) (month_of text) (day_of text) && is_time
    (hour_of text) (minute_of text) (second_of text)) (Ok (moment_of text)) (Err NotADate) ≡ Err NotADate) [
      | true ↦ rw h refl
      | false ↦ refl
    ]

-- of 17 digits the date and the time decide
pub by_parts : (text : List ℕ) → length text ≡ 17 → All IsAsciiDigit text
    → timestamp_at text ≡ cond (is_civil_date (year_of text) (month_of text) (day_of text) && is_time (hour_of text) (minute_of text) (second_of text)) (Ok (moment_of text)) (Err NotADate)
unfolding timestamp_at is_timestamp
by_parts text len digits = rw (eq-eqb _ 17 len, test_from_digits text digits) refl

pub no_date : (text : List ℕ) → length text ≡ 17 → All IsAsciiDigit text → is_civil_date (year_of text) (month_of text) (day_of text) ≡ false → timestamp_at text ≡ Err NotADate
no_date text len digits date = rw (by_parts text len digits, date) refl

pub no_time : (text : List ℕ) → length text ≡ 17 → All IsAsciiDigit text → is_time (hour_of text) (minute_of text) (second_of text) ≡ false → timestamp_at text ≡ Err NotADate
no_time text len digits time =
    by_parts text len digits ∙ elim (is_civil_date (year_of text) (month_of text) (day_of text))
    as (λ b. cond (b && is_time (hour_of text) (minute_of text) (second_of text)) (Ok (moment_of text)) (Err NotADate) ≡ Err NotADate) [
      | true ↦ rw time refl
      | false ↦ refl
    ]

pub is_read : (text : List ℕ) → length text ≡ 17 → All IsAsciiDigit text → is_civil_date (year_of text) (month_of text) (day_of text) ≡ true
    → is_time (hour_of text) (minute_of text) (second_of text) ≡ true → timestamp_at text ≡ Ok (moment_of text)
is_read text len digits date time = rw (by_parts text len digits, date, time) refl

civil_date : (year month day : ℕ) → year ≤ 9999 → is_civil_date year month day ≡ true → IsCivilDate (pos year) month day
civil_date year month day low h =
    let a = and_parts (leb 1 month && leb month 12 && leb 1 day) (leb day (days_in_month (pos year) month)) h in
    let b = and_parts (leb 1 month && leb month 12) (leb 1 day) a.0 in
    let c = and_parts (leb 1 month) (leb month 12) b.0 in
    (omega (arith, signed_arith), (leb-true _ _ c.0, leb-true _ _ c.1), (leb-true _ _ b.1, leb-true _ _ a.1))

civil_test : (year month day : ℕ) → IsCivilDate (pos year) month day → is_civil_date year month day ≡ true
civil_test year month day h = rw (le-leb _ _ h.1.0, le-leb _ _ h.1.1, le-leb _ _ h.2.0, le-leb _ _ h.2.1) refl

-- a digit is below ten
digit_below : (text : List ℕ) (place : ℕ) → All IsAsciiDigit text → place < length text → digit_at text place ≤ 9
digit_below text place digits lt = let d = digits place 0 lt in omega arith

pub year_below : (text : List ℕ) → length text ≡ 17 → All IsAsciiDigit text → year_of text ≤ 9999
unfolding year_of
year_below text len digits = omega (
  arith,
  digit_below text 0 digits (omega arith),
  digit_below text 1 digits (omega arith),
  digit_below text 2 digits
      (omega arith),
  digit_below text 3 digits (omega arith),
)

pub is_timestamp_true : (text : List ℕ) → is_timestamp text ≡ true → IsTimestamp text
unfolding is_timestamp
is_timestamp_true text h =
    let a = and_parts ((eqb (length text) 17) && list_all is_ascii_digit text && is_civil_date (year_of text) (month_of text) (day_of text))
    (is_time (hour_of text) (minute_of text) (second_of text)) h in
    let b = and_parts ((eqb (length text) 17) && list_all is_ascii_digit text) (is_civil_date (year_of text) (month_of text) (day_of text)) a.0 in
    let c = and_parts (eqb (length text) 17) (list_all is_ascii_digit text) b.0 in
    let d = and_parts (ltb (hour_of text) 24 && ltb (minute_of text) 60) (ltb (second_of text) 60) a.1 in
    let e = and_parts (ltb (hour_of text) 24) (ltb (minute_of text) 60) d.0 in
    let len : length text ≡ 17 = eqb-true _ _ c.0 in
    let digits = digits_from_test text c.1 in
    record {
      len = len;
      digits = digits;
      date = civil_date (year_of text) (month_of text) (day_of text) (year_below text len digits) b.1;
      hour = ltb-true _ _ e.0;
      minute = ltb-true _ _ e.1;
      second = ltb-true _ _ d.1;
    }

pub is_timestamp_test : (text : List ℕ) → IsTimestamp text → is_timestamp text ≡ true
unfolding is_timestamp
is_timestamp_test text h = rw (eq-eqb _ 17 h.len, test_from_digits text h.digits, civil_test _ _ _ h.date, lt-ltb _ _ h.hour, lt-ltb _ _ h.minute, lt-ltb _ _ h.second) refl

pub read_is_timestamp : (text : List ℕ) (n : ℕ) → timestamp_at text ≡ Ok n → IsTimestamp text × (n ≡ moment_of text)
unfolding timestamp_at
read_is_timestamp text n h =
    elim (is_timestamp text) as (λ b. is_timestamp text ≡ b → cond b (Ok (moment_of text)) (Err NotADate) ≡ Ok n → IsTimestamp text × (n ≡ moment_of text)) [
      | true ↦ λ t e. (is_timestamp_true text t, cc)
      | false ↦ λ t e. absurd cc
    ] refl h

pub timestamp_is_read : (text : List ℕ) → IsTimestamp text → timestamp_at text ≡ Ok (moment_of text)
unfolding timestamp_at
timestamp_is_read text h = rw (is_timestamp_test text h) refl

pub found_where_read : (text : List ℕ) (r : Result ℕ AddrFault) → r ≡ timestamp_at text → IfOk r (λ n. IsTimestamp text × (n ≡ moment_of text))
found_where_read text (Ok n) e = read_is_timestamp text n (sym e)
found_where_read text (Err f) e = tt
