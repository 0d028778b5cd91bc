-- The text of a date and a time has that date and that time, and no other text has.
use Rattle.std.proofs.Common.{◌≡◌, ◌<◌, ◌≤◌, ◌+◌, ◌-◌, ◌*◌, ◌/◌, ◌%◌, ℕ, List, [], length, get_or, All, refl, arith, pos}
use Rattle.std.specs.Char.{IsAsciiDigit}
use Rattle.std.specs.List.{AllByRecursion}
use Rattle.std.proofs.lemmas.Slice.Eq.{text_from_reads}
use Rattle.std.proofs.lemmas.List.Elements.{All-from_recursion}
use Rattle.jiff_core.specs.Calendar.{IsCivilDate, days_from_civil}
use Rattle.jiff_core.proofs.SignedLemmas.{signed_arith}
use Rattle.jiff_core.proofs.CalendarLemmas.{days_in_month_bounds}
use Rattle.ilp_addr.specs.Timestamp.{IsTimestamp, digit_at, two_at, year_of, month_of, day_of, hour_of, minute_of, second_of, millisecond_of, millis_of_day, instant_of, instant_on, two_digits, three_digits, four_digits, calendar_text}

low_digit : (n : ℕ) → n < 10 → IsAsciiDigit (48 + n)
low_digit n h = (omega arith, omega arith)

abbrev AreDigits : List ℕ → Type 0
AreDigits text = AllByRecursion IsAsciiDigit text

digits_two : (n : ℕ) (rest : List ℕ) → n < 100 → AreDigits rest → AreDigits (two_digits n rest)
digits_two n rest h all = (low_digit (n / 10) (omega arith), (low_digit (n % 10) (omega arith), all))

digits_three : (n : ℕ) (rest : List ℕ) → n < 1000 → AreDigits rest → AreDigits (three_digits n rest)
digits_three n rest h all = (low_digit (n / 100) (omega arith), digits_two (n % 100) rest (omega arith) all)

digits_four : (n : ℕ) (rest : List ℕ) → n < 10000 → AreDigits rest → AreDigits (four_digits n rest)
digits_four n rest h all = digits_two (n / 100) (two_digits (n % 100) rest) (omega arith) (digits_two (n % 100) rest (omega arith) all)

-- what has a text
pub record Fits (year month day millis : ℕ) : Type 0 where
  pub year_fits : year < 10000
  pub month_fits : month < 100
  pub day_fits : day < 100
  pub millis_fit : millis < 86_400_000

all_digits : (year month day millis : ℕ) → Fits year month day millis → All IsAsciiDigit (calendar_text year month day millis)
unfolding calendar_text
all_digits year month day millis h =
    let second = millis / 1000 % 60 in
    let minute = millis / 60_000 % 60 in
    let hour = millis / 3_600_000 in
    let t1 = three_digits (millis % 1000) [] in
    let t2 = two_digits second t1 in
    let t3 = two_digits minute t2 in
    let t4 = two_digits hour t3 in
    let t5 = two_digits day t4 in
    let t6 = two_digits month t5 in
    All-from_recursion IsAsciiDigit (four_digits year t6)
    (digits_four year t6 h.year_fits (digits_two month t5 h.month_fits (digits_two day t4 h.day_fits
    (digits_two hour t3 (omega arith) (digits_two minute t2 (omega arith) (digits_two second t1 (omega arith)
    (digits_three (millis % 1000) [] (omega arith) tt)))))))

two_back : (n : ℕ) → 10 * (48 + n / 10 - 48) + (48 + n % 10 - 48) ≡ n
two_back n = omega arith

year_back : (year month day millis : ℕ) → year_of (calendar_text year month day millis) ≡ year
unfolding calendar_text year_of
year_back year month day millis = rw (two_back (year / 100), two_back (year % 100)) (omega arith)

month_back : (year month day millis : ℕ) → month_of (calendar_text year month day millis) ≡ month
unfolding calendar_text
month_back year month day millis = two_back month

day_back : (year month day millis : ℕ) → day_of (calendar_text year month day millis) ≡ day
unfolding calendar_text
day_back year month day millis = two_back day

hour_back : (year month day millis : ℕ) → hour_of (calendar_text year month day millis) ≡ millis / 3_600_000
unfolding calendar_text
hour_back year month day millis = two_back (millis / 3_600_000)

minute_back : (year month day millis : ℕ) → minute_of (calendar_text year month day millis) ≡ millis / 60_000 % 60
unfolding calendar_text
minute_back year month day millis = two_back (millis / 60_000 % 60)

second_back : (year month day millis : ℕ) → second_of (calendar_text year month day millis) ≡ millis / 1000 % 60
unfolding calendar_text
second_back year month day millis = two_back (millis / 1000 % 60)

millisecond_back : (year month day millis : ℕ) → millisecond_of (calendar_text year month day millis) ≡ millis % 1000
unfolding calendar_text millisecond_of
millisecond_back year month day millis = rw (two_back (millis % 1000 % 100)) (omega arith)

pub millis_back : (year month day millis : ℕ) → millis_of_day (calendar_text year month day millis) ≡ millis
unfolding millis_of_day
millis_back year month day millis =
    rw (hour_back year month day millis, minute_back year month day millis, second_back year month day millis, millisecond_back year month day millis) (omega arith)

len_is : (year month day millis : ℕ) → length (calendar_text year month day millis) ≡ 17
unfolding calendar_text
len_is year month day millis = refl

-- the text of a date and a time of its day is a timestamp
pub text_is : (year month day millis : ℕ) → IsCivilDate (pos year) month day → millis < 86_400_000 → IsTimestamp (calendar_text year month day millis)
text_is year month day millis date fit =
    let long = days_in_month_bounds (pos year) month in
    let fits : Fits year month day millis = record { year_fits = omega (arith, signed_arith, date.0); month_fits = omega (arith, date.1); day_fits = omega (arith, date.2); millis_fit = fit } in
    record {
      len = len_is year month day millis;
      digits = all_digits year month day millis fits;
      date = rw (year_back year month day millis, month_back year month day millis, day_back year month day millis) date;
      hour = rw (hour_back year month day millis) (omega arith);
      minute = rw (minute_back year month day millis) (omega arith);
      second = rw (second_back year month day millis) (omega arith);
    }

-- and it names them
pub text_names : (year month day millis : ℕ) → instant_of (calendar_text year month day millis) ≡ instant_on (days_from_civil (pos year) month day) millis
unfolding instant_of
text_names year month day millis = rw (year_back year month day millis, month_back year month day millis, day_back year month day millis, millis_back year month day millis) refl

-- ---- the other way: a timestamp is the text of its parts

-- a byte that is a digit
digit_is : (text : List ℕ) (place : ℕ) → All IsAsciiDigit text → place < length text → (get_or text place 0 ≡ 48 + digit_at text place) × (digit_at text place ≤ 9)
digit_is text place digits lt = let d = digits place 0 lt in (omega arith, omega arith)

-- two places have the digits of a number
abbrev HasTwo : List ℕ → ℕ → ℕ → Type 0
HasTwo text place n = (get_or text place 0 ≡ 48 + n / 10) × (get_or text (place + 1) 0 ≡ 48 + n % 10)

two_is : (text : List ℕ) (place : ℕ) → All IsAsciiDigit text → place + 1 < length text → HasTwo text place (two_at text place) × (two_at text place < 100)
two_is text place digits lt =
    let a = digit_is text place digits (omega arith) in
    let b = digit_is text (place + 1) digits lt in
    ((omega arith, omega arith), omega arith)

-- the time of a day in milliseconds gives its parts back
record HasParts (millis hour minute second part : ℕ) : Type 0 where
  hour_is : millis / 3_600_000 ≡ hour
  minute_is : millis / 60_000 % 60 ≡ minute
  second_is : millis / 1000 % 60 ≡ second
  part_is : millis % 1000 ≡ part

parts_of : (hour minute second part : ℕ) → minute < 60 → second < 60 → part < 1000 → HasParts (3_600_000 * hour + 60_000 * minute + 1000 * second + part) hour minute second part
parts_of hour minute second part m s p =
    let seconds : (3_600_000 * hour + 60_000 * minute + 1000 * second + part) / 1000 ≡ 3600 * hour + 60 * minute + second = omega arith in
    let minutes : (3_600_000 * hour + 60_000 * minute + 1000 * second + part) / 60_000 ≡ 60 * hour + minute = omega arith in
    record { hour_is = omega arith; minute_is = rw minutes (omega arith); second_is = rw seconds (omega arith); part_is = omega arith }

year_parts : (text : List ℕ) → two_at text 0 < 100 → two_at text 2 < 100 → (year_of text / 100 ≡ two_at text 0) × (year_of text % 100 ≡ two_at text 2)
unfolding year_of
year_parts text h k = (omega arith, omega arith)

part_bound : (text : List ℕ) → IsTimestamp text → millisecond_of text < 1000
unfolding millisecond_of
part_bound text h = omega (arith, digit_is text 14 h.digits (omega (arith, h.len)), two_is text 15 h.digits (omega (arith, h.len)))

time_parts : (text : List ℕ) → IsTimestamp text → HasParts (millis_of_day text) (hour_of text) (minute_of text) (second_of text) (millisecond_of text)
unfolding millis_of_day
time_parts text h = parts_of (hour_of text) (minute_of text) (second_of text) (millisecond_of text) h.minute h.second (part_bound text h)

pub millis_bound : (text : List ℕ) → IsTimestamp text → millis_of_day text < 86_400_000
unfolding millis_of_day
millis_bound text h = omega (arith, h.hour, h.minute, h.second, part_bound text h)

-- the digits of each part stand at their places
pub text_of_parts : (text : List ℕ) → IsTimestamp text → text ≡ calendar_text (year_of text) (month_of text) (day_of text) (millis_of_day text)
unfolding calendar_text millisecond_of
text_of_parts text h =
    let len = h.len in
    let century = two_is text 0 h.digits (omega arith) in
    let of_century = two_is text 2 h.digits (omega arith) in
    let month = two_is text 4 h.digits (omega arith) in
    let day = two_is text 6 h.digits (omega arith) in
    let hour = two_is text 8 h.digits (omega arith) in
    let minute = two_is text 10 h.digits (omega arith) in
    let second = two_is text 12 h.digits (omega arith) in
    let tenths = digit_is text 14 h.digits (omega arith) in
    let part = two_is text 15 h.digits (omega arith) in
    let year = year_parts text century.1 of_century.1 in
    let time = time_parts text h in
    let tail_is : (100 * digit_at text 14 + two_at text 15) % 100 ≡ two_at text 15 = omega arith in
    let front_is : (100 * digit_at text 14 + two_at text 15) / 100 ≡ digit_at text 14 = omega arith in
    rw (year.0, year.1, time.hour_is, time.minute_is, time.second_is, time.part_is, tail_is, front_is)
    (text_from_reads text _ len (
      century.0.0,
      (
        century.0.1,
        (
          of_century.0.0,
          (
            of_century.0.1,
            (
              month.0.0,
              (
                month.0.1,
                (
                  day.0.0,
                  (
                    day.0.1,
                    (
                      hour.0.0,
                      (
                        hour.0.1,
                        (
                          minute.0.0,
                          (
                            minute.0.1,
                            (
                              second.0.0,
                              (
                                second.0.1,
                                (tenths.0, (part.0.0, (part.0.1, tt))),
                              ),
                            ),
                          ),
                        ),
                      ),
                    ),
                  ),
                ),
              ),
            ),
          ),
        ),
      ),
    ))
