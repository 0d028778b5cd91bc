-- The calendar text of a Prepare's expiry (RFC 0027, "ILP Prepare"): `YYYYMMDDHHMMSSfff`, in UTC.
use Rattle.std.specs.Prelude.{◌≡◌, ◌<◌, ◌+◌, ◌-◌, ◌*◌, ◌/◌, ◌%◌, ℕ, zero, suc, ℤ, pos, negsuc, ◌+ℤ◌, ◌*ℤ◌, Bool, ◌&&◌}
use Rattle.std.specs.Prelude.{◌==◌, nat_le, nat_lt, min, List, [], ◌∷◌, length, slice_index, All, Result, Ok, Err}
use Rattle.std.specs.Prelude.{if◌then◌else◌}
use Rattle.std.specs.List.{list_all}
use Rattle.std.specs.Char.{IsAsciiDigit, is_ascii_digit}
use Rattle.jiff_core.specs.Calendar.{IsCivilDate, days_in_month, days_in_year, days_from_civil}
use Rattle.ilp_addr.specs.declared.fault.AddrFault.{AddrFault}
use Rattle.ilp_addr.specs.declared.fault.AddrFault.TheVariants.{NotADate}

-- the digit at that place
abbrev pub digit_at : List ℕ → ℕ → ℕ
digit_at text place = slice_index text place - 48

-- the number that two digits spell
abbrev pub two_at : List ℕ → ℕ → ℕ
two_at text place = 10 * digit_at text place + digit_at text (place + 1)

-- the year, of four digits
unfoldable pub year_of : List ℕ → ℕ
year_of text = 100 * two_at text 0 + two_at text 2

-- the month, from 1
abbrev pub month_of : List ℕ → ℕ
month_of text = two_at text 4

-- the day of the month, from 1
abbrev pub day_of : List ℕ → ℕ
day_of text = two_at text 6

-- the hour of the day
abbrev pub hour_of : List ℕ → ℕ
hour_of text = two_at text 8

-- the minute of the hour
abbrev pub minute_of : List ℕ → ℕ
minute_of text = two_at text 10

-- the second of the minute
abbrev pub second_of : List ℕ → ℕ
second_of text = two_at text 12

-- the millisecond of the second, of three digits
unfoldable pub millisecond_of : List ℕ → ℕ
millisecond_of text = 100 * digit_at text 14 + two_at text 15

-- 17 digits that name a date of the Gregorian calendar and a time of its day, with no leap second
pub record IsTimestamp (text : List ℕ) : Type 0 where
  pub len : length text ≡ 17
  pub digits : All IsAsciiDigit text
  pub date : IsCivilDate (pos (year_of text)) (month_of text) (day_of text)
  pub hour : hour_of text < 24
  pub minute : minute_of text < 60
  pub second : second_of text < 60

-- the calendar has the date
abbrev pub is_civil_date : ℕ → ℕ → ℕ → Bool
is_civil_date year month day =
    nat_le 1 month && nat_le month 12 && nat_le 1 day && nat_le day (days_in_month (pos year) month)

-- the day has the time
abbrev pub is_time : ℕ → ℕ → ℕ → Bool
is_time hour minute second = nat_lt hour 24 && nat_lt minute 60 && nat_lt second 60

-- the text names a date that the calendar has
abbrev pub has_date : List ℕ → Bool
has_date text = is_civil_date (year_of text) (month_of text) (day_of text)

-- the text names a time that the day has
abbrev pub has_time : List ℕ → Bool
has_time text = is_time (hour_of text) (minute_of text) (second_of text)

-- the test of IsTimestamp
unfoldable pub is_timestamp : List ℕ → Bool
is_timestamp text =
    (length text == 17) && list_all is_ascii_digit text && has_date text && has_time text

-- the days from 1970-01-01 to the date that the text names, negative before it
abbrev pub day_number_of : List ℕ → ℤ
day_number_of text = days_from_civil (pos (year_of text)) (month_of text) (day_of text)

-- the milliseconds since the day began
unfoldable pub millis_of_day : List ℕ → ℕ
millis_of_day text =
    3_600_000 * hour_of text + 60_000 * minute_of text + 1000 * second_of text + millisecond_of text

-- the milliseconds to a time of the day of that number, negative before 1970
unfoldable pub instant_on : ℤ → ℕ → ℤ
instant_on day millis = pos 86_400_000 *ℤ day +ℤ pos millis

-- the milliseconds from 1970-01-01T00:00 to the moment that the text names, negative before it
unfoldable pub instant_of : List ℕ → ℤ
instant_of text = instant_on (day_number_of text) (millis_of_day text)

-- the greatest moment that may be handed in, in the year 9999
abbrev pub last_moment : ℕ
last_moment = 253_400_000_000_000

-- 9999-12-30T00:00, the latest moment that an expiry is read as
abbrev pub latest_expiry : ℕ
latest_expiry = 253_402_128_000_000

-- the nearest of the moments from 1970-01-01T00:00 to 9999-12-30T00:00
abbrev pub nearest_moment : ℤ → ℕ
nearest_moment (pos millis) = min millis latest_expiry
nearest_moment (negsuc millis) = 0

-- the moment that the text is read as
unfoldable pub moment_of : List ℕ → ℕ
moment_of text = nearest_moment (instant_of text)

-- the moment of a text, if it is a timestamp
unfoldable pub timestamp_at : List ℕ → Result ℕ AddrFault
timestamp_at text = if is_timestamp text then Ok (moment_of text) else Err NotADate

-- the decimal digits of a number below 100, before the rest of a text
abbrev pub two_digits : ℕ → List ℕ → List ℕ
two_digits n rest = (48 + n / 10) ∷ (48 + n % 10) ∷ rest

-- of one below 1,000
abbrev pub three_digits : ℕ → List ℕ → List ℕ
three_digits n rest = (48 + n / 100) ∷ two_digits (n % 100) rest

-- of one below 10,000
abbrev pub four_digits : ℕ → List ℕ → List ℕ
four_digits n rest = two_digits (n / 100) (two_digits (n % 100) rest)

-- the text of a date and the milliseconds since its day began
unfoldable pub calendar_text : ℕ → ℕ → ℕ → ℕ → List ℕ
calendar_text year month day millis =
    four_digits year (two_digits month (two_digits day
    (two_digits (millis / 3_600_000) (two_digits (millis / 60_000 % 60)
    (two_digits (millis / 1000 % 60) (three_digits (millis % 1000) []))))))

-- the year of a day and the days before it in that year, counted off from `year` on by whole years
unfoldable pub year_after : ℕ → ℕ → ℕ → ℕ × ℕ
year_after zero year days = (year, days)
year_after (suc n) year days =
    if nat_lt days (days_in_year (pos year)) then (year, days)
    else year_after n (year + 1) (days - days_in_year (pos year))

-- the month of a day and its day of the month, counted off from `month` on by whole months
unfoldable pub month_after : ℕ → ℕ → ℕ → ℕ → ℕ × ℕ
month_after zero year month days = (month, days + 1)
month_after (suc n) year month days =
    if nat_lt days (days_in_month (pos year) month) then (month, days + 1)
    else month_after n year (month + 1) (days - days_in_month (pos year) month)

-- the text of a day and the milliseconds since it began
unfoldable pub text_of_day : ℕ → ℕ → List ℕ
text_of_day days millis =
    let year = year_after days 1970 days in
    let month = month_after year.1 year.0 1 year.1 in
    calendar_text year.0 month.0 month.1 millis

-- the text of a moment up to 9999-12-30T00:00
unfoldable pub timestamp_of : ℕ → List ℕ
timestamp_of moment = text_of_day (moment / 86_400_000) (moment % 86_400_000)
