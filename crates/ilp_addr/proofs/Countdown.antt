-- Whole years and whole months counted off the days since 1970-01-01 give the date of the day.
use Rattle.std.proofs.Common.{◌≡◌, ◌<◌, ◌≤◌, ◌+◌, ◌-◌, ℕ, zero, suc, refl, ap, ◌∙◌, arith, pos, ◌≤ℤ◌, inl, inr}
use Rattle.std.proofs.lemmas.Bool.{cases_lt, lt-ltb, le-ltb}
use Rattle.std.proofs.lemmas.Int.{by_lt_z}
use Rattle.jiff_core.specs.declared.civil.date.Date.{Date}
use Rattle.jiff_core.specs.Date.{epoch_day}
use Rattle.jiff_core.proofs.DateLemmas.{civil as date_is_civil}
use Rattle.jiff_core.specs.Calendar.{IsCivilDate, days_in_month, days_in_year, days_of_months, day_of_year, day_count, days_from_civil}
use Rattle.jiff_core.proofs.SignedLemmas.{signed_arith}
use Rattle.jiff_core.proofs.CalendarLemmas.{day_count-epoch, days_from_civil-day_count, days_in_month_bounds, days_in_year_bounds, days_of_months-zero, days_of_months_more, days_of_months_all, day_count-day_of_year, day_count-next_year, day_count-later_year, day_count-lt_year, day_count-end}
use Rattle.ilp_addr.specs.Timestamp.{year_after, month_after}

-- a year, and a day in it, that are that many days from -10000-01-01
record IsYearOf (count : ℕ) (r : ℕ × ℕ) : Type 0 where
  total : day_count (pos r.0) 1 1 + r.1 ≡ count
  within : r.1 < days_in_year (pos r.0)

year_after_is : (n year days : ℕ) → days ≤ n → IsYearOf (day_count (pos year) 1 1 + days) (year_after n year days)
unfolding year_after
year_after_is zero year days fuel = record { total = refl; within = omega (arith, days_in_year_bounds (pos year)) }
year_after_is (suc n) year days fuel =
    elim (cases_lt days (days_in_year (pos year))) [
      | inl lt ↦ rw (lt-ltb _ _ lt) (record { total = refl; within = lt })
      | inr ge ↦
          let more = year_after_is n (year + 1) (days - days_in_year (pos year)) (omega (arith, days_in_year_bounds (pos year))) in
          let next = day_count-next_year (pos year) (pos (year + 1)) (omega (arith, signed_arith)) refl in
          rw (le-ltb _ _ ge) (record { total = omega (arith, more.total, next); within = more.within })
    ]

-- a month and a day of the year, with so many days of the year before it
record IsMonthOf (year before : ℕ) (r : ℕ × ℕ) : Type 0 where
  month : (1 ≤ r.0) × (r.0 ≤ 12)
  day : (1 ≤ r.1) × (r.1 ≤ days_in_month (pos year) r.0)
  place : day_of_year (pos year) r.0 r.1 ≡ before + 1

month_after_is : (n year month days : ℕ) → days ≤ n → 1 ≤ month → month ≤ 12 → days_of_months (pos year) (month - 1) + days < days_in_year (pos year)
    → IsMonthOf year (days_of_months (pos year) (month - 1) + days) (month_after n year month days)
unfolding month_after
month_after_is zero year month days fuel low high within = record { month = (low, high); day = (omega arith, omega (arith, days_in_month_bounds (pos year) month)); place = omega arith }
month_after_is (suc n) year month days fuel low high within =
    elim (cases_lt days (days_in_month (pos year) month)) [
      | inl lt ↦ rw (lt-ltb _ _ lt) (record { month = (low, high); day = (omega arith, omega arith); place = omega arith })
      | inr ge ↦
          let back : month + 1 - 1 ≡ month = omega arith in
          let step = days_of_months_more (pos year) month low in
          let next : month + 1 ≤ 12 = elim (cases_lt month 12) [
            | inl lt ↦ omega arith
            | inr last ↦
                let twelve : month ≡ 12 = omega arith in
                let whole : days_of_months (pos year) month ≡ days_in_year (pos year) = ap (λ (k : ℕ). days_of_months (pos year) k) twelve ∙ days_of_months_all (pos year) in
                absurd (omega (arith, step, whole, within, ge))
          ] in
          let more = month_after_is n year (month + 1) (days - days_in_month (pos year) month) (omega (arith, days_in_month_bounds (pos year) month))
          (omega arith) next (rw back (omega (arith, step))) in
          rw (le-ltb _ _ ge) (record { month = more.month; day = more.day; place = more.place ∙ rw back (omega (arith, step)) })
    ]

-- a day up to 9999-12-31 and its date
pub record IsDateOf (day : ℕ) (year month date : ℕ) : Type 0 where
  pub civil : IsCivilDate (pos year) month date
  pub number : days_from_civil (pos year) month date ≡ pos day

pub date_of_day : (day : ℕ) → day ≤ 2_932_896
    → IsDateOf day (year_after day 1970 day).0 (month_after (year_after day 1970 day).1 (year_after day 1970 day).0 1 (year_after day 1970 day).1).0
    (month_after (year_after day 1970 day).1 (year_after day 1970 day).0 1 (year_after day 1970 day).1).1
date_of_day day low =
    let y = year_after_is day 1970 day (omega arith) in
    let year = (year_after day 1970 day).0 in
    let rest = (year_after day 1970 day).1 in
    let none = days_of_months-zero (pos year) in
    let m = month_after_is rest year 1 rest (omega arith) (omega arith) (omega arith) (omega (arith, none, y.within)) in
    let bound : year ≤ 9999 = elim (cases_lt year 10000) [
      | inl lt ↦ omega arith
      | inr ge ↦ absurd (elim (cases_lt 10000 year) [
        | inl lt ↦ omega (arith, day_count-later_year (pos 10000) (pos year) (omega (arith, signed_arith)) (omega (arith, signed_arith)), day_count-end, day_count-epoch, y.total)
        | inr le ↦
            let same : year ≡ 10000 = omega arith in
            let end : day_count (pos year) 1 1 ≡ 7_304_850 = ap (λ (k : ℕ). day_count (pos k) 1 1) same ∙ day_count-end in
            omega (arith, end, day_count-epoch, y.total)
      ])
    ] in
    let month = (month_after rest year 1 rest).0 in
    let date = (month_after rest year 1 rest).1 in
    record {
      civil = (omega (arith, signed_arith), m.month, m.day);
      number = omega (arith, signed_arith, days_from_civil-day_count (pos year) month date, day_count-day_of_year (pos year) month date m.day.0, m.place, none, y.total, day_count-epoch);
    }

-- a date whose day number is not negative is of 1970 or later
pub year_from_1970 : (d : Date) (n : ℕ) → epoch_day d ≡ pos n → pos 0 ≤ℤ d.year
year_from_1970 d n e =
    by_lt_z d.year (pos 1970)
    (λ lt. absurd (omega (
      arith,
      signed_arith,
      e,
      day_count-lt_year d.year d.month d.day (pos 1970) 1 1 (date_is_civil d) (omega arith) lt,
      day_count-epoch,
      days_from_civil-day_count d.year d.month d.day,
    )))
    (λ ge. omega (arith, signed_arith))
