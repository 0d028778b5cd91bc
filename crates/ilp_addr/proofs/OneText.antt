-- Each moment has one text.
use Rattle.std.proofs.Common.{◌≡◌, ◌<◌, ◌≤◌, ◌/◌, ◌%◌, ℕ, List, sym, ap, ◌∙◌, arith, ℤ, pos, negsuc}
use Rattle.jiff_core.specs.declared.civil.date.Date.{Date}
use Rattle.jiff_core.specs.Calendar.{IsCivilDate, days_from_civil}
use Rattle.jiff_core.proofs.SignedLemmas.{signed_arith}
use Rattle.jiff_core.proofs.DateLemmas.{epoch_day_injective, epoch_day_range}
use Rattle.ilp_addr.specs.Timestamp.{IsTimestamp, year_of, month_of, day_of, millis_of_day, instant_on, instant_of, moment_of, latest_expiry, nearest_moment, calendar_text, year_after, month_after, text_of_day, timestamp_of}
use Rattle.ilp_addr.proofs.Countdown.{date_of_day}
use Rattle.ilp_addr.proofs.CalendarText.{text_is, text_names, text_of_parts, millis_bound}

civil_same : (y m d y₂ m₂ d₂ : ℕ) → IsCivilDate (pos y) m d → IsCivilDate (pos y₂) m₂ d₂ → days_from_civil (pos y) m d ≡ days_from_civil (pos y₂) m₂ d₂ → (y ≡ y₂) × (m ≡ m₂) × (d ≡ d₂)
civil_same y m d y₂ m₂ d₂ h h₂ e =
    let a : Date = record { year = pos y; month = m; day = d; year_in = h.0; month_in = h.1; day_in = h.2 } in
    let b : Date = record { year = pos y₂; month = m₂; day = d₂; year_in = h₂.0; month_in = h₂.1; day_in = h₂.2 } in
    let s = epoch_day_injective a b e in
    (cc (s.0), s.1, s.2)

-- a day and the milliseconds of it are fixed by their sum
instant_on_same : (a b : ℤ) (n k : ℕ) → n < 86_400_000 → k < 86_400_000 → instant_on a n ≡ instant_on b k → (a ≡ b) × (n ≡ k)
unfolding instant_on
instant_on_same a b n k h l e = (omega (arith, signed_arith), omega (arith, signed_arith))

-- two timestamps of one moment are one text
pub same_text : (s t : List ℕ) → IsTimestamp s → IsTimestamp t → instant_of s ≡ instant_of t → s ≡ t
unfolding instant_of
same_text s t h k e =
    let parts = instant_on_same (days_from_civil (pos (year_of s)) (month_of s) (day_of s)) (days_from_civil (pos (year_of t)) (month_of t) (day_of t))
    (millis_of_day s) (millis_of_day t) (millis_bound s h) (millis_bound t k) e in
    let date = civil_same (year_of s) (month_of s) (day_of s) (year_of t) (month_of t) (day_of t) h.date k.date parts.0 in
    text_of_parts s h ∙ rw (date.0, date.1, date.2, parts.1) (sym (text_of_parts t k))

day_text : (day millis : ℕ) → day ≤ 2_932_896 → millis < 86_400_000 → IsTimestamp (text_of_day day millis) × (instant_of (text_of_day day millis) ≡ instant_on (pos day) millis)
unfolding text_of_day
day_text day millis low fit =
    let d = date_of_day day low in
    let year = (year_after day 1970 day).0 in
    let rest = (year_after day 1970 day).1 in
    let month = (month_after rest year 1 rest).0 in
    let date = (month_after rest year 1 rest).1 in
    (text_is year month date millis d.civil fit, text_names year month date millis ∙ ap (λ (z : ℤ). instant_on z millis) d.number)

pub text_has_moment : (m : ℕ) → m < 253_402_300_800_000 → IsTimestamp (timestamp_of m) × (instant_of (timestamp_of m) ≡ pos m)
unfolding timestamp_of instant_on
text_has_moment m low =
    let t = day_text (m / 86_400_000) (m % 86_400_000) (omega arith) (omega arith) in
    (t.0, t.1 ∙ ap pos (omega arith))

pub moment_is_back : (m : ℕ) → m ≤ latest_expiry → moment_of (timestamp_of m) ≡ m
unfolding moment_of
moment_is_back m low = rw ((text_has_moment m (omega arith)).1) (omega arith)

nearest_bound : (n : ℤ) → nearest_moment n ≤ latest_expiry
nearest_bound (pos millis) = omega arith
nearest_bound (negsuc millis) = omega arith

-- no text is read as a later moment than the latest
pub moment_bound : (text : List ℕ) → moment_of text ≤ latest_expiry
unfolding moment_of
moment_bound text = nearest_bound (instant_of text)

instant_bound : (s : List ℕ) (m : ℕ) → IsTimestamp s → instant_of s ≡ pos m → m < 253_402_300_800_000
unfolding instant_of instant_on
instant_bound s m h e =
    let a : Date = record { year = pos (year_of s); month = month_of s; day = day_of s; year_in = h.date.0; month_in = h.date.1; day_in = h.date.2 } in
    omega (arith, signed_arith, epoch_day_range a, millis_bound s h)

-- a timestamp is the text of its moment
pub is_text_of_moment : (s : List ℕ) (m : ℕ) → IsTimestamp s → instant_of s ≡ pos m → s ≡ timestamp_of m
is_text_of_moment s m h e =
    let t = text_has_moment m (instant_bound s m h e) in
    same_text s (timestamp_of m) h t.0 (e ∙ sym t.1)

-- the text of a moment's date and time is the moment's text
pub text_of_date : (m year month day : ℕ) → IsCivilDate (pos year) month day → days_from_civil (pos year) month day ≡ pos (m / 86_400_000)
    → calendar_text year month day (m % 86_400_000) ≡ timestamp_of m
unfolding instant_on
text_of_date m year month day date number =
    let fit : m % 86_400_000 < 86_400_000 = omega arith in
    is_text_of_moment (calendar_text year month day (m % 86_400_000)) m (text_is year month day (m % 86_400_000) date fit)
    (text_names year month day (m % 86_400_000) ∙ ap (λ (z : ℤ). instant_on z (m % 86_400_000)) number ∙ ap pos (omega arith))
