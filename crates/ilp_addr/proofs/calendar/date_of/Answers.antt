use Rattle.std.proofs.Common.{◌≡◌, ◌∙◌, sym, subst, ℤ, pos, arith, FitsSigned, w16, to_z, of_z, to_z-of_z}
use Rattle.jiff_core.specs.Calendar.{IsCivilDate}
use Rattle.jiff_core.specs.Date.{epoch_day}
use Rattle.jiff_core.proofs.SignedLemmas.{signed_arith}
use Rattle.ilp_addr.proofs.Countdown.{year_from_1970}
use Rattle.ilp_addr.proofs.calendar.date_of.Goals as goal

pub unsigned_year-requires : goal.unsigned_year-requires
unsigned_year-requires c =
    let date = c.from_days_since_min-date.result in
    let number : epoch_day date ≡ pos c.args.days = omega (arith, signed_arith, c.from_days_since_min-date.ensures) in
    let fits : FitsSigned w16 date.year = omega (arith, signed_arith, date.year_in) in
    let back : to_z w16 (of_z w16 date.year) ≡ date.year = to_z-of_z fits in
    rw back (year_from_1970 date c.args.days number)

pub returns-clause-number : goal.returns-clause-number
returns-clause-number c =
    let date = c.from_days_since_min-date.result in
    let number : epoch_day date ≡ pos c.args.days = omega (arith, signed_arith, c.from_days_since_min-date.ensures) in
    let fits : FitsSigned w16 date.year = omega (arith, signed_arith, date.year_in) in
    let same : pos c.unsigned_year.result ≡ date.year = c.unsigned_year.ensures ∙ to_z-of_z fits in
    rw same number

pub returns-clause-date : goal.returns-clause-date
returns-clause-date c =
    let date = c.from_days_since_min-date.result in
    let fits : FitsSigned w16 date.year = omega (arith, signed_arith, date.year_in) in
    let same : pos c.unsigned_year.result ≡ date.year = c.unsigned_year.ensures ∙ to_z-of_z fits in
    subst (λ (y : ℤ). IsCivilDate y date.month date.day) (sym same) (date.year_in, date.month_in, date.day_in)
