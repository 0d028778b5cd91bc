use Rattle.std.proofs.Common.{◌≡◌, ◌-◌, ℕ, Some, None, arith, length, refl, ap, sym, ◌∙◌, inr, subst, true, false}
use Rattle.std.proofs.lemmas.Option.{slice_get_read}
use Rattle.tenant_core.specs.declared.period.PeriodParts.{PeriodParts}
use Rattle.receipts.specs.Layout.{place_in}
use Rattle.receipts.proofs.Joins.{another_before, is_element, none_before, not_zero, one_there}
use Rattle.receipts.proofs.chains.is_led.Goals as goal

pub returns-in-Some-clause-led : goal.returns-in-Some-clause-led
returns-in-Some-clause-led c = λ same q at.
    let periods = c.args.periods.now in
    let below = c.requires.inside in
    let there = slice_get_read periods (length periods) c.args.k c.index-periods-k.result refl (omega arith) c.index-periods-k.is in
    let before = c.requires.index.right c.tenant.result (c.number-number.result - 1) c.in-Some.before (sym c.in-Some.ensures) in
    let less = before.0 in
    let p_there = slice_get_read periods (length periods) c.in-Some.before c.index-periods-before.result refl (omega arith) c.index-periods-before.is in
    let one : c.index-periods-k.result ≡ q = one_there periods c.args.k c.index-periods-k.result q there at in
    inr (
      c.index-periods-before.result,
      is_element periods c.in-Some.before c.index-periods-before.result p_there,
      sym c.ending.ensures ∙ c.is_same.ensures.0 same ∙ c.opening.ensures ∙ ap (λ (r : PeriodParts). r.opening) one,
    )

pub returns-in-Some-clause-gap : goal.returns-in-Some-clause-gap
returns-in-Some-clause-gap c = λ other.
    let periods = c.args.periods.now in
    let below = c.requires.inside in
    let q = c.index-periods-k.result in
    let p = c.index-periods-before.result in
    let there = slice_get_read periods (length periods) c.args.k q refl (omega arith) c.index-periods-k.is in
    let before = c.requires.index.right c.tenant.result (c.number-number.result - 1) c.in-Some.before (sym c.in-Some.ensures) in
    let less = before.0 in
    let p_there = slice_get_read periods (length periods) c.in-Some.before p refl (omega arith) c.index-periods-before.is in
    let not_first = c.if-number-eq0.false in
    let number = c.number-number.ensures in
    let P : ℕ → Type 0 = λ t. place_in c.args.index.now t (c.number-number.result - 1) ≡ Some c.in-Some.before in
    let place = subst P c.tenant.ensures.value (sym c.in-Some.ensures) in
    another_before c.args.index.now periods c.args.k (c.number-number.result - 1) c.in-Some.before q p c.requires.kept c.requires.index there
    (let n = not_zero c.number-number.result not_first in omega arith) place p_there
    (λ ends.
    let same : c.is_same.result ≡ true = c.is_same.ensures.1 (c.ending.ensures ∙ ends ∙ sym c.opening.ensures) in
    let clash : false ≡ true = sym other ∙ same in
    cc)

pub returns-in-None-clause-gap : goal.returns-in-None-clause-gap
returns-in-None-clause-gap c = λ e.
    let periods = c.args.periods.now in
    let below = c.requires.inside in
    let q = c.index-periods-k.result in
    let there = slice_get_read periods (length periods) c.args.k q refl (omega arith) c.index-periods-k.is in
    let number = c.number-number.ensures in
    let P : ℕ → Type 0 = λ t. place_in c.args.index.now t (c.number-number.result - 1) ≡ None in
    none_before c.args.index.now periods c.args.k (c.number-number.result - 1) q c.requires.kept c.requires.index there
    (let n = not_zero c.number-number.result c.if-number-eq0.false in omega arith)
    (subst P c.tenant.ensures.value (sym c.in-None.ensures))
