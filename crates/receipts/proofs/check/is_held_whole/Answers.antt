use Rattle.std.proofs.Common.{◌≡◌, ℕ, refl, sym, ap, subst, length, arith}
use Rattle.std.proofs.lemmas.Option.{slice_get_read}
use mathlib.Core.Logic.{dite}
use native.Mathlib.Decide.{ℕ_discrete}
use Rattle.tenant_core.specs.declared.period.PeriodParts.{PeriodParts}
use Rattle.receipts.specs.Layout.{IsHeldAt}
use Rattle.receipts.proofs.Joins.{one_there}
use Rattle.receipts.proofs.check.is_held_whole.Goals as goal

pub is_held_at-requires-clause-there : goal.is_held_at-requires-clause-there
is_held_at-requires-clause-there c =
    let below = c.requires.there in
    let at = slice_get_read c.args.laid.now.periods.now (length c.args.laid.now.periods.now) c.args.k c.index-periods-k.result refl (omega arith) c.index-periods-k.is in
    let less = c.loop-n-test.true in
    let many = c.len-n-end.ensures.value in
    (c.index-periods-k.result, at, omega arith)

pub returns-then-not-is_held_at-clause-nowhere : goal.returns-then-not-is_held_at-clause-nowhere
returns-then-not-is_held_at-clause-nowhere c = λ e.
    let below = c.requires.there in
    let at = slice_get_read c.args.laid.now.periods.now (length c.args.laid.now.periods.now) c.args.k c.index-periods-k.result refl (omega arith) c.index-periods-k.is in
    let less = c.loop-n-test.true in
    let many = c.len-n-end.ensures.value in
    (c.index-periods-k.result, at, (c.loop-n.n, omega arith, c.is_held_at.ensures.nowhere c.if-not-is_held_at.true c.index-periods-k.result at))

pub loop-n-preserved : goal.loop-n-preserved
loop-n-preserved c = λ m p below there. dite (ℕ_discrete m c.loop-n.n)
    (λ same.
    let P : ℕ → Type 0 = λ n. IsHeldAt c.args.laid.now.periods.now c.args.holders.now p n in
    subst P (sym same) (c.is_held_at.ensures.whole c.if-not-is_held_at.false p there))
    (λ other. c.loop-n.invariant m p (omega arith) there)

pub returns-clause-whole : goal.returns-clause-whole
returns-clause-whole c = λ e p there n less.
    let below = c.requires.there in
    let at = slice_get_read c.args.laid.now.periods.now (length c.args.laid.now.periods.now) c.args.k c.index-periods-k.result refl (omega arith) c.index-periods-k.is in
    let same = one_there c.args.laid.now.periods.now c.args.k c.index-periods-k.result p at there in
    let many = c.len-n-end.ensures.value in
    let length_same : length c.index-periods-k.result.records ≡ length p.records = ap (λ (q : PeriodParts). length q.records) same in
    let past = c.loop-n-test.false in
    c.loop-n.invariant n p (omega arith) there
