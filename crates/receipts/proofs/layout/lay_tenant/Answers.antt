use Rattle.std.proofs.Common.{ℕ, List, None, arith, sym, subst}
use Rattle.receipts.specs.Layout.{IsLaid, LaysNext}
use Rattle.receipts.proofs.Lays.{all_laid, ends_last, ends_there, keeps_none, lays_first}
use Rattle.receipts.proofs.layout.lay_tenant.Goals as goal

pub loop-number-init : goal.loop-number-init
loop-number-init c =
    let wide = c.requires.wide in (
      lays_first c.args.index.now c.args.periods.now c.args.offsets.now.items c.args.tenant (omega arith),
      keeps_none c.args.index.now c.args.offsets.now.items c.args.tenant,
    )

pub returns-in-None-clause-laid : goal.returns-in-None-clause-laid
returns-in-None-clause-laid c =
    let told : LaysNext c.args.index.now c.args.periods.now c.loop-number.offsets.items c.lay_next.new.offsets.items c.args.tenant c.loop-number.number None
    = subst (LaysNext c.args.index.now c.args.periods.now c.loop-number.offsets.items c.lay_next.new.offsets.items c.args.tenant c.loop-number.number)
    c.in-None.is c.in_ok-more.ensures.next in
    let P : List ℕ → Type 0 = λ offsets. IsLaid c.args.index.now c.args.periods.now offsets c.args.tenant c.loop-number.total in
    subst P (sym told.1) (all_laid c.args.index.now c.args.periods.now c.loop-number.offsets.items c.args.tenant c.loop-number.number c.loop-number.total
    c.requires.index c.loop-number.invariant.0
    (ends_there c.args.index.now c.args.periods.now c.args.tenant c.loop-number.number c.requires.kept c.requires.joined c.requires.index told.0))

pub returns-clause-laid : goal.returns-clause-laid
returns-clause-laid c =
    let past = c.loop-number-test.false in
    let end = c.loop-number.auto.number-end in
    all_laid c.args.index.now c.args.periods.now c.loop-number.offsets.items c.args.tenant c.loop-number.number c.loop-number.total
    c.requires.index c.loop-number.invariant.0
    (ends_last c.args.index.now c.args.periods.now c.args.tenant c.loop-number.number c.requires.kept c.requires.index (omega arith))
