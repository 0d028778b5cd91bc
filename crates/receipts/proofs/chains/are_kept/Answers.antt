use Rattle.std.proofs.Common.{arith, length, refl}
use Rattle.std.proofs.lemmas.Option.{slice_get_within, slice_get_read}
use Rattle.receipts.proofs.Joins.{kept_more}
use Rattle.receipts.proofs.chains.are_kept.Goals as goal

pub loop-k-preserved : goal.loop-k-preserved
loop-k-preserved c =
    let below = c.loop-k-test.true in
    let there = slice_get_read c.args.periods.now (length c.args.periods.now) c.loop-k.k c.index-periods-k.result refl (omega arith) c.index-periods-k.is in
    kept_more c.args.periods.now c.loop-k.k c.index-periods-k.result there c.period_is_kept.ensures c.loop-k.invariant

pub returns : goal.returns
returns c = λ j p at.
    let below = slice_get_within c.args.periods.now j p at in
    let end = c.loop-k.auto.k-end in
    let past = c.loop-k-test.false in
    c.loop-k.invariant j p (omega arith) at
