use Rattle.std.proofs.Common.{arith}
use Rattle.statements.specs.ReadBack.{IsRate}
use Rattle.book_log.proofs.EachItem.{all_done, all_next}
use Rattle.book_log.proofs.kept.rates_are_kept.Goals as goal

pub loop-rate-preserved : goal.loop-rate-preserved
loop-rate-preserved c =
    all_next IsRate c.args.rates.now c.loop-rate.rate-index c.rate-item.result (omega (arith, c.loop-rate-test.true)) c.rate-item.is
    c.rate_is_kept.ensures c.loop-rate.invariant

pub returns : goal.returns
returns c = all_done IsRate c.args.rates.now c.loop-rate.rate-index (omega (arith, c.loop-rate-test.false)) c.loop-rate.invariant
