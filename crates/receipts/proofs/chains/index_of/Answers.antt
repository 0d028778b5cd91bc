use Rattle.std.proofs.Common.{◌≡◌, ℕ, arith, length, subst}
use Rattle.receipts.specs.Layout.{IsIndexUpTo}
use Rattle.receipts.proofs.chains.index_of.Goals as goal

pub returns-clause-index : goal.returns-clause-index
returns-clause-index c =
    let end = c.loop-k.auto.k-end in
    let past = c.loop-k-test.false in
    let all : c.loop-k.k ≡ length c.args.periods.now = omega arith in
    let P : ℕ → Type 0 = λ k. IsIndexUpTo c.loop-k.index c.args.periods.now k in
    subst P all c.loop-k.invariant
