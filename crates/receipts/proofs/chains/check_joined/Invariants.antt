use Rattle.std.proofs.Common.{◌<◌, ℕ}
use Rattle.receipts.specs.Layout.{IsLedAt}
use Rattle.receipts.proofs.chains.check_joined.Given as goal

abbrev pub invariant-loop-k : goal.invariant-loop-k
invariant-loop-k l = (j : ℕ) → j < l.k → IsLedAt l.periods j
