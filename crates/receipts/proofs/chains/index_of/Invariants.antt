use Rattle.receipts.specs.Layout.{IsIndexUpTo}
use Rattle.receipts.proofs.chains.index_of.Given as goal

abbrev pub invariant-loop-k : goal.invariant-loop-k
invariant-loop-k l = IsIndexUpTo l.index l.periods l.k
