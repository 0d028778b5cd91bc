use Rattle.receipts.specs.Layout.{AreLaid}
use Rattle.receipts.proofs.layout.lay_out.Given as goal

abbrev pub invariant-loop-tenant : goal.invariant-loop-tenant
invariant-loop-tenant l = AreLaid l.index l.periods l.offsets.items l.holders l.tenant
