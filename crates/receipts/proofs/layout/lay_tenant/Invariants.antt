use Rattle.receipts.specs.Layout.{IsLaidTo, KeepsOthers}
use Rattle.receipts.proofs.layout.lay_tenant.Given as goal

abbrev pub invariant-loop-number : goal.invariant-loop-number
invariant-loop-number l =
    IsLaidTo l.index l.periods l.offsets.items l.tenant l.number l.total
    × KeepsOthers l.index l.initial.offsets.items l.offsets.items l.tenant
