use Rattle.std.proofs.Common.{take}
use Rattle.service.specs.Filing.{AreFiled}
use Rattle.service.proofs.filing.file_each.Given as goal

abbrev pub invariant-loop-period : goal.invariant-loop-period
invariant-loop-period g l = record {
  filed : AreFiled g.S.StatementStore.tells g.S.StatementStore.keeps (take l.period-index l.periods) l.fn.store l.store l.lines.items;
}
