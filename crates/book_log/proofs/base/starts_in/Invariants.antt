use Rattle.std.specs.List.{All}
use Rattle.book_log.specs.OneBase.{IsStart}
use Rattle.book_log.proofs.base.starts_in.Given as goal

abbrev pub invariant-loop-tenant : goal.invariant-loop-tenant
invariant-loop-tenant l = All IsStart l.starts.items
