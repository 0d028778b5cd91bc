use Rattle.std.proofs.Common.{take}
use Rattle.std.specs.List.{All}
use Rattle.statements.specs.ReadBack.{IsRate}
use Rattle.book_log.proofs.kept.rates_are_kept.Given as goal

abbrev pub invariant-loop-rate : goal.invariant-loop-rate
invariant-loop-rate l = All IsRate (take l.rate-index l.rates)
