use Rattle.book_recovery.proofs.Leading.{fronts, no_break, one_end}
use Rattle.book_recovery.proofs.NothingHeld.{nothing_held}
use Rattle.book_recovery.proofs.recovering.records_lead.Goals as goal

pub returns-clause-fronts : goal.returns-clause-fronts
returns-clause-fronts c = fronts

pub returns-clause-one_end : goal.returns-clause-one_end
returns-clause-one_end c = one_end

pub returns-clause-no_break : goal.returns-clause-no_break
returns-clause-no_break c = no_break

pub returns-clause-nothing_held : goal.returns-clause-nothing_held
returns-clause-nothing_held c = nothing_held
