use Rattle.books_shared.proofs.Complete.{complete, kept_in_order}
use Rattle.books_shared.proofs.laws.gathered_receipts_are_complete.Goals as goal

pub returns-clause-complete : goal.returns-clause-complete
returns-clause-complete c = complete

pub returns-clause-kept : goal.returns-clause-kept
returns-clause-kept c = kept_in_order
