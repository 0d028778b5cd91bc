use Rattle.journal_law.proofs.Events.{event_goes_on}
use Rattle.journal_law.proofs.laws.books_go_on_or_are_rolled.Goals as goal

pub returns : goal.returns
returns c = event_goes_on
