use Rattle.meters.specs.Counts.{word_of}
use Rattle.meters.specs.Rule.{spent_view}
use Rattle.meters.proofs.Words.{at_place, total_without, no_count}
use Rattle.meters.proofs.laws.spent_views.Goals as goal

pub returns : goal.returns
returns c t k before after = total_without (at_place (word_of t k)) before after spent_view (no_count 256 (word_of t k))
