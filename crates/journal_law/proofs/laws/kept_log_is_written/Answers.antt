use Rattle.book_log.specs.Written.{IsLoggable}
use Rattle.journal_law.proofs.Following.{all_is_kept, all_is_written}
use Rattle.journal_law.proofs.laws.kept_log_is_written.Goals as goal

pub returns : goal.returns
returns g c journal starts sum workers world left steps first last by new begun fit recorded =
    all_is_written sum _ starts left
    (all_is_kept (record {
      one_list = c.one_list_of_outputs.ensures;
      replies = c.outputs_are_there.ensures.outputs;
      after = c.outputs_are_there.ensures.left;
    }) IsLoggable _ _ journal starts sum workers world left steps first last by new begun fit recorded)
