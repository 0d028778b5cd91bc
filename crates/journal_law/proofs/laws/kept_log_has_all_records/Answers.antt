use Rattle.journal_law.proofs.Following.{all_is_kept}
use Rattle.journal_law.proofs.laws.kept_log_has_all_records.Goals as goal

pub returns : goal.returns
returns g c =
    all_is_kept (record {
      one_list = c.one_list_of_outputs.ensures;
      replies = c.outputs_are_there.ensures.outputs;
      after = c.outputs_are_there.ensures.left;
    }) _ _ _
