use Rattle.std.proofs.Common.{sym, ◌∙◌, ap}
use Rattle.oer_core.proofs.Results.{if_ok_by}
use Rattle.oer_core.proofs.Lengths.{length_takes, length_again}
use Rattle.oer_core.specs.Length.{length_at}
use Rattle.oer_core.proofs.reading.read_length.Goals as goal

pub returns-clause-found : goal.returns-clause-found
returns-clause-found c = if_ok_by c.length_of.result _ (λ r e. length_takes c.args.limit c.args.bytes.now r (sym c.length_of.ensures ∙ e))

pub returns-clause-only : goal.returns-clause-only
returns-clause-only c = λ s rest n h l e. c.length_of.ensures ∙ (ap (length_at c.args.limit) e ∙ length_again c.args.limit n s rest h l)
