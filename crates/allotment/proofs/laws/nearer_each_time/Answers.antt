use Rattle.std.proofs.Common.{◌∙◌, ap, arith}
use Rattle.std.proofs.lemmas.Grind.{common_steps}
use Rattle.allotment.specs.Waits.{Queued}
use Rattle.allotment.proofs.Turns.{is_there, nearer, turn_taken}
use Rattle.allotment.proofs.laws.nearer_each_time.Goals as goal

pub returns : goal.returns
returns c tenant next other before after kept above back in_turn waits apart =
    nearer next other before after kept.turn (is_there next before kept back.0) (is_there other before kept waits) apart (in_turn other waits)
    (grind (arith, common_steps, back.2)) (ap (λ (q : Queued). q.turn) back.2 ∙ turn_taken tenant next before above)
