use Rattle.std.proofs.Common.{ap, subst, ◌∙◌}
use Rattle.std.specs.Prelude.{Err, Ok, OnOk, Result}
use Rattle.tenant_core.specs.declared.command.Command.TheVariants.{Roll}
use Rattle.workers.specs.Carrying.{IsDone, growth}
use Rattle.service.specs.Auditing.{closed_also}
use Rattle.service.specs.Journal.{with_journal}
use Rattle.service.proofs.running.auditing.roll.Goals as goal

on_both : {V E : Type 0} (told : Result V E) (P Q R : Type 0) → OnOk told P → OnOk told Q → (P → Q → R) → OnOk told R
on_both (Ok v) P Q R p q f = f p q
on_both (Err e) P Q R p q f = tt

pub returns-clause-rolled : goal.returns-clause-rolled
returns-clause-rolled g c =
    on_both c.keep.result _ _ _ c.keep.ensures.kept c.keep.ensures.memory
    (λ kept memory. record {
      answer = c.govern-answer.result;
      done = subst (λ journal. IsDone (with_journal g.J.Run.openings (g.C.Clock.gives c.args.system.now.clock.now) journal) c.govern-answer.result
          (growth c.args.tenant c.args.share.now c.govern-answer.new.share) Roll) c.keeper-keeper.ensures c.govern-answer.ensures.done;
      spent = c.govern-answer.ensures.spent;
      memory = memory;
      kept = kept ∙ ap (λ periods. closed_also c.govern-answer.result periods) c.in_ok-reserve.ensures.items;
    })
