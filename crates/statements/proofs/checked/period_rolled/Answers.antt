use Rattle.std.proofs.Common.{◌≡◌}
use Rattle.std.specs.Prelude.{Ok}
use Rattle.tenant_core.specs.Closing.{state_before_roll}
use Rattle.tenant_core.specs.declared.command.Answered.TheVariants.{Rolled}
use Rattle.statements.proofs.FeeSteps.{governed_closed}
use Rattle.statements.proofs.checked.period_rolled.Goals as goal

pub returns-in-Ok-Rolled : goal.returns-in-Ok-Rolled
returns-in-Ok-Rolled c =
    let rolled : c.command.result ≡ Ok (Rolled c.in-Ok-Rolled.period) = cc (c.in-Ok-Rolled.is, c.in-Ok-Rolled.field-0-is) in
    governed_closed c.args.book.now c.command.new.self c.command.result c.in-Ok-Rolled.period _ c.command.ensures rolled
