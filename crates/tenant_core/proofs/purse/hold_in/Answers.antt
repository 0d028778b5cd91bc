use Rattle.money_core.specs.Account.{is_past_ceiling}
use Rattle.money_core.specs.declared.purse.PurseFault.TheVariants.{Ceiling}
use Rattle.tenant_core.specs.Moves.{holding_in}
use Rattle.tenant_core.proofs.ChangedLists.{held_here}
use Rattle.tenant_core.proofs.purse.hold_in.Goals as goal

pub returns-in-Some : goal.returns-in-Some
returns-in-Some c =
    held_here (holding_in c.args.amount) (λ a. is_past_ceiling a c.args.amount) Ceiling c.args.purses.now.items c.args.place c.in-Some.place c.index_mut.result.now c.hold_in.new.self c.hold_in.result
    c.in-Some.is c.requires.inside c.requires.within c.index_mut.ensures.value c.hold_in.ensures.exact c.hold_in.ensures.ok
