use Rattle.money_core.specs.Account.{is_past_credit}
use Rattle.money_core.specs.declared.purse.PurseFault.TheVariants.{Credit}
use Rattle.tenant_core.specs.Moves.{holding_out}
use Rattle.tenant_core.proofs.ChangedLists.{held_here}
use Rattle.tenant_core.proofs.purse.hold_out.Goals as goal

pub returns-in-Some : goal.returns-in-Some
returns-in-Some c =
    held_here (holding_out c.args.amount) (λ a. is_past_credit a c.args.amount) Credit c.args.purses.now.items c.args.place c.in-Some.place c.index_mut.result.now c.hold_out.new.self c.hold_out.result
    c.in-Some.is c.requires.inside c.requires.within c.index_mut.ensures.value c.hold_out.ensures.exact c.hold_out.ensures.ok
