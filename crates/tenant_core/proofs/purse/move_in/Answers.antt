use Rattle.std.proofs.Common.{true, false}
use Rattle.tenant_core.specs.Moves.{moving_in}
use Rattle.tenant_core.proofs.ChangedLists.{changed_by}
use Rattle.tenant_core.proofs.purse.move_in.Goals as goal

pub returns-then-taken : goal.returns-then-taken
returns-then-taken c =
    changed_by (λ b. moving_in b c.args.amount) c.args.taken true c.args.purses.now.items c.args.place c.in-Some.place c.index_mut-purse.result.now c.take_in.new.self
    c.if-taken.true c.in-Some.is c.requires.inside c.index_mut-purse.ensures.value c.take_in.ensures

pub returns-else-taken : goal.returns-else-taken
returns-else-taken c =
    changed_by (λ b. moving_in b c.args.amount) c.args.taken false c.args.purses.now.items c.args.place c.in-Some.place c.index_mut-purse.result.now c.release_in.new.self
    c.if-taken.false c.in-Some.is c.requires.inside c.index_mut-purse.ensures.value c.release_in.ensures
