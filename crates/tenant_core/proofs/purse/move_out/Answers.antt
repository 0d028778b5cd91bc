use Rattle.std.proofs.Common.{true, false}
use Rattle.tenant_core.specs.Moves.{moving_out}
use Rattle.tenant_core.proofs.ChangedLists.{changed_by}
use Rattle.tenant_core.proofs.purse.move_out.Goals as goal

pub returns-then-taken : goal.returns-then-taken
returns-then-taken c =
    changed_by (λ b. moving_out b c.args.amount) c.args.taken true c.args.purses.now.items c.args.place c.in-Some.place c.index_mut-purse.result.now c.take_out.new.self
    c.if-taken.true c.in-Some.is c.requires.inside c.index_mut-purse.ensures.value c.take_out.ensures

pub returns-else-taken : goal.returns-else-taken
returns-else-taken c =
    changed_by (λ b. moving_out b c.args.amount) c.args.taken false c.args.purses.now.items c.args.place c.in-Some.place c.index_mut-purse.result.now c.release_out.new.self
    c.if-taken.false c.in-Some.is c.requires.inside c.index_mut-purse.ensures.value c.release_out.ensures
