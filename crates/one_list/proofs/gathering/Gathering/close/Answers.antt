use Rattle.std.proofs.Common.{subst}
use Rattle.one_list.specs.Parts.{GatheringView}
use Rattle.one_list.specs.Steps.{HaveOneList}
use Rattle.one_list.proofs.Gathered.{one_list}
use Rattle.one_list.proofs.gathering.Gathering.close.Goals as goal

pub returns : goal.returns
returns g c = subst (λ (x : GatheringView). HaveOneList g.J.Run.size x.tenants x.workers) c.self.view_is (one_list g.J.Run.size c.self.inside.pass.me.0 c.look.ensures.told)
