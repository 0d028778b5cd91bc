use Rattle.ilp_addr.proofs.Targets.{read_is_target, target_is_read, one_target}
use Rattle.ilp_addr.proofs.laws.targets.Goals as goal

pub returns : goal.returns
returns c = record { read_is_target = read_is_target; target_is_read = target_is_read; one_target = one_target }
