use Rattle.std.proofs.Common.{map}
use Rattle.log_folder.specs.Folder.{AreBases}
use Rattle.log_folder.proofs.names.bases_in.Given as goal

abbrev pub invariant-loop-name : goal.invariant-loop-name
invariant-loop-name l = AreBases (map (λ x. x.now) l.yielded) l.bases.items
