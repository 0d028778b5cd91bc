use Rattle.std.proofs.Common.{◌≡◌, ◌++◌, take}
use Rattle.std.specs.Prelude.{map}
use Rattle.statements.specs.Seen.{seen_at_first}
use Rattle.statements.proofs.seen.put_all_first.Given as goal

abbrev pub invariant-loop-peer : goal.invariant-loop-peer
invariant-loop-peer l = l.out.items ≡ l.fn.out.items ++ map seen_at_first (take l.peer-index l.peers)
