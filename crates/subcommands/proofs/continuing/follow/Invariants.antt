use Rattle.std.proofs.Common.{◌≡◌, map, length}
use Rattle.book_log.specs.declared.base.TenantStart.{TenantStart}
use Rattle.subcommands.specs.Beginning.{opening_after, setup_after}
use Rattle.subcommands.proofs.continuing.follow.Given as goal

abbrev pub invariant-loop-book : goal.invariant-loop-book
invariant-loop-book l =
    (map (λ (s : TenantStart). s.opening) l.following.starts.items ≡ map (opening_after l.now) l.yielded)
    × (l.following.setups.items ≡ map setup_after l.following.starts.items)
