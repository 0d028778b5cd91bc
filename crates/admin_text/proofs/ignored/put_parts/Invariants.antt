use Rattle.std.proofs.Common.{◌≡◌, ◌+◌, ◌++◌, drop}
use Rattle.toml.specs.View.{items_view}
use Rattle.admin_text.specs.Ignored.{ignored_in_parts}
use Rattle.admin_text.specs.IgnoredKeys.{seen}
use Rattle.admin_text.proofs.ignored.put_parts.Given as goal

abbrev pub invariant-loop-at : goal.invariant-loop-at
invariant-loop-at l =
    seen l.found.items ++ ignored_in_parts l.version l.tenant.number l.kind (l.at + 1) (items_view (drop l.at l.values))
    ≡ seen l.fn.found.items ++ ignored_in_parts l.version l.tenant.number l.kind 1 (items_view l.values)
