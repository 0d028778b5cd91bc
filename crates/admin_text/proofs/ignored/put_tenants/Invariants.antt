use Rattle.std.proofs.Common.{◌≡◌, ◌++◌, drop}
use Rattle.toml.specs.View.{items_view}
use Rattle.admin_text.specs.Ignored.{ignored_in_tenants}
use Rattle.admin_text.specs.IgnoredKeys.{seen}
use Rattle.admin_text.proofs.ignored.put_tenants.Given as goal

abbrev pub invariant-loop-number : goal.invariant-loop-number
invariant-loop-number l =
    seen l.found.items ++ ignored_in_tenants l.version l.number (items_view (drop l.number l.values))
    ≡ seen l.fn.found.items ++ ignored_in_tenants l.version 0 (items_view l.values)
