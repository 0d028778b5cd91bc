use Rattle.std.proofs.Common.{◌≡◌, ◌++◌}
use Rattle.toml.specs.View.{members_view, table_view}
use Rattle.admin_text.specs.Ignored.{table_place, ignored_at}
use Rattle.admin_text.specs.IgnoredKeys.{seen}
use Rattle.admin_text.proofs.ignored.put_table.Given as goal

abbrev pub invariant-loop-name : goal.invariant-loop-name
invariant-loop-name l =
    seen l.found.items ++ ignored_at l.version (table_place l.spot) (members_view l.name-iterator) ≡ seen l.fn.found.items ++ ignored_at l.version (table_place l.spot) (table_view l.table)
