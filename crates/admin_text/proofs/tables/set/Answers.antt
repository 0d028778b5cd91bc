use Rattle.std.proofs.Common.{◌∙◌, ap}
use Rattle.toml.specs.View.{view, table_view, members_view}
use Rattle.admin_text.specs.Made.{with_member}
use Rattle.admin_text.proofs.MadeTables.{inserted}
use Rattle.admin_text.proofs.tables.set.Goals as goal

pub returns-in-Ok : goal.returns-in-Ok
returns-in-Ok c =
    ap members_view c.in-Ok.ensures.entries ∙ inserted c.in_ok-key.key c.args.value c.args.table.now.entries
    ∙ ap (λ k. with_member k (view c.args.value) (table_view c.args.table.now)) c.in_ok-key.ensures.ok
