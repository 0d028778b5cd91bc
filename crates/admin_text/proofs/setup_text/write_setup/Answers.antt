use Rattle.std.proofs.Common.{◌≤◌, arith}
use Rattle.std.specs.Prelude.{string_bytes}
use Rattle.toml.specs.View.{items_view, table_view}
use Rattle.std.proofs.lemmas.Str.{IsUtf8-had}
use Rattle.ilp_addr.specs.Timestamp.{last_moment}
use Rattle.admin_text.proofs.TellsTenants.{Laws, written}
use Rattle.admin_text.proofs.setup_text.write_setup.Goals as goal

pub returns-in-Ok : goal.returns-in-Ok
returns-in-Ok c =
    let laws : Laws = record { prefixes = c.prefix_words.ensures; targets = c.targets.ensures } in
    let value = c.millis.ensures.value in
    let bound = c.millis.ensures.bound in
    let early : c.args.start ≤ last_moment = omega arith in
    record {
      read_back = λ are.
          written laws c.args.start (items_view c.in_ok-tenants.tenants.items) c.args.tenants.now (string_bytes c.in-Ok.text) (table_view c.in_ok-table.table) early c.in_ok-tenants.ensures c.in_ok-table.ensures
          (IsUtf8-had _ c.in-Ok.text.ok) c.in-Ok.ensures.reads_back are;
    }
