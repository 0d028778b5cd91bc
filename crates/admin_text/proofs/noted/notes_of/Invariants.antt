use Rattle.std.proofs.Common.{◌≡◌, ◌++◌, take}
use Rattle.std.specs.List.{flat_map}
use Rattle.admin_text.specs.Notes.{notes_of_start, notes_of_tenant}
use Rattle.admin_text.proofs.noted.notes_of.Given as goal

abbrev pub invariant-loop-tenant : goal.invariant-loop-tenant
invariant-loop-tenant l =
    l.found.items ≡ notes_of_start l.setup.start ++ flat_map notes_of_tenant (take l.tenant-index l.setup.tenants)
