use Rattle.std.proofs.Common.{◌≡◌, ◌++◌, take}
use Rattle.std.specs.List.{flat_map}
use Rattle.admin_text.specs.Notes.{notes_of_rate}
use Rattle.admin_text.proofs.noted.put_rates.Given as goal

abbrev pub invariant-loop-rate : goal.invariant-loop-rate
invariant-loop-rate l =
    l.found.items ≡ l.fn.found.items ++ flat_map (notes_of_rate l.tenant) (take l.rate-index l.tenant.network.rates)
