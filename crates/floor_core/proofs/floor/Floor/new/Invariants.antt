use Rattle.std.proofs.Common.{◌≤◌, length, vec_capacity}
use Rattle.floor_core.proofs.Opened.{AreOpened}
use Rattle.floor_core.proofs.floor.Floor.new.Given as goal

abbrev pub invariant-loop-tenant : goal.invariant-loop-tenant
invariant-loop-tenant l = record {
  opened : AreOpened l.setups l.start l.tenant l.books.items;
  room : length l.setups ≤ vec_capacity l.books;
}
