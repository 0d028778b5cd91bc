use Rattle.std.proofs.Common.{◌≡◌, ◌≤◌, ◌+◌, ℕ, length, take, slice_index}
use Rattle.std.specs.Prelude.{All}
use Rattle.floor_core.specs.FloorView.{world_of}
use Rattle.floor_core.specs.Forwards.{HasBytes}
use Rattle.floor_core.specs.Worlds.{replies, after_all}
use Rattle.floor_core.proofs.floor.Floor.run.Given as goal

abbrev pub invariant-loop-step : goal.invariant-loop-step
invariant-loop-step l = record {
  told : l.outputs.items ≡ replies (world_of l.fn.self) (take l.step-index l.steps);
  world : world_of l.self ≡ after_all (world_of l.fn.self) (take l.step-index l.steps);
  bytes : All HasBytes (take l.step-index l.steps);
  count : length l.outputs.items ≡ l.step-index;
  workers : length l.self.seats ≡ length l.fn.self.seats;
  tenants : length l.self.books ≡ length l.fn.self.books;
  counted : (t : ℕ) → slice_index l.self.next_calls t ≤ slice_index l.fn.self.next_calls t + l.step-index;
}
