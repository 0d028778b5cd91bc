use Rattle.std.proofs.Common.{◌≡◌, ◌≤◌, ℕ, [], length, vec_capacity}
use Rattle.floor_core.specs.FloorView.{seat_in}
use Rattle.floor_core.specs.Work.{Job}
use Rattle.floor_core.proofs.floor.free_seats.Given as goal

abbrev pub invariant-loop : goal.invariant-loop
invariant-loop l = record {
  count : length l.seats.items ≡ l.counter;
  room : l.fn.workers ≤ vec_capacity l.seats;
  free : (w : ℕ) → (seat_in l.seats.items w).slot.job ≡ Job.NoJob;
  silent : (w : ℕ) → (seat_in l.seats.items w).slot.reply ≡ [];
}
