use Rattle.std.proofs.Common.{ℕ, ◌≡◌, ◌≤◌, ◌+◌, ◌++◌, length, map, vec_len}
use Rattle.std.specs.Prelude.{vec_capacity}
use Rattle.std.specs.List.{sum_by}
use Rattle.meters.specs.Seats.{count_of}
use Rattle.meters.specs.declared.kind.Kind.{Kind}
use Rattle.service.proofs.running.serving.dismissed.Given as goal

abbrev pub invariant-loop-lane : goal.invariant-loop-lane
invariant-loop-lane g l = record {
  here : l.first.meters ≡ l.fn.office.meters.id;
  first : l.first.first ≡ l.fn.first.first;
  splits : l.first.splits ≡ l.fn.first.splits;
  joined : l.first.joins ≡ l.fn.first.joins + length l.yielded;
  many : vec_len l.shares ≡ vec_len l.fn.others.shares + length l.yielded;
  room : vec_len l.fn.others.shares + vec_len l.fn.lanes ≤ vec_capacity l.shares;
  shares : l.shares.items ≡ l.fn.others.shares.items ++ map (λ lane. lane.desk.share) l.yielded;
  counts : (tenant : ℕ) (kind : Kind)
      → count_of tenant kind l.first ≡ count_of tenant kind l.fn.first + sum_by (λ lane. count_of tenant kind lane.desk.seat) l.yielded;
}
