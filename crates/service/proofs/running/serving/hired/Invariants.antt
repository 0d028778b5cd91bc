use Rattle.std.proofs.Common.{◌≡◌, ◌≤◌, ◌+◌, vec_len, All}
use Rattle.std.specs.Prelude.{true, vec_capacity}
use Rattle.books_shared.specs.Gathers.{max_workers}
use Rattle.service.specs.Answering.{IsUncounted, IsNewDesk}
use Rattle.service.proofs.running.serving.hired.Given as goal

abbrev pub invariant-loop-share : goal.invariant-loop-share
invariant-loop-share g l = record {
  here : l.first.meters ≡ l.fn.office.meters.id;
  first : l.first.first ≡ true;
  joins : l.first.joins ≡ l.fn.first.joins;
  counts : l.first.counts ≡ l.fn.first.counts;
  few : l.first.splits + vec_len l.shares ≤ max_workers;
  split : vec_len l.lanes ≡ l.first.splits;
  each : vec_len l.lanes + vec_len l.shares ≡ vec_len l.fn.shares;
  room : vec_len l.lanes + vec_len l.shares ≤ vec_capacity l.lanes;
  fresh : All IsUncounted l.shares.items;
  new : All (λ lane. IsNewDesk lane.desk) l.lanes.items;
  office : All (λ lane. lane.office.now ≡ l.fn.office) l.lanes.items;
  clock : All (λ lane. lane.clock.now ≡ l.fn.system.clock.now) l.lanes.items;
}

abbrev pub decreases-loop-share : goal.decreases-loop-share
decreases-loop-share g l = vec_len l.shares
