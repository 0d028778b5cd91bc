use Rattle.std.proofs.Common.{◌≡◌, ◌≤◌, true, All, length, map, take, vec_len, vec_capacity}
use Rattle.service.specs.Auditing.{lists_of}
use Rattle.service.proofs.running.auditing.lists_of.Given as goal

abbrev pub invariant-loop-share : goal.invariant-loop-share
invariant-loop-share g l = record {
  lists : map (λ list. list.now) l.lists.items ≡ lists_of (take l.share-index l.shares);
  kept : All (λ s. s.audited ≡ true) (take l.share-index l.shares);
  few : vec_len l.lists ≤ l.share-index;
  room : length l.shares ≤ vec_capacity l.lists;
}
