use Rattle.std.proofs.Common.{◌≡◌, ◌++◌, ℕ, List, length, Some, Result}
use Rattle.http_link.specs.Limits.{max_heads, max_lines}
use Rattle.http_link.specs.declared.posting.PostFault.{PostFault}
use Rattle.http_link.specs.Client.{Means}
use Rattle.http_link.specs.StreamCalls.{Continues, held_of, to_come}
use Rattle.http_link.proofs.posting.read_answer.Given as goal

abbrev pub invariant-loop-heads : goal.invariant-loop-heads
invariant-loop-heads g l = record {
  means : (stream : List ℕ) → to_come l.fn.stream ≡ Some stream → (rest : List ℕ) × (to_come l.stream ≡ Some rest)
      × ((meaning : Result (List ℕ) PostFault) → Means l.heads (held_of l.stream ++ rest) meaning → Means max_heads stream meaning);
  none : l.stream.done ≡ 0;
  lines : length l.lines ≡ max_lines;
  failures : l.stream.failures ≡ l.fn.stream.failures;
  continues : Continues l.fn.stream l.stream;
}

abbrev pub decreases-loop-heads : goal.decreases-loop-heads
decreases-loop-heads g l = l.heads
