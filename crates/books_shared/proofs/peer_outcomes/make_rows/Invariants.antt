use Rattle.std.proofs.Common.{◌≡◌, ◌≤◌, vec_len}
use Rattle.books_shared.specs.PeerOutcomes.{SayTheSame, peer_numbers}
use Rattle.books_shared.proofs.peer_outcomes.make_rows.Given as goal

abbrev pub invariant-loop : goal.invariant-loop
invariant-loop l = SayTheSame l.rows.items l.fn.rows.items × (l.counter ≡ vec_len l.rows) × (vec_len l.rows ≤ peer_numbers)
