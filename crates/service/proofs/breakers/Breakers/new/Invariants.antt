use Rattle.std.proofs.Common.{◌≡◌, ◌≤◌, vec_len, vec_capacity}
use Rattle.service.proofs.breakers.Breakers.new.Given as goal

abbrev pub invariant-loop : goal.invariant-loop
invariant-loop l = record { len : vec_len l.all ≡ l.counter; room : l.tenants ≤ vec_capacity l.all }
