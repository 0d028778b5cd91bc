-- The parts of a Prepare that a tenant decides by, as bytes and numbers.
use Rattle.std.specs.Prelude.{ℕ, List}
use Rattle.tenant_core.specs.declared.journal.PrepareKey.{PrepareKey}

-- the parts of a Prepare by which it is decided (RFC 0027, "ILP Prepare")
pub record Key : Type 0 where
  pub amount : ℕ
  pub expiry : ℕ
  pub condition : List ℕ
  pub destination : List ℕ

-- a key without the address of its parts in memory
abbrev pub key_of : PrepareKey → Key
key_of k = record { amount = k.amount; expiry = k.expiry; condition = k.condition.now; destination = k.destination.now }
