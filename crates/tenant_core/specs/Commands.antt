-- The commands of an operator to a tenant's book.
use Rattle.std.specs.Prelude.{ℕ, List}

-- the names of two peers, from the one to the other
pub record Ends : Type 0 where
  pub from : List ℕ
  pub to : List ℕ
