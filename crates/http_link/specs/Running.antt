-- What is done with a head that was read, by the bytes after it: some had come with it, and more may come.
use Rattle.std.specs.Prelude.{◌≡◌, ◌⊎◌, ℕ, List, ◌++◌, take, drop, Option, Result}
use Rattle.std.specs.Io.KnownBytes.{Consumes, IsAtEnd}
use Rattle.http_link.specs.declared.held.Held.{Held}
use Rattle.http_link.specs.declared.serve.Served.{Served}
use Rattle.http_link.specs.declared.serve.Served.TheVariants.{Ended}
use Rattle.http_link.specs.Heads.{Head}
use Rattle.http_link.specs.Requests.{Wanted}
use Rattle.http_link.specs.Serving.{Asked, Traces, IsServed, IsAskedOnly}

-- the bytes of a room that have come and were not used
abbrev pub held_in : List ℕ → Held → List ℕ
held_in room held = drop held.from (take held.to room)

-- what is done with a head that asks for that: more bytes came, and it was served by all that there were. If they did
-- not suffice, no more are left
pub record RunsOnHead (want : Result Wanted ℕ) (head : Head) (had : List ℕ) (old new : Option (List ℕ)) (traces : Traces)
    (served : Served) : Type 0 where
  pub came : List ℕ
  pub taken : Consumes old new came
  pub so : IsServed want head (had ++ came) traces served
  pub ended : served ≡ Ended → IsAtEnd new

-- nothing is asked, or only the request of the head, with a whole body
abbrev pub AsksWanted : Result Wanted ℕ → (had : List ℕ) → Option (List ℕ) → Option (List ℕ) → Type 0 → (Asked → Type 0) → Type 0
AsksWanted want had old new Unasked Asks =
    Unasked ⊎ ((came : List ℕ) × Consumes old new came × IsAskedOnly want (had ++ came) ⊥ Asks)
