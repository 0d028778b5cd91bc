-- What contracts see of an inbox, and what it keeps.
use Rattle.std.specs.Prelude.{ℕ, ◌≤◌, List}
use Rattle.http_link.specs.Limits.{max_request}
use Rattle.http_link.specs.Running.{held_in}
use Rattle.http_link.specs.declared.inbox.Inbox.TheInside.{Inside}

-- the bytes that have come and were not served
abbrev pub bytes_waiting : Inside → List ℕ
bytes_waiting i = held_in i.room i.held

-- they are in the buffer
pub record InboxInvariant (i : Inside) : Type 0 where
  pub ordered : i.held.from ≤ i.held.to
  pub within : i.held.to ≤ max_request
