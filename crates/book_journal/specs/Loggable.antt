-- What the types of a record's parts do not keep.
use Rattle.ilp_addr.specs.Address.{IsAddress}
use Rattle.tenant_core.specs.declared.journal.Entry.{Entry}
use Rattle.tenant_core.specs.declared.journal.Entry.TheVariants.{Decide, Answer, Tick, Change, Roll}

-- the destination of a Prepare is an address
abbrev pub HasAddress : Entry → Type 0
HasAddress (Decide d) = IsAddress d.destination
HasAddress (Answer a) = Unit {0}
HasAddress (Tick t) = Unit {0}
HasAddress (Change c) = Unit {0}
HasAddress (Roll r) = Unit {0}
