-- How the audit keeps track of what is where.
use Rattle.std.specs.Prelude.{ℕ, ◌≡◌, ◌≢◌, ◌≤◌, ◌<◌, ◌+◌, ◌⊎◌, List, length, Contains, Option, None, Some, option_and_then, map, slice_get, slice_index, slice_set, vec_len, ⊤}
use Rattle.std.specs.Ordering.{nat_cmp}
use Rattle.std.specs.BTreeMap.{get}
use Rattle.tenant_core.specs.Limits.{max_tenants}
use Rattle.tenant_core.specs.Closing.{IsPeriod}
use Rattle.tenant_core.specs.declared.journal.Record.{Record}
use Rattle.tenant_core.specs.declared.period.PeriodParts.{PeriodParts}
use Rattle.joint_order.specs.Orders.{at, list_at, point}
use Rattle.joint_order.specs.declared.point.ListPoint.{ListPoint}
use Rattle.receipts.specs.Audits.{AreMatched, HasGap, IsNumbered, IsStuckAt, LacksReceipt, NamesNothing, NameOne, NamesRecord, NamesTwice, ShowsAnother, journal_place, shown_record, records_before}
use Rattle.receipts.specs.declared.fault.AuditFault.{AuditFault}
use Rattle.receipts.specs.declared.fault.AuditFault.TheVariants.{NoPeriod, Gap, Twice, Missing, Differs, Order, Memory}
use Rattle.receipts.specs.declared.index.Index.{Index}
use Rattle.receipts.specs.declared.receipt.Receipt.{Receipt}

-- there is a map for each tenant
abbrev pub HasMapPerTenant : Index → Type 0
HasMapPerTenant index = vec_len index.places ≡ max_tenants

-- the place of the period of that number of the tenant
abbrev pub place_in : Index → (tenant number : ℕ) → Option ℕ
place_in index tenant number = option_and_then (λ m. get nat_cmp m number) (slice_get index.places.items tenant)

-- the periods up to that place are found by tenant and number, and what is found is one of them
pub record IsIndexUpTo (index : Index) (periods : List PeriodParts) (count : ℕ) : Type 0 where
  pub complete : HasMapPerTenant index
  pub found : (k : ℕ) (p : PeriodParts) → k < count → slice_get periods k ≡ Some p
      → place_in index p.opening.tenant p.opening.period ≡ Some k
  pub right : (tenant number k : ℕ) → place_in index tenant number ≡ Some k
      → (k < count) × ((p : PeriodParts) × (slice_get periods k ≡ Some p) × IsNumbered tenant number p)

-- each period is what a roll closed
abbrev pub AreOfRolls : List PeriodParts → Type 0
AreOfRolls periods = (k : ℕ) (p : PeriodParts) → slice_get periods k ≡ Some p → IsPeriod p

-- the period at that place is its tenant's first, or another ends in the state that it opens
abbrev pub IsLedAt : List PeriodParts → ℕ → Type 0
IsLedAt periods k = (q : PeriodParts) → slice_get periods k ≡ Some q
    → (q.opening.period ≡ 0) ⊎ ((p : PeriodParts) × Contains periods p × (p.ending ≡ q.opening))

-- ---- faults

-- the fault is there; running out of memory says nothing
abbrev pub IsAuditFault : List PeriodParts → List (List Receipt) → AuditFault → Type 0
IsAuditFault periods lists NoPeriod = NamesNothing periods lists
IsAuditFault periods lists Gap = HasGap periods
IsAuditFault periods lists Twice = NamesTwice lists
IsAuditFault periods lists Missing = LacksReceipt periods lists
IsAuditFault periods lists Differs = ShowsAnother periods lists
IsAuditFault periods lists (Order front) = AreMatched periods lists × IsStuckAt periods lists (at front.items)
IsAuditFault periods lists Memory = ⊤

-- a fault of the periods: a gap, or out of memory
abbrev pub IsGap : List PeriodParts → AuditFault → Type 0
IsGap periods Gap = HasGap periods
IsGap periods Memory = ⊤
IsGap periods _ = ⊥

-- ---- the places of entries in their tenants' journals

-- the periods of a tenant before that number were laid out one after another, up to that many entries
pub record IsLaidTo (index : Index) (periods : List PeriodParts) (offsets : List ℕ) (tenant number total : ℕ) : Type 0 where
  pub wide : length offsets ≡ length periods
  pub so_far : total ≡ records_before periods tenant number
  pub offset : (n k : ℕ) → n < number → place_in index tenant n ≡ Some k → slice_index offsets k ≡ records_before periods tenant n

-- no offset of another tenant's periods was changed
abbrev pub KeepsOthers : Index → (old new : List ℕ) → (tenant : ℕ) → Type 0
KeepsOthers index old new tenant = (t n k : ℕ) → t ≢ tenant → place_in index t n ≡ Some k → slice_index new k ≡ slice_index old k

-- all periods of a tenant were laid out, in so many entries
pub record IsLaid (index : Index) (periods : List PeriodParts) (offsets : List ℕ) (tenant total : ℕ) : Type 0 where
  pub offset : (n k : ℕ) → place_in index tenant n ≡ Some k → slice_index offsets k ≡ records_before periods tenant n
  pub room : (n k : ℕ) (p : PeriodParts) → place_in index tenant n ≡ Some k → slice_get periods k ≡ Some p
      → records_before periods tenant n + length p.records ≤ total

-- the periods of all tenants before that number were laid out, and have a row each, with room for their entries
pub record AreLaid (index : Index) (periods : List PeriodParts) (offsets : List ℕ) (holders : List (List (Option ℕ))) (tenants : ℕ) : Type 0 where
  pub wide : length offsets ≡ length periods
  pub rows : length holders ≡ tenants
  pub laid : (t : ℕ) → t < tenants → IsLaid index periods offsets t (length (list_at holders t))
  pub empty : (t x i : ℕ) → ¬ (slice_get (list_at holders t) x ≡ Some (Some i))

-- the result for a number: no period has it, and nothing changed; or one has, up to which there are so many
-- entries
abbrev pub LaysNext : Index → List PeriodParts → (old new : List ℕ) → (tenant number : ℕ) → Option ℕ → Type 0
LaysNext index periods old new tenant number None = (place_in index tenant number ≡ None) × (new ≡ old)
LaysNext index periods old new tenant number (Some total) = IsLaidTo index periods new tenant (number + 1) total

-- ---- receipts beside the entries that they name

-- each tenant has a row, with room for the entries of its periods
pub record HaveRows (index : Index) (periods : List PeriodParts) (offsets : List ℕ) (holders : List (List (Option ℕ))) : Type 0 where
  pub wide : length offsets ≡ length periods
  pub rows : length holders ≡ max_tenants
  pub laid : (t : ℕ) → t < max_tenants → IsLaid index periods offsets t (length (list_at holders t))

-- what is known of the entry that a receipt names
abbrev pub held_of : List PeriodParts → List (List (Option ℕ)) → Receipt → Option (Option ℕ)
held_of periods holders r = slice_get (list_at holders r.tenant) (journal_place periods r)

-- the place of the record that a receipt names, and shows, in its tenant's journal
pub record IsPlace (periods : List PeriodParts) (holders : List (List (Option ℕ))) (r : Receipt) (place : ℕ) : Type 0 where
  pub right : NamesRecord periods r (shown_record r)
  pub is : place ≡ journal_place periods r
  pub tenant : r.tenant < length holders
  pub room : place < length (list_at holders r.tenant)

-- a receipt of that list shows the record that it names, of which no receipt was known; now it is
pub record IsNoted (periods : List PeriodParts) (old new : List (List (Option ℕ))) (r : Receipt) (list : ℕ) (noted : ListPoint) : Type 0 where
  pub right : NamesRecord periods r (shown_record r)
  pub free : held_of periods old r ≡ Some None
  pub known : new ≡ slice_set old r.tenant (slice_set (list_at old r.tenant) (journal_place periods r) (Some list))
  pub is : noted ≡ point r.tenant (journal_place periods r)
  pub tenant : r.tenant < length old
  pub room : journal_place periods r < length (list_at old r.tenant)

-- why a receipt is refused
abbrev pub IsReceiptRefused : List PeriodParts → List (List (Option ℕ)) → Receipt → AuditFault → Type 0
IsReceiptRefused periods holders r NoPeriod = (x : Record) → ¬ (NamesRecord periods r x)
IsReceiptRefused periods holders r Differs = (x : Record) × NamesRecord periods r x × (shown_record r ≢ x)
IsReceiptRefused periods holders r Twice = NamesRecord periods r (shown_record r) × ((j : ℕ) × (held_of periods holders r ≡ Some (Some j)))
IsReceiptRefused periods holders r _ = ⊥

-- the place of a list comes before that one
abbrev pub IsBefore : (list place : ℕ) → (i n : ℕ) → Type 0
IsBefore list place i n = (list < i) ⊎ ((list ≡ i) × (place < n))

-- the receipts before that place of that list are known, and no others
pub record AreNoted (periods : List PeriodParts) (lists : List (List Receipt)) (holders : List (List (Option ℕ))) (i n : ℕ) : Type 0 where
  pub right : (j l : ℕ) (r : Receipt) → IsBefore j l i n → slice_get (list_at lists j) l ≡ Some r
      → NamesRecord periods r (shown_record r) × (held_of periods holders r ≡ Some (Some j))
  pub known : (t x j : ℕ) → slice_get (list_at holders t) x ≡ Some (Some j)
      → (l : ℕ) × (r : Receipt) × IsBefore j l i n × (slice_get (list_at lists j) l ≡ Some r) × (r.tenant ≡ t) × (journal_place periods r ≡ x)
  pub once : (j l k m : ℕ) (r s : Receipt) → IsBefore j l i n → IsBefore k m i n → slice_get (list_at lists j) l ≡ Some r
      → slice_get (list_at lists k) m ≡ Some s → NameOne r s → (j ≡ k) × (l ≡ m)

-- the points of the receipts of a list
abbrev pub points_in : List PeriodParts → List Receipt → List ListPoint
points_in periods list = map (λ r. point r.tenant (journal_place periods r)) list

-- a receipt holds the record of that number of a period
abbrev pub IsHeldAt : List PeriodParts → List (List (Option ℕ)) → PeriodParts → ℕ → Type 0
IsHeldAt periods holders p n =
    (j : ℕ) × (slice_get (list_at holders p.opening.tenant) (records_before periods p.opening.tenant p.opening.period + n) ≡ Some (Some j))

-- none does
abbrev pub IsFreeAt : List PeriodParts → List (List (Option ℕ)) → PeriodParts → ℕ → Type 0
IsFreeAt periods holders p n =
    slice_get (list_at holders p.opening.tenant) (records_before periods p.opening.tenant p.opening.period + n) ≡ Some None

-- each record of the period is held by a receipt
abbrev pub IsHeldWhole : List PeriodParts → List (List (Option ℕ)) → PeriodParts → Type 0
IsHeldWhole periods holders p = (n : ℕ) → n < length p.records → IsHeldAt periods holders p n

-- a record of the period is held by none
abbrev pub IsHeldNowhere : List PeriodParts → List (List (Option ℕ)) → PeriodParts → Type 0
IsHeldNowhere periods holders p = (n : ℕ) × (n < length p.records) × IsFreeAt periods holders p n
