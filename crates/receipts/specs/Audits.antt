-- Receipts and closed periods: when they fit, and in which order the receipts come.
use Rattle.std.specs.Prelude.{ℕ, ◌≡◌, ◌≢◌, ◌+◌, ◌<◌, ◌==◌, ◌&&◌, ◌⊎◌, nat_lt, if◌then◌else◌, List, length, map, count_by, sum_by, slice_get, Some, Contains}
use Rattle.tenant_core.specs.declared.journal.Record.{Record}
use Rattle.tenant_core.specs.declared.period.PeriodParts.{PeriodParts}
use Rattle.joint_order.specs.Orders.{IsStuck, TakesEveryPoint, list_at, point}
use Rattle.joint_order.specs.declared.point.ListPoint.{ListPoint}
use Rattle.receipts.specs.declared.receipt.Receipt.{Receipt}

-- ---- what a receipt names

-- the record that a receipt shows
abbrev pub shown_record : Receipt → Record
shown_record r = record { entry = r.entry; outcome = r.verdict }

-- the period is that of a tenant, of that number
abbrev pub IsNumbered : (tenant number : ℕ) → PeriodParts → Type 0
IsNumbered tenant number p = (p.opening.tenant ≡ tenant) × (p.opening.period ≡ number)

-- the receipt names that record: the one of its number, in the period of its number of its tenant
abbrev pub NamesRecord : List PeriodParts → Receipt → Record → Type 0
NamesRecord periods r x =
    (p : PeriodParts) × Contains periods p × IsNumbered r.tenant r.period p × (slice_get p.records r.number ≡ Some x)

-- the receipt is one of those of the lists
abbrev pub IsAmong : List (List Receipt) → Receipt → Type 0
IsAmong lists r = (i : ℕ) × (k : ℕ) × (slice_get (list_at lists i) k ≡ Some r)

-- both receipts name one entry
abbrev pub NameOne : Receipt → Receipt → Type 0
NameOne r s = (r.tenant ≡ s.tenant) × (r.period ≡ s.period) × (r.number ≡ s.number)

-- ---- what can be wrong

-- a receipt names no entry
abbrev pub NamesNothing : List PeriodParts → List (List Receipt) → Type 0
NamesNothing periods lists = (r : Receipt) × IsAmong lists r × ((x : Record) → ¬ (NamesRecord periods r x))

-- a tenant's period occurs twice, or a period is not its tenant's first and no period ends in the state that it opens
abbrev pub HasGap : List PeriodParts → Type 0
HasGap periods =
    ((j : ℕ) × (k : ℕ) × (p : PeriodParts) × (q : PeriodParts) × (j ≢ k) × (slice_get periods j ≡ Some p)
    × (slice_get periods k ≡ Some q) × IsNumbered q.opening.tenant q.opening.period p)
    ⊎ ((q : PeriodParts) × Contains periods q × (q.opening.period ≢ 0)
    × ((p : PeriodParts) → Contains periods p → p.ending ≢ q.opening))

-- two receipts name one entry
abbrev pub NamesTwice : List (List Receipt) → Type 0
NamesTwice lists =
    (i : ℕ) × (k : ℕ) × (j : ℕ) × (l : ℕ) × (r : Receipt) × (s : Receipt) × (slice_get (list_at lists i) k ≡ Some r)
    × (slice_get (list_at lists j) l ≡ Some s) × ¬ ((i ≡ j) × (k ≡ l)) × NameOne r s

-- no receipt names an entry of the periods
abbrev pub LacksReceipt : List PeriodParts → List (List Receipt) → Type 0
LacksReceipt periods lists =
    (p : PeriodParts) × (n : ℕ) × Contains periods p × (n < length p.records)
    × ((r : Receipt) → IsAmong lists r → ¬ (IsNumbered r.tenant r.period p × (r.number ≡ n)))

-- a receipt shows another record than the one that it names
abbrev pub ShowsAnother : List PeriodParts → List (List Receipt) → Type 0
ShowsAnother periods lists = (r : Receipt) × (x : Record) × IsAmong lists r × NamesRecord periods r x × (shown_record r ≢ x)

-- ---- when they fit

-- each tenant's periods are 0 to some number, each once, and each opens the state in which the one before it ended
pub record AreJoined (periods : List PeriodParts) : Type 0 where
  pub once : (j k : ℕ) (p q : PeriodParts) → slice_get periods j ≡ Some p → slice_get periods k ≡ Some q
      → IsNumbered q.opening.tenant q.opening.period p → j ≡ k
  pub led : (q : PeriodParts) → Contains periods q
      → (q.opening.period ≡ 0) ⊎ ((p : PeriodParts) × Contains periods p × (p.ending ≡ q.opening))

-- each receipt shows the record that it names, no two name the same one, and each record is named
pub record AreMatched (periods : List PeriodParts) (lists : List (List Receipt)) : Type 0 where
  pub joined : AreJoined periods
  pub right : (r : Receipt) → IsAmong lists r → NamesRecord periods r (shown_record r)
  pub once : (i k j l : ℕ) (r s : Receipt) → slice_get (list_at lists i) k ≡ Some r → slice_get (list_at lists j) l ≡ Some s
      → NameOne r s → (i ≡ j) × (k ≡ l)
  pub all : (p : PeriodParts) (n : ℕ) → Contains periods p → n < length p.records
      → (r : Receipt) × IsAmong lists r × IsNumbered r.tenant r.period p × (r.number ≡ n)

-- ---- in which order

-- how many records the periods of a tenant before the one of that number have
abbrev pub records_before : List PeriodParts → (tenant number : ℕ) → ℕ
records_before periods tenant number =
    sum_by (λ p. if (p.opening.tenant == tenant) && nat_lt p.opening.period number then length p.records else 0) periods

-- the place of a receipt's entry in its tenant's journal, counted over all its periods
abbrev pub journal_place : List PeriodParts → Receipt → ℕ
journal_place periods r = records_before periods r.tenant r.period + r.number

-- of each receipt its tenant, and that place
abbrev pub points_of : List PeriodParts → List (List Receipt) → List (List ListPoint)
points_of periods lists = map (λ list. map (λ r. point r.tenant (journal_place periods r)) list) lists

-- The receipts fit, and each number of the order takes the next receipt of that list, which names its tenant's first entry
-- that was not taken, until none is left.
pub record IsComplete (periods : List PeriodParts) (lists : List (List Receipt)) (order : List ℕ) : Type 0 where
  pub matched : AreMatched periods lists
  pub takes : TakesEveryPoint (points_of periods lists) order

-- The first receipts of each list, up to the front, name the first entries of each tenant's journal. One is left, and
-- no list's next one names its tenant's next entry.
abbrev pub IsStuckAt : List PeriodParts → List (List Receipt) → (front : ℕ → ℕ) → Type 0
IsStuckAt periods lists front = IsStuck (points_of periods lists) front

-- ---- how many

-- how many tenants have a period: of each one has the number 0
abbrev pub tenant_count : List PeriodParts → ℕ
tenant_count periods = count_by (λ p. p.opening.period == 0) periods

-- how many receipts there are
abbrev pub receipts_of : List (List Receipt) → ℕ
receipts_of lists = sum_by (λ list. length list) lists
