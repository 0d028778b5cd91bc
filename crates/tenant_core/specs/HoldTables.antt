-- The holds of a period, and the table of those that await their answers.
use Rattle.std.specs.Prelude.{ℕ, ◌≡◌, ◌<◌, true, List, length, count_by, Some}
use Rattle.std.specs.List.{slice_get}
use Rattle.tenant_core.specs.Holds.{is_open}
use Rattle.tenant_core.specs.declared.hold.Hold.{Hold}

-- the holds in the order of their numbers, for how many there is room, and the places of those that await their answers
pub record Table : Type 0 where
  pub holds : List Hold
  pub room : ℕ
  pub awaiting : List ℕ

-- what holds of the hold at a place, if there is one
abbrev pub HoldAt : List Hold → ℕ → (Hold → Type 0) → Type 0
HoldAt hs place P = (h : Hold) → slice_get hs place ≡ Some h → P h

-- a place is in a list of places
pub record IsListed (places : List ℕ) (place : ℕ) : Type 0 where
  pub at : ℕ
  pub inside : at < length places
  pub there : slice_get places at ≡ Some place

-- each hold that awaits its answer is in the table
abbrev pub IsComplete : Table → Type 0
IsComplete t = (place : ℕ) (h : Hold) → slice_get t.holds place ≡ Some h → is_open h ≡ true → IsListed t.awaiting place

-- the table has the places of the open holds, each once, and each slot is the index of its place in it
pub record IsIndexed (hs : List Hold) (awaiting slots : List ℕ) : Type 0 where
  -- each hold has a slot
  pub same : length slots ≡ length hs
  -- the slot of a place in the table is that place's index there, and the hold is open
  pub told : (k place : ℕ) → slice_get awaiting k ≡ Some place → slice_get slots place ≡ Some k
  pub held : (k place : ℕ) (h : Hold) → slice_get awaiting k ≡ Some place → slice_get hs place ≡ Some h
      → is_open h ≡ true
  -- an open hold is in the table at the index in its slot
  pub listed : (place k : ℕ) (h : Hold) → slice_get hs place ≡ Some h → is_open h ≡ true
      → slice_get slots place ≡ Some k → slice_get awaiting k ≡ Some place
  pub count : length awaiting ≡ count_by is_open hs
