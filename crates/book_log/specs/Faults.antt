-- Which line of a journal is wrong, and how.
use Rattle.std.specs.Prelude.{ℕ, ◌≡◌, ◌≢◌, ◌+◌, ◌==◌, true, List, [], ◌∷◌, ◌++◌, map, None, Some, Result, Ok, Err}
use Rattle.std.specs.List.{All, count_by}
use Rattle.common_types.specs.declared.read_error.ReadError.{ReadError}
use Rattle.common_types.specs.declared.read_error.ReadError.TheVariants.{Memory, Fault}
use Rattle.line_log.specs.Log.{all_of, lines}
use Rattle.line_log.specs.Sums.{sum_after}
use Rattle.sha2.specs.Sha256.{sha256}
use Rattle.statements.specs.Reading.{text_lines}
use Rattle.tenant_core.specs.Reopening.{opening_fault}
use Rattle.tenant_core.specs.State.{State}
use Rattle.tenant_core.specs.declared.opening.Opening.{Opening}
use Rattle.book_log.specs.Base.{IsBase, admins_of, states_of}
use Rattle.book_log.specs.Lines.{AreTaken}
use Rattle.book_log.specs.OneBase.{IsStart}
use Rattle.book_log.specs.Sums.{IsTextTaken, is_sum, sum_line, summed}
use Rattle.book_log.specs.Written.{IsWritten}
use Rattle.book_log.specs.declared.base.TenantStart.{TenantStart}
use Rattle.book_log.specs.declared.reopening.JournalFault.{JournalFault}
use Rattle.book_log.specs.declared.reopening.JournalFault.TheVariants.{Base, Limit, Log}
use Rattle.book_log.specs.declared.taking.LineFault.{LineFault}
use Rattle.book_log.specs.declared.taking.LineFault.TheVariants.{Record, Sum}

-- how many line feeds a text has
abbrev pub feeds : List ℕ → ℕ
feeds text = count_by (λ b. b == 10) text

-- that holds of the fault, if one was found
abbrev pub OnFault : {V F : Type 0} → Result V (ReadError F) → (F → Type 0) → Type 0
OnFault (Ok v) P = Unit {0}
OnFault (Err Memory) P = Unit {0}
OnFault (Err (Fault fault)) P = P fault

-- ---- lines

-- something is left, and it does not begin with a line that is written next
pub record IsNoNext (rest : List ℕ) (now : List State) : Type 0 where
  pub some : rest ≢ []
  pub other : (line later : List ℕ) (after : List State) → rest ≡ line ++ 10 ∷ later → IsWritten line now after → ⊥

-- So many lines of a text are taken up, and what is left does not begin with a line that is written next. Nor does it with
-- more text after it, unless that continues a line which no line feed ends.
pub record StopsAt (text : List ℕ) (before : List State) (number : ℕ) : Type 0 where
  pub each : List (List ℕ)
  pub rest : List ℕ
  pub now : List State
  pub parts : text ≡ lines each ++ rest
  pub taken : AreTaken each before now
  pub number_is : number ≡ feeds (lines each)
  pub some : rest ≢ []
  pub stops : (more : List ℕ) → (feeds rest ≡ 0 → more ≡ []) → IsNoNext (rest ++ more) now

-- the next line states a sum, and not that after these lines
pub record IsOtherSum (sum : List ℕ) (others : List (List ℕ)) (rest : List ℕ) : Type 0 where
  pub line : List ℕ
  pub later : List ℕ
  pub next : text_lines rest ≡ line ∷ text_lines later
  pub marked : is_sum line ≡ true
  pub differs : line ++ 10 ∷ [] ≢ sum_line (sha256 (sum ++ lines others))

-- the fault names that line, and it is so
abbrev pub IsWrong : LineFault → ℕ → (sum : List ℕ) (others : List (List ℕ)) (rest : List ℕ) (now : List State) → Type 0
IsWrong (Record at) number sum others rest now = (at ≡ number) × IsNoNext rest now
IsWrong (Sum at) number sum others rest now = (at ≡ number) × IsOtherSum sum others rest

-- a log is taken up as far as the line that the fault names: commits, each with its sum, and lines of the next one
pub record IsFaultOf (first text : List ℕ) (before : List State) (fault : LineFault) : Type 0 where
  pub commits : List (List (List ℕ))
  pub others : List (List ℕ)
  pub rest : List ℕ
  pub now : List State
  pub parts : text ≡ summed first (map lines commits) ++ lines others ++ rest
  pub taken : AreTaken (all_of commits ++ others) before now
  pub wrong : IsWrong fault (feeds (summed first (map lines commits) ++ lines others) + 1) (sum_after first (map lines commits)) others rest now

-- ---- journals

-- it is a fault of the log, and names its line
abbrev pub IsLogFault : (first log : List ℕ) → List State → JournalFault → Type 0
IsLogFault first log before (Base fault) = ⊥
IsLogFault first log before (Limit tenant fault) = ⊥
IsLogFault first log before (Log fault) = IsFaultOf first log before fault

-- a period begins with the opening of a tenant
abbrev pub Opens : TenantStart → Type 0
Opens start = opening_fault start.opening ≡ None

-- no period begins with the opening of that tenant, and why
abbrev pub IsLimit : ℕ → Opening → JournalFault → Type 0
IsLimit tenant opening (Base fault) = ⊥
IsLimit tenant opening (Limit number fault) = (number ≡ tenant) × (opening_fault opening ≡ Some fault)
IsLimit tenant opening (Log fault) = ⊥

-- the base is that of these tenants, each at the beginning of a period
pub record IsBegun (base : List ℕ) (starts : List TenantStart) (first : List ℕ) : Type 0 where
  pub based : IsBase base starts first
  pub begin : All IsStart starts

-- what a fault of the log says of a base and a log
abbrev pub IsFaultAt : (base log : List ℕ) → JournalFault → Type 0
IsFaultAt base log (Base fault) = Unit {0}
IsFaultAt base log (Limit tenant fault) = Unit {0}
IsFaultAt base log (Log fault) =
    (starts : List TenantStart) × (first : List ℕ) × IsBegun base starts first × IsFaultOf first log (states_of starts) fault

-- the books of the base's tenants after the log, and the tokens of their operators
pub record IsReopening (base log : List ℕ) (books : List State) (admins : List (List ℕ)) : Type 0 where
  pub starts : List TenantStart
  pub first : List ℕ
  pub begun : IsBegun base starts first
  pub taken : IsTextTaken first log (states_of starts) books
  pub operators : admins ≡ admins_of starts
