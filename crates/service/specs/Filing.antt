-- The statements of closed periods: which must be kept, and the lines for those that are not.
use Rattle.std.specs.Prelude.{ℕ, ◌*◌, ◌≡◌, ◌≢◌, ◌⊎◌, min, max, Bool, true, false, List, [], ◌∷◌, ◌++◌, codes, string_bytes, Some}
use Rattle.std.specs.Fmt.{decimal}
use Rattle.std.specs.List.{slice_get}
use Rattle.one_list.specs.declared.run.Run.{Ghosts}
use Rattle.tenant_core.specs.declared.command.Command.{Command}
use Rattle.tenant_core.specs.declared.command.Command.TheVariants.{Roll}
use Rattle.tenant_core.specs.declared.period.PeriodParts.{PeriodParts}
use Rattle.statements.specs.Statement.{IsStatement}
use Rattle.service.specs.declared.filing.Filing.{Filing}
use Rattle.service.specs.declared.filing.Found.{Found}
use Rattle.service.specs.declared.filing.Found.TheVariants.{Nothing, Same, Other, Unknown}
use Rattle.service.specs.declared.office.Office.{Office}

-- a statement to keep: whose, of which period, and its text
pub record StatementToKeep : Type 0 where
  pub name : List ℕ
  pub period : ℕ
  pub text : List ℕ

-- it is the statement of that closed period
pub record IsStatedOf (p : PeriodParts) (s : StatementToKeep) : Type 0 where
  pub name : s.name ≡ p.opening.name
  pub period : s.period ≡ p.opening.period
  pub text : IsStatement s.text p

-- what a store is asked: what it has of the period of that statement
abbrev pub Telling : Type 0 → Type 1
Telling S = S → StatementToKeep → Found → S → Type 0

-- what a store does: it keeps a statement, or does not
abbrev pub Keeping : Type 0 → Type 1
Keeping S = S → StatementToKeep → Bool → S → Type 0

-- the store said that it has nothing of the period; then the statement was handed to it
pub record WasHanded {S : Type 0} (Tells : Telling S) (Keeps : Keeping S) (p : PeriodParts) (kept : Bool) (before after : S) : Type 0 where
  pub statement : StatementToKeep
  pub is_of : IsStatedOf p statement
  pub between : S
  pub is_new : Tells before statement Nothing between
  pub handed : Keeps between statement kept after

-- the store was asked for the statement, and gave an answer of this kind; nothing was handed to it
pub record WasStatementAsked {S : Type 0} (Tells : Telling S) (Is : Found → Type 0) (p : PeriodParts) (before after : S) : Type 0 where
  pub statement : StatementToKeep
  pub is_of : IsStatedOf p statement
  pub answer : Found
  pub is_such : Is answer
  pub told : Tells before statement answer after

-- the store did not keep the statement that was handed to it; then it was asked for it, and gave an answer of this kind
pub record WasAskedAgain {S : Type 0} (Tells : Telling S) (Keeps : Keeping S) (Is : Found → Type 0) (p : PeriodParts) (before after : S) : Type 0 where
  pub failed : S
  pub handed : WasHanded Tells Keeps p false before failed
  pub asked : WasStatementAsked Tells Is p failed after

-- A statement that is kept was new, and handed to the store, which keeps it or has it after all; or the store had exactly that one.
-- Another one was not kept by the store, or not handed to it: because another text is there or may be, or because memory ran out.
abbrev pub IsFiled : {S : Type 0} → Telling S → Keeping S → PeriodParts → (kept : Bool) → (before after : S) → Type 0
IsFiled Tells Keeps p true before after =
    WasHanded Tells Keeps p true before after
    ⊎ (WasAskedAgain Tells Keeps (λ found. found ≡ Same) p before after
    ⊎ WasStatementAsked Tells (λ found. found ≡ Same) p before after)
IsFiled Tells Keeps p false before after =
    WasAskedAgain Tells Keeps (λ found. found ≢ Same) p before after
    ⊎ (WasStatementAsked Tells (λ found. (found ≡ Other) ⊎ (found ≡ Unknown)) p before after ⊎ (after ≡ before))

-- the line of a period whose statement is not kept
unfoldable pub missing_line : PeriodParts → List ℕ
missing_line p = codes "statement " ++ p.opening.name ++ codes " " ++ decimal p.opening.period ++ codes " missing\n"

-- the line for a period: none if its statement is kept
abbrev pub line_unless : (kept : Bool) → PeriodParts → List ℕ
line_unless true p = []
line_unless false p = missing_line p

-- the statements of all were written, one after another, and these lines say which are not kept
abbrev pub AreFiled : {S : Type 0} → Telling S → Keeping S → List PeriodParts → (before after : S) → List ℕ → Type 0
AreFiled Tells Keeps [] before after lines = (after ≡ before) × (lines ≡ [])
AreFiled {S} Tells Keeps (p ∷ ps) before after lines =
    (kept : Bool) × (between : S) × (rest : List ℕ) × IsFiled Tells Keeps p kept before between
    × AreFiled Tells Keeps ps between after rest × (lines ≡ line_unless kept p ++ rest)

-- for how many milliseconds nothing is tried after tries that failed and took so many
abbrev pub pause_after : ℕ → ℕ
pause_after spent = max (min spent 2_000 * 4) 500

-- whether a command may close a period
abbrev pub is_roll : Command → Bool
is_roll Roll = true
is_roll _ = false

-- ---- files

-- the name of the file of a tenant's statement
abbrev pub statement_file : (name : List ℕ) → (period : ℕ) → List ℕ
statement_file name period = name ++ codes "." ++ decimal period ++ codes ".statement"

-- the path of a file in a folder
abbrev pub path_in : (folder file : List ℕ) → List ℕ
path_in folder file = folder ++ codes "/" ++ file

-- the file system gave these bytes of the file of that tenant's statement of that period, in the folder of the service's statements
pub record IsStatementRead {J : Type 0} {r : Ghosts J} (Reads : (path bytes : List ℕ) → Type 0) (office : Office J r) (tenant period : ℕ) (text : List ℕ)
    : Type 0 where
  pub filing : Filing
  pub kept : office.filing ≡ Some filing
  pub name : List ℕ
  pub named : slice_get office.names.items tenant ≡ Some name
  pub read : Reads (path_in (string_bytes filing.folder) (statement_file name period)) text
