-- Lines that are written, and what they leave of the books.
use Rattle.std.specs.Prelude.{ℕ, ◌≡◌, ◌≤◌, List, [], ◌∷◌, ◌++◌, map, slice_set, true, Some, Result, Ok, Err}
use Rattle.std.specs.List.{slice_get}
use Rattle.book_recovery.specs.Recovery.{after_record}
use Rattle.common_types.specs.Token.{is_token}
use Rattle.common_types.specs.declared.read_error.ReadError.{ReadError}
use Rattle.common_types.specs.declared.read_error.ReadError.TheVariants.{Memory, Fault}
use Rattle.ilp_addr.specs.Target.{IsTarget}
use Rattle.line_log.specs.Log.{all_of, lines}
use Rattle.statements.specs.ReadBack.{IsWritable}
use Rattle.statements.specs.Reading.{max_number}
use Rattle.tenant_core.specs.Replay.{outcome_of}
use Rattle.tenant_core.specs.State.{State}
use Rattle.tenant_core.specs.declared.journal.Change.{Change as Changed}
use Rattle.tenant_core.specs.declared.journal.Change.TheVariants.{PeerAdded}
use Rattle.tenant_core.specs.declared.journal.Entry.{Entry}
use Rattle.tenant_core.specs.declared.journal.Entry.TheVariants.{Change}
use Rattle.tenant_core.specs.declared.journal.Record.{Record}
use Rattle.tenant_core.specs.declared.terms.PeerTerms.{PeerTerms}
use Rattle.book_log.specs.Lines.{log_line, place_of}
use Rattle.book_log.specs.Sums.{summed}
use Rattle.book_log.specs.declared.line.LinePlace.{LinePlace}

-- ---- what a line can hold: what the types of its parts keep

-- the place of a record in a book
pub record IsPlace (p : LinePlace) : Type 0 where
  pub tenant : p.tenant ≤ 65_535
  pub period : p.period ≤ max_number
  pub number : p.number ≤ max_number

-- the token of a peer is one, and its target is that of its URL and its token
pub record AreSecrets (t : PeerTerms) : Type 0 where
  pub token : is_token t.token ≡ true
  pub target : IsTarget t.target.url t.target.token t.target

abbrev pub AreChangeSecrets : Changed → Type 0
AreChangeSecrets (PeerAdded t) = AreSecrets t
AreChangeSecrets _ = Unit {0}

abbrev pub AreEntrySecrets : Entry → Type 0
AreEntrySecrets (Change c) = AreChangeSecrets c.change
AreEntrySecrets _ = Unit {0}

-- a record that a statement can state, and the secrets of a peer that it adds
pub record IsLoggable (r : Record) : Type 0 where
  pub stated : IsWritable r
  pub secrets : AreEntrySecrets r.entry

-- ---- lines that are written

-- the line is that of one tenant's next record, which is what its entry leads to; it leaves the books so
pub record IsWritten (line : List ℕ) (before after : List State) : Type 0 where
  pub tenant : ℕ
  pub state : State
  pub its_own : slice_get before tenant ≡ Some state
  pub number : state.opening.tenant ≡ tenant
  pub place : IsPlace (place_of state)
  pub next : Record
  pub loggable : IsLoggable next
  pub leads : outcome_of state next.entry ≡ Some next.outcome
  pub is_line : line ++ 10 ∷ [] ≡ log_line (place_of state) next
  pub left : after ≡ slice_set before tenant (after_record state next)

-- each line is written, one after another
abbrev pub AreWritten : List (List ℕ) → List State → List State → Type 0
AreWritten [] before after = before ≡ after
AreWritten (line ∷ lines) before after = (between : List State) × IsWritten line before between × AreWritten lines between after

-- the text is commits, the lines of each with their sum, and then lines whose sum is not there; all of them are written
pub record IsTextWritten (first text : List ℕ) (before after : List State) : Type 0 where
  pub commits : List (List (List ℕ))
  pub others : List (List ℕ)
  pub is : text ≡ summed first (map lines commits) ++ lines others
  pub written : AreWritten (all_of commits ++ others) before after

-- if the text is written, it leaves the books so
abbrev pub IsOnlyEnd : (first text : List ℕ) → (before now : List State) → Type 0
IsOnlyEnd first text before now = (after : List State) → IsTextWritten first text before after → now ≡ after

-- the text is not written
abbrev pub IsNotWritten : (first text : List ℕ) → List State → Type 0
IsNotWritten first text before = (after : List State) → IsTextWritten first text before after → ⊥

-- a fault was found
abbrev pub HasFault : {V F : Type 0} → Result V (ReadError F) → Type 0
HasFault (Ok _) = ⊥
HasFault (Err Memory) = ⊥
HasFault (Err (Fault _)) = Unit {0}
