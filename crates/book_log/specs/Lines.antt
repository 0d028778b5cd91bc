-- The line of a record in the journal on disk, and books that take up such lines.
use Rattle.std.specs.Prelude.{ℕ, ◌≡◌, List, [], ◌∷◌, ◌++◌, length, codes, slice_set, Some}
use Rattle.std.specs.Fmt.{decimal}
use Rattle.std.specs.List.{slice_get}
use Rattle.book_recovery.specs.Recovery.{after_record}
use Rattle.line_log.specs.Log.{lines}
use Rattle.statements.specs.Statement.{number, record_line, spaced}
use Rattle.tenant_core.specs.Replay.{outcome_of}
use Rattle.tenant_core.specs.State.{State}
use Rattle.tenant_core.specs.declared.journal.Change.{Change as Changed}
use Rattle.tenant_core.specs.declared.journal.Change.TheVariants.{PeerAdded}
use Rattle.tenant_core.specs.declared.journal.Entry.{Entry}
use Rattle.tenant_core.specs.declared.journal.Entry.TheVariants.{Change}
use Rattle.tenant_core.specs.declared.journal.Record.{Record}
use Rattle.tenant_core.specs.declared.terms.PeerTerms.{PeerTerms}
use Rattle.book_log.specs.Reading.{line_said}
use Rattle.book_log.specs.declared.line.LinePlace.{LinePlace}

-- ---- a line

-- the token of a peer, its URL, and the token that its packets have (RFC 0035, "Authentication")
abbrev pub secrets_of : PeerTerms → List (List ℕ)
secrets_of t = t.token ∷ t.target.url ∷ t.target.token ∷ []

-- what no statement has of a change: the secrets of a peer that is added
abbrev pub change_secrets : Changed → List (List ℕ)
change_secrets (PeerAdded t) = codes "with" ∷ secrets_of t
change_secrets _ = []

abbrev pub entry_secrets : Entry → List (List ℕ)
entry_secrets (Change c) = change_secrets c.change
entry_secrets _ = []

-- the line of a record: the tenant's number, the period, how many records of the period come before it, an added peer's secrets,
-- and the record as a statement has it
unfoldable pub log_line : LinePlace → Record → List ℕ
log_line p r =
    decimal p.tenant ++ number p.period ++ number p.number ++ spaced (entry_secrets r.entry) ++ 32 ∷ record_line r

-- the place of the next record of a state
abbrev pub place_of : State → LinePlace
place_of s = record { tenant = s.opening.tenant; period = s.opening.period; number = length s.records }

-- ---- lines that are taken up

-- the line is that of the next record of a state, which is what its entry leads to; the line says just that place and that entry
pub record IsNext (line : List ℕ) (before after : State) : Type 0 where
  pub next : Record
  pub said : line_said line ≡ Some (place_of before, next.entry)
  pub is_line : line ++ 10 ∷ [] ≡ log_line (place_of before) next
  pub leads : outcome_of before next.entry ≡ Some next.outcome
  pub left : after ≡ after_record before next

-- the line is that of one tenant's next record; the other tenants stay as they are
pub record IsTaken (line : List ℕ) (before after : List State) : Type 0 where
  pub tenant : ℕ
  pub state : State
  pub its_own : slice_get before tenant ≡ Some state
  pub number : state.opening.tenant ≡ tenant
  pub later : State
  pub is_next : IsNext line state later
  pub left : after ≡ slice_set before tenant later

-- each line is taken up, one after another
abbrev pub AreTaken : List (List ℕ) → List State → List State → Type 0
AreTaken [] before after = before ≡ after
AreTaken (line ∷ lines) before after = (between : List State) × IsTaken line before between × AreTaken lines between after

-- the text is lines, each of which is taken up
pub record AreLinesTaken (text : List ℕ) (before after : List State) : Type 0 where
  pub each : List (List ℕ)
  pub written : text ≡ lines each
  pub taken : AreTaken each before after
