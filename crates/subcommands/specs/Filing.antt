-- The statements of the periods that a replay closes.
use Rattle.std.specs.Prelude.{ℕ, ◌≡◌, ◌&&◌, Bool, true, List, [], ◌∷◌}
use Rattle.tenant_core.specs.declared.period.PeriodParts.{PeriodParts}
use Rattle.replay_text.specs.Closed.{closed_by}
use Rattle.replay_text.specs.Replay.{IsReplayed}
use Rattle.service.specs.Filing.{IsFiled, Keeping, Telling}
use Rattle.subcommands.specs.declared.filing.Filer.{Filer}

-- the statement of the period had to be kept, and it is known whether all are kept so far
abbrev pub Files : {S : Type 0} → Telling S → Keeping S → Filer S → PeriodParts → Filer S → Type 0
Files Tells Keeps before p after =
    (kept : Bool) × IsFiled Tells Keeps p kept before.store after.store × (after.are_kept ≡ (before.are_kept && kept))

-- the statements of all these periods are kept, one after another
abbrev pub AreStatementsKept : {S : Type 0} → Telling S → Keeping S → List PeriodParts → (before after : S) → Type 0
AreStatementsKept Tells Keeps [] before after = after ≡ before
AreStatementsKept {S} Tells Keeps (p ∷ ps) before after = (between : S) × IsFiled Tells Keeps p true before between × AreStatementsKept Tells Keeps ps between after

-- The setup and the script are well formed, and the statements of just the periods are kept that the outputs of the script's steps
-- say were closed.
abbrev pub KeepsClosed : {S : Type 0} → Telling S → Keeping S → List ℕ → ℕ → List ℕ → (before after : S) → Type 0
KeepsClosed Tells Keeps setup_text workers script before after =
    (written : List ℕ) × (is : IsReplayed setup_text workers script written) × AreStatementsKept Tells Keeps (closed_by is.outputs) before after
