-- The journal that a replay keeps: its log has all records at the end, and a front of them at each moment.
use Rattle.std.proofs.Common.{◌≡◌, ◌⊎◌, ⊎_elim, ℕ, zero, suc, false, List, [], ◌∷◌, ◌++◌, length, refl, sym, ap, subst, ◌∙◌, inl, inr, Option, None}
use Rattle.std.specs.Prelude.{All, IfSome, Ok, Some, fold}
use Rattle.std.specs.List.{slice_get}
use Rattle.std.proofs.lemmas.List.{length-map}
use Rattle.std.proofs.lemmas.Option.{same_Some}
use Rattle.admin_text.specs.declared.setup.Setup.{Setup}
use Rattle.book_journal.specs.Written.{IsCommitted, Written, commit_text, noted}
use Rattle.book_log.specs.Written.{IsLoggable}
use Rattle.book_log.specs.declared.base.TenantStart.{TenantStart}
use Rattle.floor_core.specs.World.{FitsIn, World, world_at_start}
use Rattle.floor_core.specs.declared.step.Step.{Step}
use Rattle.journal_law.specs.Crashes.{AddsToLog, HasAdded}
use Rattle.journal_law.specs.Kept.{AreFirstStarts, HasAllWritten, HaveBegun, IsNewJournal, KeepsJournal}
use Rattle.line_log.specs.File.{LeavesOnly, Only}
use Rattle.line_log.specs.Log.{IsWithSome, LogState, lines, recovered}
use Rattle.replay_text.specs.Closed.{Taking}
use Rattle.replay_text.specs.Recorded.{HasRecorded, RecordsFor}
use Rattle.replay_text.specs.Replay.{names_in, world_of_setup}
use Rattle.replay_text.specs.Script.{steps_of_script}
use Rattle.tenant_core.specs.State.{State, opening_of}
use Rattle.tenant_core.specs.declared.terms.TenantTerms.{TenantTerms}
use Rattle.subcommands.specs.Journalling.{AreStartsOf, HasKept, journalling}
use Rattle.subcommands.specs.declared.journalling.Journalist.{Journalist}

-- ---- a commit

-- noting books leaves the log
noted_log : {D : Type 0} (books : List State) (j : Written D) → (fold noted j books).log ≡ j.log
noted_log [] j = refl
noted_log (b ∷ books) j = noted_log books (noted j b)

-- what a commit adds
committed : {D : Type 0} (seen : D → List ℕ) (moment : D → ℕ) (left_since : D → ℕ → List ℕ → Type 0) (books : List State) (before after : Written D)
    → IsCommitted seen (fold noted before books) after
    → LeavesOnly moment left_since before.log.file after.log.file (IsWithSome (recovered (seen before.log.file))
    (recovered (commit_text (fold noted before books).sum (fold noted before books).pending)))
    → HasAdded seen moment left_since before.log.file after.log.file
committed seen moment left_since books before after is leaves = record {
  more = recovered (commit_text (fold noted before books).sum (fold noted before books).pending);
  added = is.acknowledged
      ∙ ap (λ (l : LogState _). recovered (seen l.file) ++ recovered (commit_text (fold noted before books).sum (fold noted before books).pending))
      (noted_log books before);
  any_moment = leaves;
}

-- a commit writes nothing, or adds what it writes
pub adds : {D : Type 0} (seen : D → List ℕ) (moment : D → ℕ) (left_since : D → ℕ → List ℕ → Type 0) (books : List State) (before after : Written D)
    → IsCommitted seen (fold noted before books) after → ((after.log ≡ before.log) ⊎ (before.log.broken ≡ false))
    → (before.log.broken ≡ false → (after.log ≡ before.log) ⊎ LeavesOnly moment left_since before.log.file after.log.file
    (IsWithSome (recovered (seen before.log.file)) (recovered (commit_text (fold noted before books).sum (fold noted before books).pending))))
    → (after.log.file ≡ before.log.file) ⊎ HasAdded seen moment left_since before.log.file after.log.file
adds seen moment left_since books before after is (inl same) any = inl (ap (λ (l : LogState _). l.file) same)
adds seen moment left_since books before after is (inr unbroken) any =
    ⊎_elim (λ same. inl (ap (λ (l : LogState _). l.file) same)) (λ leaves. inr (committed seen moment left_since books before after is leaves))
    (any unbroken)

-- ---- the recorder

module _ {D K : Type 0} (seen : D → List ℕ) (moment : D → ℕ) (left_since : D → ℕ → List ℕ → Type 0) (Takes : Taking K) where
  keeps_journal : KeepsJournal IsLoggable seen (journalling seen moment left_since Takes) (λ (k : Journalist D K). k.journal)
  keeps_journal = record {
    takes = λ before p after h. h.noted;
    keeps = λ before world after h. h.kept;
  }

  adds_to_log : AddsToLog seen moment left_since (journalling seen moment left_since Takes) (λ (k : Journalist D K). k.journal.log.file)
  adds_to_log = record {
    takes = λ before p after h. ap (λ (l : LogState D). l.file) h.log;
    keeps = λ before world after h. h.added;
  }

  abbrev pub KeptLaw : Type 0
  KeptLaw = (journal : Journalist D K → Written D) (starts : List TenantStart) (sum : List ℕ) (workers : ℕ) (world left : World)
      (steps : List Step) (first last : Journalist D K) → KeepsJournal IsLoggable seen (journalling seen moment left_since Takes) journal
      → IsNewJournal seen sum starts (journal first) → HaveBegun world starts → All (FitsIn workers (length starts)) steps
      → HasRecorded (journalling seen moment left_since Takes) world steps left first last
      → HasAllWritten sum (lines (recovered (seen (journal last).log.file))) starts left

  abbrev pub CrashLaw : (D → List ℕ → Type 0) → Type 0
  CrashLaw may_leave = (file : Journalist D K → D) (world left : World) (steps : List Step) (first last : Journalist D K)
      → AddsToLog seen moment left_since (journalling seen moment left_since Takes) file → Only (seen (file first)) (may_leave (file first))
      → HasRecorded (journalling seen moment left_since Takes) world steps left first last
      → HasAdded seen moment left_since (file first) (file last)

  -- what a recorded replay keeps
  pub all_kept : KeptLaw
      → ((names : List (List ℕ)) (workers : ℕ) (text : List ℕ) (steps : List Step) → steps_of_script names workers text ≡ Ok steps
      → All (FitsIn workers (length names)) steps)
      → ((setups : List TenantTerms) (start : ℕ) (starts : List TenantStart) → AreFirstStarts setups start starts
      → HaveBegun (world_at_start setups start) starts)
      → (setup : Setup) (workers : ℕ) (first last : Journalist D K) (known : Option (List ℕ))
      → IfSome known (λ script. RecordsFor (journalling seen moment left_since Takes) setup workers script first last)
      → IfSome known (λ script. (starts : List TenantStart) → AreStartsOf setup starts → IsNewJournal seen first.journal.sum starts first.journal
      → HasKept (journalling seen moment left_since Takes) seen starts setup workers script first last)
  all_kept law fits begun setup workers first last None h = tt
  all_kept law fits begun setup workers first last (Some script) h = λ starts are new.
      let many : length (names_in setup) ≡ length starts = length-map setup.tenants _ ∙ sym are.all in
      let fit : All (FitsIn workers (length starts)) h.0 =
      subst (λ n. All (FitsIn workers n) h.0) many (fits (names_in setup) workers script h.0 h.1) in
      record {
        steps = h.0;
        steps_are = h.1;
        left = h.2;
        recorded = h.3;
        all = law (λ k. k.journal) starts first.journal.sum workers (world_of_setup setup) h.2 h.0 first last keeps_journal new
            (begun setup.tenants setup.start starts are.first) fit h.3;
      }

  -- what a crash leaves of it
  pub front_left : (may_leave : D → List ℕ → Type 0) → CrashLaw may_leave
      → (setup : Setup) (workers : ℕ) (first last : Journalist D K) (known : Option (List ℕ))
      → IfSome known (λ script. RecordsFor (journalling seen moment left_since Takes) setup workers script first last)
      → IfSome known (λ script. Only (seen first.journal.log.file) (may_leave first.journal.log.file)
      → HasAdded seen moment left_since first.journal.log.file last.journal.log.file)
  front_left may_leave law setup workers first last None h = tt
  front_left may_leave law setup workers first last (Some script) h = λ durable.
      law (λ k. k.journal.log.file) (world_of_setup setup) h.2 h.0 first last adds_to_log durable h.3

-- ---- the start

got_behind : (xs : List TenantStart) (y : TenantStart) (t : ℕ) (x : TenantStart) → slice_get (xs ++ y ∷ []) t ≡ Some x
    → (slice_get xs t ≡ Some x) ⊎ ((t ≡ length xs) × (y ≡ x))
got_behind [] y zero x got = inr (refl, same_Some y x got)
got_behind [] y (suc t) x got = absurd (cc got)
got_behind (z ∷ xs) y zero x got = inl got
got_behind (z ∷ xs) y (suc t) x got = ⊎_elim (λ there. inl there) (λ last. inr (ap suc last.0, last.1)) (got_behind xs y t x got)

-- one tenant more begins its first period
pub one_start_more : (setups : List TenantTerms) (start : ℕ) (starts : List TenantStart) (s : TenantStart) (terms : TenantTerms)
    → AreFirstStarts setups start starts → slice_get setups (length starts) ≡ Some terms → s.opening ≡ opening_of (length starts) terms start
    → AreFirstStarts setups start (starts ++ s ∷ [])
one_start_more setups start starts s terms first there is = λ t x got.
    ⊎_elim (λ before. first t x before)
    (λ last. (
      terms,
      ap (λ n. slice_get setups n) last.0 ∙ there,
      ap (λ (y : TenantStart). y.opening) (sym last.1) ∙ is ∙ ap (λ n. opening_of n terms start) (sym last.0),
    )) (got_behind starts s t x got)
