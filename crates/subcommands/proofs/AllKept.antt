-- Statements that are kept, one after another.
use Rattle.std.proofs.Common.{◌≡◌, ℕ, List, [], ◌∷◌, Option, Some, None, true, ap, subst, sym, ◌∙◌}
use Rattle.std.specs.Prelude.{IfSome}
use Rattle.std.proofs.lemmas.Bool.{and_parts}
use Rattle.tenant_core.specs.declared.period.PeriodParts.{PeriodParts}
use Rattle.replay_text.specs.Closed.{HasTakenPeriods, TakesClosed, closed_by}
use Rattle.service.specs.Filing.{IsFiled, Keeping, Telling}
use Rattle.subcommands.specs.Filing.{AreStatementsKept, Files, KeepsClosed}
use Rattle.subcommands.specs.declared.filing.Filer.{Filer}

kept_before : {S : Type 0} (Tells : Telling S) (Keeps : Keeping S) (ps : List PeriodParts) (k l : Filer S) → HasTakenPeriods (Files Tells Keeps) ps k l
    → l.are_kept ≡ true → k.are_kept ≡ true
kept_before {S} Tells Keeps [] k l same all = subst (λ (x : Filer S). x.are_kept ≡ true) same all
kept_before Tells Keeps (p ∷ ps) k l (between, (kept, filed, is), others) all =
    (and_parts k.are_kept kept (sym is ∙ kept_before Tells Keeps ps between l others all)).0

all_kept : {S : Type 0} (Tells : Telling S) (Keeps : Keeping S) (ps : List PeriodParts) (k l : Filer S) → HasTakenPeriods (Files Tells Keeps) ps k l
    → l.are_kept ≡ true → AreStatementsKept Tells Keeps ps k.store l.store
all_kept {S} Tells Keeps [] k l same all = ap (λ (x : Filer S). x.store) same
all_kept {S} Tells Keeps (p ∷ ps) k l (between, (kept, filed, is), others) all =
    let both = and_parts k.are_kept kept (sym is ∙ kept_before Tells Keeps ps between l others all) in (
      between.store,
      subst (λ b. IsFiled Tells Keeps p b k.store between.store) both.1 filed,
      all_kept Tells Keeps ps between l others all,
    )

-- where all are kept in the end, the statements of all that was taken are
pub closed_kept : {S : Type 0} (Tells : Telling S) (Keeps : Keeping S) (setup : List ℕ) (workers : ℕ) (known : Option (List ℕ)) (k l : Filer S)
    → IfSome known (λ script. TakesClosed (Files Tells Keeps) setup workers script k l) → l.are_kept ≡ true
    → IfSome known (λ script. KeepsClosed Tells Keeps setup workers script k.store l.store)
closed_kept Tells Keeps setup workers None k l taken all = tt
closed_kept Tells Keeps setup workers (Some script) k l (written, is, taken) all =
    (written, is, all_kept Tells Keeps (closed_by is.outputs) k l taken all)
