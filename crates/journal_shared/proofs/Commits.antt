-- A log after one more commit.
use Rattle.std.proofs.Common.{◌≡◌, ℕ, List, [], ◌∷◌, ◌++◌, Option, None, Some, true, refl, ap, subst, sym, ◌∙◌, inl, inr}
use Rattle.std.specs.Prelude.{All, ◌⊎◌, Err, Ok, OnOk, Result, option_map}
use Rattle.std.proofs.lemmas.List.{append-nil}
use Rattle.std.proofs.lemmas.List.Elements.{All-cons, All-nil}
use Rattle.tenant_core.specs.declared.opening.Opening.{Opening}
use Rattle.line_log.specs.Log.{IsLines, IsSettled, recovered}
use Rattle.book_journal.specs.Writer.{AreCommitted, WriterState}
use Rattle.book_journal.specs.Written.{commit_text, sum_after_commit}
use Rattle.std.specs.List.{slice_get}
use Rattle.std.proofs.lemmas.Option.{same_Some, slice_get-map}
use Rattle.book_log.specs.declared.line.LinePlace.{LinePlace}
use Rattle.workers.specs.declared.keeping.JournalPlace.{JournalPlace}
use Rattle.journal_shared.specs.Fronts.{Front, end_of}
use Rattle.journal_shared.specs.Progress.{IsSaid}
use Rattle.journal_shared.specs.Kept.{AreLinesOfAll, BeginsLog, IsKept, IsWritten, covers, first_fronts, records_after}

-- nothing is written yet
pub written_first : {D : Type 0} (seen : D → List ℕ) (may_leave : D → List ℕ → Type 0) (openings : List Opening) (w : WriterState D)
    → BeginsLog seen may_leave openings w → IsWritten seen may_leave openings w (first_fronts openings)
written_first seen may_leave openings w begins = record {
  first = w;
  begins = begins;
  texts = [];
  records = refl;
  sum = refl;
  whole = tt;
  lines = refl;
  settled = inl (All-nil _);
}

-- a commit was acknowledged
pub written_more : {D : Type 0} (seen : D → List ℕ) (may_leave : D → List ℕ → Type 0) (openings : List Opening) (w after : WriterState D)
    (from to : List Front) (text : List ℕ) → IsWritten seen may_leave openings w from → AreLinesOfAll openings from text to
    → AreCommitted seen text w after → IsSettled seen may_leave after.log → IsWritten seen may_leave openings after to
written_more seen may_leave openings w after from to text old lines done settled = record {
  first = old.first;
  begins = old.begins;
  texts = text ∷ old.texts;
  records = done.acknowledged ∙ ap (λ (rs : List (List ℕ)). rs ++ recovered (commit_text w.sum text)) old.records
      ∙ ap (λ (s : List ℕ). records_after seen old.first old.texts ++ recovered (commit_text s text)) old.sum;
  sum = done.sum ∙ ap (λ (s : List ℕ). sum_after_commit s text) old.sum;
  whole = (subst (λ (s : List ℕ). IsLines (commit_text s text)) old.sum done.whole, old.whole);
  lines = (from, old.lines, lines);
  settled = inr settled;
}

-- a text was written if it could be
pub written_if_ok : {D V E : Type 0} (seen : D → List ℕ) (may_leave : D → List ℕ → Type 0) (openings : List Opening) (w after : WriterState D)
    (from to : List Front) (text : List ℕ) (told : Result V E) → IsWritten seen may_leave openings w from
    → AreLinesOfAll openings from text to → (text ≡ [] → ⊥) → OnOk told (AreCommitted seen text w after)
    → OnOk told ((text ≡ []) ⊎ IsSettled seen may_leave after.log) → OnOk told (IsWritten seen may_leave openings after to)
written_if_ok seen may_leave openings w after from to text (Ok v) old lines some done (inl none) = absurd (some none)
written_if_ok seen may_leave openings w after from to text (Ok v) old lines some done (inr settled) =
    written_more seen may_leave openings w after from to text old lines done settled
written_if_ok seen may_leave openings w after from to text (Err e) old lines some done settled = tt

none_more : {S : Type 0} (texts : List (List ℕ)) → All (λ text. text ≡ []) texts ⊎ S → All (λ text. text ≡ []) ([] ∷ texts) ⊎ S
none_more texts (inl none) = inl (All-cons (λ text. text ≡ []) [] texts refl none)
none_more texts (inr settled) = inr settled

-- no line was to be written
pub written_none : {D : Type 0} (seen : D → List ℕ) (may_leave : D → List ℕ → Type 0) (openings : List Opening) (w : WriterState D)
    (from to : List Front) → IsWritten seen may_leave openings w from → AreLinesOfAll openings from [] to
    → IsWritten seen may_leave openings w to
written_none seen may_leave openings w from to old lines = record {
  first = old.first;
  begins = old.begins;
  texts = [] ∷ old.texts;
  records = old.records ∙ sym (append-nil (records_after seen old.first old.texts));
  sum = old.sum;
  whole = (refl, old.whole);
  lines = (from, old.lines, lines);
  settled = none_more old.texts old.settled;
}

-- what is said to be kept of a tenant is
pub kept_by : {D : Type 0} (seen : D → List ℕ) (may_leave : D → List ℕ → Type 0) (openings : List Opening) (kept : List LinePlace) (place : JournalPlace)
    (own : LinePlace) → IsSaid seen may_leave openings kept → slice_get kept place.tenant ≡ Some own → covers own place ≡ true
    → IsKept seen may_leave openings place
kept_by seen may_leave openings kept place own said at covered = by (slice_get said.0 place.tenant) refl
  where
    ends : option_map (λ f. end_of f) (slice_get said.0 place.tenant) ≡ Some own
    ends = sym (slice_get-map (λ f. end_of f) said.0 place.tenant) ∙ (ap (λ (ps : List LinePlace). slice_get ps place.tenant) (sym said.2) ∙ at)

    by : (found : Option Front) → slice_get said.0 place.tenant ≡ found → IsKept seen may_leave openings place
    by None is = absurd (none (ap (option_map (λ f. end_of f)) (sym is) ∙ ends))
      where
        none : None ≡ Some own → ⊥
        none h = cc h
    by (Some f) is =
        let end : end_of f ≡ own = same_Some (end_of f) own (ap (option_map (λ f. end_of f)) (sym is) ∙ ends) in
        record {
          fronts = said.0;
          on_disk = said.1;
          own = f;
          at = is;
          covered = ap (λ (p : LinePlace). covers p place) end ∙ covered;
        }
