-- Steps that are done, kept and printed one after the other.
use Rattle.std.proofs.Common.{◌≡◌, ◌⊎◌, ℕ, List, [], ◌∷◌, ◌++◌, length, take, drop, Option, refl, sym, ap, subst, ◌∙◌, append-nil, inl, inr, Result, Ok, Err}
use Rattle.std.specs.Prelude.{◌≤◌, IfSome, OnOk}
use Rattle.std.specs.Io.KnownBytes.{Appends, IsAtEnd, Keeps}
use Rattle.common_types.specs.declared.read_error.ReadError.TheVariants.{Fault}
use Rattle.std.proofs.KnownBytes.{Consumes-all, Appends-kept, Appends-nil, Appends-trans, Keeps-trans}
use Rattle.std.proofs.Math.Seq.{take-append_seam}
use Rattle.std.proofs.lemmas.List.{append_assoc, take-append-drop}
use Rattle.floor_core.specs.World.{World}
use Rattle.floor_core.specs.declared.step.Step.{Step}
use Rattle.replay_text.specs.Closed.{Closes}
use Rattle.replay_text.specs.Recorded.{HasFollowed, HasRecorded, PrintsOnceKept, Recording, RecordsFor}
use Rattle.replay_text.specs.Recorded.HasFollowed.{Done, Kept, Nothing}
use Rattle.admin_text.specs.declared.setup.Setup.{Setup}
use Rattle.replay_text.specs.Replay.{ArePrinted, Prints, WritesLines, names_in, world_of_setup}
use Rattle.replay_text.specs.Script.{lines_of, steps_from, steps_in, steps_of_script}
use Rattle.replay_text.specs.Streams.{AppendsFront, TakesBehind}
use Rattle.replay_text.specs.declared.script.ScriptFault.{ScriptFault}
use Rattle.replay_text.specs.declared.script.TheConstants.{MAX_SCRIPT}
use Rattle.replay_text.proofs.Fronts.{nothing_read}
use Rattle.replay_text.proofs.Pieces.{Laws, prints_behind, prints_more, prints_none}
use Rattle.replay_text.proofs.Scripts.{rest_fails, steps_behind}
use Rattle.replay_text.proofs.Starts.{of_known, parsed_for}

-- how far the steps of a list are done, and printed
pub record Along {K : Type 0} (R : Recording K) (names : List (List ℕ)) (w : World) (steps rest : List Step) (first now : K) (left : World)
    (text : List ℕ) (old new : Option (List ℕ)) : Type 0 where
  pub done : List Step
  pub split : done ++ rest ≡ steps
  pub followed : HasFollowed R w first done left now
  pub written : List ℕ
  pub appended : Appends old new written
  pub printed : Prints names done w left [] (written ++ text)

-- none is
pub along_none : {K : Type 0} → Laws → (R : Recording K) (names : List (List ℕ)) (w : World) (steps : List Step) (k : K) (text : List ℕ) (old : Option (List ℕ)) → text ≡ []
    → Along R names w steps steps k k w text old old
along_none laws R names w steps k text old empty = record {
  done = [];
  split = refl;
  followed = Nothing;
  written = [];
  appended = Appends-nil old;
  printed = subst (λ t. Prints names [] w w [] t) (sym empty) (prints_none laws names w []);
}

-- a line more is
pub along_line : {K : Type 0} → Laws → (R : Recording K) (names : List (List ℕ)) (workers : ℕ) (w : World) (steps : List Step) (rest line behind : List ℕ) (first k l : K)
    (m n : World) (text longer : List ℕ) (old new : Option (List ℕ)) → lines_of rest ≡ line ∷ lines_of behind
    → Along R names w steps (steps_in names workers (lines_of rest)) first k m text old new
    → Prints names (steps_in names workers (line ∷ [])) m n text longer
    → Closes R.takes (steps_in names workers (line ∷ [])) m n k l
    → Along R names w steps (steps_in names workers (lines_of behind)) first l n longer old new
along_line laws R names workers w steps rest line behind first k l m n text longer old new starts far prints closes =
    let piece : List Step = steps_in names workers (line ∷ []) in
    let later : List Step = steps_in names workers (lines_of behind) in
    let split : piece ++ later ≡ steps_in names workers (lines_of rest) =
    steps_behind names workers line (lines_of behind) ∙ ap (steps_in names workers) (sym starts) in
    record {
      done = far.done ++ piece;
      split = append_assoc far.done piece later ∙ (ap (λ ss. far.done ++ ss) split ∙ far.split);
      followed = Done far.done piece m n k l far.followed closes;
      written = far.written;
      appended = far.appended;
      printed = prints_more laws names far.done piece w m n [] (far.written ++ text) (far.written ++ longer) far.printed
          (prints_behind names piece m n far.written text longer prints);
    }

-- what is printed so far is kept, and then written
pub along_written : {K : Type 0} (R : Recording K) (names : List (List ℕ)) (w : World) (steps rest : List Step) (first k l : K) (m : World)
    (text empty : List ℕ) (old between new : Option (List ℕ)) → Along R names w steps rest first k m text old between → R.keeps k m l → Appends between new text → empty ≡ []
    → Along R names w steps rest first l m empty old new
along_written R names w steps rest first k l m text empty old between new far keeps more none = record {
  done = far.done;
  split = far.split;
  followed = Kept far.done m k l far.followed keeps;
  written = far.written ++ text;
  appended = Appends-trans old between new far.written text far.appended more;
  printed = subst (λ t. Prints names far.done w m [] t)
      (sym (append-nil (far.written ++ text)) ∙ ap (λ t. (far.written ++ text) ++ t) (sym none)) far.printed;
}

-- a front of it was written
pub along_front : {K : Type 0} (R : Recording K) (names : List (List ℕ)) (w : World) (steps rest : List Step) (first k l : K) (m : World)
    (text : List ℕ) (old between new : Option (List ℕ)) → Along R names w steps rest first k m text old between → R.keeps k m l → AppendsFront text between new
    → PrintsOnceKept R names w steps first old new
along_front R names w steps rest first k l m text old between new far keeps front =
    let here : List ℕ = take front.0 text in
    let behind : List ℕ = drop front.0 text in
    let split : far.written ++ text ≡ (far.written ++ here) ++ behind =
    ap (λ t. far.written ++ t) (sym (take-append-drop front.0 text)) ∙ sym (append_assoc far.written here behind) in
    let done : Appends old new (far.written ++ here) = Appends-trans old between new far.written here far.appended front.1 in
    let same : take (length (far.written ++ here)) (far.written ++ text) ≡ far.written ++ here =
    ap (take (length (far.written ++ here))) split ∙ take-append_seam (far.written ++ here) behind in
    inr (record {
      done = far.done;
      rest = rest;
      front = far.split;
      left = m;
      last = l;
      recorded = record { before = k; followed = far.followed; kept = keeps };
      text = far.written ++ text;
      printed = far.printed;
      written = (length (far.written ++ here), subst (Appends old new) (sym same) done);
    })

-- nothing more was written
pub printed_kept : {K : Type 0} (R : Recording K) (names : List (List ℕ)) (w : World) (steps : List Step) (first : K) (old between new : Option (List ℕ))
    → PrintsOnceKept R names w steps first old between → Keeps between new → PrintsOnceKept R names w steps first old new
printed_kept R names w steps first old between new (inl kept) more = inl (Keeps-trans old between new kept more)
printed_kept R names w steps first old between new (inr far) more =
    inr (record {
      done = far.done;
      rest = far.rest;
      front = far.front;
      left = far.left;
      last = far.last;
      recorded = far.recorded;
      text = far.text;
      printed = far.printed;
      written = (far.written.0, Appends-kept old between new (take far.written.0 far.text) far.written.1 more);
    })

-- a front that was kept was written, or nothing more
pub printed_on : {K : Type 0} (R : Recording K) (names : List (List ℕ)) (w : World) (steps rest : List Step) (first k l : K) (m : World)
    (text : List ℕ) (old between new : Option (List ℕ)) → PrintsOnceKept R names w steps first old between
    → Along R names w steps rest first k m text old between
    → Keeps between new ⊎ (R.keeps k m l × AppendsFront text between new) → PrintsOnceKept R names w steps first old new
printed_on R names w steps rest first k l m text old between new before far (inl kept) = printed_kept R names w steps first old between new before kept
printed_on R names w steps rest first k l m text old between new before far (inr (keeps, front)) =
    along_front R names w steps rest first k l m text old between new far keeps front

-- all of it was
pub along_all : {K : Type 0} (R : Recording K) (names : List (List ℕ)) (w : World) (steps : List Step) (first k : K) (m : World) (text : List ℕ) (old between new : Option (List ℕ))
    → Along R names w steps [] first k m text old between → Appends between new text → WritesLines names w steps old new
along_all R names w steps first k m text old between new far last =
    let all : far.done ≡ steps = sym (append-nil far.done) ∙ far.split in (
      far.written ++ text,
      subst (λ (ss : List Step). ArePrinted names w ss (far.written ++ text)) all (far.printed.0, far.printed.1, far.printed.3),
      Appends-trans old between new far.written text far.appended last,
    )

-- and all of it is kept
pub along_recorded : {K : Type 0} (R : Recording K) (names : List (List ℕ)) (w : World) (steps : List Step) (first k l : K) (m : World) (text : List ℕ) (old new : Option (List ℕ))
    → Along R names w steps [] first k m text old new → R.keeps k m l → HasRecorded R w steps m first l
along_recorded R names w steps first k l m text old new far keeps =
    let all : far.done ≡ steps = sym (append-nil far.done) ∙ far.split in
    record { before = k; followed = subst (λ (ss : List Step). HasFollowed R w first ss m k) all far.followed; kept = keeps }

-- ---- results

pub on_ok : {A E P Q : Type 0} (result : Result A E) → (P → Q) → OnOk result P → OnOk result Q
on_ok (Ok a) f p = f p
on_ok (Err e) f p = tt

-- ---- scripts that were read

-- the bytes that were taken are all that there were
pub all_read : (old new : Option (List ℕ)) (text : List ℕ) → TakesBehind old new [] text → IsAtEnd new → IfSome old (λ bytes. text ≡ bytes)
all_read old new text (taken, consumed, is) ended = Consumes-all old new taken [] text consumed ended is

-- a fault of its lines is that of the script
pub script_fails : (names : List (List ℕ)) (workers : ℕ) (known : Option (List ℕ)) (script : List ℕ) (fault : ScriptFault) → IfSome known (λ bytes. script ≡ bytes)
    → length script ≤ MAX_SCRIPT → steps_from names workers 1 (lines_of script) ≡ Err fault → IfSome known (λ s. steps_of_script names workers s ≡ Err fault)
script_fails names workers known script fault is short bad =
    of_known (λ s. steps_of_script names workers s ≡ Err fault) known script is
    (rest_fails names workers 1 script script (Fault fault) short (nothing_read names workers script) bad)

-- what was recorded of the steps of a script is recorded for its setup
pub recorded_for : {A E K : Type 0} (R : Recording K) (names : List (List ℕ)) (workers : ℕ) (setup : Setup) (known : Option (List ℕ)) (script same : List ℕ) (result : Result A E)
    (w left : World) (first last : K) → names ≡ names_in setup → steps_of_script names workers script ≡ Ok (steps_in names workers (lines_of script)) → w ≡ world_of_setup setup
    → IfSome known (λ bytes. script ≡ bytes) → same ≡ script → OnOk result (HasRecorded R w (steps_in names workers (lines_of same)) left first last)
    → OnOk result (IfSome known (λ s. RecordsFor R setup workers s first last))
recorded_for R names workers setup known script same result w left first last named parsed new is whole done =
    let steps : List Step = steps_in names workers (lines_of script) in
    on_ok result (λ recorded. of_known (λ s. RecordsFor R setup workers s first last) known script is (
      steps,
      parsed_for names workers setup script (Ok steps) named parsed,
      left,
      subst (λ (x : World). HasRecorded R x steps left first last) new
          (subst (λ s. HasRecorded R w (steps_in names workers (lines_of s)) left first last) whole recorded),
    )) done
