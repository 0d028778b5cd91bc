-- Reading a script line by line, as a loop does.
use Rattle.std.proofs.Common.{◌≡◌, ℕ, ◌+◌, ◌≤◌, true, false, List, [], ◌∷◌, ◌++◌, length, Result, Ok, Err, refl, sym, ap, ◌∙◌, append_assoc}
use Rattle.std.proofs.lemmas.List.{append-nil}
use Rattle.std.proofs.lemmas.Bool.{le-ltb}
use Rattle.floor_core.specs.declared.step.Step.{Step}
use Rattle.replay_text.specs.declared.script.ScriptFault.{ScriptFault}
use Rattle.replay_text.specs.declared.script.ScriptFault.TheVariants.{Line}
use Rattle.replay_text.specs.declared.script.Meaning.{Meaning}
use Rattle.replay_text.specs.declared.script.Meaning.TheVariants.{Skipped, Runs, Bad}
use Rattle.replay_text.specs.SoFar.{IsReadTo, with_front}
use Rattle.replay_text.specs.Script.{is_bad, then_steps, meaning_of, steps_from, steps_of_script, lines_of}
use Rattle.replay_text.specs.declared.script.TheConstants.{MAX_SCRIPT}

-- nothing is read yet
pub nothing_read : (names : List (List ℕ)) (workers : ℕ) (script : List ℕ) → IsReadTo names workers script 1 script
nothing_read names workers script = ([], by (steps_from names workers 1 (lines_of script)))
  where
    by : (read : Result (List Step) ScriptFault) → with_front [] read ≡ read
    by (Ok steps) = refl
    by (Err fault) = refl

regroup : (front : List Step) (number : ℕ) (step : Step) (read : Result (List Step) ScriptFault) → with_front front (then_steps number (Runs step) read) ≡ with_front (front ++ step ∷ []) read
regroup front number step (Ok steps) = ap (λ (s : List Step). Ok s) (simp append_assoc)
regroup front number step (Err fault) = refl

-- what a line adds to the steps of those after it
one_line : (names : List (List ℕ)) (workers number : ℕ) (text line after : List ℕ) (meaning : Meaning) → lines_of text ≡ line ∷ lines_of after → meaning ≡ meaning_of names workers line
    → steps_from names workers number (lines_of text) ≡ then_steps number meaning (steps_from names workers (number + 1) (lines_of after))
unfolding steps_from
one_line names workers number text line after meaning h m = rw (h, m) refl

skips : (front : List Step) (names : List (List ℕ)) (workers number : ℕ) (text line after : List ℕ) (meaning : Meaning) (total : Result (List Step) ScriptFault) → lines_of text ≡ line ∷ lines_of after → meaning ≡ meaning_of names workers line → meaning ≡ Skipped
    → with_front front (steps_from names workers number (lines_of text)) ≡ total → with_front front (steps_from names workers (number + 1) (lines_of after)) ≡ total
skips front names workers number text line after meaning total h m is so_far =
    let one = one_line names workers number text line after Skipped h (sym is ∙ m) in
    ap (with_front front) (sym one) ∙ so_far

adds : (front : List Step) (names : List (List ℕ)) (workers number : ℕ) (text line after : List ℕ) (meaning : Meaning) (step : Step) (total : Result (List Step) ScriptFault) → lines_of text ≡ line ∷ lines_of after → meaning ≡ meaning_of names workers line → meaning ≡ Runs step
    → with_front front (steps_from names workers number (lines_of text)) ≡ total → with_front (front ++ step ∷ []) (steps_from names workers (number + 1) (lines_of after)) ≡ total
adds front names workers number text line after meaning step total h m is so_far =
    let one = one_line names workers number text line after (Runs step) h (sym is ∙ m) in
    sym (regroup front number step (steps_from names workers (number + 1) (lines_of after))) ∙ ap (with_front front) (sym one) ∙ so_far

-- a line that is not bad adds its step, if it has one
pub passes : (front : List Step) (names : List (List ℕ)) (workers number : ℕ) (text line after : List ℕ) (total : Result (List Step) ScriptFault) → lines_of text ≡ line ∷ lines_of after → is_bad (meaning_of names workers line) ≡ false
    → with_front front (steps_from names workers number (lines_of text)) ≡ total → (more : List Step) × (with_front more (steps_from names workers (number + 1) (lines_of after)) ≡ total)
passes front names workers number text line after total h good so_far = by (meaning_of names workers line) refl good
  where
    by : (m : Meaning) → m ≡ meaning_of names workers line → is_bad m ≡ false → (more : List Step) × (with_front more (steps_from names workers (number + 1) (lines_of after)) ≡ total)
    by Skipped is g = (front, skips front names workers number text line after Skipped total h is refl so_far)
    by (Runs step) is g = (front ++ step ∷ [], adds front names workers number text line after (Runs step) step total h is refl so_far)
    by Bad is g = absurd cc

-- what is bad is found bad
pub found_bad : (m : Meaning) → m ≡ Bad → is_bad m ≡ true
found_bad m e = rw e refl

-- what is good is not
pub not_bad : (m : Meaning) → ¬ (m ≡ Bad) → is_bad m ≡ false
not_bad Skipped good = refl
not_bad (Runs step) good = refl
not_bad Bad good = absurd (good refl)

-- what is found bad is
is_Bad : (m : Meaning) → is_bad m ≡ true → m ≡ Bad
is_Bad Skipped h = absurd cc
is_Bad (Runs step) h = absurd cc
is_Bad Bad h = refl

pub fails : (front : List Step) (names : List (List ℕ)) (workers number : ℕ) (text line after : List ℕ) (total : Result (List Step) ScriptFault) → lines_of text ≡ line ∷ lines_of after → is_bad (meaning_of names workers line) ≡ true
    → with_front front (steps_from names workers number (lines_of text)) ≡ total → total ≡ Err (Line number)
fails front names workers number text line after total h bad so_far =
    let one = one_line names workers number text line after Bad h (sym (is_Bad (meaning_of names workers line) bad)) in
    sym so_far ∙ ap (with_front front) one

pub ends : (front : List Step) (names : List (List ℕ)) (workers number : ℕ) (text : List ℕ) (total : Result (List Step) ScriptFault) → text ≡ []
    → with_front front (steps_from names workers number (lines_of text)) ≡ total → total ≡ Ok front
unfolding steps_from
ends front names workers number text total none so_far =
    let one : with_front front (steps_from names workers number (lines_of text)) ≡ Ok front = rw none (ap (λ (s : List Step). Ok s) (append-nil front)) in
    sym so_far ∙ one

pub reads_lines : (names : List (List ℕ)) (workers : ℕ) (text : List ℕ) → length text ≤ MAX_SCRIPT → steps_of_script names workers text ≡ steps_from names workers 1 (lines_of text)
unfolding steps_of_script
reads_lines names workers text short = rw (le-ltb MAX_SCRIPT (length text) short) refl
