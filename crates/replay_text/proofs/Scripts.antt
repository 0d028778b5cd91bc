-- What the steps of numbered lines are, and which line is named.
use Rattle.std.proofs.Common.{◌≡◌, ◌⊎◌, ℕ, ◌+◌, List, [], ◌∷◌, ◌++◌, length, Bool, true, false, cond, Result, Ok, Err, refl, sym, ap, ◌∙◌, inl, inr, arith}
use Rattle.std.specs.Prelude.{◌≤◌, OnOk, nat_lt}
use Rattle.std.proofs.lemmas.List.Elements.{filter_map-append}
use Rattle.std.specs.List.{filter_map, cons_option, AllByRecursion}
use Rattle.floor_core.specs.declared.step.Step.{Step}
use Rattle.replay_text.specs.declared.script.ScriptFault.{ScriptFault}
use Rattle.replay_text.specs.declared.script.ScriptFault.TheVariants.{Size, Line}
use Rattle.common_types.specs.declared.read_error.ReadError.{ReadError}
use Rattle.common_types.specs.declared.read_error.ReadError.TheVariants as errors
use Rattle.replay_text.specs.declared.script.Meaning.{Meaning}
use Rattle.replay_text.specs.declared.script.Meaning.TheVariants.{Skipped, Runs, Bad}
use Rattle.replay_text.specs.Script.{then_steps, meaning_of, steps_from, steps_in, steps_of_script, lines_of, step_in, IsBad, IsCheckedAs, AreSteps, IsFirstBad, NoneIsBad}
use Rattle.replay_text.specs.SoFar.{IsReadTo, with_front}
use Rattle.common_types.specs.Outcomes.{Fails}
use Rattle.replay_text.specs.declared.script.TheConstants.{MAX_SCRIPT}
use Rattle.replay_text.proofs.Fronts.{reads_lines}

-- ---- one line before the others

good_first : (number : ℕ) (meaning : Meaning) (rest : Result (List Step) ScriptFault) (steps : List Step) → then_steps number meaning rest ≡ Ok steps
    → (others : List Step) × (rest ≡ Ok others) × (meaning ≡ Bad → ⊥) × (steps ≡ cons_option (step_in meaning) others)
good_first number Skipped rest steps h = (steps, h, λ e. cc, refl)
good_first number (Runs step) (Ok others) steps h = (others, refl, λ e. cc, cc)
good_first number (Runs step) (Err fault) steps h = absurd cc
good_first number Bad rest steps h = absurd cc

first_again : (number : ℕ) (meaning : Meaning) (rest : Result (List Step) ScriptFault) (others : List Step) → (meaning ≡ Bad → ⊥) → rest ≡ Ok others
    → then_steps number meaning rest ≡ Ok (cons_option (step_in meaning) others)
first_again number Skipped rest others good h = h
first_again number (Runs step) rest others good h = rw h refl
first_again number Bad rest others good h = absurd (good refl)

bad_first : (number : ℕ) (meaning : Meaning) (rest : Result (List Step) ScriptFault) (named : ℕ) → then_steps number meaning rest ≡ Err (Line named)
    → ((meaning ≡ Bad) × (named ≡ number)) ⊎ ((meaning ≡ Bad → ⊥) × (rest ≡ Err (Line named)))
bad_first number Skipped rest named h = inr (λ e. cc, h)
bad_first number (Runs step) (Ok others) named h = absurd cc
bad_first number (Runs step) (Err fault) named h = inr (λ e. cc, h)
bad_first number Bad rest named h = inl (refl, cc)

size_last : (number : ℕ) (meaning : Meaning) (rest : Result (List Step) ScriptFault) → (rest ≡ Err Size → ⊥) → then_steps number meaning rest ≡ Err Size → ⊥
size_last number Skipped rest no_size h = no_size h
size_last number (Runs step) (Ok others) no_size h = cc
size_last number (Runs step) (Err fault) no_size h = no_size h
size_last number Bad rest no_size h = cc

-- ---- all lines

pub steps_are : (names : List (List ℕ)) (workers number : ℕ) (lines : List (List ℕ)) (steps : List Step) → steps_from names workers number lines ≡ Ok steps → AreSteps names workers lines steps
unfolding steps_from
steps_are names workers number [] steps h = record { no_bad = tt; in_order = cc }
steps_are names workers number (line ∷ lines) steps h =
    let first = good_first number (meaning_of names workers line) (steps_from names workers (number + 1) lines) steps h in
    let others = steps_are names workers (number + 1) lines first.0 first.1 in
    record { no_bad = (first.2, others.no_bad); in_order = first.3 ∙ ap (cons_option (step_in (meaning_of names workers line))) others.in_order }

pub steps_again : (names : List (List ℕ)) (workers number : ℕ) (lines : List (List ℕ)) (steps : List Step) → AreSteps names workers lines steps → steps_from names workers number lines ≡ Ok steps
unfolding steps_from
steps_again names workers number [] steps are = ap (λ (s : List Step). Ok s) (sym are.in_order)
steps_again names workers number (line ∷ lines) steps are =
    let others = filter_map (λ (l : List ℕ). step_in (meaning_of names workers l)) lines in
    let rest = steps_again names workers (number + 1) lines others (record { no_bad = are.no_bad.1; in_order = refl }) in
    first_again number (meaning_of names workers line) (steps_from names workers (number + 1) lines) others are.no_bad.0 rest ∙ ap (λ (s : List Step). Ok s) (sym are.in_order)

-- the first bad line, where the lines are numbered from there on
record BadFrom (names : List (List ℕ)) (workers number : ℕ) (lines : List (List ℕ)) (named : ℕ) : Type 0 where
  before : List (List ℕ)
  line : List ℕ
  after : List (List ℕ)
  parts : lines ≡ before ++ line ∷ after
  place : named ≡ length before + number
  none_before : AllByRecursion (λ l. IsBad names workers l → ⊥) before
  is_bad : IsBad names workers line

bad_from : (names : List (List ℕ)) (workers number : ℕ) (lines : List (List ℕ)) (named : ℕ) → steps_from names workers number lines ≡ Err (Line named) → BadFrom names workers number lines named
unfolding steps_from
bad_from names workers number [] named h = absurd cc
bad_from names workers number (line ∷ lines) named h =
    elim (bad_first number (meaning_of names workers line) (steps_from names workers (number + 1) lines) named h) [
      | inl here ↦ record { before = []; line = line; after = lines; parts = refl; place = omega (arith, here.1); none_before = tt; is_bad = here.0 }
      | inr later ↦
          let found = bad_from names workers (number + 1) lines named later.1 in
          record { before = line ∷ found.before; line = found.line; after = found.after; parts = ap (λ (ls : List (List ℕ)). line ∷ ls) found.parts; place = omega (arith, found.place); none_before = (later.0, found.none_before); is_bad = found.is_bad }
    ]

pub first_bad : (names : List (List ℕ)) (workers : ℕ) (lines : List (List ℕ)) (named : ℕ) → steps_from names workers 1 lines ≡ Err (Line named) → IsFirstBad names workers lines named
first_bad names workers lines named h =
    let found = bad_from names workers 1 lines named h in
    record { before = found.before; line = found.line; after = found.after; parts = found.parts; place = found.place; none_before = found.none_before; is_bad = found.is_bad }

pub never_size : (names : List (List ℕ)) (workers number : ℕ) (lines : List (List ℕ)) → steps_from names workers number lines ≡ Err Size → ⊥
unfolding steps_from
never_size names workers number [] h = cc
never_size names workers number (line ∷ lines) h =
    size_last number (meaning_of names workers line) (steps_from names workers (number + 1) lines) (never_size names workers (number + 1) lines) h

-- ---- what a check gave

pub checked_ok : (result : Result (Unit {0}) (ReadError ScriptFault)) (names : List (List ℕ)) (workers number : ℕ) (lines : List (List ℕ)) → IsCheckedAs result (steps_from names workers number lines) → OnOk result ((steps : List Step) × AreSteps names workers lines steps)
checked_ok (Ok done) names workers number lines given = (given.0, steps_are names workers number lines given.0 given.1)
checked_ok (Err e) names workers number lines given = tt

pub checked_err : (result : Result (Unit {0}) (ReadError ScriptFault)) (read : Result (List Step) ScriptFault) (fault : ScriptFault) → IsCheckedAs result read → result ≡ Err (errors.Fault fault) → read ≡ Err fault
checked_err (Ok done) read fault given is = absurd cc
checked_err (Err errors.Memory) read fault given is = absurd cc
checked_err (Err (errors.Fault f)) read fault given is = cc

-- ---- the steps of lines that are good

-- a good line's step, and those of the lines behind it
pub steps_behind : (names : List (List ℕ)) (workers : ℕ) (line : List ℕ) (lines : List (List ℕ)) → steps_in names workers (line ∷ []) ++ steps_in names workers lines ≡ steps_in names workers (line ∷ lines)
steps_behind names workers line lines = sym (filter_map-append (λ (l : List ℕ). step_in (meaning_of names workers l)) (line ∷ []) lines)

-- the steps of a script are those of its lines
pub script_steps : (names : List (List ℕ)) (workers : ℕ) (text : List ℕ) (steps : List Step) → steps_of_script names workers text ≡ Ok steps → steps ≡ steps_in names workers (lines_of text)
unfolding steps_of_script
script_steps names workers text steps e = by (nat_lt MAX_SCRIPT (length text)) e
  where
    by : (b : Bool) → cond b (Err Size) (steps_from names workers 1 (lines_of text)) ≡ Ok steps → steps ≡ steps_in names workers (lines_of text)
    by true e = absurd cc
    by false e = (steps_are names workers 1 (lines_of text) steps e).in_order

-- the steps of a script that was found good
pub good_steps : (names : List (List ℕ)) (workers : ℕ) (text : List ℕ) → length text ≤ MAX_SCRIPT → (steps : List Step) × AreSteps names workers (lines_of text) steps → steps_of_script names workers text ≡ Ok (steps_in names workers (lines_of text))
good_steps names workers text short found =
    reads_lines names workers text short ∙ (steps_again names workers 1 (lines_of text) found.0 found.1 ∙ ap (λ (ss : List Step). Ok ss) found.1.in_order)

-- ---- the rest of a script

-- if the rest is good, the script is
pub steps_of_whole : (names : List (List ℕ)) (workers number : ℕ) (script rest : List ℕ) → length script ≤ MAX_SCRIPT → IsReadTo names workers script number rest
    → (steps : List Step) × (steps_from names workers number (lines_of rest) ≡ Ok steps) → steps_of_script names workers script ≡ Ok (steps_in names workers (lines_of script))
steps_of_whole names workers number script rest short read found =
    let all : steps_from names workers 1 (lines_of script) ≡ Ok (read.0 ++ found.0) = sym read.1 ∙ ap (with_front read.0) found.1 in
    good_steps names workers script short (read.0 ++ found.0, steps_are names workers 1 (lines_of script) (read.0 ++ found.0) all)

-- and no line of the rest is bad
pub rest_is_good : (names : List (List ℕ)) (workers number : ℕ) (rest : List ℕ) → (steps : List Step) × (steps_from names workers number (lines_of rest) ≡ Ok steps) → NoneIsBad names workers (lines_of rest)
rest_is_good names workers number rest found = (steps_are names workers number (lines_of rest) found.0 found.1).no_bad

-- a fault of the rest is that of the script
pub rest_fails : (names : List (List ℕ)) (workers number : ℕ) (script rest : List ℕ) (error : ReadError ScriptFault) → length script ≤ MAX_SCRIPT → IsReadTo names workers script number rest
    → Fails error (steps_from names workers number (lines_of rest)) → Fails error (steps_of_script names workers script)
rest_fails names workers number script rest errors.Memory short read fails = tt
rest_fails names workers number script rest (errors.Fault fault) short read fails =
    reads_lines names workers script short ∙ (sym read.1 ∙ ap (with_front read.0) fails)
