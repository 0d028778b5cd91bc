-- The steps of a script name workers and tenants that are there.
use Rattle.std.proofs.Common.{◌≡◌, ◌<◌, ℕ, ◌+◌, Bool, true, false, ltb, List, [], ◌∷◌, length, Option, refl, subst}
use Rattle.std.specs.List.{AllByRecursion, position_or_len}
use Rattle.std.specs.Prelude.{◌&&◌, All, Err, None, Ok, Result, Some, codes, if◌then◌else◌, option_and_then}
use Rattle.std.specs.Str.{bytes_eq}
use Rattle.std.proofs.lemmas.Bool.{and_parts, ltb-true}
use Rattle.std.proofs.lemmas.List.Elements.{All-from_recursion}
use Rattle.std.proofs.lemmas.Option.{same_Some}
use Rattle.std.specs.Result.{result_ok}
use Rattle.admin_text.specs.Commands.{command_among}
use Rattle.common_types.specs.Numerals.{is_numeral, value_of}
use Rattle.common_types.specs.Words.{words_of}
use Rattle.floor_core.specs.World.{FitsIn}
use Rattle.floor_core.specs.declared.step.Step.{Step}
use Rattle.replay_text.specs.Script.{answer_of, decide_step, frame_word, given_of, govern_of, is_empty, is_skipped, lines_of, load_of, meaning_of, moment_spelled, number_below, step_of_words, step_or_bad, steps_from, steps_of_script, tenant_named, then_steps, tick_of, token_word}
use Rattle.replay_text.specs.Words.{four_of, three_of, two_of}
use Rattle.replay_text.specs.declared.script.Meaning.{Meaning}
use Rattle.replay_text.specs.declared.script.Meaning.TheVariants.{Bad, Runs, Skipped}
use Rattle.replay_text.specs.declared.script.ScriptFault.{ScriptFault}

-- a step that is read fits
abbrev StepFits : ℕ → ℕ → Option Step → Type 0
StepFits workers tenants None = Unit {0}
StepFits workers tenants (Some s) = FitsIn workers tenants s

then_fits : {X : Type 0} (workers tenants : ℕ) (P : X → Type 0) (o : Option X) (f : X → Option Step) → ((x : X) → o ≡ Some x → P x)
    → ((x : X) → P x → StepFits workers tenants (f x)) → StepFits workers tenants (option_and_then f o)
then_fits workers tenants P None f is fits = tt
then_fits workers tenants P (Some x) f is fits = fits x (is x refl)

any_fits : {X : Type 0} (workers tenants : ℕ) (o : Option X) (f : X → Option Step) → ((x : X) → StepFits workers tenants (f x))
    → StepFits workers tenants (option_and_then f o)
any_fits workers tenants None f fits = tt
any_fits workers tenants (Some x) f fits = fits x

if_fits : (workers tenants : ℕ) (b : Bool) (x y : Option Step) → StepFits workers tenants x → StepFits workers tenants y
    → StepFits workers tenants (if b then x else y)
if_fits workers tenants true x y one two = one
if_fits workers tenants false x y one two = two

chosen : (b : Bool) (v n : ℕ) → (if b then Some v else None) ≡ Some n → (b ≡ true) × (v ≡ n)
chosen true v n is = (refl, same_Some v n is)
chosen false v n is = absurd (cc is)

not_empty : (b : Bool) (o : Option ℕ) (n : ℕ) → (if b then None else o) ≡ Some n → o ≡ Some n
not_empty true o n is = absurd (cc is)
not_empty false o n is = is

below : (bound : ℕ) (word : List ℕ) (n : ℕ) → number_below bound word ≡ Some n → n < bound
below bound word n is =
    let k = chosen (is_numeral word && ltb (value_of word) bound) (value_of word) n is in
    let both = and_parts (is_numeral word) (ltb (value_of word) bound) k.0 in
    subst (λ m. m < bound) k.1 (ltb-true (value_of word) bound both.1)

named : (names : List (List ℕ)) (word : List ℕ) (n : ℕ) → tenant_named names word ≡ Some n → n < length names
named names word n is =
    let place : ℕ = position_or_len (λ name. bytes_eq name word) names in
    let k = chosen (ltb place (length names)) place n (not_empty (is_empty word) _ n is) in
    subst (λ m. m < length names) k.1 (ltb-true place (length names) k.0)

load_fits : (names : List (List ℕ)) (workers : ℕ) (words : List ℕ × List ℕ × List ℕ × List ℕ) → StepFits workers (length names) (load_of names workers words)
load_fits names workers words =
    then_fits workers (length names) (λ n. n < workers) (number_below workers words.0) _ (below workers words.0)
    (λ worker here. then_fits workers (length names) (λ n. n < length names) (tenant_named names words.1) _ (named names words.1)
    (λ tenant there. any_fits workers (length names) (token_word words.2) _
    (λ token. any_fits workers (length names) (frame_word words.3) _ (λ bytes. (here, there)))))

decide_fits : (workers tenants : ℕ) (words : List ℕ × List ℕ) → StepFits workers tenants (decide_step workers words)
decide_fits workers tenants words =
    then_fits workers tenants (λ n. n < workers) (number_below workers words.0) _ (below workers words.0)
    (λ worker here. any_fits workers tenants (moment_spelled words.1) _ (λ now. here))

answer_fits : (workers tenants : ℕ) (words : List ℕ × List ℕ × List ℕ) → StepFits workers tenants (answer_of workers words)
answer_fits workers tenants words =
    then_fits workers tenants (λ n. n < workers) (number_below workers words.0) _ (below workers words.0)
    (λ worker here. any_fits workers tenants (moment_spelled words.1) _ (λ now. any_fits workers tenants (given_of words.2) _ (λ given. here)))

tick_fits : (names : List (List ℕ)) (workers : ℕ) (words : List ℕ × List ℕ) → StepFits workers (length names) (tick_of names words)
tick_fits names workers words =
    then_fits workers (length names) (λ n. n < length names) (tenant_named names words.0) _ (named names words.0)
    (λ tenant there. any_fits workers (length names) (moment_spelled words.1) _ (λ now. there))

govern_fits : (names : List (List ℕ)) (workers : ℕ) (words : List (List ℕ)) → StepFits workers (length names) (govern_of names words)
govern_fits names workers [] = tt
govern_fits names workers (tenant_word ∷ []) = tt
govern_fits names workers (tenant_word ∷ now_word ∷ words) =
    then_fits workers (length names) (λ n. n < length names) (tenant_named names tenant_word) _ (named names tenant_word)
    (λ tenant there. any_fits workers (length names) (moment_spelled now_word) _
    (λ now. any_fits workers (length names) (result_ok (command_among words)) _ (λ command. there)))

words_fit : (names : List (List ℕ)) (workers : ℕ) (words : List (List ℕ)) → StepFits workers (length names) (step_of_words names workers words)
words_fit names workers [] = tt
words_fit names workers (verb ∷ words) =
    let n = length names in
    if_fits workers n (bytes_eq verb (codes "load")) _ _ (any_fits workers n (four_of words) (load_of names workers) (load_fits names workers))
    (if_fits workers n (bytes_eq verb (codes "decide")) _ _ (any_fits workers n (two_of words) (decide_step workers) (decide_fits workers n))
    (if_fits workers n (bytes_eq verb (codes "answer")) _ _ (any_fits workers n (three_of words) (answer_of workers) (answer_fits workers n))
    (if_fits workers n (bytes_eq verb (codes "tick")) _ _ (any_fits workers n (two_of words) (tick_of names) (tick_fits names workers))
    (if_fits workers n (bytes_eq verb (codes "do")) _ _ (govern_fits names workers words) tt))))

abbrev MeaningFits : ℕ → ℕ → Meaning → Type 0
MeaningFits workers tenants Skipped = Unit {0}
MeaningFits workers tenants (Runs s) = FitsIn workers tenants s
MeaningFits workers tenants Bad = Unit {0}

if_means : (workers tenants : ℕ) (b : Bool) (x y : Meaning) → MeaningFits workers tenants x → MeaningFits workers tenants y
    → MeaningFits workers tenants (if b then x else y)
if_means workers tenants true x y one two = one
if_means workers tenants false x y one two = two

step_means : (workers tenants : ℕ) (o : Option Step) → StepFits workers tenants o → MeaningFits workers tenants (step_or_bad o)
step_means workers tenants None fits = tt
step_means workers tenants (Some s) fits = fits

line_means : (names : List (List ℕ)) (workers : ℕ) (line : List ℕ) → MeaningFits workers (length names) (meaning_of names workers line)
unfolding meaning_of
line_means names workers line =
    if_means workers (length names) _ Bad _ tt
    (if_means workers (length names) (is_skipped line) Skipped _ tt
    (step_means workers (length names) (step_of_words names workers (words_of line)) (words_fit names workers (words_of line))))

then_fit : (workers tenants number : ℕ) (m : Meaning) (r : Result (List Step) ScriptFault) (steps : List Step) → MeaningFits workers tenants m
    → ((ss : List Step) → r ≡ Ok ss → AllByRecursion (FitsIn workers tenants) ss) → then_steps number m r ≡ Ok steps
    → AllByRecursion (FitsIn workers tenants) steps
then_fit workers tenants number Skipped r steps fits more is = more steps is
then_fit workers tenants number (Runs s) (Ok ss) steps fits more is =
    let same : s ∷ ss ≡ steps = cc in
    subst (AllByRecursion (FitsIn workers tenants)) same (fits, more ss refl)
then_fit workers tenants number (Runs s) (Err fault) steps fits more is = absurd (cc is)
then_fit workers tenants number Bad r steps fits more is = absurd (cc is)

lines_fit : (names : List (List ℕ)) (workers : ℕ) (lines : List (List ℕ)) (number : ℕ) (steps : List Step) → steps_from names workers number lines ≡ Ok steps
    → AllByRecursion (FitsIn workers (length names)) steps
unfolding steps_from
lines_fit names workers [] number steps is =
    let same : [] ≡ steps = cc in subst (AllByRecursion (FitsIn workers (length names))) same tt
lines_fit names workers (line ∷ lines) number steps is =
    then_fit workers (length names) number (meaning_of names workers line) (steps_from names workers (number + 1) lines) steps
    (line_means names workers line) (λ ss h. lines_fit names workers lines (number + 1) ss h) is

sized : (b : Bool) (fault : ScriptFault) (r : Result (List Step) ScriptFault) (steps : List Step) → (if b then Err fault else r) ≡ Ok steps → r ≡ Ok steps
sized true fault r steps is = absurd (cc is)
sized false fault r steps is = is

pub script_fits : (names : List (List ℕ)) (workers : ℕ) (text : List ℕ) (steps : List Step) → steps_of_script names workers text ≡ Ok steps
    → All (FitsIn workers (length names)) steps
unfolding steps_of_script
script_fits names workers text steps is =
    All-from_recursion (FitsIn workers (length names)) steps
    (lines_fit names workers (lines_of text) 1 steps (sized _ _ (steps_from names workers 1 (lines_of text)) steps is))
