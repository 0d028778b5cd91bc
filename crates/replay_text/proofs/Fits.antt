-- The step of a line names a worker and a tenant that are there, and what it brings are bytes.
use Rattle.std.proofs.Common.{◌≡◌, ◌<◌, ℕ, List, [], ◌∷◌, length, Bool, true, false, cond, Option, Some, None, Err, refl, subst}
use Rattle.std.specs.Prelude.{All, IfSome, codes, ◌&&◌, nat_lt}
use Rattle.std.specs.List.{cons_option, position}
use Rattle.std.specs.Result.{result_ok}
use Rattle.std.specs.Str.{bytes_eq}
use Rattle.admin_text.specs.Commands.{command_among}
use Rattle.std.proofs.lemmas.Bool.{ltb-true, lt-ltb, and_parts}
use Rattle.std.proofs.lemmas.Option.{cond_some, option_and_then_some}
use Rattle.std.proofs.lemmas.List.Elements.{All-cons, All-nil}
use Rattle.std.proofs.lemmas.List.Quantifiers.{position-Some}
use Rattle.replay_text.specs.Script.{moment_spelled, given_of, answer_of, tick_of, govern_of, step_behind, number_below, tenant_named, token_word, frame_word, load_of, decide_step, step_of_words, meaning_of}
use Rattle.common_types.specs.Words.{words_of}
use Rattle.common_types.specs.Numerals.{is_numeral, value_of}
use Rattle.replay_text.specs.Script.{is_empty, is_skipped, step_in, step_or_bad, steps_in, steps_of_script}
use Rattle.replay_text.specs.declared.script.Meaning.{Meaning}
use Rattle.replay_text.specs.declared.script.Meaning.TheVariants.{Skipped, Runs, Bad}
use Rattle.replay_text.specs.declared.script.ScriptFault.{ScriptFault}
use Rattle.floor_core.specs.Forwards.{HasBytes}
use Rattle.floor_core.specs.World.{FitsIn}
use Rattle.replay_text.specs.Words.{two_of, three_of, four_of}
use Rattle.replay_text.specs.declared.script.TheConstants.{MAX_SCRIPT}
use Rattle.replay_text.proofs.Octets.{frame_bytes}
use Rattle.floor_core.specs.declared.step.Step.{Step}
use Rattle.floor_core.specs.declared.step.Step.TheVariants.{Load, Decide, Answer, Tick, Govern}

some_is : {A : Type 0} (x y : A) → (let o : Option A = Some x in o) ≡ Some y → x ≡ y
some_is x y e = cc

none_or_chosen : {A : Type 0} (b : Bool) (o : Option A) (y : A) → cond b None o ≡ Some y → o ≡ Some y
none_or_chosen true o y e = absurd cc
none_or_chosen false o y e = e

number_fits : (bound : ℕ) (word : List ℕ) (n : ℕ) → number_below bound word ≡ Some n → n < bound
number_fits bound word n e =
    let c = cond_some (is_numeral word && nat_lt (value_of word) bound) (value_of word) n e in
    let low : value_of word < bound = ltb-true (value_of word) bound (and_parts (is_numeral word) (nat_lt (value_of word) bound) c.0).1 in
    subst (λ (k : ℕ). k < bound) c.1 low

tenant_fits : (names : List (List ℕ)) (word : List ℕ) (n : ℕ) → tenant_named names word ≡ Some n → n < length names
tenant_fits names word n e =
    (position-Some (λ name. bytes_eq name word) names n [] (none_or_chosen (is_empty word) (position (λ name. bytes_eq name word) names) n e)).0

-- a step that names who is there, and whose bytes are bytes
abbrev pub IsGood : ℕ → ℕ → Step → Type 0
IsGood workers tenants s = FitsIn workers tenants s × HasBytes s

load_fits : (names : List (List ℕ)) (workers : ℕ) (words : List ℕ × List ℕ × List ℕ × List ℕ) (s : Step) → load_of names workers words ≡ Some s → IsGood workers (length names) s
load_fits names workers words s e =
    option_and_then_some _ (number_below workers words.0) s e (λ w w_is rest.
    option_and_then_some _ (tenant_named names words.1) s rest (λ t t_is rest.
    option_and_then_some _ (token_word words.2) s rest (λ k k_is rest.
    option_and_then_some _ (frame_word words.3) s rest (λ b b_is rest.
    subst (IsGood workers (length names)) (some_is (Load w t k b) s rest) ((number_fits workers words.0 w w_is, tenant_fits names words.1 t t_is), frame_bytes words.3 b b_is)))))

decide_fits : (names : List (List ℕ)) (workers : ℕ) (words : List ℕ × List ℕ) (s : Step) → decide_step workers words ≡ Some s → IsGood workers (length names) s
decide_fits names workers words s e =
    option_and_then_some _ (number_below workers words.0) s e (λ w w_is rest.
    option_and_then_some _ (moment_spelled words.1) s rest (λ n n_is rest.
    subst (IsGood workers (length names)) (some_is (Decide w n) s rest) (number_fits workers words.0 w w_is, tt)))

answer_fits : (names : List (List ℕ)) (workers : ℕ) (words : List ℕ × List ℕ × List ℕ) (s : Step) → answer_of workers words ≡ Some s → IsGood workers (length names) s
answer_fits names workers words s e =
    option_and_then_some _ (number_below workers words.0) s e (λ w w_is rest.
    option_and_then_some _ (moment_spelled words.1) s rest (λ n n_is rest.
    option_and_then_some _ (given_of words.2) s rest (λ g g_is rest.
    subst (IsGood workers (length names)) (some_is (Answer w n g) s rest) (number_fits workers words.0 w w_is, tt))))

tick_fits : (names : List (List ℕ)) (workers : ℕ) (words : List ℕ × List ℕ) (s : Step) → tick_of names words ≡ Some s → IsGood workers (length names) s
tick_fits names workers words s e =
    option_and_then_some _ (tenant_named names words.0) s e (λ t t_is rest.
    option_and_then_some _ (moment_spelled words.1) s rest (λ n n_is rest.
    subst (IsGood workers (length names)) (some_is (Tick t n) s rest) (tenant_fits names words.0 t t_is, tt)))

govern_fits : (names : List (List ℕ)) (workers : ℕ) (words : List (List ℕ)) (s : Step) → govern_of names words ≡ Some s → IsGood workers (length names) s
govern_fits names workers [] s e = absurd cc
govern_fits names workers (tenant ∷ []) s e = absurd cc
govern_fits names workers (tenant ∷ now ∷ words) s e =
    option_and_then_some _ (tenant_named names tenant) s e (λ t t_is rest.
    option_and_then_some _ (moment_spelled now) s rest (λ n n_is rest.
    option_and_then_some _ (result_ok (command_among words)) s rest (λ c c_is rest.
    subst (IsGood workers (length names)) (some_is (Govern t n c) s rest) (tenant_fits names tenant t t_is, tt))))

-- the first of two choices, or the second
either : {P : Type 0} (b : Bool) (x y : Option Step) (s : Step) → (x ≡ Some s → P) → (y ≡ Some s → P) → cond b x y ≡ Some s → P
either true x y s f g e = f e
either false x y s f g e = g e

behind_fits : (names : List (List ℕ)) (workers : ℕ) (verb : List ℕ) (words : List (List ℕ)) (s : Step) → step_behind names workers verb words ≡ Some s → IsGood workers (length names) s
behind_fits names workers verb words s e =
    either (bytes_eq verb (codes "load")) _ _ s (λ e. option_and_then_some _ (four_of words) s e (λ w w_is rest. load_fits names workers w s rest))
    (either (bytes_eq verb (codes "decide")) _ _ s (λ e. option_and_then_some _ (two_of words) s e (λ w w_is rest. decide_fits names workers w s rest))
    (either (bytes_eq verb (codes "answer")) _ _ s (λ e. option_and_then_some _ (three_of words) s e (λ w w_is rest. answer_fits names workers w s rest))
    (either (bytes_eq verb (codes "tick")) _ _ s (λ e. option_and_then_some _ (two_of words) s e (λ w w_is rest. tick_fits names workers w s rest))
    (either (bytes_eq verb (codes "do")) _ _ s (λ e. govern_fits names workers words s e)
    (λ e. absurd cc))))) e

step_fits : (names : List (List ℕ)) (workers : ℕ) (words : List (List ℕ)) (s : Step) → step_of_words names workers words ≡ Some s → IsGood workers (length names) s
step_fits names workers [] s e = absurd cc
step_fits names workers (verb ∷ words) s e = behind_fits names workers verb words s e

abbrev MeaningFits : ℕ → ℕ → Meaning → Type 0
MeaningFits workers tenants Skipped = Unit {0}
MeaningFits workers tenants (Runs s) = IsGood workers tenants s
MeaningFits workers tenants Bad = Unit {0}

meant : (names : List (List ℕ)) (workers : ℕ) (o : Option Step) → ((s : Step) → o ≡ Some s → IsGood workers (length names) s) → MeaningFits workers (length names) (step_or_bad o)
meant names workers None h = tt
meant names workers (Some s) h = h s refl

meaning_fits : (names : List (List ℕ)) (workers : ℕ) (line : List ℕ) → MeaningFits workers (length names) (meaning_of names workers line)
unfolding meaning_of
meaning_fits names workers line = by _ (is_skipped line) (meant names workers (step_of_words names workers (words_of line)) (step_fits names workers (words_of line)))
  where
    by : (a b : Bool) → MeaningFits workers (length names) (step_or_bad (step_of_words names workers (words_of line))) → MeaningFits workers (length names) (cond a Bad (cond b Skipped (step_or_bad (step_of_words names workers (words_of line)))))
    by true b h = tt
    by false true h = tt
    by false false h = h

pub step_of_line_good : (names : List (List ℕ)) (workers : ℕ) (line : List ℕ) (step : Step) → meaning_of names workers line ≡ Runs step → IsGood workers (length names) step
step_of_line_good names workers line step e = subst (MeaningFits workers (length names)) e (meaning_fits names workers line)

-- the step of a line fits
pub step_of_line_fits : (names : List (List ℕ)) (workers : ℕ) (line : List ℕ) (step : Step) → meaning_of names workers line ≡ Runs step → FitsIn workers (length names) step
step_of_line_fits names workers line step e = (step_of_line_good names workers line step e).0

-- each step of a script has what the step of each line has
consed : (P : Step → Type 0) (meaning : Meaning) (rest : List Step) → ((step : Step) → meaning ≡ Runs step → P step) → All P rest → All P (cons_option (step_in meaning) rest)
consed P Skipped rest one all = all
consed P (Runs step) rest one all = All-cons P step rest (one step refl) all
consed P Bad rest one all = all

pub steps_have : (P : Step → Type 0) (names : List (List ℕ)) (workers : ℕ) → ((line : List ℕ) (step : Step) → meaning_of names workers line ≡ Runs step → P step)
    → (lines : List (List ℕ)) → All P (steps_in names workers lines)
steps_have P names workers one [] = All-nil P
steps_have P names workers one (line ∷ lines) = consed P (meaning_of names workers line) (steps_in names workers lines) (one line) (steps_have P names workers one lines)

-- a script that is too long is refused for that
pub too_long : (names : List (List ℕ)) (workers : ℕ) (known : Option (List ℕ)) → IfSome known (λ script. MAX_SCRIPT < length script) → IfSome known (λ script. steps_of_script names workers script ≡ Err ScriptFault.Size)
unfolding steps_of_script
too_long names workers None h = tt
too_long names workers (Some script) h = rw (lt-ltb MAX_SCRIPT (length script) h) refl
