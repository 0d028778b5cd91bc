-- Replay scripts: ASCII lines of words, each line a step of a worker.
use Rattle.std.specs.Prelude.{◌≡◌, ℕ, ◌+◌, List, [], ◌∷◌, ◌++◌, length, Bool, true, false, not}
use Rattle.std.specs.Prelude.{◌&&◌, ◌||◌, ◌==◌, nat_lt, if◌then◌else◌, Option, Some, None}
use Rattle.std.specs.Prelude.{option_map}
use Rattle.std.specs.Prelude.{Result, Ok, Err, codes}
use Rattle.std.specs.List.{slice_split, list_all, position, filter_map, AllByRecursion}
use Rattle.std.specs.Str.{bytes_eq}
use Rattle.std.specs.Result.{result_ok}
use Rattle.hex.specs.Hex.{decode_of}
use Rattle.ilp_addr.specs.Timestamp.{last_moment}
use Rattle.common_types.specs.OptionChain.{◌>>=◌}
use Rattle.common_types.specs.Numerals.{is_numeral, value_of}
use Rattle.common_types.specs.Token.{is_token}
use Rattle.common_types.specs.Outcomes.{Fails}
use Rattle.common_types.specs.Words.{words_of}
use Rattle.common_types.specs.declared.read_error.ReadError.{ReadError}
use Rattle.admin_text.specs.Commands.{command_among}
use Rattle.floor_core.specs.declared.step.PeerAnswer.{PeerAnswer}
use Rattle.floor_core.specs.declared.step.PeerAnswer.TheVariants.{Bytes, Fault}
use Rattle.floor_core.specs.declared.step.Step.{Step}
use Rattle.replay_text.specs.Words.{two_of, three_of, four_of}
use Rattle.floor_core.specs.declared.step.Step.TheVariants.{Load, Decide, Answer, Tick, Govern}
use Rattle.replay_text.specs.declared.script.ScriptFault.{ScriptFault}
use Rattle.replay_text.specs.declared.script.ScriptFault.TheVariants.{Size, Line}
use Rattle.replay_text.specs.declared.script.Meaning.{Meaning}
use Rattle.replay_text.specs.declared.script.Meaning.TheVariants.{Skipped, Runs, Bad}
use Rattle.replay_text.specs.declared.script.TheConstants.{MAX_LINE, MAX_SCRIPT}

-- the list has no element
abbrev pub is_empty : {A : Type 0} → List A → Bool
is_empty [] = true
is_empty (x ∷ xs) = false

-- a last part that is empty is no line
abbrev pub without_empty_end : List (List ℕ) → List (List ℕ)
without_empty_end [] = []
without_empty_end (last ∷ []) = if is_empty last then [] else last ∷ []
without_empty_end (line ∷ next ∷ lines) = line ∷ without_empty_end (next ∷ lines)

-- the lines of a text, without their ends
abbrev pub lines_of : List ℕ → List (List ℕ)
lines_of text = without_empty_end (slice_split (λ b. b == 10) text)

-- the number that a word spells, if it does and the number is below the bound
abbrev pub number_below : ℕ → List ℕ → Option ℕ
number_below bound word = if is_numeral word && nat_lt (value_of word) bound then Some (value_of word) else None

-- the number of the first tenant of that name
abbrev pub tenant_named : List (List ℕ) → List ℕ → Option ℕ
tenant_named names word = if is_empty word then None else position (λ name. bytes_eq name word) names

-- a word that is a token
abbrev pub token_word : List ℕ → Option (List ℕ)
token_word word = if is_token word then Some word else None

-- the bytes that a word spells: hexadecimal digits in either case, or `-` for no bytes
abbrev pub frame_word : List ℕ → Option (List ℕ)
frame_word word =
    if bytes_eq word (codes "-") then Some []
    else (if is_empty word then None else result_ok (decode_of word))

-- the moment that a word spells
abbrev pub moment_spelled : List ℕ → Option ℕ
moment_spelled word = number_below (last_moment + 1) word

-- what came back, as a word says it: `fault`, or bytes
abbrev pub given_of : List ℕ → Option PeerAnswer
given_of word = if bytes_eq word (codes "fault") then Some Fault else option_map (λ bytes. Bytes bytes) (frame_word word)

-- the words after `load`: W TENANT TOKEN HEX
abbrev pub load_of : List (List ℕ) → ℕ → List ℕ × List ℕ × List ℕ × List ℕ → Option Step
load_of names workers words = do
  worker ← number_below workers words.0
  tenant ← tenant_named names words.1
  token ← token_word words.2
  bytes ← frame_word words.3
  Some (Load worker tenant token bytes)

-- the words after `decide`: W NOW
abbrev pub decide_step : ℕ → List ℕ × List ℕ → Option Step
decide_step workers words = do
  worker ← number_below workers words.0
  now ← moment_spelled words.1
  Some (Decide worker now)

-- the words after `answer`: W NOW HEX, or W NOW fault
abbrev pub answer_of : ℕ → List ℕ × List ℕ × List ℕ → Option Step
answer_of workers words = do
  worker ← number_below workers words.0
  now ← moment_spelled words.1
  given ← given_of words.2
  Some (Answer worker now given)

-- the words after `tick`: TENANT NOW
abbrev pub tick_of : List (List ℕ) → List ℕ × List ℕ → Option Step
tick_of names words = do
  tenant ← tenant_named names words.0
  now ← moment_spelled words.1
  Some (Tick tenant now)

-- the words after `do`: TENANT NOW, and those of a command
abbrev pub govern_of : List (List ℕ) → List (List ℕ) → Option Step
govern_of names (tenant_word ∷ now_word ∷ words) = do
  tenant ← tenant_named names tenant_word
  now ← moment_spelled now_word
  command ← result_ok (command_among words)
  Some (Govern tenant now command)
govern_of names _ = None

-- the step that a verb and the words after it spell
abbrev pub step_behind : List (List ℕ) → ℕ → List ℕ → List (List ℕ) → Option Step
step_behind names workers verb words =
    if bytes_eq verb (codes "load") then four_of words >>= load_of names workers
    else (if bytes_eq verb (codes "decide") then two_of words >>= decide_step workers
    else (if bytes_eq verb (codes "answer") then three_of words >>= answer_of workers
    else (if bytes_eq verb (codes "tick") then two_of words >>= tick_of names
    else (if bytes_eq verb (codes "do") then govern_of names words
    else None))))

-- the step that the words of a line spell: it is picked by the first of them
abbrev pub step_of_words : List (List ℕ) → ℕ → List (List ℕ) → Option Step
step_of_words names workers [] = None
step_of_words names workers (verb ∷ words) = step_behind names workers verb words

-- empty lines and comments are skipped
abbrev pub is_skipped : List ℕ → Bool
is_skipped [] = true
is_skipped (first ∷ rest) = first == 35

-- a line that spells no step is bad
abbrev pub step_or_bad : Option Step → Meaning
step_or_bad None = Bad
step_or_bad (Some step) = Runs step

-- the line is not valid
abbrev pub is_bad : Meaning → Bool
is_bad Skipped = false
is_bad (Runs step) = false
is_bad Bad = true

-- what a line says: each is ASCII, of at most 70,000 bytes
unfoldable pub meaning_of : List (List ℕ) → ℕ → List ℕ → Meaning
meaning_of names workers line =
    if nat_lt MAX_LINE (length line) || not (list_all (λ b. nat_lt b 128) line) then Bad
    else (if is_skipped line then Skipped
    else step_or_bad (step_of_words names workers (words_of line)))

-- the steps of a line and of the lines after it, or the number of the first bad line
abbrev pub then_steps : ℕ → Meaning → Result (List Step) ScriptFault → Result (List Step) ScriptFault
then_steps number Skipped rest = rest
then_steps number (Runs step) (Ok steps) = Ok (step ∷ steps)
then_steps number (Runs step) (Err fault) = Err fault
then_steps number Bad rest = Err (Line number)

-- the steps of lines that are numbered from there on
unfoldable pub steps_from : List (List ℕ) → ℕ → ℕ → List (List ℕ) → Result (List Step) ScriptFault
steps_from names workers number [] = Ok []
steps_from names workers number (line ∷ lines) =
    then_steps number (meaning_of names workers line) (steps_from names workers (number + 1) lines)

-- the steps of a script for tenants of these names and so many workers
unfoldable pub steps_of_script : List (List ℕ) → ℕ → List ℕ → Result (List Step) ScriptFault
steps_of_script names workers text =
    if nat_lt MAX_SCRIPT (length text) then Err Size
    else steps_from names workers 1 (lines_of text)

-- a text is a script, unless it is out of memory; or this is its fault
abbrev pub IsCheckedAs : Result (Unit {0}) (ReadError ScriptFault) → Result (List Step) ScriptFault → Type 0
IsCheckedAs (Ok done) read = (steps : List Step) × (read ≡ Ok steps)
IsCheckedAs (Err error) read = Fails error read

-- a line that is not one of a script
abbrev pub IsBad : List (List ℕ) → ℕ → List ℕ → Type 0
IsBad names workers line = meaning_of names workers line ≡ Bad

-- the step of a line, if it has one
abbrev pub step_in : Meaning → Option Step
step_in Skipped = None
step_in (Runs step) = Some step
step_in Bad = None

-- no line is bad
abbrev pub NoneIsBad : List (List ℕ) → ℕ → List (List ℕ) → Type 0
NoneIsBad names workers lines = AllByRecursion (λ line. ¬ (IsBad names workers line)) lines

-- the steps of those lines that have one, in order
abbrev pub steps_in : List (List ℕ) → ℕ → List (List ℕ) → List Step
steps_in names workers lines = filter_map (λ line. step_in (meaning_of names workers line)) lines

-- no line is bad, and these are their steps
pub record AreSteps (names : List (List ℕ)) (workers : ℕ) (lines : List (List ℕ)) (steps : List Step) : Type 0 where
  pub no_bad : NoneIsBad names workers lines
  pub in_order : steps ≡ steps_in names workers lines

-- the line of that number, from 1, is bad, and none before it
pub record IsFirstBad (names : List (List ℕ)) (workers : ℕ) (lines : List (List ℕ)) (number : ℕ) : Type 0 where
  pub before : List (List ℕ)
  pub line : List ℕ
  pub after : List (List ℕ)
  pub parts : lines ≡ before ++ line ∷ after
  pub place : number ≡ length before + 1
  pub none_before : AllByRecursion (λ l. ¬ (IsBad names workers l)) before
  pub is_bad : IsBad names workers line
