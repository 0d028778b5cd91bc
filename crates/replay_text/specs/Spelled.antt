-- What was read of a line. Its last word is still text, if it takes room to read it.
use Rattle.std.specs.Prelude.{ℕ, if◌then◌else◌, List, Option, Some, None, option_copied, option_map, Result, Ok, Err}
use Rattle.std.specs.Result.{result_ok}
use Rattle.common_types.specs.OptionChain.{◌>>=◌}
use Rattle.common_types.specs.Words.{words_of}
use Rattle.admin_text.specs.Commands.{command_in}
use Rattle.floor_core.specs.declared.step.PeerAnswer.{PeerAnswer}
use Rattle.floor_core.specs.declared.step.PeerAnswer.TheVariants.{Bytes, Fault}
use Rattle.floor_core.specs.declared.step.Step.{Step}
use Rattle.floor_core.specs.declared.step.Step.TheVariants as step
use Rattle.replay_text.specs.Script.{frame_word, is_skipped, step_of_words, step_or_bad}
use Rattle.replay_text.specs.declared.causes.LineFault.{LineFault}
use Rattle.replay_text.specs.declared.lines.Spelled.{Spelled}
use Rattle.replay_text.specs.declared.lines.Spelled.TheVariants.{Load, Decide, Answer, Tick, Govern}
use Rattle.replay_text.specs.declared.script.Meaning.{Meaning}
use Rattle.replay_text.specs.declared.script.Meaning.TheVariants.{Skipped, Bad}

-- what came back: the bytes that a word spells, or a fault if there is none
abbrev pub given_spelled : Option (List ℕ) → Option PeerAnswer
given_spelled None = Some Fault
given_spelled (Some word) = option_map (λ bytes. Bytes bytes) (frame_word word)

-- the step that was spelled, if its last word is right
abbrev pub step_of_spelled : Spelled → Option Step
step_of_spelled (Load worker tenant token frame) = do
  bytes ← frame_word frame.now
  Some (step.Load worker tenant token.now bytes)
step_of_spelled (Decide worker now) = Some (step.Decide worker now)
step_of_spelled (Answer worker now frame) = do
  given ← given_spelled (option_copied frame)
  Some (step.Answer worker now given)
step_of_spelled (Tick tenant now) = Some (step.Tick tenant now)
step_of_spelled (Govern tenant now text) = do
  command ← result_ok (command_in text.now)
  Some (step.Govern tenant now command)

-- what a line means that passes the tests of its bytes
abbrev pub meaning_of_words : List (List ℕ) → ℕ → List ℕ → Meaning
meaning_of_words names workers line =
    if is_skipped line then Skipped
    else step_or_bad (step_of_words names workers (words_of line))

-- what a line means that was read like this
abbrev pub meaning_read : Result (Option Spelled) LineFault → Meaning
meaning_read (Ok None) = Skipped
meaning_read (Ok (Some spelled)) = step_or_bad (step_of_spelled spelled)
meaning_read (Err fault) = Bad
