use Rattle.std.proofs.Common.{◌≡◌, ℕ, List, Bor, Bool, true, false, not, Some, refl}
use Rattle.std.specs.Prelude.{option_copied, option_map, if◌then◌else◌}
use Rattle.std.specs.Bool.{then_some}
use Rattle.floor_core.specs.declared.step.PeerAnswer.TheVariants.{Bytes, Fault}
use Rattle.replay_text.specs.Spelled.{given_spelled}
use Rattle.replay_text.specs.Script.{frame_word}
use Rattle.replay_text.proofs.LastWords.{answer_said}
use Rattle.replay_text.proofs.lines.read_answer.Goals as goal

fault_or_bytes : (word : Bor (List ℕ)) (is_fault : Bool)
    → given_spelled (option_copied (then_some (not is_fault) word)) ≡ (if is_fault then Some Fault else option_map (λ bytes. Bytes bytes) (frame_word word.now))
fault_or_bytes word true = refl
fault_or_bytes word false = refl

pub returns : goal.returns
returns c =
    rw (answer_said c.args.parties.workers _ c.in-Some.worker.now c.in-Some.now.now c.in-Some.given.now c.in-Some.ensures, ← c.in_ok-worker_of.ensures, ← c.in_ok-moment_of.ensures, c.then_some.ensures, c.ne.ensures, c.as_slice.ensures, fault_or_bytes c.in-Some.given _)
    refl
