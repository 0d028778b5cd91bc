-- What is done to a breaker, one thing after another.
use Rattle.std.specs.Prelude.{ℕ, ◌≡◌, ◌≢◌, ◌+◌, ◌<◌, ◌≤◌, false, List, [], ◌∷◌}
use Rattle.breaker.specs.Breaker.{asked_at, is_trial, learnt, longest_rest, trial_margin, trial_time}
use Rattle.breaker.specs.declared.breaker.Pass.{Pass}
use Rattle.breaker.specs.declared.breaker.Outcome.{Outcome}
use Rattle.breaker.specs.declared.breaker.Outcome.TheVariants.{Answered, Missed, Unknown}
use Rattle.breaker.specs.declared.breaker.State.{State}
use Rattle.breaker.specs.declared.breaker.State.TheVariants.{Closed, Resting, Trying}

-- at some moment a packet asks for a pass, or it is known what became of one
pub data Step : Type 0 where
  Asks : (now : ℕ) → Step
  Learns : (pass : Pass) (outcome : Outcome) (now : ℕ) → Step

-- the breaker after a step, and after many
abbrev pub after : Step → State → State
after (Step.Asks now) s = asked_at now s
after (Step.Learns pass outcome now) s = learnt pass outcome now s

abbrev pub run : List Step → State → State
run [] s = s
run (step ∷ steps) s = run steps (after step s)

-- when a step was done
abbrev pub moment_of : Step → ℕ
moment_of (Step.Asks now) = now
moment_of (Step.Learns pass outcome now) = now

-- how many packets got no answer
abbrev pub miss_in : Outcome → ℕ
miss_in Answered = 0
miss_in Missed = 1
miss_in Unknown = 0

abbrev pub misses_at : Step → ℕ
misses_at (Step.Asks now) = 0
misses_at (Step.Learns pass outcome now) = miss_in outcome

abbrev pub misses_in : List Step → ℕ
misses_in [] = 0
misses_in (step ∷ steps) = misses_at step + misses_in steps

-- the steps are done in the order of their moments, between these two
abbrev pub AreInOrder : (first last : ℕ) → List Step → Type 0
AreInOrder first last [] = first ≤ last
AreInOrder first last (step ∷ steps) = (first ≤ moment_of step) × AreInOrder (moment_of step) last steps

-- a step of another packet than the trial which reports until then: it asks before that, or gets no answer
abbrev pub IsOfAnother : (until : ℕ) → Step → Type 0
IsOfAnother until (Step.Asks now) = now < until
IsOfAnother until (Step.Learns pass outcome now) = (is_trial until pass ≡ false) × (outcome ≢ Answered)

-- a rest or a trial ends at most so long after that moment
abbrev pub EndsSoon : (now : ℕ) → State → Type 0
EndsSoon now (Closed misses) = Unit {0}
EndsSoon now (Resting until rest) = until ≤ now + longest_rest
EndsSoon now (Trying until rest) = (until ≤ now + (trial_time + trial_margin))

-- after so long without a step a packet goes on, even if a trial never reported
abbrev pub longest_silence : ℕ
longest_silence = trial_time + trial_margin + longest_rest
