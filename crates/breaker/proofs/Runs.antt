-- What many steps leave of a breaker.
use Rattle.std.proofs.Common.{ℕ, ◌≡◌, ◌+◌, ◌<◌, ◌≤◌, true, List, [], ◌∷◌, All, Some, None, nat_lt, refl, arith}
use Rattle.std.proofs.lemmas.Grind.{common_steps}
use Rattle.std.proofs.lemmas.List.Elements.{All-head, All-tail}
use Rattle.std.proofs.lemmas.Bool.Decides.{nat_tests}
use Rattle.breaker.specs.Breaker.{asked_at, most_misses, pass_at, settled, settled_asked, settled_pass}
use Rattle.breaker.specs.Runs.{AreInOrder, EndsSoon, IsOfAnother, Step, after, misses_in, moment_of, run}
use Rattle.breaker.specs.declared.breaker.Outcome.TheVariants.{Answered, Missed, Unknown}
use Rattle.breaker.specs.declared.breaker.Pass.TheVariants.{Trial, Usual}
use Rattle.breaker.specs.declared.breaker.State.{State}
use Rattle.breaker.specs.declared.breaker.State.TheVariants.{Closed, Resting, Trying}

-- ---- few misses

pub few : (misses : ℕ) (steps : List Step) (now : ℕ) → misses + misses_in steps < most_misses
    → pass_at now (run steps (Closed misses)) ≡ Some Usual
few misses [] now below = refl
few misses (Step.Asks at ∷ steps) now below = few misses steps now (omega (arith, below))
few misses (Step.Learns pass Answered at ∷ steps) now below = few 0 steps now (omega (arith, below))
few misses (Step.Learns pass Missed at ∷ steps) now below =
    let closed : nat_lt (misses + 1) most_misses ≡ true = grind (arith, nat_tests, below) in
    rw closed (few (misses + 1) steps now (omega (arith, below)))
few misses (Step.Learns pass Unknown at ∷ steps) now below = few misses steps now (omega (arith, below))

-- ---- one trial

abbrev IsTrying : (until : ℕ) → State → Type 0
IsTrying until s = (rest : ℕ) × (s ≡ Trying until rest)

-- who gets the pass of a trial leaves a breaker that tries
trying_after : (now until : ℕ) (s : State) → settled_pass now s ≡ Some (Trial until) → IsTrying until (settled_asked now s)
trying_after now until (Closed misses) is = (0, grind (arith, common_steps, is))
trying_after now until (Resting end rest) is = (rest, grind (arith, common_steps, nat_tests, is))
trying_after now until (Trying end rest) is = (rest, grind (arith, common_steps, is))

-- a step of another changes nothing then
step_of_another : (until rest : ℕ) (step : Step) → IsOfAnother until step → after step (Trying until rest) ≡ Trying until rest
step_of_another until rest (Step.Asks now) before = grind (arith, nat_tests, before)
step_of_another until rest (Step.Learns pass Answered now) other = absurd (other.1 refl)
step_of_another until rest (Step.Learns pass Missed now) other = rw other.0 refl
step_of_another until rest (Step.Learns pass Unknown now) other = rw other.0 refl

steps_of_others : (until rest : ℕ) (steps : List Step) → All (IsOfAnother until) steps → run steps (Trying until rest) ≡ Trying until rest
steps_of_others until rest [] others = refl
steps_of_others until rest (step ∷ steps) others =
    rw (step_of_another until rest step (All-head (IsOfAnother until) step steps others)) (steps_of_others until rest steps (All-tail (IsOfAnother until) step steps others))

pub one : (s : State) (now moment until : ℕ) (steps : List Step) → pass_at now s ≡ Some (Trial until) → moment < until
    → All (IsOfAnother until) steps → pass_at moment (run steps (asked_at now s)) ≡ None
one s now moment until steps passes before others =
    let trying = trying_after now until (settled now s) passes in
    rw (trying.1, steps_of_others until trying.0 steps others) (grind (arith, nat_tests, before))

-- ---- the end of rests

later_still : (first last : ℕ) (s : State) → EndsSoon first s → first ≤ last → EndsSoon last s
later_still first last (Closed misses) soon ordered = soon
later_still first last (Resting until rest) soon ordered = omega (arith, soon, ordered)
later_still first last (Trying until rest) soon ordered = omega (arith, soon, ordered)

soon_after : (first : ℕ) (step : Step) (s : State) → EndsSoon first s → first ≤ moment_of step → EndsSoon (moment_of step) (after step s)
soon_after first step s soon ordered = grind (arith, nat_tests, common_steps)

pub soon : (s : State) (first last : ℕ) (steps : List Step) → EndsSoon first s → AreInOrder first last steps → EndsSoon last (run steps s)
soon s first last [] here ordered = later_still first last s here ordered
soon s first last (step ∷ steps) here ordered =
    soon (after step s) (moment_of step) last steps (soon_after first step s here ordered.0) ordered.1
