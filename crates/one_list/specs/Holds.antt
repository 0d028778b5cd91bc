-- Holds in histories: the packets that went on, over all periods of a tenant.
use Rattle.std.specs.Prelude.{ℕ, ◌≡◌, ◌≢◌, ◌==◌, Bool, true, false, List, [], ◌∷◌, ◌++◌, All, Any, Option, Some, None, find, option_map}
use Rattle.tenant_core.specs.Fates.{is_answer_to}
use Rattle.tenant_core.specs.Holds.{hold_begun}
use Rattle.tenant_core.specs.OpenHolds.{is_awaited}
use Rattle.tenant_core.specs.State.{State}
use Rattle.tenant_core.specs.declared.hold.Hold.{Hold}
use Rattle.tenant_core.specs.declared.opening.Opening.{Opening}
use Rattle.one_list.specs.History.{IsHistory}
use Rattle.one_list.specs.Steps.{of_worker}
use Rattle.one_list.specs.declared.step.Done.{Done}

-- there is a hold, and it has that number
abbrev pub is_numbered : ℕ → Option Hold → Bool
is_numbered n None = false
is_numbered n (Some h) = h.number == n

-- the step begins the hold of that number: a packet goes on under it
abbrev pub begins_hold : ℕ → Done → Bool
begins_hold n e = is_numbered n (hold_begun e.made.entry e.made.outcome)

abbrev pub BeginsHold : ℕ → Done → Type 0
BeginsHold n e = begins_hold n e ≡ true

-- the worker that sent the packet of that hold on, if a step began it
abbrev pub holder : ℕ → List Done → Option ℕ
holder n steps = option_map (λ e. e.worker) (find (begins_hold n) steps)

-- the step is an answer to the hold of that number
abbrev pub IsAnswerTo : ℕ → Done → Type 0
IsAnswerTo n e = is_answer_to n e.made.entry ≡ true

-- each answer among the steps is by the worker that sent the packet on
abbrev pub AreOwnAnswers : List Done → Type 0
AreOwnAnswers steps = All (λ e. (n : ℕ) → IsAnswerTo n e → holder n steps ≡ Some e.worker) steps

-- The step is one of these steps, and another worker answered it: all steps after it are by workers other than its
-- own, and one of them answers the hold of that number.
pub record IsAnsweredByAnother (own : Done) (hold : ℕ) (steps : List Done) : Type 0 where
  pub earlier : List Done
  pub later : List Done
  pub there : steps ≡ earlier ++ own ∷ later
  pub others : All (λ e. e.worker ≢ own.worker) later
  pub answered : Any (IsAnswerTo hold) later

-- the fate of a hold that a step began, and that the last state does not await any longer
pub record HoldLaws : Type 0 where
  -- a later step was an answer to it
  pub answered : (o : Opening) (earlier later : List Done) (e : Done) (s : State) (n : ℕ)
      → IsHistory o (earlier ++ e ∷ later) s → BeginsHold n e → is_awaited s n ≡ false → Any (IsAnswerTo n) later
  -- if its worker has done nothing since, another worker answered it
  pub by_another : (o : Opening) (steps before : List Done) (e : Done) (s : State) (n : ℕ)
      → IsHistory o steps s → of_worker e.worker steps ≡ before ++ e ∷ [] → BeginsHold n e → is_awaited s n ≡ false
      → IsAnsweredByAnother e n steps
  -- no other step begins a hold of its number, so the worker of the step is the one that sent its packet on
  pub held : (o : Opening) (steps before : List Done) (e : Done) (s : State) (n : ℕ)
      → IsHistory o steps s → of_worker e.worker steps ≡ before ++ e ∷ [] → BeginsHold n e → holder n steps ≡ Some e.worker

-- if workers answer only packets that they sent on themselves
pub record OwnAnswerLaws : Type 0 where
  -- one more step keeps this, unless it answers another worker's packet
  pub goes_on : (steps : List Done) (e : Done)
      → AreOwnAnswers steps → ((n : ℕ) → IsAnswerTo n e → holder n steps ≡ Some e.worker) → AreOwnAnswers (steps ++ e ∷ [])
  -- a packet is awaited as long as its worker has done nothing since for the tenant
  pub awaited : (o : Opening) (steps before : List Done) (e : Done) (s : State) (n : ℕ)
      → IsHistory o steps s → AreOwnAnswers steps → of_worker e.worker steps ≡ before ++ e ∷ [] → BeginsHold n e
      → is_awaited s n ≡ true
