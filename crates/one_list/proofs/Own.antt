-- Where workers answer only packets that they sent on themselves, a packet is awaited until its worker answers it.
use Rattle.std.proofs.Common.{◌≡◌, ℕ, Bool, true, false, cond, List, [], ◌∷◌, ◌++◌, All, refl, sym, subst, ◌∙◌}
use Rattle.std.specs.Prelude.{Some, find, option_map, ◌==◌}
use Rattle.std.proofs.lemmas.Bool.{eq-eqb}
use Rattle.std.proofs.lemmas.List.Elements.{All-append, All-cons, All-head, All-nil, All-tail, All-weaker}
use Rattle.std.proofs.lemmas.List.Folds.{list_any_none}
use Rattle.tenant_core.specs.Fates.{is_answer_to}
use Rattle.tenant_core.specs.OpenHolds.{is_awaited}
use Rattle.tenant_core.specs.State.{State}
use Rattle.tenant_core.specs.declared.opening.Opening.{Opening}
use Rattle.one_list.specs.History.{IsHistory}
use Rattle.one_list.specs.Holds.{AreOwnAnswers, BeginsHold, IsAnswerTo, OwnAnswerLaws, begins_hold, holder}
use Rattle.one_list.specs.Steps.{of_worker}
use Rattle.one_list.specs.declared.step.Done.{Done}
use Rattle.one_list.proofs.Awaiting as awaiting

-- who sent a packet on has done so among more steps
held_on : (n w : ℕ) (steps more : List Done) → holder n steps ≡ Some w → holder n (steps ++ more) ≡ Some w
held_on n w [] more is = absurd cc
held_on n w (x ∷ xs) more is = by (begins_hold n x) (held_on n w xs more) is
  where
    by : (b : Bool) → (holder n xs ≡ Some w → holder n (xs ++ more) ≡ Some w) → option_map (λ (e : Done). e.worker) (cond b (Some x) (find (begins_hold n) xs)) ≡ Some w
        → option_map (λ (e : Done). e.worker) (cond b (Some x) (find (begins_hold n) (xs ++ more))) ≡ Some w
    by true rest k = k
    by false rest k = rest k

-- the answer is by the worker that sent the packet on
abbrev IsOwn : List Done → Done → Type 0
IsOwn steps e = (n : ℕ) → IsAnswerTo n e → holder n steps ≡ Some e.worker

goes_on : (steps : List Done) (e : Done) → AreOwnAnswers steps → IsOwn steps e → AreOwnAnswers (steps ++ e ∷ [])
goes_on steps e all one =
    All-append (IsOwn (steps ++ e ∷ [])) steps (e ∷ [])
    (All-weaker (IsOwn steps) (IsOwn (steps ++ e ∷ [])) (λ x own n is. held_on n x.worker steps (e ∷ []) (own n is)) steps all)
    (All-cons (IsOwn (steps ++ e ∷ [])) e [] (λ n is. held_on n e.worker steps (e ∷ []) (one n is)) (All-nil (IsOwn (steps ++ e ∷ []))))

-- ---- who awaits

-- what holds of all holds of those behind the first ones
behind : (P : Done → Type 0) (xs ys : List Done) → All P (xs ++ ys) → All P ys
behind P [] ys all = all
behind P (x ∷ xs) ys all = behind P xs ys (All-tail P x (xs ++ ys) all)

-- steps of other workers answer no packet that this one sent on
none_answers : (n w : ℕ) (steps later : List Done) → holder n steps ≡ Some w → All (IsOwn steps) later → All (λ x. (x.worker == w) ≡ false) later
    → All (λ x. is_answer_to n x.made.entry ≡ false) later
none_answers n w steps [] held own others = All-nil (λ (x : Done). is_answer_to n x.made.entry ≡ false)
none_answers n w steps (x ∷ xs) held own others =
    All-cons (λ (y : Done). is_answer_to n y.made.entry ≡ false) x xs (by (is_answer_to n x.made.entry) refl)
    (none_answers n w steps xs held (All-tail (IsOwn steps) x xs own) (All-tail (λ (y : Done). (y.worker == w) ≡ false) x xs others))
  where
    by : (b : Bool) → is_answer_to n x.made.entry ≡ b → b ≡ false
    by true is =
        let theirs : Some x.worker ≡ Some w = sym (All-head (IsOwn steps) x xs own n is) ∙ held in
        let same : x.worker ≡ w = cc in
        absurd (let wrong : true ≡ false = sym (eq-eqb x.worker w same) ∙ All-head (λ (y : Done). (y.worker == w) ≡ false) x xs others in cc)
    by false is = refl

awaited : (o : Opening) (steps before : List Done) (e : Done) (s : State) (n : ℕ) → IsHistory o steps s → AreOwnAnswers steps → of_worker e.worker steps ≡ before ++ e ∷ [] → BeginsHold n e
    → is_awaited s n ≡ true
awaited o steps before e s n history own mine begins = by (is_awaited s n) refl
  where
    at : awaiting.Stands (λ (x : Done). x.worker == e.worker) e steps
    at = awaiting.last_kept (λ (x : Done). x.worker == e.worker) steps before e mine

    later : All (IsOwn steps) at.later
    later =
        behind (IsOwn steps) (e ∷ []) at.later
        (behind (IsOwn steps) at.earlier (e ∷ at.later) (subst (λ (l : List Done). All (IsOwn steps) l) at.there own))

    by : (b : Bool) → is_awaited s n ≡ b → b ≡ true
    by true is = refl
    by false is =
        let led = subst (λ (l : List Done). IsHistory o l s) at.there history in
        let some = awaiting.some_answer o at.earlier at.later e s n led begins is in
        let none = list_any_none (λ (x : Done). is_answer_to n x.made.entry) at.later
        (none_answers n e.worker steps at.later (awaiting.laws.held o steps before e s n history mine begins) later at.none) in
        absurd (let wrong : true ≡ false = sym some ∙ none in cc)

pub laws : OwnAnswerLaws
laws = record { goes_on = goes_on; awaited = awaited }
