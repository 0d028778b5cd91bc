-- Steps that follow one another.
use Rattle.std.proofs.Common.{◌≡◌, ◌⊎◌, inl, inr, ℕ, zero, suc, subst, sym, ap, refl, ◌∙◌, Option, Some, None}
use Rattle.std.specs.Prelude.{IfSome, option_map}
use Rattle.one_list.specs.declared.run.Run.{Ghosts}
use Rattle.service.specs.Hosting.{HasStayed, Repeats, RepeatsTimes}
use Rattle.service.specs.Operating.{HasOperated, HasVisited, HaveOperated}
use Rattle.service.specs.declared.worker.desk.Desk.{Desk}
use Rattle.service.specs.declared.office.Office.{Office}

pub none_repeated : {A : Type 0} (Step : A → A → Type 0) (a : A) → Repeats Step a a
none_repeated Step a = record { times = zero; steps = refl }

pub once_repeated : {A : Type 0} (Step : A → A → Type 0) (a b : A) → Step a b → Repeats Step a b
once_repeated Step a b step = record { times = suc zero; steps = (a, refl, step) }

times_then : {A : Type 0} (Step : A → A → Type 0) (a b c : A) (n m : ℕ) → RepeatsTimes Step n a b → RepeatsTimes Step m b c → (k : ℕ) × RepeatsTimes Step k a c
times_then Step a b c n zero ab bc = (n, subst (λ x. RepeatsTimes Step n a x) (sym bc) ab)
times_then Step a b c n (suc m) ab bc =
    let before = times_then Step a b bc.0 n m ab bc.1 in
    (suc before.0, (bc.0, before.1, bc.2))

pub then_repeated : {A : Type 0} (Step : A → A → Type 0) (a b c : A) → Repeats Step a b → Repeats Step b c → Repeats Step a c
then_repeated Step a b c ab bc =
    let all = times_then Step a b c ab.times bc.times ab.steps bc.steps in
    record { times = all.0; steps = all.1 }

-- what each step keeps is kept
times_kept : {A B : Type 0} (f : A → B) (Step : A → A → Type 0) → ((a b : A) → Step a b → f b ≡ f a) → (n : ℕ) (a b : A) → RepeatsTimes Step n a b → f b ≡ f a
times_kept f Step keeps zero a b steps = ap f steps
times_kept f Step keeps (suc n) a b steps = keeps steps.0 b steps.2 ∙ times_kept f Step keeps n a steps.0 steps.1

pub kept_by_all : {A B : Type 0} (f : A → B) (Step : A → A → Type 0) → ((a b : A) → Step a b → f b ≡ f a) → (a b : A) → Repeats Step a b → f b ≡ f a
kept_by_all f Step keeps a b all = times_kept f Step keeps all.times a b all.steps

-- who stays beside others keeps what each step keeps
pub kept_beside : {A B : Type 0} (f : A → B) (Stays : A → A → Type 0) → ((a b : A) → Stays a b → f b ≡ f a) → (before after : Option A)
    → HasStayed Stays before after ⊎ (after ≡ before) → option_map f after ≡ option_map f before
kept_beside f Stays keeps before after (inr same) = ap (option_map f) same
kept_beside f Stays keeps None after (inl same) = ap (option_map f) same
kept_beside f Stays keeps (Some a) after (inl stayed) = ap (option_map f) stayed.1 ∙ ap Some (keeps a stayed.0 stayed.2)

-- ---- who answers operators

module _ {A R C K J : Type 0} {r : Ghosts J} (office : A → R) (at : R → Office J r) (clock : A → C) (now : C → K) (give : K → ℕ → Type 0) (desk : A → Desk J r) where
  -- what one connection leaves
  abbrev Serves : A → A → Type 0
  Serves before after = (office after ≡ office before) × (clock after ≡ clock before)
      × HasOperated (give (now (clock before))) (at (office before)) (desk before) (desk after)

  times_operated : (n : ℕ) (a b : A) → RepeatsTimes Serves n a b → Serves a b
  times_operated zero a b steps =
      subst (λ x. Serves a x) (sym steps) (refl, refl, none_repeated (HasVisited (give (now (clock a))) (at (office a))) (desk a))
  times_operated (suc n) a b steps =
      let m = steps.0 in
      let before = times_operated n a m steps.1 in
      let step = steps.2 in
      let one : HasOperated (give (now (clock a))) (at (office a)) (desk m) (desk b) =
      subst (λ k. HasOperated (give (now k)) (at (office a)) (desk m) (desk b)) before.1
      (subst (λ o. HasOperated (give (now (clock m))) (at o) (desk m) (desk b)) before.0 step.2) in
      (step.0 ∙ before.0, step.1 ∙ before.1, then_repeated (HasVisited (give (now (clock a))) (at (office a))) (desk a) (desk m) (desk b) before.2 one)

  module _ {P : Type 0} (answering : P → A) (there : Office J r) (moment : K) where
    -- who stays beside others answers requests one after another
    pub operated_beside : (before after : Option P) → HasStayed (λ a b. Repeats Serves (answering a) (answering b)) before after ⊎ (after ≡ before)
        → IfSome before (λ p. (at (office (answering p)) ≡ there) × (now (clock (answering p)) ≡ moment))
        → HaveOperated (give moment) there (option_map (λ p. desk (answering p)) before) (option_map (λ p. desk (answering p)) after)
    operated_beside None after (inl stayed) known = ap (option_map (λ p. desk (answering p))) stayed
    operated_beside None after (inr same) known = ap (option_map (λ p. desk (answering p))) same
    operated_beside (Some p) after (inr same) known = (
      desk (answering p),
      ap (option_map (λ p. desk (answering p))) same,
      none_repeated (HasVisited (give moment) there) (desk (answering p)),
    )
    operated_beside (Some p) after (inl stayed) known =
        let q = stayed.0 in
        let all = times_operated stayed.2.times (answering p) (answering q) stayed.2.steps in (
          desk (answering q),
          ap (option_map (λ p. desk (answering p))) stayed.1,
          subst (λ k. HasOperated (give k) there (desk (answering p)) (desk (answering q))) known.1
              (subst (λ o. HasOperated (give (now (clock (answering p)))) o (desk (answering p)) (desk (answering q))) known.0 all.2),
        )

    -- and is where it was
    pub stays_there : (before after : Option P) → HasStayed (λ a b. Repeats Serves (answering a) (answering b)) before after ⊎ (after ≡ before)
        → IfSome before (λ p. (at (office (answering p)) ≡ there) × (now (clock (answering p)) ≡ moment))
        → IfSome after (λ p. at (office (answering p)) ≡ there)
    stays_there None after (inl stayed) known = subst (λ o. IfSome o (λ p. at (office (answering p)) ≡ there)) (sym stayed) tt
    stays_there None after (inr same) known = subst (λ o. IfSome o (λ p. at (office (answering p)) ≡ there)) (sym same) tt
    stays_there (Some p) after (inr same) known = subst (λ o. IfSome o (λ p. at (office (answering p)) ≡ there)) (sym same) known.0
    stays_there (Some p) after (inl stayed) known =
        let all = times_operated stayed.2.times (answering p) (answering stayed.0) stayed.2.steps in
        subst (λ o. IfSome o (λ p. at (office (answering p)) ≡ there)) (sym stayed.1) (ap at all.0 ∙ known.0)
