-- A log to which records are added again and again.
use Rattle.std.proofs.Common.{◌≡◌, ⊎_elim, ◌+◌, ◌≤◌, ℕ, zero, suc, List, [], ◌∷◌, ◌++◌, length, take, length-append, append_assoc, append-nil, refl, sym, ap, subst, ◌∙◌, inl, inr, arith}
use Rattle.floor_core.specs.World.{World}
use Rattle.floor_core.specs.declared.step.Step.{Step}
use Rattle.line_log.specs.File.{Only}
use Rattle.line_log.specs.Log.{IsWithSome, recovered}
use Rattle.replay_text.specs.Closed.{HasTakenPeriods, Taking}
use Rattle.replay_text.specs.Recorded.{HasFollowed, HasRecorded, Recording}
use Rattle.replay_text.specs.Recorded.HasFollowed.{Done, Kept, Nothing}
use Rattle.tenant_core.specs.declared.period.PeriodParts.{PeriodParts}
use Rattle.journal_law.specs.Crashes.{AddsToLog, HasAdded}

take_front : {X : Type 0} (xs ys : List X) (n : ℕ) → n ≤ length xs → take n (xs ++ ys) ≡ take n xs
take_front xs ys zero few = refl
take_front [] ys (suc n) few = absurd (omega (arith, few))
take_front (x ∷ xs) ys (suc n) few = ap (λ (zs : List _). x ∷ zs) (take_front xs ys n (omega (arith, few)))

take_behind : {X : Type 0} (xs ys : List X) (n : ℕ) → take (length xs + n) (xs ++ ys) ≡ xs ++ take n ys
take_behind [] ys n = let same : 0 + n ≡ n = omega arith in ap (λ k. take k ys) same
take_behind (x ∷ xs) ys n =
    let same : length (x ∷ xs) + n ≡ suc (length xs + n) = omega arith in
    ap (λ k. take k (x ∷ (xs ++ ys))) same ∙ ap (λ (zs : List _). x ∷ zs) (take_behind xs ys n)

-- some of the first are some of all
some_of_first : (before more others : List (List ℕ)) (c : List ℕ) → IsWithSome before more c → IsWithSome before (more ++ others) c
some_of_first before more others c some = record {
  count = some.count;
  few = omega (arith, some.few, length-append more others);
  is = some.is ∙ ap (λ (xs : List (List ℕ)). before ++ xs) (sym (take_front more others some.count some.few));
}

-- all of the first, and some of the others, are some of all
some_of_others : (before more others : List (List ℕ)) (c : List ℕ) → IsWithSome (before ++ more) others c → IsWithSome before (more ++ others) c
some_of_others before more others c some = record {
  count = length more + some.count;
  few = omega (arith, some.few, length-append more others);
  is = some.is ∙ append_assoc before more (take some.count others)
      ∙ ap (λ (xs : List (List ℕ)). before ++ xs) (sym (take_behind more others some.count));
}

module _ {D : Type 0} (seen : D → List ℕ) (moment : D → ℕ) (left_since : D → ℕ → List ℕ → Type 0) where
  -- nothing was added
  nothing_added : (may_leave : D → List ℕ → Type 0) (file : D) → ((c : List ℕ) → left_since file (moment file) c → may_leave file c)
      → Only (seen file) (may_leave file) → HasAdded seen moment left_since file file
  nothing_added may_leave file only_now durable = record {
    more = [];
    added = sym (append-nil (recovered (seen file)));
    any_moment = record {
      later = omega arith;
      each = λ c left. record {
        count = 0;
        few = omega arith;
        is = ap recovered (durable c (only_now c left)) ∙ sym (append-nil (recovered (seen file)));
      };
      before = λ t c le left. inl left;
    };
  }

  -- records were added twice
  added_twice : (first mid last : D) → HasAdded seen moment left_since first mid → HasAdded seen moment left_since mid last
      → HasAdded seen moment left_since first last
  added_twice first mid last one two =
      let wider : (c : List ℕ) → IsWithSome (recovered (seen mid)) two.more c → IsWithSome (recovered (seen first)) (one.more ++ two.more) c =
      λ c some. some_of_others (recovered (seen first)) one.more two.more c
      (subst (λ (xs : List (List ℕ)). IsWithSome xs two.more c) one.added some) in
      let narrow : (c : List ℕ) → IsWithSome (recovered (seen first)) one.more c → IsWithSome (recovered (seen first)) (one.more ++ two.more) c =
      some_of_first (recovered (seen first)) one.more two.more in
      record {
        more = one.more ++ two.more;
        added = two.added ∙ ap (λ (xs : List (List ℕ)). xs ++ two.more) one.added ∙ append_assoc (recovered (seen first)) one.more two.more;
        any_moment = record {
          later = omega (arith, one.any_moment.later, two.any_moment.later);
          each = λ c left. ⊎_elim (λ was. narrow c (one.any_moment.each c was)) (wider c)
              (two.any_moment.before (moment first) c one.any_moment.later left);
          before = λ t c le left. ⊎_elim (λ was. ⊎_elim (λ old. inl old) (λ some. inr (narrow c some)) (one.any_moment.before t c le was))
              (λ some. inr (wider c some)) (two.any_moment.before t c (omega (arith, le, one.any_moment.later)) left);
        };
      }

  -- ---- a recorder

  periods_leave_it : {K : Type 0} (Takes : Taking K) (file : K → D)
      → ((before : K) (p : PeriodParts) (after : K) → Takes before p after → file after ≡ file before)
      → (ps : List PeriodParts) (k l : K) → HasTakenPeriods Takes ps k l → file l ≡ file k
  periods_leave_it Takes file same [] k l taken = ap file taken
  periods_leave_it Takes file same (p ∷ ps) k l taken =
      periods_leave_it Takes file same ps taken.0 l taken.2 ∙ same k p taken.0 taken.1

  followed_adds : {K : Type 0} (R : Recording K) (file : K → D) (w : World) (first : K) (left : World) (steps : List Step) (last : K)
      → AddsToLog seen moment left_since R file → HasAdded seen moment left_since (file first) (file first)
      → HasFollowed R w first steps left last → HasAdded seen moment left_since (file first) (file last)
  followed_adds R file w first left steps last by start Nothing = start
  followed_adds R file w first left steps last by start (Done ss more between m before k followed closes) =
      let so_far = followed_adds R file w first between ss before by start followed in
      subst (λ (f : D). HasAdded seen moment left_since (file first) f) (sym (periods_leave_it R.takes file by.takes _ before k closes.3)) so_far
  followed_adds R file w first left steps last by start (Kept ss m before k followed keeps) =
      let so_far = followed_adds R file w first m ss before by start followed in
      ⊎_elim (λ same. subst (λ (f : D). HasAdded seen moment left_since (file first) f) (sym same) so_far)
      (λ added. added_twice (file first) (file before) (file k) so_far added) (by.keeps before m k keeps)

  pub all_is_added : {K : Type 0} (may_leave : D → List ℕ → Type 0)
      → ((file : D) (c : List ℕ) → left_since file (moment file) c → may_leave file c)
      → (R : Recording K) (file : K → D) (w left : World) (steps : List Step) (first last : K)
      → AddsToLog seen moment left_since R file → Only (seen (file first)) (may_leave (file first))
      → HasRecorded R w steps left first last → HasAdded seen moment left_since (file first) (file last)
  all_is_added may_leave only_now R file w left steps first last by durable recorded =
      let start = nothing_added may_leave (file first) (only_now (file first)) durable in
      let so_far = followed_adds R file w first left steps recorded.before by start recorded.followed in
      ⊎_elim (λ same. subst (λ (f : D). HasAdded seen moment left_since (file first) f) (sym same) so_far)
      (λ added. added_twice (file first) (file recorded.before) (file last) so_far added) (by.keeps recorded.before left last recorded.kept)
