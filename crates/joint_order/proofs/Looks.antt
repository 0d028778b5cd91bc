-- What a look at a list finds.
use Rattle.std.proofs.Common.{◌≡◌, ℕ, ◌<◌, ◌==◌, ◌&&◌, if◌then◌else◌, nat_lt, Bool, true, false, List, [], length, Option, Some, None, slice_get, slice_index, unwrap_or, IsSome, IfSome, refl, ap, subst, arith}
use Rattle.std.proofs.lemmas.Bool.Decides.{nat_tests}
use Rattle.std.proofs.lemmas.Option.{slice_get_within, slice_get_past}
use mathlib.Core.Logic.{dite}
use native.Mathlib.Decide.{dec_le}
use Rattle.joint_order.specs.declared.point.ListPoint.{ListPoint}
use Rattle.joint_order.specs.Orders.{AreHeld, list_at}
use Rattle.joint_order.specs.Steps.{AreShort, CanCountPoint, if_next, next_at}

-- a list that has an element is one of the lists
pub has_list : {A : Type 0} (lists : List (List A)) (i k : ℕ) (x : A) → slice_get (list_at lists i) k ≡ Some x → i < length lists
has_list {A = A} lists i k x e = dite (dec_le (length lists) i)
    (λ past.
    let P : Option (List A) → Type 0 = λ o. slice_get (unwrap_or o []) k ≡ Some x in
    let nothing : slice_get [] k ≡ Some x = subst P (slice_get_past lists i past) e in
    let within = slice_get_within [] k x nothing in
    absurd (omega arith))
    (λ here. omega arith)

-- the point that is found is the one that was looked at, and the next of its group
pub found : (done : List ℕ) (o : Option ListPoint) (p : ListPoint) → if_next done o ≡ Some p
    → (o ≡ Some p) × (p.group < length done) × (slice_index done p.group ≡ p.place)
found done None p e = absurd cc
found done (Some q) p e = by_test (nat_lt q.group (length done) && (slice_index done q.group == q.place)) refl e
  where
    by_test : (b : Bool) → b ≡ (nat_lt q.group (length done) && (slice_index done q.group == q.place))
        → (if b then Some q else None) ≡ Some p
        → (◌≡◌ {A = Option ListPoint} (Some q) (Some p)) × (p.group < length done) × (slice_index done p.group ≡ p.place)
    by_test false is e = absurd cc
    by_test true is e =
        let P : ListPoint → Type 0 = λ r. (r.group < length done) × (slice_index done r.group ≡ r.place) in
        let here : P q = (grind (arith, nat_tests), grind (arith, nat_tests)) in
        let same : q ≡ p = ap (λ (o : Option ListPoint). unwrap_or o q) e in
        let there : P p = subst P same here in
        (e, there.0, there.1)

pub can_go_on : (lists : List (List ListPoint)) (holders : List (List (Option ℕ))) (taken done : List ℕ) (i : ℕ) (p : ListPoint)
    → length taken ≡ length lists → AreHeld lists holders → AreShort lists → AreShort holders
    → next_at lists taken done i ≡ Some p → CanCountPoint taken done i p
can_go_on lists holders taken done i p wide held lists_short holders_short e =
    let at = found done (slice_get (list_at lists i) (slice_index taken i)) p e in
    let there = has_list lists i (slice_index taken i) p at.0 in
    let below = slice_get_within (list_at lists i) (slice_index taken i) p at.0 in
    let short = lists_short i in
    let place = slice_get_within (list_at holders p.group) p.place (Some i) (held.held i (slice_index taken i) p at.0) in
    let most = holders_short p.group in
    record {
      list = omega arith;
      group = at.1;
      next = at.2;
      taken_fits = omega arith;
      place_fits = omega arith;
    }

-- a point that is the next of its group is found
pub is_next : (done : List ℕ) (p : ListPoint) → p.group < length done → slice_index done p.group ≡ p.place → if_next done (Some p) ≡ Some p
is_next done p below next =
    let passes : (nat_lt p.group (length done) && (slice_index done p.group == p.place)) ≡ true = grind (arith, nat_tests) in
    rw passes refl

-- what is there
pub some_is : {A : Type 0} (o : Option A) → IsSome o → (x : A) × (o ≡ Some x)
some_is None s = absurd cc
some_is (Some x) s = (x, refl)

-- a fact of what is there, by cases
pub if_some : {A : Type 0} (o : Option A) (P : A → Type 0) → ((x : A) → o ≡ Some x → P x) → IfSome o P
if_some None P each = tt
if_some (Some x) P each = each x refl
