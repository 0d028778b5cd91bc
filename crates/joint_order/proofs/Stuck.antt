-- Where a front is stuck, no order takes all points.
use Rattle.std.proofs.Common.{◌≡◌, ◌≢◌, ℕ, ◌+◌, ◌<◌, ◌≤◌, eq-eqb, ne_eqb, List, [], ◌∷◌, Option, Some, slice_get, refl, sym, ap, subst, ◌∙◌, arith}
use mathlib.Core.Logic.{dite}
use native.Mathlib.Decide.{ℕ_discrete, dec_le}
use Rattle.joint_order.specs.declared.point.ListPoint.{ListPoint}
use Rattle.joint_order.specs.Orders.{AreDistinct, IsStuck, IsTaken, TakesOn, TakesEveryPoint, list_at, none, one_more_at, point}

pub more_here : (f : ℕ → ℕ) (i : ℕ) → one_more_at f i i ≡ f i + 1
more_here f i = rw (eq-eqb i i refl) refl

pub more_there : (f : ℕ → ℕ) (i j : ℕ) → j ≢ i → one_more_at f i j ≡ f j
more_there f i j other = rw (ne_eqb j i other) refl

pub no_less : (f : ℕ → ℕ) (i j : ℕ) → f j ≤ one_more_at f i j
no_less f i j = dite (ℕ_discrete j i)
    (λ same. rw (eq-eqb j i same) (omega arith))
    (λ other. rw (ne_eqb j i other) (omega arith))

-- what was taken stays so
pub taken_stays : (lists : List (List ListPoint)) (f : ℕ → ℕ) (i : ℕ) (p : ListPoint) → IsTaken lists f p → IsTaken lists (one_more_at f i) p
taken_stays lists f i p n = (n.0, n.1, (let most = no_less f i n.0 in let below = n.2 in omega arith), n.3)

below_more : (f front : ℕ → ℕ) (i : ℕ) → ((j : ℕ) → f j ≤ front j) → f i ≢ front i → (j : ℕ) → one_more_at f i j ≤ front j
below_more f front i below apart j = dite (ℕ_discrete j i)
    (λ same. rw (eq-eqb j i same)
    (let most = below j in
    let P : ℕ → Type 0 = λ k. f k ≢ front k in
    let there : f j ≢ front j = subst P (sym same) apart in
    omega arith))
    (λ other. rw (ne_eqb j i other) (below j))

pub same_point : (t u a b : ℕ) → u ≡ t → b ≡ a → ◌≡◌ {A = Option ListPoint} (Some (point t a)) (Some (point u b))
same_point t u a b e f = λ k. Some (point (sym e k) (sym f k))

-- what was done of a group was taken, with one more
pub done_taken : (lists : List (List ListPoint)) (f d : ℕ → ℕ) (i t : ℕ) → slice_get (list_at lists i) (f i) ≡ Some (point t (d t))
    → ((u p : ℕ) → p < d u → IsTaken lists f (point u p)) → (u p : ℕ) → p < one_more_at d t u → IsTaken lists (one_more_at f i) (point u p)
done_taken lists f d i t next taken u p below = dite (ℕ_discrete u t)
    (λ same. dite (ℕ_discrete p (d t))
    (λ last. (i, f i, (let here = more_here f i in omega arith), next ∙ same_point t u (d t) p same last))
    (λ earlier.
    let here : one_more_at d t u ≡ d u + 1 = rw (eq-eqb u t same) refl in
    let alike : d u ≡ d t = ap d same in
    taken_stays lists f i (point u p) (taken u p (omega arith))))
    (λ other.
    let there = more_there d t u other in
    taken_stays lists f i (point u p) (taken u p (omega arith)))

not_at_front : (lists : List (List ListPoint)) (front f d : ℕ → ℕ) (i t : ℕ) → AreDistinct lists → IsStuck lists front → ((j : ℕ) → f j ≤ front j)
    → ((u p : ℕ) → p < d u → IsTaken lists f (point u p)) → slice_get (list_at lists i) (f i) ≡ Some (point t (d t)) → f i ≡ front i → ⊥
not_at_front lists front f d i t distinct s below taken next e =
    let P : ℕ → Type 0 = λ k. slice_get (list_at lists i) k ≡ Some (point t (d t)) in
    let there : slice_get (list_at lists i) (front i) ≡ Some (point t (d t)) = subst P e next in
    let apart : d t ≢ s.done t = s.stands i t (d t) there in
    dite (dec_le (s.done t) (d t))
    (λ above.
    let n = taken t (s.done t) (omega arith) in
    let m : IsTaken lists front (point t (s.done t)) = (n.0, n.1, (let less = n.2 in let most = below n.0 in omega arith), n.3) in
    let less = s.no_more t (s.done t) m in
    omega arith)
    (λ less.
    let n = s.prefix t (d t) (omega arith) in
    let same = distinct i (front i) n.0 n.1 (point t (d t)) there n.3 in
    let before = n.2 in
    let front_same = ap front same.0 in
    let place_same = same.1 in
    omega arith)

none_goes_on : (lists : List (List ListPoint)) (front : ℕ → ℕ) → AreDistinct lists → (s : IsStuck lists front)
    → (order : List ℕ) (f d : ℕ → ℕ) → ((i : ℕ) → f i ≤ front i) → ((t p : ℕ) → p < d t → IsTaken lists f (point t p)) → TakesOn lists f d order → ⊥
none_goes_on lists front distinct s [] f d below taken ends =
    let i = s.left.0 in
    let less = s.left.1 in
    let e = ends i in
    let most = below i in
    omega arith
none_goes_on lists front distinct s (i ∷ order) f d below taken run =
    dite (ℕ_discrete (f i) (front i))
    (λ e. not_at_front lists front f d i run.0 distinct s below taken run.1 e)
    (λ apart. none_goes_on lists front distinct s order (one_more_at f i) (one_more_at d run.0) (below_more f front i below apart)
    (done_taken lists f d i run.0 run.1 taken) run.2)

pub no_order : (lists : List (List ListPoint)) (front : ℕ → ℕ) (order : List ℕ) → AreDistinct lists → IsStuck lists front → TakesEveryPoint lists order → ⊥
no_order lists front order distinct s run =
    none_goes_on lists front distinct s order none none (λ i. omega arith) (λ t p below. absurd (omega arith)) run
