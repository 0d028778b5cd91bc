-- How a run of batches goes on, and what it leaves of each tenant's records.
use Rattle.std.proofs.Common.{◌≡◌, ⊎_elim, inr, ℕ, zero, suc, ◌+◌, ◌<◌, ◌≤◌, Bool, true, false, cond, List, [], ◌∷◌, ◌++◌, length, take, drop, get_or, refl, sym, ◌∙◌, ap, arith, append_assoc, append-nil, length-append}
use Rattle.std.specs.List.{filter}
use Rattle.std.proofs.lemmas.List.Elements.{filter-append}
use Rattle.line_log.specs.File.{LeavesOnly}
use Rattle.line_log.specs.Log.{all_of, recovered, IsWithSome}

-- one run after another
pub then : {D : Type 0} (moment : D → ℕ) (left_since : D → ℕ → List ℕ → Type 0) (old mid new : D) (P Q : List ℕ → Type 0)
    → LeavesOnly moment left_since old mid P → LeavesOnly moment left_since mid new Q → ((c : List ℕ) → Q c → P c) → LeavesOnly moment left_since old new P
then moment left_since old mid new P Q first second wider = record {
  later = omega (arith, first.later, second.later);
  each = λ c left. ⊎_elim (first.each c) (wider c) (second.before (moment old) c first.later left);
  before = λ t c le left. ⊎_elim (first.before t c le) (λ q. inr (wider c q)) (second.before t c (omega (arith, le, first.later)) left);
}

pub all_more : (bs : List (List (List ℕ))) (i : ℕ) (d : List (List ℕ)) → i < length bs → all_of (take (i + 1) bs) ≡ all_of (take i bs) ++ get_or bs i d
all_more [] i d within = absurd (omega (arith, within))
all_more (b ∷ bs) zero d within = append-nil b
all_more (b ∷ bs) (suc i) d within =
    let same : suc i + 1 ≡ suc (i + 1) = omega arith in
    ap (λ (k : ℕ). all_of (take k (b ∷ bs))) same
    ∙ ap (λ (l : List (List ℕ)). b ++ l) (all_more bs i d (omega (arith, within))) ∙ sym (append_assoc b (all_of (take i bs)) (get_or bs i d))

all_split : (bs : List (List (List ℕ))) (i : ℕ) (d : List (List ℕ)) → i < length bs → all_of bs ≡ all_of (take i bs) ++ (get_or bs i d ++ all_of (drop (suc i) bs))
all_split [] i d within = absurd (omega (arith, within))
all_split (b ∷ bs) zero d within = refl
all_split (b ∷ bs) (suc i) d within =
    ap (λ (l : List (List ℕ)). b ++ l) (all_split bs i d (omega (arith, within))) ∙ sym (append_assoc b (all_of (take i bs)) (get_or bs i d ++ all_of (drop (suc i) bs)))

take_front : (xs ys zs : List (List ℕ)) (n : ℕ) → n ≤ length ys → take (length xs + n) (xs ++ (ys ++ zs)) ≡ xs ++ take n ys
take_front [] ys zs n few = let same : 0 + n ≡ n = omega arith in ap (λ (k : ℕ). take k (ys ++ zs)) same ∙ within ys n few
  where
    within : (ys : List (List ℕ)) (n : ℕ) → n ≤ length ys → take n (ys ++ zs) ≡ take n ys
    within ys zero few = refl
    within [] (suc n) few = absurd (omega (arith, few))
    within (y ∷ ys) (suc n) few = ap (λ (l : List (List ℕ)). y ∷ l) (within ys n (omega (arith, few)))
take_front (x ∷ xs) ys zs n few =
    let same : length (x ∷ xs) + n ≡ suc (length xs + n) = omega arith in
    ap (λ (k : ℕ). take k (x ∷ (xs ++ (ys ++ zs)))) same ∙ ap (λ (l : List (List ℕ)). x ∷ l) (take_front xs ys zs n few)

-- with some of one batch, the records are with some of all
pub some_of_all : (before : List (List ℕ)) (bs : List (List (List ℕ))) (i : ℕ) (d : List (List ℕ)) (c : List ℕ) → i < length bs
    → IsWithSome (before ++ all_of (take i bs)) (get_or bs i d) c → IsWithSome before (all_of bs) c
some_of_all before bs i d c within some =
    let so_far = all_of (take i bs) in
    let split : all_of bs ≡ so_far ++ (get_or bs i d ++ all_of (drop (suc i) bs)) = all_split bs i d within in
    let size : length (all_of bs) ≡ length so_far + (length (get_or bs i d) + length (all_of (drop (suc i) bs))) =
    ap length split ∙ length-append so_far (get_or bs i d ++ all_of (drop (suc i) bs)) ∙ ap (λ (k : ℕ). length so_far + k) (length-append (get_or bs i d) (all_of (drop (suc i) bs))) in
    let front : take (length so_far + some.count) (all_of bs) ≡ so_far ++ take some.count (get_or bs i d) =
    ap (λ (l : List (List ℕ)). take (length so_far + some.count) l) split ∙ take_front so_far (get_or bs i d) (all_of (drop (suc i) bs)) some.count some.few in
    record {
      count = length so_far + some.count;
      few = omega (arith, size, some.few);
      is = some.is ∙ append_assoc before so_far (take some.count (get_or bs i d)) ∙ ap (λ (l : List (List ℕ)). before ++ l) (sym front);
    }

-- the first of a list, of those that pass a test
front_filtered : (p : List ℕ → Bool) (xs : List (List ℕ)) (n : ℕ) → (m : ℕ) × (m ≤ length (filter p xs)) × (filter p (take n xs) ≡ take m (filter p xs))
front_filtered p xs zero = (0, omega arith, refl)
front_filtered p [] (suc n) = (0, omega arith, refl)
front_filtered p (x ∷ xs) (suc n) = kept (p x) (front_filtered p xs n)
  where
    kept : (b : Bool) → (m : ℕ) × (m ≤ length (filter p xs)) × (filter p (take n xs) ≡ take m (filter p xs))
        → (m : ℕ) × (m ≤ length (cond b (x ∷ filter p xs) (filter p xs))) × (cond b (x ∷ filter p (take n xs)) (filter p (take n xs)) ≡ take m (cond b (x ∷ filter p xs) (filter p xs)))
    kept true (m, few, is) = (suc m, omega (arith, few), ap (λ (l : List (List ℕ)). x ∷ l) is)
    kept false (m, few, is) = (m, few, is)

pub of_each : (p : List ℕ → Bool) (before written : List (List ℕ)) (file : List ℕ) → IsWithSome before written file
    → (n : ℕ) × (n ≤ length (filter p written)) × (filter p (recovered file) ≡ filter p before ++ take n (filter p written))
of_each p before written file some =
    let front = front_filtered p written some.count in
    (front.0, front.1, ap (λ (l : List (List ℕ)). filter p l) some.is ∙ filter-append p before (take some.count written) ∙ ap (λ (l : List (List ℕ)). filter p before ++ l) front.2)
