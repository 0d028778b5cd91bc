-- Sums that have no room.
use Rattle.std.proofs.Common.{◌≡◌, ◌≤◌, ◌+◌, ◌^◌, ℕ, List, take, subst, sym, arith}
use Rattle.std.specs.Prelude.{Err, Result, Some, get_or, sum_by}
use Rattle.std.specs.List.{slice_get}
use Rattle.std.proofs.lemmas.List.Sums.{sum_by_more_le}
use Rattle.std.proofs.lemmas.Option.{slice_get_within, get_or_from_slice_get}
use Rattle.common_types.specs.declared.read_error.ReadError.{ReadError}
use Rattle.common_types.specs.declared.read_error.ReadError.TheVariants.{Fault, Memory}
use Rattle.statements.specs.Sums.{IsOver, OnLong, sum_at}
use Rattle.statements.specs.declared.tally.Long.{Long}
use Rattle.statements.specs.declared.tally.Tally.{Tally}

err_long : (Y F G : Type 0) (e : ReadError Long) → (F → G) → OnLong {X = Unit {0}} (Err e) F → OnLong {X = Y} (Err e) G
err_long Y F G Memory then was = tt
err_long Y F G (Fault long) then was = then was

-- what follows from a lack of room is so if there is one
pub on_long : (Y F G : Type 0) (e : ReadError Long) (r : Result Y (ReadError Long)) → r ≡ Err e → (F → G)
    → OnLong {X = Unit {0}} (Err e) F → OnLong {X = Y} r G
on_long Y F G e r is then was =
    subst (λ (x : Result Y (ReadError Long)). OnLong {X = Y} x G) (sym is) (err_long Y F G e then was)

-- the same sums have no room
pub over_same : (before now : Tally) (more other : ℕ → ℕ) → ((n : ℕ) → sum_at now n ≡ sum_at before n) → ((n : ℕ) → more n ≡ other n)
    → IsOver now more → IsOver before other
over_same before now more other same alike over =
    let n : ℕ = over.0 in
    let a = same n in
    let b = alike n in
    let o : 2 ^ 128 ≤ sum_at now n + more n = over.1 in
    (n, omega arith)

-- where one more has no room after some, all have none
pub over_all : {X : Type 0} (f : ℕ → X → ℕ) (before now : Tally) (xs : List X) (k : ℕ) (x : X)
    → ((n : ℕ) → sum_at now n ≡ sum_at before n + sum_by (f n) (take k xs)) → slice_get xs k ≡ Some x
    → IsOver now (λ n. f n x) → IsOver before (λ n. sum_by (f n) xs)
over_all {X} f before now xs k x so_far at over =
    let n : ℕ = over.0 in
    let o : 2 ^ 128 ≤ sum_at now n + f n x = over.1 in
    let a : sum_at now n ≡ sum_at before n + sum_by (f n) (take k xs) = so_far n in
    let is : get_or xs k x ≡ x = get_or_from_slice_get xs k x x at in
    let le : sum_by (f n) (take k xs) + f n x ≤ sum_by (f n) xs =
    subst (λ (y : X). sum_by (f n) (take k xs) + f n y ≤ sum_by (f n) xs) is (sum_by_more_le (f n) xs k x (slice_get_within xs k x at)) in
    (n, omega arith)
