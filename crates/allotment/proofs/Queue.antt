-- What asking for a place and giving one back do to those who wait.
use Rattle.std.proofs.Common.{ℕ, ◌≡◌, ◌≢◌, ◌+◌, ◌-◌, ◌<◌, ◌≤◌, ◌⊎◌, inl, inr, true, false, List, length, slice_index, slice_set, refl, sym, ap, subst, ◌∙◌, arith}
use mathlib.Core.Logic.{dite}
use native.Mathlib.Decide.{ℕ_discrete}
use Rattle.std.proofs.lemmas.List.{get_or-set_other, get_or-set_same, length-set}
use Rattle.std.proofs.lemmas.List.Sums.{sum_by-set}
use Rattle.std.proofs.lemmas.Bool.{cases_lt}
use Rattle.std.proofs.lemmas.Bool.Decides.{nat_tests}
use Rattle.allotment.proofs.Owed.{given_to_itself}
use Rattle.allotment.specs.Waits.{NobodyWaitsInVain, Queued, given_up_by, kept_by, kept_for, picked_up_by, returned_by, waiting_of, waits_for}
use Rattle.allotment.specs.WaitsKept.{IsQueue}
use Rattle.allotment.specs.Loans.{Loans, IsCovered, asked_by, free_of, given_back_by, is_granted, lent_to, owed_of, used_by}

-- what holds of each number of a list holds after one was set
pub set_all : (P : ℕ → ℕ → Type 0) (xs : List ℕ) (i v : ℕ) → i < length xs → P i v → ((j : ℕ) → j ≢ i → P j (slice_index xs j))
    → (j : ℕ) → P j (slice_index (slice_set xs i v) j)
set_all P xs i v there here others j = dite (ℕ_discrete j i)
    (λ e. let Q : ℕ → Type 0 = λ k. P k (slice_index (slice_set xs i v) k) in
    let R : ℕ → Type 0 = λ n. P i n in
    subst Q (sym e) (subst R (sym (get_or-set_same xs i v 0 there)) here))
    (λ ne. let R : ℕ → Type 0 = λ n. P j n in
    subst R (sym (get_or-set_other xs i j v 0 ne)) (others j ne))

-- who is refused uses its share, and what is free is owed
pub record IsRefused (tenant : ℕ) (loans : Loans) : Type 0 where
  pub used : loans.share ≤ used_by tenant loans
  pub free : free_of loans ≤ owed_of loans

pub refused : (tenant : ℕ) (loans : Loans) → is_granted tenant loans ≡ false → IsRefused tenant loans
refused tenant loans denied = record { used = grind (arith, nat_tests, denied); free = grind (arith, nat_tests, denied) }

pub not_granted : (tenant : ℕ) (loans : Loans) → IsRefused tenant loans → is_granted tenant loans ≡ false
not_granted tenant loans r =
    let used = r.used in
    let free = r.free in
    grind (arith, nat_tests, used, free)

granted : (tenant : ℕ) (loans : Loans) → is_granted tenant loans ≡ true
    → (used_by tenant loans < loans.share) ⊎ (owed_of loans < free_of loans)
granted tenant loans allowed = elim (cases_lt (used_by tenant loans) loans.share) [
  | inl below ↦ inl below
  | inr uses ↦ inr (grind (arith, nat_tests, allowed, uses))
]

-- who was refused is refused still when another has got a place
pub refused_after_loan : (tenant other : ℕ) (loans : Loans) → tenant < length loans.used → is_granted tenant loans ≡ true
    → free_of (lent_to tenant loans) + 1 ≡ free_of loans → IsRefused other loans → IsRefused other (lent_to tenant loans)
refused_after_loan tenant other loans there allowed taken r =
    let used = used_by tenant loans in
    let P : ℕ → ℕ → Type 0 = λ u n. loans.share ≤ used_by u loans → loans.share ≤ n in
    let owed = sum_by-set (λ (u : ℕ). loans.share - u) loans.used tenant (used + 1) 0 there in
    let free = r.free in
    record {
      used = set_all P loans.used tenant (used + 1) there (λ le. omega arith) (λ u ne le. le) other r.used;
      free = elim (granted tenant loans allowed) [
        | inl below ↦ omega (arith, below, owed, free, taken)
        | inr above ↦ omega (arith, above, free)
      ];
    }

-- how many the next one uses, once the tenant has given one back
used_then : (tenant next : ℕ) (loans : Loans) → tenant < length loans.used
    → ((next ≡ tenant) × (used_by next (given_back_by tenant loans) ≡ used_by tenant loans - 1))
    ⊎ ((next ≢ tenant) × (used_by next (given_back_by tenant loans) ≡ used_by next loans))
used_then tenant next loans there = dite (ℕ_discrete next tenant)
    (λ e. inl (
      e,
      (let P : ℕ → Type 0 = λ k. used_by k (given_back_by tenant loans) ≡ used_by tenant loans - 1 in
          subst P (sym e) (get_or-set_same loans.used tenant (used_by tenant loans - 1) 0 there)),
    ))
    (λ ne. inr (ne, get_or-set_other loans.used tenant next (used_by tenant loans - 1) 0 ne))

-- who was refused is refused still when a place that came back is lent to one that waited for it
pub refused_after_return : (tenant next other : ℕ) (loans : Loans) → tenant < length loans.used → next < length loans.used
    → 0 < used_by tenant loans → (used_by tenant loans ≤ loans.share → next ≡ tenant) → IsRefused next loans
    → IsRefused other loans → IsRefused other (lent_to next (given_back_by tenant loans))
refused_after_return tenant next other loans there is_there uses own n r =
    let given = given_back_by tenant loans in
    let used = used_by tenant loans in
    let again = used_by next given in
    let share = loans.share in
    let is_in : next < length given.used = omega (arith, length-set loans.used tenant (used - 1), is_there) in
    let above : next ≢ tenant → share < used =
    λ ne. elim (cases_lt share used) [ inl above ↦ above | inr below ↦ absurd (ne (own below)) ] in
    let G : ℕ → ℕ → Type 0 = λ u m. u ≢ next → share ≤ used_by u loans → share ≤ m in
    let first : (u : ℕ) → G u (used_by u given) =
    set_all G loans.used tenant (used - 1) there (λ ne le. (let a = above (λ e. ne (sym e)) in omega arith)) (λ u ne differs le. le) in
    let P : ℕ → ℕ → Type 0 = λ u m. share ≤ used_by u loans → share ≤ m in
    let nu = n.used in
    let nf = n.free in
    let cases = used_then tenant next loans there in
    let here : share ≤ again + 1 = elim cases [
      | inl same ↦ (let e = same.1 in let P : ℕ → Type 0 = λ k. share ≤ used_by k loans in let o : share ≤ used = subst P same.0 nu in omega (arith, e, o))
      | inr differs ↦ (let e = differs.1 in omega (arith, e, nu))
    ] in
    let lent = sum_by-set (λ (u : ℕ). u) loans.used tenant (used - 1) 0 there in
    let lent_again = sum_by-set (λ (u : ℕ). u) given.used next (again + 1) 0 is_in in
    let owed = sum_by-set (λ (u : ℕ). share - u) loans.used tenant (used - 1) 0 there in
    let owed_again = sum_by-set (λ (u : ℕ). share - u) given.used next (again + 1) 0 is_in in
    let rf = r.free in
    record {
      used = set_all P given.used next (again + 1) is_in (λ le. here) (λ u ne le. first u ne le) other r.used;
      free = elim cases [
        | inl same ↦ (let e = same.1 in omega (arith, e, lent, lent_again, owed, owed_again, rf, uses))
        | inr differs ↦ (let e = differs.1 in let a = above differs.0 in omega (arith, e, a, nu, lent, lent_again, owed, owed_again, rf, uses))
      ];
    }

-- what a tenant gives back that used more than its share, anyone may have
pub common : (tenant other : ℕ) (loans : Loans) → tenant < length loans.used → loans.share < used_by tenant loans → IsCovered loans
    → is_granted other (given_back_by tenant loans) ≡ true
common tenant other loans there above covered =
    let given = given_back_by tenant loans in
    let used = used_by tenant loans in
    let lent = sum_by-set (λ (u : ℕ). u) loans.used tenant (used - 1) 0 there in
    let owed = sum_by-set (λ (u : ℕ). loans.share - u) loans.used tenant (used - 1) 0 there in
    let free : owed_of given < free_of given = omega (arith, lent, owed, above, covered) in
    grind (arith, nat_tests, free)

-- what a tenant gives back that used no more than its share, it may have again
pub own : (tenant : ℕ) (loans : Loans) → tenant < length loans.used → 0 < used_by tenant loans
    → used_by tenant loans ≤ loans.share → is_granted tenant (given_back_by tenant loans) ≡ true
own tenant loans there uses within =
    let same : used_by tenant (given_back_by tenant loans) ≡ used_by tenant loans - 1 =
    get_or-set_same loans.used tenant (used_by tenant loans - 1) 0 there in
    let below : used_by tenant (given_back_by tenant loans) < loans.share = omega (arith, same, uses, within) in
    grind (arith, nat_tests, below)

-- where the tenant used no more than its share and none of it waits, what it gave back changes nothing for those who wait
pub nobody_then : (tenant : ℕ) (waiting : List ℕ) (loans : Loans) → tenant < length loans.used → 0 < used_by tenant loans
    → used_by tenant loans ≤ loans.share → IsCovered loans → slice_index waiting tenant ≡ 0
    → ((other : ℕ) → 0 < slice_index waiting other → is_granted other loans ≡ false)
    → (other : ℕ) → 0 < slice_index waiting other → is_granted other (given_back_by tenant loans) ≡ false
nobody_then tenant waiting loans there uses within covered none vain other waits =
    let P : ℕ → Type 0 = λ k. 0 < slice_index waiting k in
    given_to_itself tenant other loans there uses within covered
    (λ e. let mine : 0 < slice_index waiting tenant = subst P e waits in omega (arith, mine, none)) ∙ vain other waits

-- ---- the calls

-- who is granted a place gets it
pub asked_when : (tenant : ℕ) (loans : Loans) → is_granted tenant loans ≡ true → asked_by tenant loans ≡ lent_to tenant loans
asked_when tenant loans allowed = rw allowed refl

-- a tenant has got a place
pub queue_taken : (tenant : ℕ) (q : Queued) → IsQueue q → tenant < length q.loans.used → is_granted tenant q.loans ≡ true
    → free_of (lent_to tenant q.loans) + 1 ≡ free_of q.loans → IsQueue (record q { loans = lent_to tenant q.loans })
queue_taken tenant q kept there allowed taken =
    let used = used_by tenant q.loans in
    let U : ℕ → ℕ → Type 0 = λ u n. kept_for u q ≤ n in
    let before = kept.used tenant in
    record {
      all_wait = omega (arith, kept.all_wait, length-set q.loans.used tenant (used + 1));
      all_kept = omega (arith, kept.all_kept, length-set q.loans.used tenant (used + 1));
      few = kept.few;
      used = set_all U q.loans.used tenant (used + 1) there (omega arith) (λ u ne. kept.used u);
      in_vain = λ u waits. not_granted u (lent_to tenant q.loans) (refused_after_loan tenant u q.loans there allowed taken (refused u q.loans (kept.in_vain u waits)));
      turn = omega (arith, kept.turn, length-set q.loans.used tenant (used + 1));
    }

-- one more of a tenant waits
pub queue_waits : (tenant : ℕ) (q : Queued) → IsQueue q → tenant < length q.loans.used → is_granted tenant q.loans ≡ false
    → waiting_of tenant q < q.most_waiting → IsQueue (waits_for tenant q)
queue_waits tenant q kept there denied room =
    let waiting = waiting_of tenant q in
    let is_in : tenant < length q.waiting = omega (arith, kept.all_wait, there) in
    let F : ℕ → ℕ → Type 0 = λ u n. n ≤ q.most_waiting in
    let V : ℕ → ℕ → Type 0 = λ u n. 0 < n → is_granted u q.loans ≡ false in
    record {
      all_wait = omega (arith, kept.all_wait, length-set q.waiting tenant (waiting + 1));
      all_kept = kept.all_kept;
      few = set_all F q.waiting tenant (waiting + 1) is_in (omega (arith, room)) (λ u ne. kept.few u);
      used = kept.used;
      in_vain = set_all V q.waiting tenant (waiting + 1) is_in (λ some. denied) (λ u ne. kept.in_vain u);
      turn = kept.turn;
    }

-- one of a tenant waits no longer
pub queue_given_up : (tenant : ℕ) (q : Queued) → IsQueue q → tenant < length q.loans.used → IsQueue (given_up_by tenant q)
queue_given_up tenant q kept there =
    let waiting = waiting_of tenant q in
    let is_in : tenant < length q.waiting = omega (arith, kept.all_wait, there) in
    let F : ℕ → ℕ → Type 0 = λ u n. n ≤ q.most_waiting in
    let V : ℕ → ℕ → Type 0 = λ u n. 0 < n → is_granted u q.loans ≡ false in
    let few = kept.few tenant in
    record {
      all_wait = omega (arith, kept.all_wait, length-set q.waiting tenant (waiting - 1));
      all_kept = kept.all_kept;
      few = set_all F q.waiting tenant (waiting - 1) is_in (omega (arith, few)) (λ u ne. kept.few u);
      used = kept.used;
      in_vain = set_all V q.waiting tenant (waiting - 1) is_in (λ some. kept.in_vain tenant (omega (arith, some))) (λ u ne. kept.in_vain u);
      turn = kept.turn;
    }

-- a place that was kept is picked up
pub queue_picked_up : (tenant : ℕ) (q : Queued) → IsQueue q → tenant < length q.loans.used → IsQueue (picked_up_by tenant q)
queue_picked_up tenant q kept there =
    let many = kept_for tenant q in
    let is_in : tenant < length q.kept = omega (arith, kept.all_kept, there) in
    let U : ℕ → ℕ → Type 0 = λ u n. n ≤ used_by u q.loans in
    let used = kept.used tenant in
    record {
      all_wait = kept.all_wait;
      all_kept = omega (arith, kept.all_kept, length-set q.kept tenant (many - 1));
      few = kept.few;
      used = set_all U q.kept tenant (many - 1) is_in (omega (arith, used)) (λ u ne. kept.used u);
      in_vain = kept.in_vain;
      turn = kept.turn;
    }

-- a place came back for which nobody waits who could have it
pub queue_returned : (tenant : ℕ) (q : Queued) → IsQueue q → tenant < length q.loans.used → kept_for tenant q < used_by tenant q.loans
    → NobodyWaitsInVain (returned_by tenant q) → IsQueue (returned_by tenant q)
queue_returned tenant q kept there uses nobody =
    let used = used_by tenant q.loans in
    let U : ℕ → ℕ → Type 0 = λ u n. kept_for u q ≤ n in
    record {
      all_wait = omega (arith, kept.all_wait, length-set q.loans.used tenant (used - 1));
      all_kept = omega (arith, kept.all_kept, length-set q.loans.used tenant (used - 1));
      few = kept.few;
      used = set_all U q.loans.used tenant (used - 1) there (omega (arith, uses)) (λ u ne. kept.used u);
      in_vain = nobody;
      turn = omega (arith, kept.turn, length-set q.loans.used tenant (used - 1));
    }

-- a place came back and is kept for one that waited
pub queue_kept : (tenant next turn : ℕ) (q : Queued) → IsQueue q → tenant < length q.loans.used → next < length q.loans.used
    → kept_for tenant q < used_by tenant q.loans → (used_by tenant q.loans ≤ q.loans.share → next ≡ tenant) → 0 < waiting_of next q
    → turn < length q.loans.used → IsQueue (record (kept_by next (returned_by tenant q)) { turn = turn })
queue_kept tenant next turn q kept there is_there uses own waits is_turn =
    let given = given_back_by tenant q.loans in
    let used = used_by tenant q.loans in
    let again = used_by next given in
    let waiting = waiting_of next q in
    let many = kept_for next q in
    let few = kept.few next in
    let lent_in : next < length given.used = omega (arith, length-set q.loans.used tenant (used - 1), is_there) in
    let waits_in : next < length q.waiting = omega (arith, kept.all_wait, is_there) in
    let kept_in : next < length q.kept = omega (arith, kept.all_kept, is_there) in
    let F : ℕ → ℕ → Type 0 = λ u n. n ≤ q.most_waiting in
    let U : ℕ → ℕ → Type 0 = λ u n. kept_for u q ≤ n in
    let later : (u : ℕ) → kept_for u q ≤ used_by u given =
    set_all U q.loans.used tenant (used - 1) there (omega (arith, uses)) (λ u ne. kept.used u) in
    let after = lent_to next given in
    let now = later next in
    let K : ℕ → ℕ → Type 0 = λ u n. n ≤ used_by u after in
    let G : ℕ → ℕ → Type 0 = λ u n. u ≢ next → kept_for u q ≤ n in
    let others : (u : ℕ) → u ≢ next → kept_for u q ≤ used_by u after =
    set_all G given.used next (again + 1) lent_in (λ ne. absurd (ne refl)) (λ u ne differs. later u) in
    let here : used_by next after ≡ again + 1 = get_or-set_same given.used next (again + 1) 0 lent_in in
    let V : ℕ → ℕ → Type 0 = λ u n. 0 < n → is_granted u after ≡ false in
    let refuses : (u : ℕ) → 0 < waiting_of u q → is_granted u after ≡ false =
    λ u some. not_granted u after (refused_after_return tenant next u q.loans there is_there (omega (arith, uses)) own
    (refused next q.loans (kept.in_vain next waits)) (refused u q.loans (kept.in_vain u some))) in
    record {
      all_wait = omega (arith, kept.all_wait, length-set q.waiting next (waiting - 1), length-set q.loans.used tenant (used - 1), length-set given.used next (again + 1));
      all_kept = omega (arith, kept.all_kept, length-set q.kept next (many + 1), length-set q.loans.used tenant (used - 1), length-set given.used next (again + 1));
      few = set_all F q.waiting next (waiting - 1) waits_in (omega (arith, few)) (λ u ne. kept.few u);
      used = set_all K q.kept next (many + 1) kept_in (omega (arith, here, now)) others;
      in_vain = set_all V q.waiting next (waiting - 1) waits_in (λ some. refuses next waits) (λ u ne. refuses u);
      turn = omega (arith, is_turn, length-set q.loans.used tenant (used - 1), length-set given.used next (again + 1));
    }

-- the same of what was read and written one after another
pub queue_kept_at : (q now : Queued) → q ≡ now → (tenant next turn : ℕ) (given loans : Loans) (waiting kept : List ℕ) → IsQueue q
    → tenant < length now.loans.used → kept_for tenant now < used_by tenant now.loans → next < length now.loans.used
    → (used_by tenant now.loans ≤ now.loans.share → next ≡ tenant) → 0 < waiting_of next now
    → is_granted next (given_back_by tenant now.loans) ≡ true → given ≡ given_back_by tenant q.loans → loans ≡ asked_by next given
    → waiting ≡ slice_set q.waiting next (waiting_of next q - 1) → kept ≡ slice_set q.kept next (kept_for next q + 1)
    → turn < length q.loans.used → IsQueue (record { loans = loans; most_waiting = q.most_waiting; waiting = waiting; kept = kept; turn = turn })
queue_kept_at q now is tenant next turn given loans waiting kept queue there uses is_there own waits allowed given_is loans_is waiting_is kept_is is_turn =
    let B : Queued → Type 0 = λ q. tenant < length q.loans.used in
    let N : Queued → Type 0 = λ q. next < length q.loans.used in
    let U : Queued → Type 0 = λ q. kept_for tenant q < used_by tenant q.loans in
    let O : Queued → Type 0 = λ q. used_by tenant q.loans ≤ q.loans.share → next ≡ tenant in
    let W : Queued → Type 0 = λ q. 0 < waiting_of next q in
    let G : Queued → Type 0 = λ q. is_granted next (given_back_by tenant q.loans) ≡ true in
    let back = sym is in
    let lent : loans ≡ lent_to next (given_back_by tenant q.loans) =
    loans_is ∙ (ap (asked_by next) given_is ∙ asked_when next (given_back_by tenant q.loans) (subst G back allowed)) in
    let base = queue_kept tenant next turn q queue (subst B back there) (subst N back is_there) (subst U back uses) (subst O back own) (subst W back waits) is_turn in
    let after : Queued = record (kept_by next (returned_by tenant q)) { turn = turn } in
    let PL : Loans → Type 0 = λ l. IsQueue (record after { loans = l }) in
    let PW : List ℕ → Type 0 = λ w. IsQueue (record after { loans = loans; waiting = w }) in
    let PK : List ℕ → Type 0 = λ k. IsQueue (record after { loans = loans; waiting = waiting; kept = k }) in
    subst PK (sym kept_is) (subst PW (sym waiting_is) (subst PL (sym lent) base))
