-- Where the search goes.
use Rattle.std.proofs.Common.{◌≡◌, ◌≢◌, ℕ, zero, suc, ◌+◌, ◌*◌, ◌<◌, ◌≤◌, eq-eqb, ne_eqb, Bool, true, false, nat_le, List, [], ◌∷◌, ◌++◌, length, Option, Some, None, slice_get, slice_index, slice_set, unwrap_or, Contains, IsSome, is_some, replicate, refl, sym, ap, subst, ◌∙◌, arith, inl, inr}
use Rattle.std.proofs.lemmas.Bool.Decides.{nat_tests}
use Rattle.std.proofs.lemmas.Option.{slice_get_within, slice_get_past}
use Rattle.std.proofs.lemmas.List.Elements.{Contains-append_left, Contains-append_right, Contains-append_cases}
use Rattle.std.proofs.lemmas.List.{length-append, length-replicate}
use Rattle.std.proofs.lemmas.List.Sums.{sum_by-cons}
use mathlib.Core.Logic.{dite}
use native.Mathlib.Decide.{ℕ_discrete, dec_le}
use Rattle.joint_order.specs.declared.point.ListPoint.{ListPoint}
use Rattle.joint_order.specs.Orders.{AreHeld, IsStuck, IsTaken, TakesEveryPoint, TakesOn, at, list_at, none, one_more_at, point, points_count}
use Rattle.joint_order.specs.Steps.{CanCountPoint, IsGoing, Progress, RunsByOrder, holder_at, if_next, points_left, inner_of, listed, looked, next_at, with_one_more}
use Rattle.joint_order.proofs.Stuck.{done_taken, more_here, more_there, no_less}
use Rattle.joint_order.proofs.Looks.{found, has_list, is_next, some_is}

index_set_same : (xs : List ℕ) (i n : ℕ) → i < length xs → slice_index (slice_set xs i n) i ≡ n
index_set_same [] i n below = absurd (omega arith)
index_set_same (x ∷ xs) zero n below = refl
index_set_same (x ∷ xs) (suc i) n below = index_set_same xs i n (omega arith)

index_set_other : (xs : List ℕ) (i j n : ℕ) → j ≢ i → slice_index (slice_set xs i n) j ≡ slice_index xs j
index_set_other [] i j n other = refl
index_set_other (x ∷ xs) zero zero n other = absurd (other refl)
index_set_other (x ∷ xs) zero (suc j) n other = refl
index_set_other (x ∷ xs) (suc i) zero n other = refl
index_set_other (x ∷ xs) (suc i) (suc j) n other = index_set_other xs i j n (λ e. other (ap suc e))

length_set : (xs : List ℕ) (i n : ℕ) → length (slice_set xs i n) ≡ length xs
length_set [] i n = refl
length_set (x ∷ xs) zero n = refl
length_set (x ∷ xs) (suc i) n = ap suc (length_set xs i n)

one_more_here : (xs : List ℕ) (i j : ℕ) → i < length xs → slice_index (with_one_more xs i) j ≡ one_more_at (at xs) i j
one_more_here xs i j below = dite (ℕ_discrete j i)
    (λ same. rw (eq-eqb j i same)
    (let P : ℕ → Type 0 = λ k. slice_index (with_one_more xs i) k ≡ slice_index xs k + 1 in
    subst P (sym same) (index_set_same xs i (slice_index xs i + 1) below)))
    (λ other. rw (ne_eqb j i other) (index_set_other xs i j (slice_index xs i + 1) other))

pub raised_at : (xs : List ℕ) (i : ℕ) → i < length xs → at (with_one_more xs i) ≡ one_more_at (at xs) i
raised_at xs i below = λ k j. one_more_here xs i j below k

runs_on : (lists : List (List ListPoint)) (order : List ℕ) (f d f' d' : ℕ → ℕ) (i t : ℕ) → RunsByOrder lists f d order f' d'
    → slice_get (list_at lists i) (f' i) ≡ Some (point t (d' t)) → RunsByOrder lists f d (order ++ i ∷ []) (one_more_at f' i) (one_more_at d' t)
runs_on lists [] f d f' d' i t run next =
    let P : (ℕ → ℕ) → Type 0 = λ g. slice_get (list_at lists i) (g i) ≡ Some (point t (d' t)) in
    let Q : (ℕ → ℕ) → Type 0 = λ g. slice_get (list_at lists i) (f i) ≡ Some (point t (g t)) in
    (t, subst Q run.1 (subst P run.0 next), (ap (λ (g : ℕ → ℕ). one_more_at g i) run.0, ap (λ (g : ℕ → ℕ). one_more_at g t) run.1))
runs_on lists (j ∷ order) f d f' d' i t run next =
    (run.0, run.1, runs_on lists order (one_more_at f j) (one_more_at d run.0) f' d' i t run.2 next)

takes_on : (lists : List (List ListPoint)) (order : List ℕ) (f d f' d' : ℕ → ℕ) → RunsByOrder lists f d order f' d'
    → ((i : ℕ) → f' i ≡ length (list_at lists i)) → TakesOn lists f d order
takes_on lists [] f d f' d' run ends = λ i. (λ k. sym run.0 k i) ∙ ends i
takes_on lists (j ∷ order) f d f' d' run ends = (run.0, run.1, takes_on lists order (one_more_at f j) (one_more_at d run.0) f' d' run.2 ends)

same_parts : (t u a b : ℕ) → ◌≡◌ {A = Option ListPoint} (Some (point t a)) (Some (point u b)) → (u ≡ t) × (b ≡ a)
same_parts t u a b e =
    let p : ListPoint = point t a in
    (sym (ap (λ (o : Option ListPoint). (unwrap_or o p).group) e), sym (ap (λ (o : Option ListPoint). (unwrap_or o p).place) e))

-- no more of a group was taken than is done of it, with one more
no_more_taken : (lists : List (List ListPoint)) (f d : ℕ → ℕ) (i t : ℕ) → slice_get (list_at lists i) (f i) ≡ Some (point t (d t))
    → ((u p : ℕ) → IsTaken lists f (point u p) → p < d u) → (u p : ℕ) → IsTaken lists (one_more_at f i) (point u p) → p < one_more_at d t u
no_more_taken lists f d i t next old u p n = dite (ℕ_discrete n.0 i)
    (λ e. dite (ℕ_discrete n.1 (f i))
    (λ last. newest e last)
    (λ earlier.
    let less : n.1 < f n.0 = newer e earlier in
    let o = old u p (n.0, n.1, less, n.3) in
    let m = no_less d t u in
    omega arith))
    (λ other.
    let same = more_there f i n.0 other in
    let below = n.2 in
    let less : n.1 < f n.0 = omega arith in
    let o = old u p (n.0, n.1, less, n.3) in
    let m = no_less d t u in
    omega arith)
  where
    newer : n.0 ≡ i → n.1 ≢ f i → n.1 < f n.0
    newer e earlier =
        let h = more_here f i in
        let below = n.2 in
        let g : one_more_at f i n.0 ≡ one_more_at f i i = ap (one_more_at f i) e in
        let k : f n.0 ≡ f i = ap f e in
        omega arith

    newest : n.0 ≡ i → n.1 ≡ f i → p < one_more_at d t u
    newest e last =
        let P : ℕ → Type 0 = λ j. slice_get (list_at lists j) n.1 ≡ Some (point u p) in
        let Q : ℕ → Type 0 = λ k. slice_get (list_at lists i) k ≡ Some (point u p) in
        let there : slice_get (list_at lists i) (f i) ≡ Some (point u p) = subst Q last (subst P e n.3) in
        let same = same_parts t u (d t) p (sym next ∙ there) in
        let h = more_here d t in
        let g : one_more_at d t u ≡ one_more_at d t t = ap (one_more_at d t) same.0 in
        let q = same.1 in
        omega arith

within_next : (lists : List (List ListPoint)) (f : ℕ → ℕ) (i j : ℕ) (p : ListPoint) → slice_get (list_at lists i) (f i) ≡ Some p
    → f j ≤ length (list_at lists j) → one_more_at f i j ≤ length (list_at lists j)
within_next lists f i j p next most = dite (ℕ_discrete j i)
    (λ e.
    let P : ℕ → Type 0 = λ k. one_more_at f i k ≤ length (list_at lists k) in
    subst P (sym e) (let h = more_here f i in let below = slice_get_within (list_at lists i) (f i) p next in omega arith))
    (λ other. let h = more_there f i j other in omega arith)

none_past : (lists : List (List ListPoint)) (i : ℕ) → length lists ≤ i → list_at lists i ≡ []
none_past lists i past = ap (λ (o : Option (List ListPoint)). unwrap_or o []) (slice_get_past lists i past)

-- where all is taken, the order takes all
pub all_end : (lists : List (List ListPoint)) (holders : List (List (Option ℕ))) (g : Progress) → IsGoing lists holders g
    → ((i : ℕ) → i < length lists → nat_le (length (list_at lists i)) (slice_index g.taken i) ≡ true) → TakesEveryPoint lists g.order
all_end lists holders g going taken = takes_on lists g.order none none (at g.taken) (at g.done) going.runs (λ i. dite (dec_le (length lists) i)
    (λ past. let e = ap length (none_past lists i past) in let w = going.within i in omega arith)
    (λ here.
    let t = taken i (omega arith) in
    let w = going.within i in
    let most : length (list_at lists i) ≤ slice_index g.taken i = grind (arith, nat_tests) in
    omega arith))

-- the one element of a list
is_one : (i j : ℕ) → Contains (i ∷ []) j → j ≡ i
is_one i j (zero, below, same) = sym same
is_one i j (suc k, below, same) = absurd (omega arith)

here_alone : (i : ℕ) → Contains (i ∷ []) i
here_alone i = (0, omega arith, refl)

-- a list that does not go on need not be looked at
pub waits_without : (lists : List (List ListPoint)) (taken done rest : List ℕ) (i : ℕ) → next_at lists taken done i ≡ None
    → ((j : ℕ) → IsSome (next_at lists taken done j) → Contains (rest ++ i ∷ []) j)
    → (j : ℕ) → IsSome (next_at lists taken done j) → Contains rest j
waits_without lists taken done rest i stands waits j goes = elim (Contains-append_cases rest (i ∷ []) j (waits j goes)) [
  | inl there ↦ there
  | inr last ↦
      let P : ℕ → Type 0 = λ k. IsSome (next_at lists taken done k) in
      let goes_here : IsSome (next_at lists taken done i) = subst P (is_one i j last) goes in
      let e : ◌≡◌ {A = Bool} false true = ap (λ (o : Option ListPoint). is_some o) (sym stands) ∙ goes_here in
      absurd cc
]

-- after a point was taken, a list goes on that went on before, or has the next point of the group, or is the same list
pub waits_with : (lists : List (List ListPoint)) (holders : List (List (Option ℕ))) (taken done rest : List ℕ) (i : ℕ) (p : ListPoint)
    → AreHeld lists holders → CanCountPoint taken done i p
    → ((j : ℕ) → IsSome (next_at lists taken done j) → Contains (rest ++ i ∷ []) j)
    → (j : ℕ) → IsSome (next_at lists (with_one_more taken i) (with_one_more done p.group) j)
    → Contains ((rest ++ i ∷ []) ++ listed (holder_at holders p.group (p.place + 1))) j
waits_with lists holders taken done rest i p held can waits j goes = dite (ℕ_discrete j i)
    (λ same.
    let P : ℕ → Type 0 = λ k. Contains ((rest ++ i ∷ []) ++ listed (holder_at holders p.group (p.place + 1))) k in
    subst P (sym same) (Contains-append_left (rest ++ i ∷ []) _ i (Contains-append_right rest (i ∷ []) i (here_alone i))))
    (λ other.
    let found_q = some_is (next_at lists (with_one_more taken i) (with_one_more done p.group) j) goes in
    let q = found_q.0 in
    let at_q = found (with_one_more done p.group) (slice_get (list_at lists j) (slice_index (with_one_more taken i) j)) q found_q.1 in
    let same_front : slice_index (with_one_more taken i) j ≡ slice_index taken j = index_set_other taken i j (slice_index taken i + 1) other in
    let F : ℕ → Type 0 = λ n. slice_get (list_at lists j) n ≡ Some q in
    let there : slice_get (list_at lists j) (slice_index taken j) ≡ Some q = subst F same_front at_q.0 in
    dite (ℕ_discrete q.group p.group)
    (λ same_group.
    let done_here = index_set_same done p.group (slice_index done p.group + 1) can.group in
    let D : ℕ → Type 0 = λ t. slice_index (with_one_more done p.group) t ≡ q.place in
    let counted : slice_index (with_one_more done p.group) p.group ≡ q.place = subst D same_group at_q.2 in
    let was = can.next in
    let place : q.place ≡ p.place + 1 = omega arith in
    let G : ℕ → ℕ → Type 0 = λ t n. slice_get (list_at holders t) n ≡ Some (Some j) in
    let holds : slice_get (list_at holders p.group) (p.place + 1) ≡ Some (Some j)
    = subst (λ n. G p.group n) place (subst (λ t. G t q.place) same_group (held.held j (slice_index taken j) q there)) in
    let H : Option (Option ℕ) → Type 0 = λ o. Contains ((rest ++ i ∷ []) ++ listed (inner_of o)) j in
    subst H (sym holds) (Contains-append_right (rest ++ i ∷ []) (j ∷ []) j (here_alone j)))
    (λ other_group.
    let same_done : slice_index (with_one_more done p.group) q.group ≡ slice_index done q.group
    = index_set_other done p.group q.group (slice_index done p.group + 1) other_group in
    let same_length = length_set done p.group (slice_index done p.group + 1) in
    let below = at_q.1 in
    let next = at_q.2 in
    let N : Option ListPoint → Type 0 = λ o. IsSome (if_next done o) in
    let S : Option ListPoint → Type 0 = λ o. IsSome o in
    let went : IsSome (next_at lists taken done j) = subst N (sym there) (subst S (sym (is_next done q (omega arith) (sym same_done ∙ next))) refl) in
    Contains-append_left (rest ++ i ∷ []) _ j (waits j went)))

left_at : (lists : List (List ListPoint)) (taken : List ℕ) (i : ℕ) → i < length taken → slice_index taken i < length (list_at lists i)
    → points_left lists (with_one_more taken i) + 1 ≡ points_left lists taken
left_at [] taken i below less = absurd (omega arith)
left_at (l ∷ ls) [] i below less = absurd (omega arith)
left_at (l ∷ ls) (n ∷ ns) zero below less = omega arith
left_at (l ∷ ls) (n ∷ ns) (suc i) below less = let e = left_at ls ns i (omega arith) less in omega arith

-- at first all are left
none_left_out : (lists : List (List ListPoint)) → 0 + points_left lists (replicate (length lists) 0) ≡ points_count lists
none_left_out [] = refl
none_left_out (l ∷ ls) =
    let others = none_left_out ls in
    let sum = sum_by-cons (λ (list : List ListPoint). length list) l ls in
    omega arith

-- where all were taken, none is left
none_left : (lists : List (List ListPoint)) (taken : List ℕ) → length taken ≡ length lists
    → ((i : ℕ) → i < length lists → length (list_at lists i) ≤ slice_index taken i) → points_left lists taken ≡ 0
none_left [] taken wide all = refl
none_left (l ∷ ls) [] wide all = refl
none_left (l ∷ ls) (n ∷ ns) wide all =
    let here = all 0 (omega arith) in
    let others = none_left ls ns (omega arith) (λ i below. all (suc i) (omega arith)) in
    omega arith

-- where all is taken, the order has as many numbers as there are points
pub all_counted : (lists : List (List ListPoint)) (holders : List (List (Option ℕ))) (g : Progress) → IsGoing lists holders g
    → ((i : ℕ) → i < length lists → nat_le (length (list_at lists i)) (slice_index g.taken i) ≡ true) → length g.order ≡ points_count lists
all_counted lists holders g going taken =
    let none = none_left lists g.taken going.wide (λ i below. let t = taken i below in let most : length (list_at lists i) ≤ slice_index g.taken i = grind (arith, nat_tests) in most) in
    let all = going.counted in
    omega arith

-- where the search stands after a look
pub look_on : (lists : List (List ListPoint)) (holders : List (List (Option ℕ))) (taken done order rest : List ℕ) (i : ℕ) (o : Option ListPoint)
    → AreHeld lists holders → next_at lists taken done i ≡ o → ((p : ListPoint) → o ≡ Some p → CanCountPoint taken done i p)
    → IsGoing lists holders (record { taken = taken; done = done; order = order; waiting = rest ++ i ∷ [] })
    → IsGoing lists holders (looked holders i o (record { taken = taken; done = done; order = order; waiting = rest }))
look_on lists holders taken done order rest i None held e can g = record {
  wide = g.wide;
  all = g.all;
  within = g.within;
  runs = g.runs;
  prefix = g.prefix;
  no_more = g.no_more;
  counted = g.counted;
  waits = waits_without lists taken done rest i e g.waits;
}
look_on lists holders taken done order rest i (Some p) held e can g =
    let c = can p refl in
    let at_p = found done (slice_get (list_at lists i) (slice_index taken i)) p e in
    let place_is : p ≡ point p.group (slice_index done p.group) = λ k. point p.group (sym c.next k) in
    let F : ListPoint → Type 0 = λ q. slice_get (list_at lists i) (slice_index taken i) ≡ Some q in
    let next : slice_get (list_at lists i) (at taken i) ≡ Some (point p.group (at done p.group)) = subst F place_is at_p.0 in
    let f : at (with_one_more taken i) ≡ one_more_at (at taken) i = raised_at taken i c.list in
    let d : at (with_one_more done p.group) ≡ one_more_at (at done) p.group = raised_at done p.group c.group in
    record {
      wide = length_set taken i (slice_index taken i + 1) ∙ g.wide;
      all = length_set done p.group (slice_index done p.group + 1) ∙ g.all;
      within = λ j.
          let P : (ℕ → ℕ) → Type 0 = λ a. a j ≤ length (list_at lists j) in
          subst P (sym f) (within_next lists (at taken) i j (point p.group (at done p.group)) next (g.within j));
      runs = rw (f, d) (runs_on lists order none none (at taken) (at done) i p.group g.runs next);
      prefix =
          let P : (ℕ → ℕ) → (ℕ → ℕ) → Type 0 = λ a b. (u n : ℕ) → n < b u → IsTaken lists a (point u n) in
          subst (λ b. P (at (with_one_more taken i)) b) (sym d)
          (subst (λ a. P a (one_more_at (at done) p.group)) (sym f) (done_taken lists (at taken) (at done) i p.group next g.prefix));
      no_more =
          let P : (ℕ → ℕ) → (ℕ → ℕ) → Type 0 = λ a b. (u n : ℕ) → IsTaken lists a (point u n) → n < b u in
          subst (λ b. P (at (with_one_more taken i)) b) (sym d)
          (subst (λ a. P a (one_more_at (at done) p.group)) (sym f) (no_more_taken lists (at taken) (at done) i p.group next g.no_more));
      counted =
          let below = slice_get_within (list_at lists i) (slice_index taken i) p at_p.0 in
          let less = left_at lists taken i c.list below in
          let one = length-append order (i ∷ []) in
          let was = g.counted in
          omega arith;
      waits = waits_with lists holders taken done rest i p held c g.waits;
    }

-- where nothing waits and a point is left, the search is stuck
pub stands_still : (lists : List (List ListPoint)) (holders : List (List (Option ℕ))) (g : Progress) → AreHeld lists holders → IsGoing lists holders g
    → g.waiting ≡ [] → (left : (i : ℕ) × (nat_le (length (list_at lists i)) (slice_index g.taken i) ≡ false)) → IsStuck lists (at g.taken)
stands_still lists holders g held going empty left = record {
  done = at g.done;
  prefix = going.prefix;
  no_more = going.no_more;
  left = (left.0, (let e = left.1 in let less : slice_index g.taken left.0 < length (list_at lists left.0) = grind (arith, nat_tests) in less));
  stands = λ i t n there same.
      let holds = held.held i (at g.taken i) (point t n) there in
      let below_all = has_list holders t n (Some i) holds in
      let all = going.all in
      let N : Option ListPoint → Type 0 = λ o. IsSome (if_next g.done o) in
      let S : Option ListPoint → Type 0 = λ o. IsSome o in
      let goes : IsSome (next_at lists g.taken g.done i) = subst N (sym there) (subst S (sym (is_next g.done (point t n) (omega arith) (sym same))) refl) in
      let P : List ℕ → Type 0 = λ w. Contains w i in
      let nowhere : Contains [] i = subst P empty (going.waits i goes) in
      let below = nowhere.1 in
      absurd (omega arith);
}

-- ---- at the start

at_none : (n i : ℕ) → slice_index (replicate n 0) i ≡ 0
at_none zero i = refl
at_none (suc n) zero = refl
at_none (suc n) (suc i) = at_none n i

nothing_taken : (n : ℕ) → at (replicate n 0) ≡ none
nothing_taken n = λ k i. at_none n i k

pub starts : (lists : List (List ListPoint)) (holders : List (List (Option ℕ))) (numbers : List ℕ)
    → ((i : ℕ) → i < length lists → Contains numbers i)
    → IsGoing lists holders (record { taken = replicate (length lists) 0; done = replicate (length holders) 0; order = []; waiting = numbers })
starts lists holders numbers all = record {
  wide = length-replicate (length lists) 0;
  all = length-replicate (length holders) 0;
  within = λ i. let e = at_none (length lists) i in omega arith;
  runs = (nothing_taken (length lists), nothing_taken (length holders));
  prefix = λ t n below. let e = at_none (length holders) t in absurd (omega arith);
  no_more = λ t n taken. let e = at_none (length lists) taken.0 in let below = taken.2 in absurd (omega arith);
  counted = none_left_out lists;
  waits = λ i goes. all i (
      let q = some_is (next_at lists (replicate (length lists) 0) (replicate (length holders) 0) i) goes in
      let at_q = found (replicate (length holders) 0) (slice_get (list_at lists i) (slice_index (replicate (length lists) 0) i)) q.0 q.1 in
      has_list lists i (slice_index (replicate (length lists) 0) i) q.0 at_q.0);
}

-- the numbers below, with one more
pub one_number_more : (numbers : List ℕ) (n : ℕ) → ((k : ℕ) → k < n → Contains numbers k) → (k : ℕ) → k < n + 1 → Contains (numbers ++ n ∷ []) k
one_number_more numbers n all k below = dite (ℕ_discrete k n)
    (λ same.
    let P : ℕ → Type 0 = λ j. Contains (numbers ++ n ∷ []) j in
    subst P (sym same) (Contains-append_right numbers (n ∷ []) n (here_alone n)))
    (λ other. Contains-append_left numbers (n ∷ []) k (all k (omega arith)))

-- a look leaves less to do: each point that is left brings two looks at most, and each list that waits one
pub look_smaller : (lists : List (List ListPoint)) (holders : List (List (Option ℕ))) (g : Progress) (i : ℕ) (o : Option ListPoint)
    → next_at lists g.taken g.done i ≡ o → ((p : ListPoint) → o ≡ Some p → CanCountPoint g.taken g.done i p)
    → 2 * points_left lists (looked holders i o g).taken + length (looked holders i o g).waiting < 2 * points_left lists g.taken + (length g.waiting + 1)
look_smaller lists holders g i None e can = omega arith
look_smaller lists holders g i (Some p) e can =
    let c = can p refl in
    let at_p = found g.done (slice_get (list_at lists i) (slice_index g.taken i)) p e in
    let below = slice_get_within (list_at lists i) (slice_index g.taken i) p at_p.0 in
    let less = left_at lists g.taken i c.list below in
    let one_more_waits = length-append (g.waiting ++ i ∷ []) (listed (holder_at holders p.group (p.place + 1))) in
    let again = length-append g.waiting (i ∷ []) in
    let most = length_listed (holder_at holders p.group (p.place + 1)) in
    omega arith
  where
    length_listed : (h : Option ℕ) → length (listed h) ≤ 1
    length_listed None = omega arith
    length_listed (Some x) = omega arith

-- a list of no length has no elements
pub no_elements : (xs : List ℕ) → length xs ≡ 0 → xs ≡ []
no_elements [] none = refl
no_elements (x ∷ xs) none = absurd (omega arith)
