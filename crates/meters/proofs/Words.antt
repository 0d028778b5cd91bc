-- The four steps keep the rule, and what it says at the end.
use Rattle.std.proofs.Common.{◌≡◌, ℕ, zero, suc, ◌+◌, ◌*◌, ◌^◌, ◌%◌, ◌<◌, ◌≤◌, ◌≢◌, List, [], ◌∷◌, ◌++◌, length, set, slice_index, slice_set, ◌==◌, if◌then◌else◌, eq-eqb, ne_eqb, add-zero, inl, inr, ◌⊎◌, replicate, true, false, Bool, refl, sym, ap, subst, ◌∙◌, arith}
use mathlib.Core.Logic.{dite}
use native.Mathlib.Decide.{ℕ_discrete}
use mathlib.Core.Option.{none, some, some-injective, some-ne-none}
use lib.ListN.{get_elem?}
use Rattle.std.proofs.lemmas.List.{ext_get_or, length-replicate}
use Rattle.atomic_table.specs.Table.{State, Me, step, Allows, Splits, Joins, keeps, opening}
use Rattle.atomic_table.proofs.Lists.{at_set, set_again, at_snoc}
use Rattle.meters.specs.declared.kind.Kind.{Kind}
use Rattle.meters.specs.declared.kind.Kind.TheVariants.{Answered, ClientError, Unavailable, LinkFault}
use Rattle.meters.specs.declared.rule.View.{View}
use Rattle.meters.specs.Counts.{place_of, word_of, count_in, both_rows}
use Rattle.atomic_table.specs.Seated.{TableId}
use Rattle.meters.specs.Seats.{MetersState, SeatState, max_splits}
use Rattle.meters.specs.Rule.{seat_state, total, empty_view, spent_view, raised_view, split_view, joined_view, IsSoundView, RuleHolds, Raises, Looks}

-- a view's count at a place
abbrev pub at_place : ℕ → View → ℕ
at_place i v = slice_index v.counts i

-- ---- places

place_small : (k : Kind) → place_of k < 4
place_small Answered = omega arith
place_small ClientError = omega arith
place_small Unavailable = omega arith
place_small LinkFault = omega arith

pub word_below : (t n : ℕ) (k : Kind) → t < n → word_of t k < 4 * n
word_below t n k lt = let p = place_small k in omega arith

place_own : (k l : Kind) → place_of k ≡ place_of l → k ≡ l
place_own Answered Answered e = refl
place_own Answered ClientError e = absurd (omega arith)
place_own Answered Unavailable e = absurd (omega arith)
place_own Answered LinkFault e = absurd (omega arith)
place_own ClientError Answered e = absurd (omega arith)
place_own ClientError ClientError e = refl
place_own ClientError Unavailable e = absurd (omega arith)
place_own ClientError LinkFault e = absurd (omega arith)
place_own Unavailable Answered e = absurd (omega arith)
place_own Unavailable ClientError e = absurd (omega arith)
place_own Unavailable Unavailable e = refl
place_own Unavailable LinkFault e = absurd (omega arith)
place_own LinkFault Answered e = absurd (omega arith)
place_own LinkFault ClientError e = absurd (omega arith)
place_own LinkFault Unavailable e = absurd (omega arith)
place_own LinkFault LinkFault e = refl

-- each tenant and kind has a place of its own
pub word_own : (t u : ℕ) (k l : Kind) → word_of t k ≡ word_of u l → (t ≡ u) × (k ≡ l)
word_own t u k l e =
    let a = place_small k in
    let b = place_small l in
    let tenants : t ≡ u = omega arith in
    (tenants, place_own k l (omega arith))

-- ---- rows

index_set_same : (xs : List ℕ) (i n : ℕ) → i < length xs → slice_index (slice_set xs i n) i ≡ n
index_set_same [] i n lt = absurd (omega arith)
index_set_same (x ∷ xs) zero n lt = refl
index_set_same (x ∷ xs) (suc i) n lt = index_set_same xs i n (omega arith)

index_set_other : (xs : List ℕ) (i j n : ℕ) → j ≢ i → slice_index (slice_set xs i n) j ≡ slice_index xs j
index_set_other [] i j n ne = refl
index_set_other (x ∷ xs) zero zero n ne = absurd (ne refl)
index_set_other (x ∷ xs) zero (suc j) n ne = refl
index_set_other (x ∷ xs) (suc i) zero n ne = refl
index_set_other (x ∷ xs) (suc i) (suc j) n ne = index_set_other xs i j n (λ e. ne (ap suc e))

pub length_set : (xs : List ℕ) (i n : ℕ) → length (slice_set xs i n) ≡ length xs
length_set [] i n = refl
length_set (x ∷ xs) zero n = refl
length_set (x ∷ xs) (suc i) n = ap suc (length_set xs i n)

pub no_count : (n i : ℕ) → slice_index (replicate n 0) i ≡ 0
no_count zero i = refl
no_count (suc n) zero = refl
no_count (suc n) (suc i) = no_count n i

pub both_at : (xs ys : List ℕ) (i : ℕ) → length xs ≡ length ys → slice_index (both_rows xs ys) i ≡ slice_index xs i + slice_index ys i
both_at [] [] i e = refl
both_at [] (y ∷ ys) i e = absurd (omega arith)
both_at (x ∷ xs) [] i e = absurd (omega arith)
both_at (x ∷ xs) (y ∷ ys) zero e = refl
both_at (x ∷ xs) (y ∷ ys) (suc i) e = both_at xs ys i (omega arith)

both_length : (xs ys : List ℕ) → length (both_rows xs ys) ≡ length xs
both_length [] ys = refl
both_length (x ∷ xs) [] = refl
both_length (x ∷ xs) (y ∷ ys) = ap suc (both_length xs ys)

-- a row that has the sum at each place is the sum of the rows
pub both_is : (sums xs ys : List ℕ) → length sums ≡ length xs → length xs ≡ length ys
    → ((i : ℕ) → i < length xs → slice_index sums i ≡ slice_index xs i + slice_index ys i) → sums ≡ both_rows xs ys
both_is sums xs ys same equal each =
    let n = both_length xs ys in
    ext_get_or 0 sums (both_rows xs ys) (omega arith) (λ i lt. each i (omega arith) ∙ sym (both_at xs ys i equal))

-- one place more of a row that is being filled
pub filled_more : (row : List ℕ) (i n : ℕ) (P : ℕ → ℕ → Type 0) → i < length row → P i n → ((k : ℕ) → k < i → P k (slice_index row k))
    → (k : ℕ) → k < i + 1 → P k (slice_index (slice_set row i n) k)
filled_more row i n P lt here below k le = dite (ℕ_discrete k i)
    (λ e. subst (λ (j : ℕ). P j (slice_index (slice_set row i n) j)) (sym e) (subst (P i) (sym (index_set_same row i n lt)) here))
    (λ ne. subst (P k) (sym (index_set_other row i k n ne)) (below k (omega arith)))

-- ---- totals

-- the total after a change of one view
total_set : (f : View → ℕ) (views : List View) (id : ℕ) (v w : View) → get_elem? views id ≡ some v
    → total f (set views id w) + f v ≡ total f views + f w
total_set f [] id v w at = absurd (some-ne-none v (sym at))
total_set f (x ∷ xs) zero v w at = let e = ap f (some-injective x v at) in omega arith
total_set f (x ∷ xs) (suc id) v w at = let e = total_set f xs id v w at in omega arith

total_snoc : (f : View → ℕ) (views : List View) (w : View) → total f (views ++ w ∷ []) ≡ total f views + f w
total_snoc f [] w = omega arith
total_snoc f (x ∷ xs) w = let e = total_snoc f xs w in omega arith

-- a view that counts nothing may be left out
pub total_without : (f : View → ℕ) (before after : List View) (w : View) → f w ≡ 0 → total f (before ++ w ∷ after) ≡ total f (before ++ after)
total_without f [] after w z = omega arith
total_without f (x ∷ xs) after w z = let e = total_without f xs after w z in omega arith

total_bound : (i : ℕ) (views : List View) → ((id : ℕ) (v : View) → get_elem? views id ≡ some v → at_place i v ≤ v.parts * 2 ^ 40)
    → total (at_place i) views ≤ total (λ v. v.parts) views * 2 ^ 40
total_bound i [] h = omega arith
total_bound i (x ∷ xs) h =
    let one = h 0 x refl in
    let more = total_bound i xs (λ id v at. h (suc id) v at) in
    omega arith

part_of_total : (f : View → ℕ) (views : List View) (id : ℕ) (v : View) → get_elem? views id ≡ some v → f v ≤ total f views
part_of_total f [] id v at = absurd (some-ne-none v (sym at))
part_of_total f (x ∷ xs) zero v at = let e = ap f (some-injective x v at) in omega arith
part_of_total f (x ∷ xs) (suc id) v at = let e = part_of_total f xs id v at in omega arith

-- a change of one view that keeps what is added up
keeps_totals : (f : View → ℕ) (views : List View) (id : ℕ) (v w : View) → get_elem? views id ≡ some v → f w ≡ f v → total f (set views id w) ≡ total f views
keeps_totals f views id v w at same = let e = total_set f views id v w at in omega arith

total_none : (f : View → ℕ) (views : List View) → ((k : ℕ) (u : View) → get_elem? views k ≡ some u → f u ≡ 0) → total f views ≡ 0
total_none f [] h = refl
total_none f (x ∷ xs) h =
    let one = h 0 x refl in
    let more = total_none f xs (λ k u at. h (suc k) u at) in
    omega arith

-- ---- what each view keeps

sound_set : (views : List View) (id : ℕ) (w : View) → ((k : ℕ) (u : View) → get_elem? views k ≡ some u → IsSoundView k u) → IsSoundView id w
    → (k : ℕ) (u : View) → get_elem? (set views id w) k ≡ some u → IsSoundView k u
sound_set views id w all one k u at = elim (at_set views id k w u at) [
  | inl h ↦ let P : ℕ → Type 0 = λ n. IsSoundView n u in subst P (sym h.0) (let Q : View → Type 0 = λ x. IsSoundView id x in subst Q h.1 one)
  | inr h ↦ all k u h.1
]

sound_snoc : (views : List View) (w : View) → ((k : ℕ) (u : View) → get_elem? views k ≡ some u → IsSoundView k u) → ((k : ℕ) → IsSoundView k w)
    → (k : ℕ) (u : View) → get_elem? (views ++ w ∷ []) k ≡ some u → IsSoundView k u
sound_snoc views w all one k u at = elim (at_snoc views w u k at) [
  | inl h ↦ all k u h
  | inr h ↦ let P : View → Type 0 = λ x. IsSoundView k x in subst P h (one k)
]

empty_sound : (k : ℕ) → IsSoundView k (empty_view false)
empty_sound k = record {
  long = length-replicate {A = ℕ} 256 0;
  bounded = λ i. let e = no_count 256 i in omega arith;
  leads = λ h. cc;
  plain = λ h. refl;
  joined = λ h. omega arith;
}

first_sound : IsSoundView 0 (empty_view true)
first_sound = record {
  long = length-replicate {A = ℕ} 256 0;
  bounded = λ i. let e = no_count 256 i in omega arith;
  leads = λ h. refl;
  plain = λ h. cc;
  joined = λ h. omega arith;
}

spent_sound : (k : ℕ) → IsSoundView k spent_view
spent_sound k = record {
  long = length-replicate {A = ℕ} 256 0;
  bounded = λ i. let e = no_count 256 i in omega arith;
  leads = λ h. cc;
  plain = λ h. refl;
  joined = λ h. cc;
}

-- ---- the table at the start

only_first : (v w : View) (k : ℕ) → get_elem? (v ∷ []) k ≡ some w → (k ≡ 0) × (v ≡ w)
only_first v w zero at = (refl, some-injective v w at)
only_first v w (suc k) at = absurd (some-ne-none w (sym at))

pub kept_at_first : (tenants : ℕ) (words : List ℕ) → words ≡ replicate (4 * tenants) 0 → RuleHolds tenants (opening words [] (empty_view true))
kept_at_first tenants words is =
    record {
      long = ap length is ∙ length-replicate {A = ℕ} (4 * tenants) 0;
      sums = λ t k lt.
          let w = ap (λ (ws : List ℕ). slice_index ws (word_of t k)) is in
          let z = no_count (4 * tenants) (word_of t k) in
          let o = no_count 256 (word_of t k) in
          omega arith;
      parts = refl;
      few = omega arith;
      sound = λ id v at.
          let h = only_first (empty_view true) v id at in
          let P : ℕ → Type 0 = λ n. IsSoundView n v in
          let Q : View → Type 0 = λ x. IsSoundView 0 x in
          subst P (sym h.0) (subst Q h.1 first_sound);
    }

-- ---- a count

bounds : (tenants : ℕ) (s : State (Unit {0}) View) → RuleHolds tenants s → (t : ℕ) (k : Kind) → t < tenants → slice_index s.words (word_of t k) ≤ (max_splits + 1) * 2 ^ 40
bounds tenants s kept t k lt =
    let most = total_bound (word_of t k) s.views (λ id v at. (kept.sound id v at).bounded (word_of t k)) in
    let e = kept.sums t k lt in
    let p = kept.parts in
    let few = kept.few in
    omega arith

raised_at : (i j : ℕ) (v : View) → i < length v.counts → at_place j (raised_view i v) ≡ at_place j v + (if j == i then 1 else 0)
raised_at i j v lt = dite (ℕ_discrete j i)
    (λ e. rw (eq-eqb j i e) (let P : ℕ → Type 0 = λ k. at_place k (raised_view i v) ≡ at_place k v + 1 in subst P (sym e) (index_set_same v.counts i (slice_index v.counts i + 1) lt)))
    (λ ne. rw (ne_eqb j i ne) (index_set_other v.counts i j (slice_index v.counts i + 1) ne ∙ sym (add-zero (slice_index v.counts j))))

word_at : (ws : List ℕ) (i j n : ℕ) → i < length ws → n ≡ slice_index ws i + 1 → slice_index (slice_set ws i n) j ≡ slice_index ws j + (if j == i then 1 else 0)
word_at ws i j n lt is = dite (ℕ_discrete j i)
    (λ e. rw (eq-eqb j i e) (let P : ℕ → Type 0 = λ k. slice_index (slice_set ws i n) k ≡ slice_index ws k + 1 in subst P (sym e) (index_set_same ws i n lt ∙ is)))
    (λ ne. rw (ne_eqb j i ne) (index_set_other ws i j n ne ∙ sym (add-zero (slice_index ws j))))

small_mod : (n : ℕ) → n + 1 < 2 ^ 64 → (n + 1) % 2 ^ 64 ≡ n + 1
small_mod n lt = omega arith

bounded_raised : (i j : ℕ) (v : View) → i < length v.counts → at_place i v < 2 ^ 40 → 0 < v.parts → at_place j v ≤ v.parts * 2 ^ 40
    → at_place j (raised_view i v) ≤ v.parts * 2 ^ 40
bounded_raised i j v lt room live old = dite (ℕ_discrete j i)
    (λ e. let P : ℕ → Type 0 = λ k. at_place k (raised_view i v) ≤ v.parts * 2 ^ 40 in
    subst P (sym e) (let same : at_place i (raised_view i v) ≡ at_place i v + 1 = index_set_same v.counts i (slice_index v.counts i + 1) lt in omega arith))
    (λ ne. let same : at_place j (raised_view i v) ≡ at_place j v = index_set_other v.counts i j (slice_index v.counts i + 1) ne in omega arith)

raise_allows : (tenants slots id t : ℕ) (k : Kind) (me : Me (Unit {0}) View) → t < tenants → tenants ≤ 64 → at_place (word_of t k) me.0 < 2 ^ 40 → 0 < me.0.parts
    → Allows (RuleHolds tenants) slots id me (word_of t k) (λ n. (n + 1) % 2 ^ 64) (Raises (step slots (word_of t k) 1 0 none) me)
raise_allows tenants slots id t k me lt few room live s kept len at fits =
    let v = me.0 in
    let i : ℕ = word_of t k in
    let old = kept.sound id v at in
    let below = word_below t tenants k lt in
    let most = bounds tenants s kept t k lt in
    let long : i < length v.counts = omega (arith, old.long) in
    let next : (slice_index s.words i + 1) % 2 ^ 64 ≡ slice_index s.words i + 1 = small_mod (slice_index s.words i) (omega arith) in (
      raised_view i v,
      keeps,
      tt,
      record {
        long = length_set s.words i ((slice_index s.words i + 1) % 2 ^ 64) ∙ kept.long;
        sums = λ u l ul.
            let j : ℕ = word_of u l in
            let w = word_at s.words i j ((slice_index s.words i + 1) % 2 ^ 64) (omega (arith, kept.long)) next in
            let c = raised_at i j v long in
            let t = total_set (at_place j) s.views id v (raised_view i v) at in
            let e = kept.sums u l ul in
            omega arith;
        parts = keeps_totals (λ u. u.parts) s.views id v (raised_view i v) at refl ∙ (kept.parts ∙ ap (λ (n : ℕ). 1 + n) (sym (keeps_totals (λ u. u.splits) s.views id v (raised_view i v) at refl)));
        few = let e = keeps_totals (λ u. u.splits) s.views id v (raised_view i v) at refl in let f = kept.few in omega arith;
        sound = sound_set s.views id (raised_view i v) kept.sound record {
          long = length_set v.counts i (slice_index v.counts i + 1) ∙ old.long;
          bounded = λ j. bounded_raised i j v long room live (old.bounded j);
          leads = old.leads;
          plain = old.plain;
          joined = old.joined;
        };
      },
      refl,
    )

-- a word is raised by one
pub count_allows : (tenants slots id t i : ℕ) (k : Kind) (me : Me (Unit {0}) View) → i ≡ word_of t k → t < tenants → tenants ≤ 64 → at_place i me.0 < 2 ^ 40 → 0 < me.0.parts
    → Allows (RuleHolds tenants) slots id me i (λ n. (n + 1) % 2 ^ 64) (Raises (step slots i 1 0 none) me)
count_allows tenants slots id t i k me is lt few room live =
    let P : ℕ → Type 0 = λ j. Allows (RuleHolds tenants) slots id me j (λ n. (n + 1) % 2 ^ 64) (Raises (step slots j 1 0 none) me) in
    let R : ℕ → Type 0 = λ j. at_place j me.0 < 2 ^ 40 in
    subst P (sym is) (raise_allows tenants slots id t k me lt few (subst R is room) live)

-- ---- a look

same_word : (ws : List ℕ) (i j : ℕ) → slice_index (slice_set ws i (slice_index ws i)) j ≡ slice_index ws j
same_word [] i j = refl
same_word (x ∷ xs) zero zero = refl
same_word (x ∷ xs) zero (suc j) = refl
same_word (x ∷ xs) (suc i) zero = refl
same_word (x ∷ xs) (suc i) (suc j) = same_word xs i j

look_allows : (tenants slots id t : ℕ) (k : Kind) (me : Me (Unit {0}) View) → t < tenants
    → Allows (RuleHolds tenants) slots id me (word_of t k) (λ n. n) (Looks (step slots (word_of t k) 0 0 none) me)
look_allows tenants slots id t k me lt s kept len at fits =
    let v = me.0 in
    let i : ℕ = word_of t k in
    let old = kept.sound id v at in
    let own = part_of_total (at_place i) s.views id v at in
    let sum = kept.sums t k lt in
    let parts = part_of_total (λ (u : View). u.parts) s.views id v at in
    let all = kept.parts in
    let few = kept.few in (
      v,
      keeps,
      tt,
      record {
        long = length_set s.words i (slice_index s.words i) ∙ kept.long;
        sums = λ u l ul. same_word s.words i (word_of u l) ∙ (kept.sums u l ul ∙ ap (total (at_place (word_of u l))) (sym (set_again s.views id v at)));
        parts = rw (set_again s.views id v at) kept.parts;
        few = rw (set_again s.views id v at) kept.few;
        sound = rw (set_again s.views id v at) kept.sound;
      },
      (refl, omega arith, omega arith, bounds tenants s kept t k lt, old.bounded),
    )

-- a word is read
pub load_allows : (tenants slots id t i : ℕ) (k : Kind) (me : Me (Unit {0}) View) → i ≡ word_of t k → t < tenants
    → Allows (RuleHolds tenants) slots id me i (λ n. n) (Looks (step slots i 0 0 none) me)
load_allows tenants slots id t i k me is lt =
    let P : ℕ → Type 0 = λ j. Allows (RuleHolds tenants) slots id me j (λ n. n) (Looks (step slots j 0 0 none) me) in
    subst P (sym is) (look_allows tenants slots id t k me lt)

-- ---- the seats that are left

true_or_false : (b : Bool) → (b ≡ true) ⊎ (b ≡ false)
true_or_false true = inl refl
true_or_false false = inr refl

-- no other view has splits
others_plain : (tenants : ℕ) (s : State (Unit {0}) View) → RuleHolds tenants s → (id : ℕ) (v : View) → v.first ≡ true → get_elem? s.views id ≡ some v
    → total (λ u. u.splits) (set s.views id spent_view) ≡ 0
others_plain tenants s kept id v first at = total_none (λ u. u.splits) (set s.views id spent_view) (λ k u there.
    elim (at_set s.views id k spent_view u there) [
      | inl h ↦ let e = ap (λ (x : View). x.splits) h.1 in sym e
      | inr h ↦ elim (true_or_false u.first) [
        | inl is_first ↦ absurd (h.0 ((kept.sound k u h.1).leads is_first ∙ sym ((kept.sound id v at).leads first)))
        | inr not_first ↦ (kept.sound k u h.1).plain not_first
      ]
    ])

only_splits : (tenants : ℕ) (s : State (Unit {0}) View) → RuleHolds tenants s → (id : ℕ) (v : View) → v.first ≡ true → get_elem? s.views id ≡ some v
    → total (λ u. u.splits) s.views ≡ v.splits
only_splits tenants s kept id v first at =
    let z = others_plain tenants s kept id v first at in
    let t = total_set (λ u. u.splits) s.views id v spent_view at in
    omega arith

-- where the first seat has joined as many as it was split into, the words are its counts
pub close_exact : (tenants : ℕ) (s : State (Unit {0}) View) → RuleHolds tenants s → (id : ℕ) (v : View) → v.first ≡ true → v.joins ≡ v.splits → get_elem? s.views id ≡ some v
    → (t : ℕ) (k : Kind) → t < tenants → slice_index s.words (word_of t k) ≡ at_place (word_of t k) v
close_exact tenants s kept id v first same at t k lt =
    let i : ℕ = word_of t k in
    let splits = only_splits tenants s kept id v first at in
    let parts = total_set (λ u. u.parts) s.views id v spent_view at in
    let all = kept.parts in
    let joined = (kept.sound id v at).joined first in
    let rest_parts : total (λ u. u.parts) (set s.views id spent_view) ≡ 0 = omega arith in
    let rest = total_bound i (set s.views id spent_view) (λ k u there. elim (at_set s.views id k spent_view u there) [
      | inl h ↦ let z = no_count 256 i in let e = ap (at_place i) h.1 in omega arith
      | inr h ↦ (kept.sound k u h.1).bounded i
    ]) in
    let change = total_set (at_place i) s.views id v spent_view at in
    let z = no_count 256 i in
    let e = kept.sums t k lt in
    omega arith

-- a word is no less than a seat's count of it
pub close_least : (tenants : ℕ) (s : State (Unit {0}) View) → RuleHolds tenants s → (id : ℕ) (v : View) → get_elem? s.views id ≡ some v
    → (t : ℕ) (k : Kind) → t < tenants → at_place (word_of t k) v ≤ slice_index s.words (word_of t k)
close_least tenants s kept id v at t k lt =
    let own = part_of_total (at_place (word_of t k)) s.views id v at in
    let e = kept.sums t k lt in
    omega arith

at_value : (ws : List ℕ) (i a : ℕ) → get_elem? ws i ≡ some a → slice_index ws i ≡ a
at_value [] i a e = absurd (some-ne-none a (sym e))
at_value (x ∷ xs) zero a e = some-injective x a e
at_value (x ∷ xs) (suc i) a e = at_value xs i a e

-- ---- a split

pub split_splits : (tenants id : ℕ) (v : View) → v.first ≡ true → v.splits < max_splits → Splits (RuleHolds tenants) id v (split_view v) (empty_view false)
split_splits tenants id v first few s kept at =
    let old = kept.sound id v at in
    record {
      long = kept.long;
      sums = λ t k lt.
          let j : ℕ = word_of t k in
          let a = keeps_totals (at_place j) s.views id v (split_view v) at refl in
          let b = total_snoc (at_place j) (set s.views id (split_view v)) (empty_view false) in
          let z = no_count 256 j in
          let e = kept.sums t k lt in
          omega arith;
      parts =
          let a = keeps_totals (λ u. u.parts) s.views id v (split_view v) at refl in
          let b = total_snoc (λ u. u.parts) (set s.views id (split_view v)) (empty_view false) in
          let c = total_set (λ u. u.splits) s.views id v (split_view v) at in
          let d = total_snoc (λ u. u.splits) (set s.views id (split_view v)) (empty_view false) in
          let e = kept.parts in
          omega arith;
      few =
          let c = total_set (λ u. u.splits) s.views id v (split_view v) at in
          let d = total_snoc (λ u. u.splits) (set s.views id (split_view v)) (empty_view false) in
          let alone = only_splits tenants s kept id v first at in
          omega arith;
      sound = sound_snoc (set s.views id (split_view v)) (empty_view false)
          (sound_set s.views id (split_view v) kept.sound record {
            long = old.long;
            bounded = old.bounded;
            leads = old.leads;
            plain = λ h. cc;
            joined = old.joined;
          })
          empty_sound;
    }

-- ---- a join

-- the totals after a join
both_totals : (f : View → ℕ) (views : List View) (id other : ℕ) (v w b : View) → get_elem? views id ≡ some v → get_elem? (set views id b) other ≡ some w
    → f b ≡ f v + f w → f spent_view ≡ 0 → total f (set (set views id b) other spent_view) ≡ total f views
both_totals f views id other v w b at there sum none_left =
    let one = total_set f views id v b at in
    let two = total_set f (set views id b) other w spent_view there in
    omega arith

pub join_joins : (tenants id other : ℕ) (v w : View) → w.first ≡ false → 0 < w.parts → Joins (RuleHolds tenants) id v other w (joined_view v w) spent_view
join_joins tenants id other v w plain live s kept at apart there =
    let old = kept.sound id v at in
    let theirs : IsSoundView other w = elim (at_set s.views id other (joined_view v w) w there) [
      | inl h ↦ absurd (apart h.0)
      | inr h ↦ kept.sound other w h.1
    ] in
    let same : length v.counts ≡ length w.counts = old.long ∙ sym theirs.long in
    let splits : total (λ u. u.splits) (set (set s.views id (joined_view v w)) other spent_view) ≡ total (λ u. u.splits) s.views
    = both_totals (λ u. u.splits) s.views id other v w (joined_view v w) at there (let z = theirs.plain plain in omega arith) refl in
    let parts : total (λ u. u.parts) (set (set s.views id (joined_view v w)) other spent_view) ≡ total (λ u. u.parts) s.views
    = both_totals (λ u. u.parts) s.views id other v w (joined_view v w) at there refl refl in
    record {
      long = kept.long;
      sums = λ t k lt. kept.sums t k lt ∙ sym (both_totals (at_place (word_of t k)) s.views id other v w (joined_view v w) at there (both_at v.counts w.counts (word_of t k) same) (no_count 256 (word_of t k)));
      parts = let e = kept.parts in omega arith;
      few = let e = kept.few in omega arith;
      sound = sound_set (set s.views id (joined_view v w)) other spent_view
          (sound_set s.views id (joined_view v w) kept.sound record {
            long = both_length v.counts w.counts ∙ old.long;
            bounded = λ i. let e = both_at v.counts w.counts i same in let a = old.bounded i in let b = theirs.bounded i in omega arith;
            leads = old.leads;
            plain = old.plain;
            joined = λ h. let e = old.joined h in omega arith;
          })
          (spent_sound other);
    }

-- ---- what clients see

-- a seat of some meters has their number
pub belongs : (id meters : TableId) (n : ℕ) (v : View) (s : SeatState) (m : MetersState) → seat_state id v ≡ s → record { id = meters; tenants = n } ≡ m
    → s.meters ≡ m.id → id ≡ meters
belongs id meters n v s m seat_is meters_are here =
    ap (λ (x : SeatState). x.meters) seat_is ∙ (here ∙ sym (ap (λ (x : MetersState). x.id) meters_are))

-- the totals of a table that was closed, where a fact holds of its words
pub closed_at : (words row : List ℕ) (tenants t : ℕ) (k : Kind) (P : ℕ → Type 0) → t < tenants
    → ((i : ℕ) → i < 4 * tenants → get_elem? words i ≡ some (slice_index row i)) → P (slice_index words (word_of t k)) → P (count_in t k row)
closed_at words row tenants t k P lt read is =
    subst P (at_value words (word_of t k) (slice_index row (word_of t k)) (read (word_of t k) (word_below t tenants k lt))) is
