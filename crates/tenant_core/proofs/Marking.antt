-- What a tick has made of the holds as far as it has come through those that await their answers.
use Rattle.std.proofs.Common.{◌≡◌, ℕ, ◌+◌, ◌<◌, ◌≤◌, Bool, true, false, cond, List, [], ◌∷◌, length, get_or, suc, zero, map, arith, refl, sym, ap, subst, ◌∙◌, inl, inr}
use Rattle.std.specs.Prelude.{Some, count_by}
use Rattle.std.specs.List.{slice_get}
use Rattle.std.proofs.Math.ListN.{set}
use Rattle.std.proofs.lemmas.Bool.{cases_eq}
use Rattle.std.proofs.lemmas.Option.{slice_get_cases, slice_get_within, get_or_from_slice_get}
use Rattle.tenant_core.specs.declared.hold.Fate.TheVariants.{Marked}
use Rattle.tenant_core.specs.declared.hold.Hold.{Hold}
use Rattle.tenant_core.specs.HoldTables.{Table, IsComplete}
use Rattle.tenant_core.specs.Holds.{is_overdue, hold_ticked, with_fate}
use Rattle.tenant_core.specs.Running.{OneTicked}
use Rattle.tenant_core.proofs.Slots.{set_cases}
use Rattle.tenant_core.proofs.Ticking.{marked_map, marked_count, none_overdue, none_awaiting}

-- what stands at a place is written there
pub set_there : {X : Type 0} (xs : List X) (i : ℕ) (x : X) → slice_get xs i ≡ Some x → set xs i x ≡ xs
set_there [] i x at = refl
set_there (y ∷ ys) zero x at =
    let same : y ≡ x = cc in
    ap (λ z. z ∷ ys) (sym same)
set_there (y ∷ ys) (suc i) x at = ap (λ zs. y ∷ zs) (set_there ys i x at)

-- a hold that is not overdue stays as it is at a tick
pub ticked_stays : (clock : ℕ) (h : Hold) → is_overdue clock h ≡ false → hold_ticked clock h ≡ h
ticked_stays clock h none = rw none refl

-- one that is overdue is marked
pub ticked_marks : (clock : ℕ) (h : Hold) → is_overdue clock h ≡ true → hold_ticked clock h ≡ with_fate h Marked
ticked_marks clock h over = rw over refl

-- whether the hold at a place is overdue, by what was read there
pub overdue_read : (clock : ℕ) (hs xs : List Hold) (i : ℕ) (h d : Hold) (b : Bool) → xs ≡ hs → slice_get hs i ≡ Some h
    → b ≡ is_overdue clock (get_or xs i d) → is_overdue clock h ≡ b
overdue_read clock hs xs i h d b same at read =
    let here : get_or xs i d ≡ h = ap (λ (ks : List Hold). get_or ks i d) same ∙ get_or_from_slice_get hs i h d at in
    sym (read ∙ ap (is_overdue clock) here)

-- nothing is marked at that place where the hold is not overdue
pub not_overdue : (clock place : ℕ) (t : Table) (h : Hold) → slice_get t.holds place ≡ Some h → is_overdue clock h ≡ false
    → (◌≡◌ {A = ℕ} 0 (cond (is_overdue clock h) 1 0)) × (t ≡ record t { holds = set t.holds place (hold_ticked clock h) })
not_overdue clock place t h at over =
    let stays : set t.holds place (hold_ticked clock h) ≡ t.holds = ap (set t.holds place) (ticked_stays clock h over) ∙ set_there t.holds place h at in
    (rw over refl, ap (λ (hs : List Hold). record t { holds = hs }) (sym stays))

-- the one hold there is marked where it is overdue
pub overdue : (clock place : ℕ) (t u : Table) (h : Hold) → is_overdue clock h ≡ true → u.holds ≡ set t.holds place (with_fate h Marked)
    → u.room ≡ t.room → u.awaiting ≡ t.awaiting
    → (◌≡◌ {A = ℕ} 1 (cond (is_overdue clock h) 1 0)) × (u ≡ record t { holds = set t.holds place (hold_ticked clock h) })
overdue clock place t u h over holds room awaiting =
    let made : u.holds ≡ set t.holds place (hold_ticked clock h) = holds ∙ ap (set t.holds place) (sym (ticked_marks clock h over)) in
    let hs : List Hold = set t.holds place (hold_ticked clock h) in
    let same : u ≡ record t { holds = hs } =
    ap (λ (x : List Hold). record u { holds = x }) made
    ∙ (ap (λ (n : ℕ). record u { holds = hs; room = n }) room
    ∙ ap (λ (ps : List ℕ). record t { holds = hs; awaiting = ps }) awaiting) in
    (rw over refl, same)

-- the first k that await their answers are overdue no more, and so many were marked
pub record IsTicked (clock k count : ℕ) (old new : Table) : Type 0 where
  pub awaiting : new.awaiting ≡ old.awaiting
  pub room : new.room ≡ old.room
  pub ticked : map (hold_ticked clock) new.holds ≡ map (hold_ticked clock) old.holds
  pub counted : count + count_by (is_overdue clock) new.holds ≡ count_by (is_overdue clock) old.holds
  pub few : count ≤ k
  pub none : (j place : ℕ) (h : Hold) → j < k → slice_get new.awaiting j ≡ Some place → slice_get new.holds place ≡ Some h
      → is_overdue clock h ≡ false

-- the next one was not overdue
next_stays : (clock k count place : ℕ) (old t : Table) (h : Hold) → IsTicked clock k count old t → slice_get t.awaiting k ≡ Some place
    → slice_get t.holds place ≡ Some h → is_overdue clock h ≡ false → IsTicked clock (k + 1) (count + 0) old t
next_stays clock k count place old t h is here at over =
    let counted = is.counted in
    let few = is.few in
    record {
      awaiting = is.awaiting;
      room = is.room;
      ticked = is.ticked;
      counted = omega arith;
      few = omega arith;
      none = λ j p x below listed there.
          elim (cases_eq j k) [
            | inl same ↦
                let one : slice_get t.awaiting k ≡ Some p = subst (λ i. slice_get t.awaiting i ≡ Some p) same listed in
                let places : place ≡ p = cc in
                let found : slice_get t.holds place ≡ Some x = subst (λ i. slice_get t.holds i ≡ Some x) (sym places) there in
                let holds : h ≡ x = cc in
                subst (λ y. is_overdue clock y ≡ false) holds over
            | inr other ↦ is.none j p x (omega arith) listed there
          ];
    }

-- the next one was overdue and is marked
next_marked : (clock k count place : ℕ) (old t u : Table) (h : Hold) → IsTicked clock k count old t → slice_get t.awaiting k ≡ Some place
    → slice_get t.holds place ≡ Some h → is_overdue clock h ≡ true → u ≡ record t { holds = set t.holds place (with_fate h Marked) }
    → IsTicked clock (k + 1) (count + 1) old u
next_marked clock k count place old t u h is here at over made =
    let counted = is.counted in
    let few = is.few in
    let fewer = marked_count clock t.holds place h at over in
    subst (λ (v : Table). IsTicked clock (k + 1) (count + 1) old v) (sym made)
    (record {
      awaiting = is.awaiting;
      room = is.room;
      ticked = marked_map clock t.holds place h at over ∙ is.ticked;
      counted = omega arith;
      few = omega arith;
      none = λ j p x below listed there.
          elim (set_cases t.holds place p (with_fate h Marked) x there) [
            | inl q ↦ rw (← q.1) refl
            | inr q ↦
                elim (cases_eq j k) [
                  | inl same ↦
                      let one : slice_get t.awaiting k ≡ Some p = subst (λ i. slice_get t.awaiting i ≡ Some p) same listed in
                      let places : p ≡ place = cc in
                      absurd (q.0 places)
                  | inr other ↦ is.none j p x (omega arith) listed q.1
                ]
          ];
    })

-- one step more through those that await their answers
pub ticked_more : (clock k count n place : ℕ) (old t u : Table) → IsTicked clock k count old t → slice_get t.awaiting k ≡ Some place
    → place < length t.holds → OneTicked n place clock t u → IsTicked clock (k + 1) (count + n) old u
ticked_more clock k count n place old t u is here inside step = elim (slice_get_cases t.holds place).1 [
  | inl q ↦ by q.0 q.2 (is_overdue clock q.0) refl (step q.0 q.2)
  | inr q ↦ absurd (omega arith)
]
  where
    by : (h : Hold) → slice_get t.holds place ≡ Some h → (b : Bool) → is_overdue clock h ≡ b
        → (n ≡ cond (is_overdue clock h) 1 0) × (u ≡ record t { holds = set t.holds place (hold_ticked clock h) })
        → IsTicked clock (k + 1) (count + n) old u
    by h at false over stepped =
        let none : n ≡ 0 = rw over at stepped.0 in
        let stays : set t.holds place (hold_ticked clock h) ≡ t.holds = ap (set t.holds place) (ticked_stays clock h over) ∙ set_there t.holds place h at in
        let same : u ≡ t = stepped.1 ∙ ap (λ (hs : List Hold). record t { holds = hs }) stays in
        subst (λ m. IsTicked clock (k + 1) (count + m) old u) (sym none)
        (subst (λ (v : Table). IsTicked clock (k + 1) (count + 0) old v) (sym same) (next_stays clock k count place old t h is here at over))
    by h at true over stepped =
        let one : n ≡ 1 = rw over at stepped.0 in
        let made : u ≡ record t { holds = set t.holds place (with_fate h Marked) } =
        stepped.1 ∙ ap (λ (x : Hold). record t { holds = set t.holds place x }) (ticked_marks clock h over) in
        subst (λ m. IsTicked clock (k + 1) (count + m) old u) (sym one) (next_marked clock k count place old t u h is here at over made)

-- all of them were
pub ticked_all : (clock k count : ℕ) (old t : Table) → IsTicked clock k count old t → length old.awaiting ≤ k → IsComplete t
    → (t.holds ≡ map (hold_ticked clock) old.holds) × (count ≡ count_by (is_overdue clock) old.holds)
ticked_all clock k count old t is past complete =
    let long : length t.awaiting ≡ length old.awaiting = ap length is.awaiting in
    let none = none_overdue clock t.holds (none_awaiting clock t complete
    (λ j p h listed at. is.none j p h (let within = slice_get_within t.awaiting j p listed in omega arith) listed at)) in
    let counted = is.counted in
    let zero : count_by (is_overdue clock) t.holds ≡ 0 = none.1 in
    (sym none.0 ∙ is.ticked, omega arith)
