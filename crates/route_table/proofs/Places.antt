-- Children by their places in the order of their segments.
use Rattle.std.proofs.Common.{◌≡◌, Bool, ◌<◌, ◌≤◌, ℕ, zero, suc, true, false, List, [], ◌∷◌, length, get_or, arith, refl, sym, ap, subst, ◌∙◌, Ordering, Less, Equal, Greater, ◌+◌, cond, max, ◌⊎◌, inl, inr}
use Rattle.std.specs.Prelude.{Option, Some, None, Result, Ok, Err, IsOk, OnOk, OnErr, IsTrue, ◌↔◌, ◌==◌, slice_set, slice_index_or}
use Rattle.std.specs.declared.sync.Arc.{Arc}
use Rattle.std.specs.declared.alloc.Global.{Global}
use Rattle.std.specs.FinMap as map
use Rattle.std.specs.List as list
use Rattle.std.specs.List.{AllByRecursion, HoldsAt}
use Rattle.std.specs.List.Sorted.{IsStrictlySortedBy, IsSortedBy, IsNonDecreasingBy, IsPartitionPoint, IsBinarySearchResult, IsSearchInRange}
use Rattle.std.specs.Map.{keys_of}
use Rattle.std.specs.Ordering.{nat_cmp, is_eq, is_lt, ordering_index, ordering_reverse}
use Rattle.std.specs.Cmp.Lexicographic.{slice_cmp}
use Rattle.std.proofs.lemmas.Bool.{eqb-true}
use Rattle.std.proofs.lemmas.Cmp.{nat_list_cmp_total}
use Rattle.std.proofs.lemmas.List.{length-map, length-set, get_or-set_same}
use Rattle.std.proofs.lemmas.List.Sorted.{searchable_from_sorted}
use Rattle.std.proofs.lemmas.Map.Keys.{Less-from_sorted}
use Rattle.std.proofs.Math.ListN.{get_or-map}
use denote.Param.Weighed.{most}
use Rattle.route_table.specs.declared.node.Child.{Child}
use Rattle.route_table.specs.Paths.{Path, is_same}
use Rattle.route_table.specs.Nodes.{Branch, Children, child_of, routes_from, IsNode}
use Rattle.route_table.specs.Children.{children_of, height_of}
use Rattle.route_table.proofs.PathLemmas.{same, same_test, turned}
use Rattle.route_table.proofs.NodeLemmas.{Differ, still_used, less_used, child_used, then, outcome}
use Rattle.route_table.specs.declared.hop.Hop.{Hop}

abbrev cmp : List ℕ → List ℕ → Ordering
cmp = slice_cmp nat_cmp

abbrev segment_at : List Child → ℕ → Child → List ℕ
segment_at cs i d = (get_or cs i d).segment.items

abbrev pub IsOrdered : Children → Type 0
IsOrdered children = IsStrictlySortedBy cmp (keys_of children)

equal : (s t : List ℕ) → cmp s t ≡ Equal → s ≡ t
equal s t e = same s t (ap is_eq e)

less : (s t : List ℕ) → cmp s t ≡ Greater → cmp t s ≡ Less
less s t e = nat_list_cmp_total.antisymm t s ∙ ap ordering_reverse e

pub no_children : IsNode []
unfolding IsStrictlySortedBy
no_children = record { used = λ s child e. absurd cc; ordered = tt }

-- ---- one place

all_at : (P : List ℕ → Type 0) (cs : List Child) (i : ℕ) (d : Child) → AllByRecursion P (keys_of (children_of cs)) → i < length cs → P (segment_at cs i d)
all_at P [] i d all h = absurd (omega arith)
all_at P (c ∷ cs) zero d all h = all.0
all_at P (c ∷ cs) (suc i) d all h = all_at P cs i d all.1 (omega arith)

-- the segment of a later place is not that of the first
later : (s : List ℕ) (c : Child) (cs : List Child) (i : ℕ) (d : Child) → AllByRecursion (λ t. cmp c.segment.items t ≡ Less) (keys_of (children_of cs)) → i < length cs
    → cmp (segment_at cs i d) s ≡ Equal → is_same s c.segment.items ≡ false
later s c cs i d all h e =
    turned c.segment.items s (ap is_eq (subst (λ t. cmp c.segment.items t ≡ Less) (equal (segment_at cs i d) s e) (all_at (λ t. cmp c.segment.items t ≡ Less) cs i d all h)))

first : (s : List ℕ) (c : Child) → cmp c.segment.items s ≡ Equal → is_same s c.segment.items ≡ true
first s c e = same_test s c.segment.items (sym (equal c.segment.items s e))

none_after : (s : List ℕ) (cs : List Child) → AllByRecursion (λ t. cmp s t ≡ Less) (keys_of (children_of cs)) → child_of s (children_of cs) ≡ None
none_after s [] all = refl
none_after s (c ∷ cs) all = let other : is_same s c.segment.items ≡ false = ap is_eq all.0 in rw other (none_after s cs all.1)

-- ---- what a search found

-- the child at the place has the segment
pub record IsHit (s : List ℕ) (cs : List Child) (i : ℕ) : Type 0 where
  pub inside : i < length cs
  pub tie : (d : Child) → cmp (segment_at cs i d) s ≡ Equal

pub hit_at : (s : List ℕ) (seen cs : List Child) (i : ℕ) → seen ≡ cs → i < length seen → HoldsAt (λ y. cmp y.segment.items s ≡ Equal) seen i → IsHit s cs i
hit_at s seen cs i is h holds = subst (λ xs. IsHit s xs i) is (record { inside = h; tie = holds })

found_at : (s : List ℕ) (cs : List Child) (i : ℕ) (d : Child) → IsOrdered (children_of cs) → i < length cs → cmp (segment_at cs i d) s ≡ Equal
    → child_of s (children_of cs) ≡ Some (get_or cs i d).node.value
unfolding IsStrictlySortedBy
found_at s [] i d ordered h e = absurd (omega arith)
found_at s (c ∷ cs) zero d ordered h e = rw (first s c e) refl
found_at s (c ∷ cs) (suc i) d ordered h e =
    let h' : i < length cs = omega arith in
    rw (later s c cs i d ordered.0 h' e) (found_at s cs i d ordered.1 h' e)

pub found : (s : List ℕ) (cs : List Child) (i : ℕ) (d : Child) → IsOrdered (children_of cs) → IsHit s cs i → child_of s (children_of cs) ≡ Some (get_or cs i d).node.value
found s cs i d ordered hit = found_at s cs i d ordered hit.inside (hit.tie d)

-- ---- another child at a place

differ_later : (x : List ℕ × Branch) (old new : Children) (s : List ℕ) (child : Option Branch) → is_same s x.0 ≡ false → Differ old new s child → Differ (x ∷ old) (x ∷ new) s child
differ_later x old new s child away differ = record {
  here = rw away differ.here;
  others = λ t e. ap (cond (is_same t x.0) (Some x.1)) (differ.others t e);
}

-- another segment is not that of the place
elsewhere : (s t k : List ℕ) → is_same s k ≡ true → is_same t s ≡ false → is_same t k ≡ false
elsewhere s t k here away = ap (is_same t) (sym (same s k here)) ∙ away

pub changed : (s : List ℕ) (cs : List Child) (i : ℕ) (d c : Child) → IsOrdered (children_of cs) → i < length cs → cmp (segment_at cs i d) s ≡ Equal
    → c.segment.items ≡ segment_at cs i d → Differ (children_of cs) (children_of (slice_set cs i c)) s (Some c.node.value)
unfolding IsStrictlySortedBy
changed s [] i d c ordered h e is = absurd (omega arith)
changed s (x ∷ cs) zero d c ordered h e is =
    let here : is_same s c.segment.items ≡ true = ap (is_same s) is ∙ first s x e in
    record {
      here = rw here refl;
      others = λ t away. rw (elsewhere s t c.segment.items here away, elsewhere s t x.segment.items (first s x e) away) refl;
    }
changed s (x ∷ cs) (suc i) d c ordered h e is =
    let h' : i < length cs = omega arith in
    differ_later _ _ _ s _ (later s x cs i d ordered.0 h' e) (changed s cs i d c ordered.1 h' e is)

pub changed_keys : (cs : List Child) (i : ℕ) (d c : Child) → i < length cs → c.segment.items ≡ segment_at cs i d → keys_of (children_of (slice_set cs i c)) ≡ keys_of (children_of cs)
changed_keys [] i d c h is = absurd (omega arith)
changed_keys (x ∷ cs) zero d c h is = ap (λ k. k ∷ keys_of (children_of cs)) is
changed_keys (x ∷ cs) (suc i) d c h is = ap (λ ks. x.segment.items ∷ ks) (changed_keys cs i d c (omega arith) is)

-- ---- a child less

all_but : (P : List ℕ → Type 0) (cs : List Child) (i : ℕ) → AllByRecursion P (keys_of (children_of cs)) → AllByRecursion P (keys_of (children_of (list.remove cs i)))
all_but P [] zero all = all
all_but P [] (suc i) all = all
all_but P (c ∷ cs) zero all = all.1
all_but P (c ∷ cs) (suc i) all = (all.0, all_but P cs i all.1)

pub removed_ordered : (cs : List Child) (i : ℕ) → IsOrdered (children_of cs) → IsOrdered (children_of (list.remove cs i))
unfolding IsStrictlySortedBy
removed_ordered [] zero ordered = ordered
removed_ordered [] (suc i) ordered = ordered
removed_ordered (c ∷ cs) zero ordered = ordered.1
removed_ordered (c ∷ cs) (suc i) ordered = (all_but (λ t. cmp c.segment.items t ≡ Less) cs i ordered.0, removed_ordered cs i ordered.1)

pub removed : (s : List ℕ) (cs : List Child) (i : ℕ) (d : Child) → IsOrdered (children_of cs) → i < length cs → cmp (segment_at cs i d) s ≡ Equal
    → Differ (children_of cs) (children_of (list.remove cs i)) s None
unfolding IsStrictlySortedBy
removed s [] i d ordered h e = absurd (omega arith)
removed s (c ∷ cs) zero d ordered h e = record {
  here = none_after s cs (subst (λ k. AllByRecursion (λ t. cmp k t ≡ Less) (keys_of (children_of cs))) (equal c.segment.items s e) ordered.0);
  others = λ t away. rw (elsewhere s t c.segment.items (first s c e) away) refl;
}
removed s (c ∷ cs) (suc i) d ordered h e =
    let h' : i < length cs = omega arith in
    differ_later _ _ _ s _ (later s c cs i d ordered.0 h' e) (removed s cs i d ordered.1 h' e)

-- ---- a child more

-- the segments before the place are less, and those from it on are greater
pub record IsGap (s : List ℕ) (cs : List Child) (i : ℕ) : Type 0 where
  pub before : (k : ℕ) (d : Child) → k < i → cmp (segment_at cs k d) s ≡ Less
  pub after : (k : ℕ) (d : Child) → i ≤ k → k < length cs → cmp (segment_at cs k d) s ≡ Greater

next_gap : (s : List ℕ) (c : Child) (cs : List Child) (i : ℕ) → IsGap s (c ∷ cs) (suc i) → IsGap s cs i
next_gap s c cs i gap = record {
  before = λ k d h. gap.before (suc k) d (omega arith);
  after = λ k d h h'. gap.after (suc k) d (omega arith) (omega arith);
}

all_after : (s : List ℕ) (cs : List Child) → ((k : ℕ) (d : Child) → k < length cs → cmp (segment_at cs k d) s ≡ Greater) → AllByRecursion (λ t. cmp s t ≡ Less) (keys_of (children_of cs))
all_after s [] h = tt
all_after s (c ∷ cs) h = (less c.segment.items s (h zero c (omega arith)), all_after s cs (λ k d b. h (suc k) d (omega arith)))

pub gap_none : (s : List ℕ) (cs : List Child) (i : ℕ) → i ≤ length cs → IsGap s cs i → child_of s (children_of cs) ≡ None
gap_none s cs zero h gap = none_after s cs (all_after s cs (λ k d b. gap.after k d (omega arith) b))
gap_none s [] (suc i) h gap = refl
gap_none s (c ∷ cs) (suc i) h gap =
    let away : is_same s c.segment.items ≡ false = turned c.segment.items s (ap is_eq (gap.before zero c (omega arith))) in
    rw away (gap_none s cs i (omega arith) (next_gap s c cs i gap))

pub inserted : (s : List ℕ) (cs : List Child) (i : ℕ) (c : Child) → i ≤ length cs → IsGap s cs i → c.segment.items ≡ s
    → Differ (children_of cs) (children_of (list.insert cs i c)) s (Some c.node.value)
inserted s cs zero c h gap is =
    let here : is_same s c.segment.items ≡ true = same_test s c.segment.items (sym is) in
    record {
      here = rw here refl;
      others = λ t away. rw (elsewhere s t c.segment.items here away) refl;
    }
inserted s [] (suc i) c h gap is = absurd (omega arith)
inserted s (x ∷ cs) (suc i) c h gap is =
    differ_later _ _ _ s _ (turned x.segment.items s (ap is_eq (gap.before zero x (omega arith)))) (inserted s cs i c (omega arith) (next_gap s x cs i gap) is)

all_more : (P : List ℕ → Type 0) (cs : List Child) (i : ℕ) (c : Child) → P c.segment.items → AllByRecursion P (keys_of (children_of cs)) → AllByRecursion P (keys_of (children_of (list.insert cs i c)))
all_more P cs zero c p all = (p, all)
all_more P [] (suc i) c p all = (p, all)
all_more P (x ∷ cs) (suc i) c p all = (all.0, all_more P cs i c p all.1)

pub inserted_ordered : (s : List ℕ) (cs : List Child) (i : ℕ) (c : Child) → i ≤ length cs → IsGap s cs i → c.segment.items ≡ s → IsOrdered (children_of cs)
    → IsOrdered (children_of (list.insert cs i c))
unfolding IsStrictlySortedBy
inserted_ordered s cs zero c h gap is ordered =
    (subst (λ k. AllByRecursion (λ t. cmp k t ≡ Less) (keys_of (children_of cs))) (sym is) (all_after s cs (λ k d b. gap.after k d (omega arith) b)), ordered)
inserted_ordered s [] (suc i) c h gap is ordered = absurd (omega arith)
inserted_ordered s (x ∷ cs) (suc i) c h gap is ordered = (
  all_more (λ t. cmp x.segment.items t ≡ Less) cs i c (subst (λ t. cmp x.segment.items t ≡ Less) (sym is) (gap.before zero x (omega arith))) ordered.0,
  inserted_ordered s cs i c (omega arith) (next_gap s x cs i gap) is ordered.1,
)

-- ---- where a search ends

abbrev by_segment : List ℕ → Child → Ordering
by_segment s child = cmp child.segment.items s

sorted_by_segment : (cs : List Child) → IsOrdered (children_of cs) → IsSortedBy (λ (a b : Child). is_lt (cmp a.segment.items b.segment.items)) cs
sorted_by_segment cs ordered k d low high =
    let rises : cmp (get_or keys k d.segment.items) (get_or keys (k + 1) d.segment.items) ≡ Less =
    Less-from_sorted cmp keys k (k + 1) d.segment.items ordered (omega arith) (subst (λ n. k + 1 < n) (sym count) high) in
    ap is_lt (nat_list_cmp_total.antisymm (segment_at cs (k + 1) d) (segment_at cs k d)
    ∙ ap ordering_reverse ((λ i. cmp (sym (key k) i) (sym (key (k + 1)) i)) ∙ rises))
  where
    keys : List (List ℕ)
    keys = keys_of (children_of cs)

    count : length keys ≡ length cs
    count = length-map (children_of cs) _ ∙ length-map cs _

    key : (i : ℕ) → get_or keys i d.segment.items ≡ segment_at cs i d
    key i = get_or-map _ (children_of cs) i (d.segment.items, d.node.value) ∙ ap (λ (e : List ℕ × Branch). e.0) (get_or-map _ cs i d)

-- the answer of a search that found no child
abbrev IsParted : List ℕ → List Child → ℕ → Type 0
IsParted s cs i = IsNonDecreasingBy (λ y. ordering_index (by_segment s y)) cs → IsPartitionPoint (λ y. by_segment s y ≡ Less) (λ y. by_segment s y ≡ Greater) cs i

pub gap_at : (s : List ℕ) (seen cs : List Child) (i : ℕ) → seen ≡ cs → IsOrdered (children_of cs) → IsParted s seen i → IsGap s cs i
gap_at s seen cs i is ordered parted =
    let both = subst (λ xs. IsParted s xs i) is parted (searchable_from_sorted nat_list_cmp_total (λ (c : Child). c.segment.items) cs s (sorted_by_segment cs ordered)) in
    record { before = λ k d h. both.0 k d (omega arith) h; after = λ k d h h'. both.1 k d h h' }

-- ---- a node that is one's own, or a copy of one that is shared

pub either : {A : Type 0} {x y : A} → (x ≡ y) ⊎ (x ≡ y) → x ≡ y
either (inl e) = e
either (inr e) = e

pub at_err : {A E : Type 0} (r : Result A E) (e : E) (P : Type 0) → r ≡ Err e → OnErr r P → P
at_err (Ok x) e P is h = absurd cc
at_err (Err d) e P is h = h

pub at_ok : {A E : Type 0} (r : Result A E) (x : A) (P : Type 0) → r ≡ Ok x → (IsOk r → P) → P
at_ok (Ok y) x P is h = h refl
at_ok (Err d) x P is h = absurd cc

pub always_err : {A E : Type 0} (r : Result A E) {P : Type 0} → P → OnErr r P
always_err (Ok x) p = tt
always_err (Err e) p = p

-- no place was found
pub absent_at : (r : Result ℕ ℕ) (s : List ℕ) (seen cs : List Child) → seen ≡ cs → IsOrdered (children_of cs) → ((i : ℕ) → r ≡ Ok i → ⊥) → IsSearchInRange r (length seen)
    → IsBinarySearchResult (by_segment s) seen r → child_of s (children_of cs) ≡ None
absent_at (Ok i) s seen cs is ordered none range position = absurd (none i refl)
absent_at (Err i) s seen cs is ordered none range position = gap_none s cs i (subst (λ xs. i ≤ length xs) is range) (gap_at s seen cs i is ordered position)

-- ---- a change behind one segment

-- the child behind the segment has another branch
pub record IsChanged (s : List ℕ) (old new : List Child) (was child : Branch) : Type 0 where
  pub is : Some was ≡ child_of s (children_of old)
  pub differ : Differ (children_of old) (children_of new) s (Some child)
  pub ordered : IsOrdered (children_of new)

pub changed_at : (s : List ℕ) (cs : List Child) (i : ℕ) (lent : Child) (node : Arc Branch Global) (was child : Branch) → IsOrdered (children_of cs) → IsHit s cs i
    → lent ≡ slice_index_or cs i lent → was ≡ lent.node.value → node.value ≡ child
    → IsChanged s cs (slice_set cs i (record { segment = lent.segment; node = node })) was child
changed_at s cs i lent node was child ordered hit is was_is child_is =
    let c : Child = record { segment = lent.segment; node = node } in
    let same_segment : lent.segment.items ≡ segment_at cs i lent = ap (λ (x : Child). x.segment.items) is in
    record {
      is = ap Some was_is ∙ ap (λ (x : Child). Some x.node.value) is ∙ sym (found s cs i lent ordered hit);
      differ = subst (λ b. Differ (children_of cs) (children_of (slice_set cs i c)) s (Some b)) child_is (changed s cs i lent c ordered hit.inside (hit.tie lent) same_segment);
      ordered = subst (IsStrictlySortedBy cmp) (sym (changed_keys cs i lent c hit.inside same_segment)) ordered;
    }

module _ {s : List ℕ} {old new : List Child} {was child : Branch} (node : IsNode (children_of old)) (change : IsChanged s old new was child) where
  pub node_kept : child.routes ≡ was.routes → IsNode (children_of new)
  node_kept e = record {
    used = still_used _ _ s child node.used change.differ (λ f. node.used s was (sym change.is) (sym e ∙ f));
    ordered = change.ordered;
  }

  pub node_more : {A E : Type 0} (r : Result A E) (p : Path) (n : Hop) → OnOk r (child.routes ≡ map.insert was.routes p n) → OnErr r (child.routes ≡ was.routes) → IsNode (children_of new)
  node_more r p n added stays = record {
    used = child_used r _ _ s was child p n node.used change.is change.differ added stays;
    ordered = change.ordered;
  }

  pub node_used : ¬ (child.routes ≡ map.empty) → IsNode (children_of new)
  node_used some = record {
    used = still_used _ _ s child node.used change.differ some;
    ordered = change.ordered;
  }

-- one more child comes in at a gap
pub put_in : (s : List ℕ) (cs new : List Child) (i : ℕ) (c : Child) → i ≤ length cs → IsGap s cs i → c.segment.items ≡ s → new ≡ list.insert cs i c
    → Differ (children_of cs) (children_of new) s (Some c.node.value)
put_in s cs new i c h gap is e = subst (λ n. Differ (children_of cs) (children_of n) s (Some c.node.value)) (sym e) (inserted s cs i c h gap is)

pub node_inserted : {A E : Type 0} (r : Result A E) (s : List ℕ) (cs new : List Child) (i : ℕ) (c : Child) → IsNode (children_of cs) → i ≤ length cs → IsGap s cs i → c.segment.items ≡ s
    → ¬ (c.node.value.routes ≡ map.empty) → OnOk r (new ≡ list.insert cs i c) → OnErr r (new ≡ cs) → IsNode (children_of new)
node_inserted r s cs new i c node h gap is some put stays =
    outcome r _ _ (IsNode (children_of new))
    (λ e. record {
      used = still_used _ _ s c.node.value node.used (put_in s cs new i c h gap is e) some;
      ordered = subst (λ n. IsOrdered (children_of n)) (sym e) (inserted_ordered s cs i c h gap is node.ordered);
    })
    (λ e. subst (λ n. IsNode (children_of n)) (sym e) node) put stays

-- the child behind the segment is taken out
pub record IsTaken (s : List ℕ) (old new : List Child) : Type 0 where
  pub differ : Differ (children_of old) (children_of new) s None
  pub ordered : IsOrdered (children_of new)

pub taken_at : (s : List ℕ) (cs new : List Child) (i : ℕ) (lent : Child) (node : Arc Branch Global) → IsOrdered (children_of cs) → IsHit s cs i
    → lent ≡ slice_index_or cs i lent → new ≡ list.remove (slice_set cs i (record { segment = lent.segment; node = node })) i
    → IsTaken s (slice_set cs i (record { segment = lent.segment; node = node })) new
taken_at s cs new i lent node ordered hit is e =
    let c : Child = record { segment = lent.segment; node = node } in
    let mid : List Child = slice_set cs i c in
    let same_segment : lent.segment.items ≡ segment_at cs i lent = ap (λ (x : Child). x.segment.items) is in
    let mid_ordered : IsOrdered (children_of mid) = subst (IsStrictlySortedBy cmp) (sym (changed_keys cs i lent c hit.inside same_segment)) ordered in
    let at_place : get_or mid i c ≡ c = get_or-set_same cs i c c hit.inside in
    let tie : cmp (segment_at mid i c) s ≡ Equal = ap (λ (x : Child). cmp x.segment.items s) (at_place) ∙ ap (λ k. cmp k s) same_segment ∙ hit.tie lent in
    subst (IsTaken s mid) (sym e) (record {
      differ = removed s mid i c mid_ordered (subst (λ n. i < n) (sym (length-set cs i c)) hit.inside) tie;
      ordered = removed_ordered mid i mid_ordered;
    })

pub node_less : (s : List ℕ) (old mid new : List Child) (was child : Branch) → IsNode (children_of old) → IsChanged s old mid was child → IsTaken s mid new
    → IsNode (children_of new)
node_less s old mid new was child node change taken = record {
  used = less_used _ _ s node.used (then _ _ _ s _ _ change.differ taken.differ);
  ordered = taken.ordered;
}

-- ---- a node without children

pub childless : (r : Bool) (n : ℕ) (cs : List Child) {P : Type 0} → r ≡ (n == 0) → n ≡ length cs → (length (children_of cs) ≡ 0) ↔ P → IsTrue r ↔ P
childless r n cs e count both = (
  λ t. both.0 (length-map cs _ ∙ sym count ∙ eqb-true n 0 (sym e ∙ t)),
  λ p. let none : n ≡ 0 = count ∙ sym (length-map cs _) ∙ both.1 p in e ∙ ap (λ k. k == 0) none,
)

-- ---- the same children once more

abbrev most_of : Children → ℕ
most_of children = most (λ (e : List ℕ × Branch). e.1.height + 1) children

height_is : (cs : List Child) → height_of cs ≡ most_of (children_of cs)
height_is [] = refl
height_is (c ∷ cs) = ap (max (c.node.value.height + 1)) (height_is cs)

pub same_node : (hop : Option Hop) (old new : List Child) → children_of new ≡ children_of old
    → ◌≡◌ {A = Branch} (record { routes = routes_from hop (children_of new); height = height_of new }) (record { routes = routes_from hop (children_of old); height = height_of old })
same_node hop old new e =
    let height : height_of new ≡ height_of old = height_is new ∙ ap most_of e ∙ sym (height_is old) in
    λ i. record { routes = routes_from hop (e i); height = height i }
