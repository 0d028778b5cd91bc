-- Items that are visited one after another.
use Rattle.std.proofs.Common.{◌≡◌, ◌+◌, ◌<◌, ◌≤◌, ℕ, List, length, drop, get_or, Some, sym, ap, subst, ◌∙◌, arith, length-drop}
use Rattle.std.proofs.lemmas.List.{get_or-drop}
use Rattle.std.proofs.lemmas.List.Elements.{All-from_all_within, AllWithin-more, AllWithin-upto, at_read}
use Rattle.std.proofs.lemmas.Option.{get_or_from_slice_get, slice_get_within}
use Rattle.std.specs.List.{All, AllWithin, slice_get}
use Rattle.std.specs.Prelude.{slice_index_or}
use Rattle.book_log.specs.Lines.{place_of}
use Rattle.book_log.specs.declared.line.LinePlace.{LinePlace}
use Rattle.tenant_core.specs.State.{State}
use Rattle.tenant_core.specs.declared.journal.Record.{Record}
use Rattle.book_journal.specs.Noted.{unnoted}
use Rattle.book_journal.specs.Written.{new_records, place_in}

-- what holds of all items holds of the one at a place
pub at_place : {X : Type 0} (P : X → Type 0) (xs : List X) (i : ℕ) (x : X) → All P xs → slice_get xs i ≡ Some x → P x
at_place P xs i x all is = subst P (get_or_from_slice_get xs i x x is) (all i x (slice_get_within xs i x is))

-- from a place on, one more
pub next_from : {X : Type 0} (P : X → Type 0) (xs : List X) (from i : ℕ) (x : X) → slice_get xs i ≡ Some x → P x → AllWithin P xs from i
    → AllWithin P xs from (i + 1)
next_from P xs from i x is here so_far = AllWithin-more P xs from i so_far (λ d. subst P (sym (get_or_from_slice_get xs i x d is)) here)

-- all from a place on
pub all_from : {X : Type 0} (P : X → Type 0) (xs : List X) (from i : ℕ) → length xs ≤ i → AllWithin P xs from i → All P (drop from xs)
all_from P xs from i past so_far k d within =
    subst P (sym (get_or-drop from xs k d)) (so_far (from + k) d (omega arith) (omega (arith, length-drop from xs)))

-- from the start on, one more
pub next_item : {X : Type 0} (P : X → Type 0) (xs : List X) (i : ℕ) (x : X) → i < length xs → x ≡ get_or xs i x → P x
    → AllWithin P xs 0 i → AllWithin P xs 0 (i + 1)
next_item P xs i x within is here so_far = AllWithin-more P xs 0 i so_far (at_read xs P i x within is here)

-- all of them
pub all_items : {X : Type 0} (P : X → Type 0) (xs : List X) (i : ℕ) → length xs ≤ i → AllWithin P xs 0 i → All P xs
all_items P xs i past so_far = All-from_all_within P xs (AllWithin-upto P xs 0 i (length xs) past so_far)

-- the records of a state that have no line, by parts that were read one by one
pub all_unnoted : (P : Record → Type 0) (p at : LinePlace) (s : State) (period : ℕ) (records : List Record) → at ≡ place_in p period
    → period ≡ s.opening.period → records ≡ s.records → All P (drop at.number records) → All P (unnoted p s)
all_unnoted P p at s period records at_is period_is same all =
    let place = at_is ∙ ap (λ (n : ℕ). place_in p n) period_is in
    subst (λ (rs : List Record). All P rs)
    (ap (λ (q : LinePlace). drop q.number records) place ∙ ap (drop (place_in p s.opening.period).number) same) all

-- by the places of all tenants
pub all_new : (P : Record → Type 0) (places : List LinePlace) (s : State) (next p : LinePlace) → next ≡ place_of s
    → p ≡ slice_index_or places next.tenant next → All P (unnoted p s) → All P (new_records places s)
all_new P places s next p next_is p_is all =
    subst (λ (q : LinePlace). All P (unnoted q s)) (p_is ∙ ap (λ (q : LinePlace). slice_index_or places q.tenant q) next_is) all
