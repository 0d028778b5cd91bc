-- Receipts beside the records that they name.
use Rattle.std.proofs.Common.{◌≡◌, ℕ, zero, suc, ◌+◌, ◌<◌, ◌≤◌, ◌⊎◌, List, [], ◌∷◌, ◌++◌, length, map, take, Option, Some, None, slice_get, slice_set, slice_index, get_or, unwrap_or, refl, sym, ap, subst, ◌∙◌, arith, inl, inr}
use Rattle.std.proofs.lemmas.Option.{slice_get-map, slice_get_read, slice_get_within}
use Rattle.std.specs.Prelude.{option_map}
use Rattle.std.proofs.lemmas.List.Sums.{sum_by-cons}
use mathlib.Core.Logic.{dite}
use native.Mathlib.Decide.{ℕ_discrete, dec_lt}
use Rattle.tenant_core.specs.declared.journal.Record.{Record}
use Rattle.tenant_core.specs.declared.period.PeriodParts.{PeriodParts}
use Rattle.joint_order.specs.Orders.{AreDistinct, AreHeld, list_at, point, points_count}
use Rattle.joint_order.specs.declared.point.ListPoint.{ListPoint}
use Rattle.receipts.specs.Audits.{AreJoined, AreMatched, IsNumbered, LacksReceipt, NameOne, NamesRecord, journal_place, points_of, receipts_of, shown_record, records_before}
use Rattle.receipts.specs.Layout.{AreLaid, AreNoted, HaveRows, IsBefore, IsAuditFault, IsHeldNowhere, IsHeldWhole, IsIndexUpTo, IsLaid, IsNoted, IsReceiptRefused, held_of, place_in, points_in}
use Rattle.receipts.specs.Rows.{AreRowsOf, IsPeriodIndex}
use Rattle.receipts.specs.declared.layout.Laid.{Laid}
use Rattle.receipts.specs.declared.fault.AuditFault.{AuditFault}
use Rattle.receipts.specs.declared.fault.AuditFault.TheVariants.{NoPeriod, Gap, Twice, Missing, Differs, Order, Memory}
use Rattle.receipts.specs.declared.index.Index.{Index}
use Rattle.receipts.specs.declared.receipt.Receipt.{Receipt}
use Rattle.receipts.proofs.Joins.{is_element, is_read, one_there}
use Rattle.receipts.proofs.Lays.{before_later, tenant_below}
use Rattle.receipts.proofs.Places.{shown_length, unwritten, written}

-- what stands in the period that the index finds is named
pub named_there : (index : Index) (periods : List PeriodParts) (r : Receipt) (k : ℕ) (p : PeriodParts) (x : Record)
    → IsIndexUpTo index periods (length periods) → place_in index r.tenant r.period ≡ Some k → slice_get periods k ≡ Some p
    → slice_get p.records r.number ≡ Some x → NamesRecord periods r x
named_there index periods r k p x all place at there =
    let right = all.right r.tenant r.period k place in
    let same : right.1.0 ≡ p = one_there periods k right.1.0 p right.1.1 at in
    let P : PeriodParts → Type 0 = λ q. IsNumbered r.tenant r.period q in
    (p, is_element periods k p at, subst P same right.1.2, there)

-- what is read of the period that the index finds is named
pub named_by_index : (index : Index) (periods : List PeriodParts) (r : Receipt) (k : ℕ) (p : PeriodParts) (records : List Record) (x : Record)
    → IsIndexUpTo index periods (length periods) → Some k ≡ place_in index r.tenant r.period → p ≡ get_or periods k p → records ≡ p.records
    → ◌≡◌ {A = Option Record} (Some x) (slice_get records r.number) → NamesRecord periods r x
named_by_index index periods r k p records x all place read are there =
    let below = (all.right r.tenant r.period k (sym place)).0 in
    let R : List Record → Type 0 = λ rs. ◌≡◌ {A = Option Record} (Some x) (slice_get rs r.number) in
    let get : R p.records = subst R are there in
    named_there index periods r k p x all (sym place) (slice_get_read periods (length periods) k p refl below read) (sym get)

-- entries of a tenant's journal at one place are of one period and one number
pub same_entry : (periods : List PeriodParts) (t m n k l a b : ℕ) (p q : PeriodParts) → slice_get periods k ≡ Some p → slice_get periods l ≡ Some q
    → IsNumbered t m p → IsNumbered t n q → a < length p.records → b < length q.records
    → records_before periods t m + a ≡ records_before periods t n + b → (m ≡ n) × (a ≡ b)
same_entry periods t m n k l a b p q at_p at_q is_p is_q below_p below_q same = dite (ℕ_discrete m n)
    (λ alike.
    let e : records_before periods t m ≡ records_before periods t n = ap (records_before periods t) alike in
    (alike, omega arith))
    (λ apart. dite (dec_lt m n)
    (λ less. let later = before_later periods t m p k n at_p is_p less in absurd (omega arith))
    (λ more. let later = before_later periods t n q l m at_q is_q (omega arith) in absurd (omega arith)))

-- receipts that name records at one place of a journal name one entry
pub name_one : (periods : List PeriodParts) (r s : Receipt) (x y : Record) → NamesRecord periods r x → NamesRecord periods s y → r.tenant ≡ s.tenant
    → journal_place periods r ≡ journal_place periods s → NameOne r s
name_one periods r s x y named also tenant place =
    let p = named.0 in
    let q = also.0 in
    let at_p = is_read periods p named.1 in
    let at_q = is_read periods q also.1 in
    let P : ℕ → Type 0 = λ t. IsNumbered t s.period q in
    let here : IsNumbered r.tenant s.period q = subst P (sym tenant) also.2 in
    let e : records_before periods s.tenant s.period ≡ records_before periods r.tenant s.period = ap (λ t. records_before periods t s.period) (sym tenant) in
    let same = same_entry periods r.tenant r.period s.period at_p.0 at_q.0 r.number s.number p q at_p.1 at_q.1 named.2 here
    (slice_get_within p.records r.number x named.3) (slice_get_within q.records s.number y also.3) (omega arith) in
    (tenant, same.0, same.1)

-- a receipt that names a record names no other
pub named_once : (periods : List PeriodParts) (r s : Receipt) → NameOne r s → journal_place periods r ≡ journal_place periods s
named_once periods r s one =
    let e : records_before periods r.tenant r.period ≡ records_before periods s.tenant s.period
    = ap (λ t. records_before periods t r.period) one.0 ∙ ap (records_before periods s.tenant) one.1 in
    let n = one.2 in
    omega arith

-- the place of what a receipt names, and that there is room for it
pub placed : (index : Index) (periods : List PeriodParts) (offsets : List ℕ) (holders : List (List (Option ℕ))) (r : Receipt) (k : ℕ)
    → IsIndexUpTo index periods (length periods) → HaveRows index periods offsets holders → place_in index r.tenant r.period ≡ Some k
    → NamesRecord periods r (shown_record r)
    → (slice_index offsets k + r.number ≡ journal_place periods r) × (r.tenant < length holders) × (journal_place periods r < length (list_at holders r.tenant))
placed index periods offsets holders r k all rows place named =
    let below = tenant_below index periods r.tenant r.period k all place in
    let laid = rows.laid r.tenant below in
    let offset = laid.offset r.period k place in
    let at = is_read periods named.0 named.1 in
    let found = all.found at.0 named.0 (slice_get_within periods at.0 named.0 at.1) at.1 in
    let P : ℕ → ℕ → Type 0 = λ t n. place_in index t n ≡ Some at.0 in
    let found_there : place_in index r.tenant r.period ≡ Some at.0
    = subst (λ n. P r.tenant n) named.2.1 (subst (λ t. P t named.0.opening.period) named.2.0 found) in
    let room = laid.room r.period at.0 named.0 found_there at.1 in
    let number = slice_get_within named.0.records r.number (shown_record r) named.3 in
    let many = rows.rows in
    (omega arith, omega arith, omega arith)

-- the rows after one was written
list_written : {A : Type 0} (xs : List (List A)) (i j : ℕ) (y : List A) → length y ≡ length (list_at xs i) → length (list_at (slice_set xs i y) j) ≡ length (list_at xs j)
list_written {A = A} [] i j y same = refl
list_written {A = A} (x ∷ xs) zero zero y same = same
list_written {A = A} (x ∷ xs) zero (suc j) y same = refl
list_written {A = A} (x ∷ xs) (suc i) zero y same = refl
list_written {A = A} (x ∷ xs) (suc i) (suc j) y same = list_written xs i j y same

length_written : {A : Type 0} (xs : List A) (i : ℕ) (x : A) → length (slice_set xs i x) ≡ length xs
length_written {A = A} [] i y = refl
length_written {A = A} (x ∷ xs) zero y = refl
length_written {A = A} (x ∷ xs) (suc i) y = ap suc (length_written xs i y)

pub rows_written : (index : Index) (periods : List PeriodParts) (offsets : List ℕ) (holders : List (List (Option ℕ))) (t x : ℕ) (o : Option ℕ)
    → HaveRows index periods offsets holders → HaveRows index periods offsets (slice_set holders t (slice_set (list_at holders t) x o))
rows_written index periods offsets holders t x o rows = record {
  wide = rows.wide;
  rows = length_written holders t (slice_set (list_at holders t) x o) ∙ rows.rows;
  laid = λ u below.
      let P : ℕ → Type 0 = λ n. IsLaid index periods offsets u n in
      subst P (sym (list_written holders t u (slice_set (list_at holders t) x o) (length_written (list_at holders t) x o))) (rows.laid u below);
}

-- what was written is there, and all else as it was
pub held_now : (holders : List (List (Option ℕ))) (t x : ℕ) (o : Option ℕ) → t < length holders → x < length (list_at holders t)
    → slice_get (list_at (slice_set holders t (slice_set (list_at holders t) x o)) t) x ≡ Some o
held_now [] t x o below room = absurd (omega arith)
held_now (row ∷ rows) zero x o below room = written row x o room
held_now (row ∷ rows) (suc t) x o below room = held_now rows t x o (omega arith) room

pub held_still : (holders : List (List (Option ℕ))) (t x u y : ℕ) (o : Option ℕ) → ¬ ((u ≡ t) × (y ≡ x))
    → slice_get (list_at (slice_set holders t (slice_set (list_at holders t) x o)) u) y ≡ slice_get (list_at holders u) y
held_still [] t x u y o other = refl
held_still (row ∷ rows) zero x zero y o other = unwritten row x y o (λ e. other (refl, e))
held_still (row ∷ rows) zero x (suc u) y o other = refl
held_still (row ∷ rows) (suc t) x zero y o other = refl
held_still (row ∷ rows) (suc t) x (suc u) y o other = held_still rows t x u y o (λ e. other (ap suc e.0, e.1))

-- a known and an unknown entry are two
known_apart : (a : Option (Option ℕ)) (j : ℕ) → a ≡ Some (Some j) → a ≡ Some None → ⊥
known_apart a j known free =
    let e : ◌≡◌ {A = Option (Option ℕ)} (Some (Some j)) (Some None) = sym known ∙ free in
    let f : ◌≡◌ {A = Option ℕ} (Some j) None = ap (λ (o : Option (Option ℕ)). unwrap_or o (Some j)) e in
    cc

-- a receipt that was known names another place than one that was not
apart_from : (periods : List PeriodParts) (holders : List (List (Option ℕ))) (r s : Receipt) (j : ℕ) → held_of periods holders r ≡ Some None
    → held_of periods holders s ≡ Some (Some j) → ¬ ((s.tenant ≡ r.tenant) × (journal_place periods s ≡ journal_place periods r))
apart_from periods holders r s j free known same =
    let P : ℕ → ℕ → Type 0 = λ t x. slice_get (list_at holders t) x ≡ Some (Some j) in
    known_apart (held_of periods holders r) j
    (subst (λ x. P r.tenant x) same.1 (subst (λ t. P t (journal_place periods s)) same.0 known)) free

-- before the next place is that place, or before it
before_next : (j l i n : ℕ) → IsBefore j l i (n + 1) → IsBefore j l i n ⊎ ((j ≡ i) × (l ≡ n))
before_next j l i n (inl less) = inl (inl less)
before_next j l i n (inr (same, below)) = dite (ℕ_discrete l n)
    (λ e. inr (same, e))
    (λ other. inl (inr (same, omega arith)))

pub still_before : (j l i n : ℕ) → IsBefore j l i n → IsBefore j l i (n + 1)
still_before j l i n (inl less) = inl less
still_before j l i n (inr (same, below)) = inr (same, omega arith)

pub just_before : (i n : ℕ) → IsBefore i n i (n + 1)
just_before i n = inr (refl, omega arith)

not_before : (j l i n : ℕ) → IsBefore j l i n → ¬ ((j ≡ i) × (l ≡ n))
not_before j l i n (inl less) e = let same = e.0 in absurd (omega arith)
not_before j l i n (inr (same, below)) e = let there = e.1 in absurd (omega arith)

-- one more receipt is known
pub noted_next : (periods : List PeriodParts) (lists : List (List Receipt)) (old new : List (List (Option ℕ))) (i n : ℕ) (r : Receipt) (p : ListPoint)
    → AreNoted periods lists old i n → slice_get (list_at lists i) n ≡ Some r → IsNoted periods old new r i p
    → (r.tenant < length old) × (journal_place periods r < length (list_at old r.tenant)) → AreNoted periods lists new i (n + 1)
noted_next periods lists old new i n r p was at noted room =
    let W : List (List (Option ℕ)) → Type 0 = λ h. AreNoted periods lists h i (n + 1) in
    subst W (sym noted.known) (record {
      right = λ j l s before there. elim (before_next j l i n before) [
        | inl earlier ↦
            let w = was.right j l s earlier there in
            (w.0, held_still old r.tenant (journal_place periods r) s.tenant (journal_place periods s) (Some i) (apart_from periods old r s j noted.free w.1) ∙ w.1)
        | inr last ↦ is_last j l s last there
      ];
      known = λ t x j held. dite (ℕ_discrete t r.tenant)
          (λ tenant. dite (ℕ_discrete x (journal_place periods r))
          (λ place.
          let P : ℕ → ℕ → Type 0 = λ u y. slice_get (list_at (slice_set old r.tenant (slice_set (list_at old r.tenant) (journal_place periods r) (Some i))) u) y ≡ Some (Some j) in
          let here = subst (λ y. P r.tenant y) place (subst (λ u. P u x) tenant held) in
          let e : ◌≡◌ {A = Option (Option ℕ)} (Some (Some i)) (Some (Some j)) = sym (held_now old r.tenant (journal_place periods r) (Some i) room.0 room.1) ∙ here in
          let f : ◌≡◌ {A = Option ℕ} (Some i) (Some j) = ap (λ (o : Option (Option ℕ)). unwrap_or o (Some i)) e in
          let g : i ≡ j = ap (λ (o : Option ℕ). unwrap_or o i) f in
          let Q : ℕ → Type 0 = λ k. (l : ℕ) × (s : Receipt) × IsBefore k l i (n + 1) × (slice_get (list_at lists k) l ≡ Some s) × (s.tenant ≡ t) × (journal_place periods s ≡ x) in
          subst Q g (n, r, just_before i n, at, sym tenant, sym place))
          (λ other. earlier t x j held (λ e. other e.1)))
          (λ other. earlier t x j held (λ e. other e.0));
      once = λ j l k m a b before_a before_b at_a at_b one. elim (before_next j l i n before_a) [
        | inl earlier_a ↦ elim (before_next k m i n before_b) [
          | inl earlier_b ↦ was.once j l k m a b earlier_a earlier_b at_a at_b one
          | inr last_b ↦
              let same_b : b ≡ r = is_r k m b last_b at_b in
              let w = was.right j l a earlier_a at_a in
              let P : Receipt → Type 0 = λ s. NameOne a s in
              let with_r = subst P same_b one in
              absurd (apart_from periods old r a j noted.free w.1 (with_r.0, named_once periods a r with_r))
        ]
        | inr last_a ↦ elim (before_next k m i n before_b) [
          | inl earlier_b ↦
              let same_a : a ≡ r = is_r j l a last_a at_a in
              let w = was.right k m b earlier_b at_b in
              let P : Receipt → Type 0 = λ s. NameOne s b in
              let with_r = subst P same_a one in
              absurd (apart_from periods old r b k noted.free w.1 (sym with_r.0, sym (named_once periods r b with_r)))
          | inr last_b ↦ (last_a.0 ∙ sym last_b.0, last_a.1 ∙ sym last_b.1)
        ]
      ];
    })
  where
    is_r : (j l : ℕ) (s : Receipt) → (j ≡ i) × (l ≡ n) → slice_get (list_at lists j) l ≡ Some s → s ≡ r
    is_r j l s e there =
        let P : ℕ → ℕ → Type 0 = λ a b. slice_get (list_at lists a) b ≡ Some s in
        one_there (list_at lists i) n s r (subst (λ b. P i b) e.1 (subst (λ a. P a l) e.0 there)) at

    is_last : (j l : ℕ) (s : Receipt) → (j ≡ i) × (l ≡ n) → slice_get (list_at lists j) l ≡ Some s
        → NamesRecord periods s (shown_record s) × (held_of periods (slice_set old r.tenant (slice_set (list_at old r.tenant) (journal_place periods r) (Some i))) s ≡ Some (Some j))
    is_last j l s e there =
        let P : Receipt → Type 0 = λ q. NamesRecord periods q (shown_record q)
        × (held_of periods (slice_set old r.tenant (slice_set (list_at old r.tenant) (journal_place periods r) (Some i))) q ≡ Some (Some j)) in
        let Q : ℕ → Type 0 = λ k. held_of periods (slice_set old r.tenant (slice_set (list_at old r.tenant) (journal_place periods r) (Some i))) r ≡ Some (Some k) in
        subst P (sym (is_r j l s e there)) (noted.right, subst Q (sym e.0) (held_now old r.tenant (journal_place periods r) (Some i) room.0 room.1))

    earlier : (t x j : ℕ) → slice_get (list_at (slice_set old r.tenant (slice_set (list_at old r.tenant) (journal_place periods r) (Some i))) t) x ≡ Some (Some j)
        → ¬ ((t ≡ r.tenant) × (x ≡ journal_place periods r))
        → (l : ℕ) × (s : Receipt) × IsBefore j l i (n + 1) × (slice_get (list_at lists j) l ≡ Some s) × (s.tenant ≡ t) × (journal_place periods s ≡ x)
    earlier t x j held other =
        let w = was.known t x j (sym (held_still old r.tenant (journal_place periods r) t x (Some i) other) ∙ held) in
        (w.0, w.1, still_before j w.0 i n w.2, w.3, w.4, w.5)

-- what a receipt is refused for is a fault of all
pub refused_is_fault : (periods : List PeriodParts) (lists : List (List Receipt)) (holders : List (List (Option ℕ))) (i n : ℕ) (r : Receipt)
    → AreNoted periods lists holders i n → slice_get (list_at lists i) n ≡ Some r → (fault : AuditFault) → IsReceiptRefused periods holders r fault
    → IsAuditFault periods lists fault
refused_is_fault periods lists holders i n r was at NoPeriod none = (r, (i, n, at), none)
refused_is_fault periods lists holders i n r was at Gap never = absurd never
refused_is_fault periods lists holders i n r was at Twice known =
    let w = was.known r.tenant (journal_place periods r) known.1.0 known.1.1 in
    let right = was.right known.1.0 w.0 w.1 w.2 w.3 in (
      known.1.0,
      w.0,
      i,
      n,
      w.1,
      r,
      w.3,
      at,
      not_before known.1.0 w.0 i n w.2,
      name_one periods w.1 r (shown_record w.1) (shown_record r) right.0 known.0 w.4 w.5,
    )
refused_is_fault periods lists holders i n r was at Missing never = absurd never
refused_is_fault periods lists holders i n r was at Differs other = (r, other.0, (i, n, at), other.1, other.2)
refused_is_fault periods lists holders i n r was at (Order front) never = absurd never
refused_is_fault periods lists holders i n r was at Memory never = absurd never

-- a place at the end of a list is before the next list
list_ends : (j l i n : ℕ) → (j ≡ i → l < n) → IsBefore j l (i + 1) 0 → IsBefore j l i n
list_ends j l i n within (inl less) = dite (ℕ_discrete j i)
    (λ same. inr (same, within same))
    (λ other. inl (omega arith))
list_ends j l i n within (inr (same, below)) = absurd (omega arith)

list_over : (j l i n : ℕ) → IsBefore j l i n → IsBefore j l (i + 1) 0
list_over j l i n (inl less) = inl (omega arith)
list_over j l i n (inr (same, below)) = inl (omega arith)

-- all receipts of a list are known
pub list_noted : (periods : List PeriodParts) (lists : List (List Receipt)) (holders : List (List (Option ℕ))) (i n : ℕ)
    → n ≡ length (list_at lists i) → AreNoted periods lists holders i n → AreNoted periods lists holders (i + 1) 0
list_noted periods lists holders i n whole was = record {
  right = λ j l r before at. was.right j l r (list_ends j l i n (within j l r at) before) at;
  known = λ t x j held.
      let w = was.known t x j held in
      (w.0, w.1, list_over j w.0 i n w.2, w.3, w.4, w.5);
  once = λ j l k m r s before also at there one.
      was.once j l k m r s (list_ends j l i n (within j l r at) before) (list_ends k m i n (within k m s there) also) at there one;
}
  where
    within : (j l : ℕ) (r : Receipt) → slice_get (list_at lists j) l ≡ Some r → j ≡ i → l < n
    within j l r at same =
        let P : ℕ → Type 0 = λ a. slice_get (list_at lists a) l ≡ Some r in
        let below = slice_get_within (list_at lists i) l r (subst P same at) in
        omega arith

-- none is known at first
pub none_noted : (index : Index) (periods : List PeriodParts) (offsets : List ℕ) (lists : List (List Receipt)) (holders : List (List (Option ℕ))) (n : ℕ)
    → AreLaid index periods offsets holders n → AreNoted periods lists holders 0 0
none_noted index periods offsets lists holders n laid = record {
  right = λ j l r before at. absurd (never j l before);
  known = λ t x j held. absurd (laid.empty t x j held);
  once = λ j l k m r s before also at there one. absurd (never j l before);
}
  where
    never : (j l : ℕ) → IsBefore j l 0 0 → ⊥
    never j l (inl less) = absurd (omega arith)
    never j l (inr (same, below)) = absurd (omega arith)

-- the entry of a number of a period has its place, and room
pub entry_placed : (index : Index) (periods : List PeriodParts) (offsets : List ℕ) (holders : List (List (Option ℕ))) (k n : ℕ) (p : PeriodParts)
    → IsIndexUpTo index periods (length periods) → HaveRows index periods offsets holders → slice_get periods k ≡ Some p → n < length p.records
    → (slice_index offsets k + n ≡ records_before periods p.opening.tenant p.opening.period + n)
    × (records_before periods p.opening.tenant p.opening.period + n < length (list_at holders p.opening.tenant))
entry_placed index periods offsets holders k n p all rows at below =
    let found = all.found k p (slice_get_within periods k p at) at in
    let few = tenant_below index periods p.opening.tenant p.opening.period k all found in
    let laid = rows.laid p.opening.tenant few in
    let offset = laid.offset p.opening.period k found in
    let room = laid.room p.opening.period k p found at in
    (omega arith, omega arith)

-- the entry of a number of a period that was read lies in the row of the period's tenant
pub entry_within : (laid : Laid) (holders : List (List (Option ℕ))) (k n t : ℕ) (p q : PeriodParts) → IsPeriodIndex laid → AreRowsOf laid holders
    → slice_get laid.periods.now k ≡ Some p → n < length p.records → q ≡ get_or laid.periods.now k q → t ≡ q.opening.tenant
    → slice_index laid.offsets.now k + n < length (list_at holders t)
entry_within laid holders k n t p q all rows at below read tenant =
    let periods = laid.periods.now in
    let same = one_there periods k p q at (slice_get_read periods (length periods) k q refl (slice_get_within periods k p at) read) in
    let placed = entry_placed laid.index.now periods laid.offsets.now holders k n p all rows at below in
    let W : ℕ → Type 0 = λ u. slice_index laid.offsets.now k + n < length (list_at holders u) in
    let within : W p.opening.tenant = let place = placed.0 in let room = placed.1 in omega arith in
    subst W (ap (λ (x : PeriodParts). x.opening.tenant) same ∙ sym tenant) within

-- what stands there is what stands at its place
pub entry_at : (laid : Laid) (holders : List (List (Option ℕ))) (k n t : ℕ) (p q : PeriodParts) (x : Option ℕ) → IsPeriodIndex laid → AreRowsOf laid holders
    → slice_get laid.periods.now k ≡ Some p → n < length p.records → q ≡ get_or laid.periods.now k q → t ≡ q.opening.tenant
    → slice_get (list_at holders t) (slice_index laid.offsets.now k + n) ≡ Some x
    → slice_get (list_at holders p.opening.tenant) (records_before laid.periods.now p.opening.tenant p.opening.period + n) ≡ Some x
entry_at laid holders k n t p q x all rows at below read tenant there =
    let periods = laid.periods.now in
    let same = one_there periods k p q at (slice_get_read periods (length periods) k q refl (slice_get_within periods k p at) read) in
    let placed = entry_placed laid.index.now periods laid.offsets.now holders k n p all rows at below in
    let owner : t ≡ p.opening.tenant = tenant ∙ sym (ap (λ (y : PeriodParts). y.opening.tenant) same) in
    let P : ℕ → ℕ → Type 0 = λ u place. slice_get (list_at holders u) place ≡ Some x in
    subst (λ place. P p.opening.tenant place) placed.0 (subst (λ u. P u (slice_index laid.offsets.now k + n)) owner there)

point_behind : {A B : Type 0} (f : A → B) (xs : List A) (n : ℕ) (x : A) → slice_get xs n ≡ Some x → take (suc n) (map f xs) ≡ take n (map f xs) ++ f x ∷ []
point_behind {A = A} {B = B} f [] n x e = let below = slice_get_within [] n x e in absurd (omega arith)
point_behind {A = A} {B = B} f (y ∷ ys) zero x e = let same : y ≡ x = ap (λ (o : Option A). unwrap_or o y) e in ap (λ (z : A). f z ∷ []) same
point_behind {A = A} {B = B} f (y ∷ ys) (suc n) x e = ap (λ (l : List B). f y ∷ l) (point_behind f ys n x e)

-- one point more
pub point_more : {A B : Type 0} (f : A → B) (xs : List A) (n : ℕ) (x : A) → slice_get xs n ≡ Some x → take (n + 1) (map f xs) ≡ take n (map f xs) ++ f x ∷ []
point_more {A = A} {B = B} f xs n x e =
    let P : ℕ → Type 0 = λ m. take m (map f xs) ≡ take n (map f xs) ++ f x ∷ [] in
    let next : suc n ≡ n + 1 = omega arith in
    subst P next (point_behind f xs n x e)

pub point_at : {A B : Type 0} (f : A → B) (xs : List A) (n : ℕ) (x : A) → slice_get xs n ≡ Some x → slice_get (map f xs) n ≡ Some (f x)
point_at {A = A} {B = B} f xs n x e = slice_get-map f xs n ∙ ap (option_map f) e

-- an element of what is shown is shown of an element
pub point_from : {A B : Type 0} (f : A → B) (xs : List A) (n : ℕ) (y : B) → slice_get (map f xs) n ≡ Some y → (x : A) × (slice_get xs n ≡ Some x) × (f x ≡ y)
point_from {A = A} {B = B} f [] n y e = let below = slice_get_within [] n y e in absurd (omega arith)
point_from {A = A} {B = B} f (x ∷ xs) zero y e = (x, refl, ap (λ (o : Option B). unwrap_or o (f x)) e)
point_from {A = A} {B = B} f (x ∷ xs) (suc n) y e = point_from f xs n y e

take_nothing : {A : Type 0} (n : ℕ) → take {A = A} n [] ≡ []
take_nothing {A = A} zero = refl
take_nothing {A = A} (suc n) = refl

pub all_points : {A : Type 0} (xs : List A) (n : ℕ) → length xs ≤ n → take n xs ≡ xs
all_points {A = A} [] n le = take_nothing n
all_points {A = A} (x ∷ xs) zero le = absurd (omega arith)
all_points {A = A} (x ∷ xs) (suc n) le = ap (λ (l : List A). x ∷ l) (all_points xs n (omega arith))

-- a list that has an element is one of the lists
list_there : (lists : List (List Receipt)) (i k : ℕ) (r : Receipt) → slice_get (list_at lists i) k ≡ Some r → i < length lists
list_there [] i k r e = let below = slice_get_within [] k r e in absurd (omega arith)
list_there (l ∷ ls) zero k r e = omega arith
list_there (l ∷ ls) (suc i) k r e = let below = list_there ls i k r e in omega arith

-- the points of a list are those at its place
pub points_at : (periods : List PeriodParts) (lists : List (List Receipt)) (i : ℕ) → list_at (points_of periods lists) i ≡ points_in periods (list_at lists i)
points_at periods [] i = refl
points_at periods (l ∷ ls) zero = refl
points_at periods (l ∷ ls) (suc i) = points_at periods ls i

-- the lists hold the points of the receipts that are known
pub points_held : (periods : List PeriodParts) (lists : List (List Receipt)) (holders : List (List (Option ℕ))) (n : ℕ) → length lists ≤ n
    → AreNoted periods lists holders n 0 → AreHeld (points_of periods lists) holders
points_held periods lists holders n all noted = record {
  held = λ i k p at.
      let P : List ListPoint → Type 0 = λ l. slice_get l k ≡ Some p in
      let from = point_from (λ r. point r.tenant (journal_place periods r)) (list_at lists i) k p (subst P (points_at periods lists i) at) in
      let w = noted.right i k from.0 (inl (below i k from.0 from.1)) from.1 in
      let Q : ListPoint → Type 0 = λ q. slice_get (list_at holders q.group) q.place ≡ Some (Some i) in
      subst Q from.2 w.1;
}
  where
    below : (i k : ℕ) (r : Receipt) → slice_get (list_at lists i) k ≡ Some r → i < n
    below i k r e = let there = list_there lists i k r e in omega arith

-- what the audit says where all is known and held
pub are_matched : (index : Index) (periods : List PeriodParts) (offsets : List ℕ) (lists : List (List Receipt)) (holders : List (List (Option ℕ))) (n : ℕ)
    → AreJoined periods → length lists ≤ n → AreNoted periods lists holders n 0
    → ((k : ℕ) (p : PeriodParts) → slice_get periods k ≡ Some p → IsHeldWhole periods holders p) → AreMatched periods lists
are_matched index periods offsets lists holders n joined all noted held = record {
  joined = joined;
  right = λ r among. (noted.right among.0 among.1 r (before among.0 among.1 r among.2) among.2).0;
  once = λ i k j l r s at there one. noted.once i k j l r s (before i k r at) (before j l s there) at there one;
  all = λ p m there below.
      let at = is_read periods p there in
      let h = held at.0 p at.1 m below in
      let w = noted.known p.opening.tenant (records_before periods p.opening.tenant p.opening.period + m) h.0 h.1 in
      let right = (noted.right h.0 w.0 w.1 w.2 w.3).0 in
      let q = right.0 in
      let at_q = is_read periods q right.1 in
      let P : ℕ → Type 0 = λ t. IsNumbered t w.1.period q in
      let e : records_before periods w.1.tenant w.1.period ≡ records_before periods p.opening.tenant w.1.period
      = ap (λ t. records_before periods t w.1.period) w.4 in
      let place = w.5 in
      let same = same_entry periods p.opening.tenant w.1.period p.opening.period at_q.0 at.0 w.1.number m q p at_q.1 at.1
      (subst P w.4 right.2) (refl, refl) (slice_get_within q.records w.1.number (shown_record w.1) right.3) below (omega arith) in
      (w.1, (h.0, w.0, w.3), (sym w.4, sym same.0), same.1);
}
  where
    before : (i k : ℕ) (r : Receipt) → slice_get (list_at lists i) k ≡ Some r → IsBefore i k n 0
    before i k r e = let there = list_there lists i k r e in inl (omega arith)

-- where a record is held by none, no receipt names it
pub is_lacking : (periods : List PeriodParts) (lists : List (List Receipt)) (holders : List (List (Option ℕ))) (n k : ℕ) (p : PeriodParts)
    → length lists ≤ n → AreNoted periods lists holders n 0 → slice_get periods k ≡ Some p → IsHeldNowhere periods holders p → LacksReceipt periods lists
is_lacking periods lists holders n k p all noted at free = (
  p,
  free.0,
  is_element periods k p at,
  free.1,
  λ r among names.
      let there = list_there lists among.0 among.1 r among.2 in
      let w = noted.right among.0 among.1 r (inl (omega arith)) among.2 in
      let P : ℕ → ℕ → ℕ → Type 0 = λ t m x. slice_get (list_at holders t) (records_before periods t m + x) ≡ Some (Some among.0) in
      let here : P p.opening.tenant p.opening.period free.0
      = subst (λ x. P p.opening.tenant p.opening.period x) names.1
      (subst (λ m. P p.opening.tenant m r.number) (sym names.0.1) (subst (λ t. P t r.period r.number) (sym names.0.0) w.1)) in
      known_apart (slice_get (list_at holders p.opening.tenant) (records_before periods p.opening.tenant p.opening.period + free.0)) among.0 here free.2,
)

-- as many points as receipts
pub as_many_points : (periods : List PeriodParts) (lists : List (List Receipt)) → points_count (points_of periods lists) ≡ receipts_of lists
as_many_points periods [] = refl
as_many_points periods (l ∷ ls) =
    let others = as_many_points periods ls in
    let here = shown_length (λ (r : Receipt). point r.tenant (journal_place periods r)) l in
    let sum = sum_by-cons (λ (list : List Receipt). length list) l ls in
    let points = sum_by-cons (λ (list : List ListPoint). length list) (points_in periods l) (points_of periods ls) in
    omega arith

-- receipts that match have points of their own
pub are_distinct : (periods : List PeriodParts) (lists : List (List Receipt)) → AreMatched periods lists → AreDistinct (points_of periods lists)
are_distinct periods lists matched i k j l p at there =
    let P : List ListPoint → ℕ → Type 0 = λ list n. slice_get list n ≡ Some p in
    let f : Receipt → ListPoint = λ r. point r.tenant (journal_place periods r) in
    let r = point_from f (list_at lists i) k p (subst (λ list. P list k) (points_at periods lists i) at) in
    let s = point_from f (list_at lists j) l p (subst (λ list. P list l) (points_at periods lists j) there) in
    let same : f r.0 ≡ f s.0 = r.2 ∙ sym s.2 in
    matched.once i k j l r.0 s.0 r.1 s.1
    (name_one periods r.0 s.0 (shown_record r.0) (shown_record s.0) (matched.right r.0 (i, k, r.1)) (matched.right s.0 (j, l, s.1))
    (ap (λ (q : ListPoint). q.group) same) (ap (λ (q : ListPoint). q.place) same))
