-- What is gathered: the books of all tenants in order, and of all that was done one list, which is a run of a floor.
use Rattle.std.proofs.Common.{◌≡◌, ◌≢◌, ◌==◌, ◌≤◌, ◌<◌, ℕ, ◌+◌, cond, zero, suc, Bool, true, false, ltb, List, [], ◌∷◌, ◌++◌, length, map, get_or, refl, inl, inr, sym, ap, subst, ◌∙◌}
use Rattle.std.proofs.Common.{arith}
use Rattle.std.specs.Prelude.{Option, Some, None, Result, Ok, Err, All, slice_get, count_by, option_map}
use Rattle.std.specs.List.Sorted.{IsNonDecreasingBy, IsPermutation}
use Rattle.std.proofs.Math.ListN.{get_or-eq_default}
use Rattle.std.proofs.lemmas.Bool.{eq-eqb, ltb-false, ltb-true, ne_eqb}
use Rattle.std.proofs.lemmas.Bool.Decides.{eqb_tells}
use Rattle.std.proofs.lemmas.List.Elements.{All-cons, All-head, All-nil, All-tail}
use Rattle.std.proofs.lemmas.List.Sorted.{All-permutation, length_permutation, sum_by-IsPermutation}
use Rattle.std.proofs.lemmas.List.Sums.{sum_by-cons}
use Rattle.std.proofs.lemmas.Option.{slice_get_past, slice_get_within}
use Rattle.tenant_core.specs.Answer.{answer_made, answer_to}
use Rattle.tenant_core.specs.Holds.{open_hold}
use Rattle.tenant_core.specs.Judge.{decide_made, judge}
use Rattle.tenant_core.specs.Network.{peer_with_token}
use Rattle.tenant_core.specs.Present.{network_of}
use Rattle.tenant_core.specs.State.{State, opened, opening_of, recorded}
use Rattle.tenant_core.specs.declared.faults.HoldFault.{HoldFault}
use Rattle.tenant_core.specs.declared.journal.Entry.{Entry}
use Rattle.tenant_core.specs.declared.journal.Entry.TheVariants.{Decide, Answer, Tick, Change, Roll}
use Rattle.tenant_core.specs.declared.journal.Record.{Record}
use Rattle.tenant_core.specs.declared.opening.Opening.{Opening}
use Rattle.tenant_core.specs.declared.terms.TenantTerms.{TenantTerms}
use Rattle.tenant_core.specs.declared.verdict.Verdict.{Verdict}
use Rattle.tenant_core.specs.declared.verdict.Verdict.TheVariants.{Unknown, NoRoom, Refuse, Fulfil, Forward, Relay}
use Rattle.floor_core.specs.Causes.{AreCaused, ArePlaced, AreRun, Cause, Entered, book_opened, left_from, made_alone, made_from, packet_made, world_opened}
use Rattle.ilp_view.specs.Packet.{Prepare}
use Rattle.floor_core.specs.World.{Effect, Event, Stage, Tenant, after_alone, all_free, answer_key, arrival, arrived, call_answered, call_decided, call_judged, call_settled, heard, key_in, new_tenant, no_book, put}
use Rattle.floor_core.specs.World.{tenant_at_start, world_at_start}
use Rattle.floor_core.specs.declared.step.PeerAnswer.{PeerAnswer}
use Rattle.floor_core.specs.declared.step.Malformed.{Malformed}
use Rattle.one_list.specs.History.{LeadTo, after_entry, after_record}
use Rattle.one_list.specs.Steps.{HaveOneList, IsBeginning, PartView, WorkerView, of_tenant, of_worker, parts_numbered}
use Rattle.one_list.specs.declared.step.Done.{Done}
use Rattle.one_list.specs.declared.step.Size.{Size}
use Rattle.books_shared.specs.Shares.{ShareView}
use Rattle.books_shared.specs.Traced.{AreInOrder, AreTraced, HaveCauses, HaveListOf, IsLedTo, IsTraced, after_made, book_among, entered_by, openings_of, share_part}
use Rattle.books_shared.proofs.Tracing.{command_leaves, held_stays, opening_from, record_stays, tick_stays}

-- ---- parts of the list and the books that they lie beside

pub traced_push : (openings : List Opening) (books : List (State × ℕ)) (parts : List PartView) (b : State × ℕ) (p : PartView)
    → AreTraced openings books parts → IsTraced openings b.0 p → AreTraced openings (books ++ b ∷ []) (parts ++ p ∷ [])
traced_push openings [] [] b p all one = (one, tt)
traced_push openings [] (q ∷ qs) b p all one = absurd all
traced_push openings (c ∷ cs) [] b p all one = absurd all
traced_push openings (c ∷ cs) (q ∷ qs) b p all one = (all.0, traced_push openings cs qs b p all.1 one)

-- the book has what led to it in the list
of_books : (openings : List Opening) (log : List Done) (books : List (State × ℕ)) (parts : List PartView) → AreTraced openings books parts
    → All (λ p. of_tenant p.number log ≡ p.steps) parts → All (λ b. IsLedTo openings b.0 (of_tenant b.0.opening.tenant log)) books
of_books openings log [] parts traced own = All-nil _
of_books openings log (b ∷ bs) [] traced own = absurd traced
of_books openings log (b ∷ bs) (p ∷ ps) traced own =
    All-cons (λ x. IsLedTo openings x.0 (of_tenant x.0.opening.tenant log)) b bs
    (subst (λ (x : List Done). IsLedTo openings b.0 x)
    (sym (All-head (λ x. of_tenant x.number log ≡ x.steps) p ps own) ∙ ap (λ (n : ℕ). of_tenant n log) traced.0.number) traced.0.led)
    (of_books openings log bs ps traced.1 (All-tail (λ x. of_tenant x.number log ≡ x.steps) p ps own))

of_shares : (log : List Done) (shares : List ShareView) → All (λ p. of_worker p.number log ≡ p.steps) (map share_part shares)
    → All (λ s. of_worker s.worker log ≡ s.steps) shares
of_shares log [] own = All-nil _
of_shares log (s ∷ ss) own =
    All-cons (λ x. of_worker x.worker log ≡ x.steps) s ss (All-head (λ p. of_worker p.number log ≡ p.steps) (share_part s) (map share_part ss) own)
    (of_shares log ss (All-tail (λ p. of_worker p.number log ≡ p.steps) (share_part s) (map share_part ss) own))

met_by_shares : (log : List Done) (shares : List ShareView) → All (λ (p : WorkerView). All (IsBeginning log) p.met) (map share_part shares)
    → All (λ (s : ShareView). All (IsBeginning log) s.met) shares
met_by_shares log [] own = All-nil _
met_by_shares log (s ∷ ss) own =
    All-cons (λ (x : ShareView). All (IsBeginning log) x.met) s ss (All-head (λ (p : WorkerView). All (IsBeginning log) p.met) (share_part s) (map share_part ss) own)
    (met_by_shares log ss (All-tail (λ (p : WorkerView). All (IsBeginning log) p.met) (share_part s) (map share_part ss) own))

-- how many of the books are that tenant's
abbrev books_of : ℕ → List (State × ℕ) → ℕ
books_of tenant books = count_by (λ b. b.0.opening.tenant == tenant) books

books_by : (tenant : ℕ) (openings : List Opening) (books : List (State × ℕ)) (parts : List PartView) → AreTraced openings books parts
    → books_of tenant books ≡ parts_numbered tenant parts
books_by tenant openings [] [] traced = refl
books_by tenant openings [] (p ∷ ps) traced = absurd traced
books_by tenant openings (b ∷ bs) [] traced = absurd traced
books_by tenant openings (b ∷ bs) (p ∷ ps) traced =
    let own : ℕ = cond (b.0.opening.tenant == tenant) 1 0 in
    let its : ℕ = cond (p.number == tenant) 1 0 in
    let here : its ≡ own = ap (λ (n : ℕ). cond (n == tenant) 1 0) traced.0.number in
    omega (
      arith,
      here,
      sum_by-cons (λ (x : State × ℕ). cond (x.0.opening.tenant == tenant) 1 0) b bs,
      sum_by-cons (λ (x : PartView). cond (x.number == tenant) 1 0) p ps,
      books_by tenant openings bs ps traced.1,
    )

-- ---- in order: as many books as tenants, none of them twice, sorted by their numbers

abbrev number : State × ℕ → ℕ
number b = b.0.opening.tenant

-- those behind a book have greater numbers
greater : (x : State × ℕ) (xs : List (State × ℕ)) (from : ℕ) → from ≤ number x → ((j : ℕ) (d : State × ℕ) → j < length xs → number x ≤ number (get_or xs j d))
    → books_of (number x) xs ≡ 0 → All (λ b. from + 1 ≤ b.0.opening.tenant) xs
greater x [] from low least none = All-nil _
greater x (y ∷ ys) from low least none =
    let none_here = sum_by-cons (λ (b : State × ℕ). cond (b.0.opening.tenant == number x) 1 0) y ys in
    let here : ℕ = cond (y.0.opening.tenant == number x) 1 0 in
    elim (eqb_tells (number y) (number x)) [
      | inl a ↦
          let one : here ≡ 1 = ap (λ (b : Bool). cond b 1 0) a.0 in
          absurd (omega (arith, none, none_here, one))
      | inr a ↦
          let zero_here : here ≡ 0 = ap (λ (b : Bool). cond b 1 0) a.0 in
          let above : number x ≤ number y = least 0 y (omega arith) in
          let differs : number y ≢ number x = a.1 in
          All-cons (λ b. from + 1 ≤ b.0.opening.tenant) y ys (omega arith)
          (greater x ys from low (λ j d lt. least (suc j) d (omega arith)) (omega (arith, none, none_here, zero_here)))
    ]

first_is : (from bound : ℕ) (x : State × ℕ) (xs : List (State × ℕ)) → from + length (x ∷ xs) ≡ bound → from ≤ number x → number x < bound
    → All (λ b. number x < b.0.opening.tenant) xs → AreInOrder (from + 1) xs → number x ≡ from
first_is from bound x [] all low high above rest = omega arith
first_is from bound x (y ∷ ys) all low high above rest =
    let below : number x < number y = All-head (λ b. number x < b.0.opening.tenant) y ys above in
    let second : number y ≡ from + 1 = rest.0 in
    omega arith

are_in_order : (from bound : ℕ) (xs : List (State × ℕ)) → from + length xs ≡ bound → IsNonDecreasingBy (λ b. b.0.opening.tenant) xs
    → ((tenant : ℕ) → books_of tenant xs ≤ 1) → All (λ b. from ≤ b.0.opening.tenant) xs → All (λ b. b.0.opening.tenant < bound) xs → AreInOrder from xs
are_in_order from bound [] all sorted once low high = tt
are_in_order from bound (x ∷ xs) all sorted once low high =
    let least : (j : ℕ) (d : State × ℕ) → j < length xs → number x ≤ number (get_or xs j d) = λ j d lt. sorted 0 (suc j) d (omega arith) (omega arith) in
    let own : ℕ = cond (x.0.opening.tenant == number x) 1 0 in
    let here : own ≡ 1 = ap (λ (b : Bool). cond b 1 0) (eq-eqb (number x) (number x) refl) in
    let none : books_of (number x) xs ≡ 0 =
    omega (arith, once (number x), sum_by-cons (λ (b : State × ℕ). cond (b.0.opening.tenant == number x) 1 0) x xs, here) in
    let low_x : from ≤ number x = All-head (λ b. from ≤ b.0.opening.tenant) x xs low in
    let high_x : number x < bound = All-head (λ b. b.0.opening.tenant < bound) x xs high in
    let rest =
    are_in_order (from + 1) bound xs (omega arith) (λ i j d le lt. sorted (suc i) (suc j) d (omega arith) (omega arith))
    (λ tenant. omega (arith, once tenant, sum_by-cons (λ (b : State × ℕ). cond (b.0.opening.tenant == tenant) 1 0) x xs))
    (greater x xs from low_x least none) (All-tail (λ b. b.0.opening.tenant < bound) x xs high) in
    let above : All (λ b. number x < b.0.opening.tenant) xs = greater_than x xs least none in
    (first_is from bound x xs all low_x high_x above rest, rest)
  where
    succ_le : (x : State × ℕ) (ys : List (State × ℕ)) → All (λ b. number x + 1 ≤ b.0.opening.tenant) ys → All (λ b. number x < b.0.opening.tenant) ys
    succ_le x [] all = All-nil _
    succ_le x (y ∷ ys) all =
        let here : number x + 1 ≤ number y = All-head (λ b. number x + 1 ≤ b.0.opening.tenant) y ys all in
        All-cons (λ b. number x < b.0.opening.tenant) y ys (omega arith) (succ_le x ys (All-tail (λ b. number x + 1 ≤ b.0.opening.tenant) y ys all))

    greater_than : (x : State × ℕ) (xs : List (State × ℕ)) → ((j : ℕ) (d : State × ℕ) → j < length xs → number x ≤ number (get_or xs j d))
        → books_of (number x) xs ≡ 0 → All (λ b. number x < b.0.opening.tenant) xs
    greater_than x xs least none = succ_le x xs (greater x xs (number x) (omega arith) least none)

-- a book is one of those that there are openings for
numbered : (openings : List Opening) (log : List Done) (bound : ℕ) (books : List (State × ℕ)) → length openings ≡ bound
    → All (λ b. IsLedTo openings b.0 (of_tenant b.0.opening.tenant log)) books → All (λ b. b.0.opening.tenant < bound) books
numbered openings log bound [] e led = All-nil _
numbered openings log bound (b ∷ bs) e led =
    let here = All-head (λ x. IsLedTo openings x.0 (of_tenant x.0.opening.tenant log)) b bs led in
    All-cons (λ x. x.0.opening.tenant < bound) b bs (subst (λ k. b.0.opening.tenant < k) e (slice_get_within openings b.0.opening.tenant here.first here.opens))
    (numbered openings log bound bs e (All-tail (λ x. IsLedTo openings x.0 (of_tenant x.0.opening.tenant log)) b bs led))

all_low : (books : List (State × ℕ)) → All (λ b. 0 ≤ b.0.opening.tenant) books
all_low [] = All-nil _
all_low (b ∷ bs) = All-cons (λ x. 0 ≤ x.0.opening.tenant) b bs (omega arith) (all_low bs)

-- ---- the list is a run

-- what a record leaves is what its cause leaves
packet_stays : (s : State) (token : List ℕ) (a : Result Prepare Malformed) (now : ℕ) → recorded s (packet_made s token a now) ≡ after_made s (packet_made s token a now)
packet_stays s token (Ok p) now = sym (record_stays (peer_with_token token (network_of s).peers) (key_in p) now (judge s token (key_in p) now) s)
packet_stays s token (Err wrong) now = refl

cause_leaves : (s : State) (cause : Cause) → left_from s cause ≡ after_made s (made_from s cause)
cause_leaves s (Cause.Packet token frame now) = packet_stays s token (arrival token frame) now
cause_leaves s (Cause.Return hold now given) = sym (held_stays (open_hold s hold) _ (λ h x. refl) s)
cause_leaves s (Cause.Moment now) = sym (tick_stays s now s)
cause_leaves s (Cause.Order now command) = command_leaves s command now

record_leaves : (s : State) (cause : Cause) (r : Record) → made_from s cause ≡ Some r → left_from s cause ≡ after_record s r
record_leaves s cause r e = cause_leaves s cause ∙ ap (after_made s) e

-- a tenant's steps lead from one state to the other, and each has a cause
abbrev Leads : State → List Done → State → Type 0
Leads s steps t = LeadTo s steps t × HaveCauses s steps

all_caused : (log : List Done) (books left : ℕ → State) → ((t : ℕ) → Leads (books t) (of_tenant t log) (left t)) → AreCaused books (map entered_by log) left
all_caused [] books left leads = λ t. (leads t).0
all_caused (e ∷ es) books left leads =
    let t = e.tenant in
    let own : of_tenant t (e ∷ es) ≡ e ∷ of_tenant t es = ap (λ b. cond b (e ∷ of_tenant t es) (of_tenant t es)) (eq-eqb t t refl) in
    let here : Leads (books t) (e ∷ of_tenant t es) (left t) = subst (λ ds. Leads (books t) ds (left t)) own (leads t) in
    let cause = here.1.0.0 in
    let made = here.1.0.2 in (
      cause,
      here.1.0.1,
      made,
      all_caused es (put books t (left_from (books t) cause)) left (λ u. elim (eqb_tells u t) [
        | inl a ↦ rw a.0 (subst (λ s. Leads s (of_tenant u es) (left u)) (sym (record_leaves (books t) cause e.made made))
            (subst (λ k. Leads (after_record (books t) e.made) (of_tenant k es) (left k)) (sym a.1) (here.0.1, here.1.1)))
        | inr a ↦
            let other : of_tenant u (e ∷ es) ≡ of_tenant u es = ap (λ b. cond b (e ∷ of_tenant u es) (of_tenant u es)) (ne_eqb t u (λ h. a.1 (sym h))) in
            rw a.0 (subst (λ ds. Leads (books u) ds (left u)) other (leads u))
      ]),
    )

-- a history is of one tenant
entry_keeps : (x : Entry) (s : State) (r : Record) → (after_entry x s r).opening.tenant ≡ s.opening.tenant
entry_keeps (Decide d) s r = refl
entry_keeps (Answer a) s r = refl
entry_keeps (Tick t) s r = refl
entry_keeps (Change c) s r = refl
entry_keeps (Roll x) s r = refl

history_keeps : (s t : State) (steps : List Done) → LeadTo s steps t → t.opening.tenant ≡ s.opening.tenant
history_keeps s t [] led = ap (λ (x : State). x.opening.tenant) (sym led)
history_keeps s t (e ∷ es) led = history_keeps (after_record s e.made) t es led.1 ∙ entry_keeps e.made.entry s e.made

-- the book at a tenant's number is the tenant's, and has what led to it
record Stands (openings : List Opening) (log : List Done) (books : List (State × ℕ)) (from t : ℕ) : Type 0 where
  tenant : (book_among books t).opening.tenant ≡ from + t
  led : IsLedTo openings (book_among books t) (of_tenant (from + t) log)

stands : (openings : List Opening) (log : List Done) (books : List (State × ℕ)) (from t : ℕ) → AreInOrder from books
    → All (λ b. IsLedTo openings b.0 (of_tenant b.0.opening.tenant log)) books → t < length books → Stands openings log books from t
stands openings log [] from t order led lt = absurd (omega arith)
stands openings log (b ∷ bs) from zero order led lt =
    let is : b.0.opening.tenant ≡ from + 0 = omega (arith, order.0) in
    record {
      tenant = is;
      led = subst (λ k. IsLedTo openings b.0 (of_tenant k log)) is (All-head (λ x. IsLedTo openings x.0 (of_tenant x.0.opening.tenant log)) b bs led);
    }
stands openings log (b ∷ bs) from (suc t) order led lt =
    let more = stands openings log bs (from + 1) t order.1 (All-tail (λ x. IsLedTo openings x.0 (of_tenant x.0.opening.tenant log)) b bs led) (omega arith) in
    let same : (from + 1) + t ≡ from + suc t = omega arith in
    record {
      tenant = more.tenant ∙ same;
      led = subst (λ k. IsLedTo openings (book_among bs t) (of_tenant k log)) same more.led;
    }

-- no step of a tenant that is not there
none_of : (bound t : ℕ) (log : List Done) → bound ≤ t → All (λ e. e.tenant < bound) log → of_tenant t log ≡ []
none_of bound t [] le below = refl
none_of bound t (e ∷ es) le below =
    let here : e.tenant < bound = All-head (λ x. x.tenant < bound) e es below in
    ap (λ b. cond b (e ∷ of_tenant t es) (of_tenant t es)) (ne_eqb e.tenant t (λ is. absurd (omega arith)))
    ∙ none_of bound t es le (All-tail (λ x. x.tenant < bound) e es below)

record Opens (openings : List Opening) (log : List Done) (books : List (State × ℕ)) (t : ℕ) : Type 0 where
  leads : Leads (book_opened (slice_get openings t)) (of_tenant t log) (book_among books t)

opens_there : (openings : List Opening) (log : List Done) (books : List (State × ℕ)) (t : ℕ) → Stands openings log books 0 t → Opens openings log books t
opens_there openings log books t here =
    let same : 0 + t ≡ t = omega arith in
    let tenant : (book_among books t).opening.tenant ≡ t = here.tenant ∙ same in
    let opens : slice_get openings t ≡ Some here.led.first = ap (slice_get openings) (sym tenant) ∙ here.led.opens in
    let leads : Leads (opened here.led.first) (of_tenant (0 + t) log) (book_among books t) = (here.led.history, here.led.causes) in
    record {
      leads = subst (λ (o : Option Opening). Leads (book_opened o) (of_tenant t log) (book_among books t)) (sym opens)
          (subst (λ k. Leads (opened here.led.first) (of_tenant k log) (book_among books t)) same leads);
    }

opens_nowhere : (openings : List Opening) (log : List Done) (books : List (State × ℕ)) (t : ℕ) → length openings ≤ t → length books ≤ t
    → All (λ e. e.tenant < length books) log → Opens openings log books t
opens_nowhere openings log books t few le below =
    let no_steps : of_tenant t log ≡ [] = none_of (length books) t log le below in
    let no_opening : slice_get openings t ≡ None = slice_get_past openings t few in
    let no_book_there : book_among books t ≡ no_book = ap (λ (b : State × ℕ). b.0) (get_or-eq_default books (no_book, 0) le) in
    let leads : Leads no_book [] (book_among books t) = (sym no_book_there, tt) in
    record {
      leads = subst (λ (o : Option Opening). Leads (book_opened o) (of_tenant t log) (book_among books t)) (sym no_opening)
          (subst (λ (ds : List Done). Leads no_book ds (book_among books t)) (sym no_steps) leads);
    }

opens_all : (openings : List Opening) (log : List Done) (books : List (State × ℕ)) → length openings ≡ length books → AreInOrder 0 books
    → All (λ b. IsLedTo openings b.0 (of_tenant b.0.opening.tenant log)) books → All (λ e. e.tenant < length books) log → (t : ℕ) → Opens openings log books t
opens_all openings log books e order led below t =
    by (ltb t (length books)) refl
  where
    by : (b : Bool) → ltb t (length books) ≡ b → Opens openings log books t
    by true is = opens_there openings log books t (stands openings log books 0 t order led (ltb-true t (length books) is))
    by false is = let past = ltb-false t (length books) is in opens_nowhere openings log books t (omega arith) past below

placed : (openings : List Opening) (log : List Done) (books : List (State × ℕ)) → length openings ≡ length books → AreInOrder 0 books
    → All (λ b. IsLedTo openings b.0 (of_tenant b.0.opening.tenant log)) books → ArePlaced openings
placed openings log books many order led t lt =
    let here = stands openings log books 0 t order led (omega arith) in
    let same : 0 + t ≡ t = omega arith in
    let tenant : (book_among books t).opening.tenant ≡ t = here.tenant ∙ same in
    let opens : slice_get openings t ≡ Some here.led.first = ap (slice_get openings) (sym tenant) ∙ here.led.opens in
    ap (λ (o : Option Opening). (book_opened o).opening.tenant) opens
    ∙ (sym (history_keeps (opened here.led.first) (book_among books t) (of_tenant (0 + t) log) here.led.history) ∙ tenant)

entries_below : (bound : ℕ) (size : Size) (log : List Done) → size.tenants ≡ bound → All (λ e. (e.tenant < size.tenants) × (e.worker < size.workers)) log
    → All (λ e. e.tenant < bound) (map entered_by log) × All (λ e. e.tenant < bound) log
entries_below bound size [] e others = (All-nil _, All-nil _)
entries_below bound size (x ∷ xs) e others =
    let here : x.tenant < size.tenants = (All-head (λ (d : Done). (d.tenant < size.tenants) × (d.worker < size.workers)) x xs others).0 in
    let lt : x.tenant < bound = subst (λ k. x.tenant < k) e here in
    let rest = entries_below bound size xs e (All-tail (λ (d : Done). (d.tenant < size.tenants) × (d.worker < size.workers)) x xs others) in (
      All-cons (λ (d : Entered). d.tenant < bound) (entered_by x) (map entered_by xs) lt rest.0,
      All-cons (λ (d : Done). d.tenant < bound) x xs lt rest.1,
    )

-- what floors promise of records that have causes
abbrev pub Runs : Type 0
Runs = (openings : List Opening) (entries : List Entered) (left : ℕ → State) → ArePlaced openings
    → All (λ e. e.tenant < length openings) entries → AreCaused (λ t. book_opened (slice_get openings t)) entries left → AreRun openings entries left

pub list_of : Runs → (size : Size) (openings : List Opening) (found books : List (State × ℕ)) (shares : List ShareView) (parts : List PartView)
    → size.tenants ≡ length found → length openings ≡ length found → AreTraced openings found parts → IsPermutation found books
    → IsNonDecreasingBy (λ b. b.0.opening.tenant) books → HaveOneList size parts (map share_part shares) → HaveListOf size openings books shares
list_of runs size openings found books shares parts many each traced moved sorted (log, one) =
    let as_many : length books ≡ length found = length_permutation found books moved in
    let led = All-permutation (λ b. IsLedTo openings b.0 (of_tenant b.0.opening.tenant log)) found books moved (of_books openings log found parts traced one.tenants) in
    let once : (tenant : ℕ) → books_of tenant books ≤ 1 =
    λ tenant. omega (arith, sum_by-IsPermutation (λ (b : State × ℕ). cond (b.0.opening.tenant == tenant) 1 0) found books moved, books_by tenant openings found parts traced, one.once tenant) in
    let all : 0 + length books ≡ length books = omega arith in
    let order : AreInOrder 0 books =
    are_in_order 0 (length books) books all sorted once (all_low books) (numbered openings log (length books) books (each ∙ sym as_many) led) in
    let below = entries_below (length books) size log (many ∙ sym as_many) one.others in
    let opens = opens_all openings log books (each ∙ sym as_many) order led below.1 in (
      log,
      record {
        tenants = led;
        workers = of_shares log shares one.workers;
        met = met_by_shares log shares one.met;
        others = one.others;
        in_order = order;
        run = runs openings (map entered_by log) (book_among books) (placed openings log books (each ∙ sym as_many) order led)
            (subst (λ n. All (λ (e : Entered). e.tenant < n) (map entered_by log)) (sym (each ∙ sym as_many)) below.0)
            (all_caused log (λ t. book_opened (slice_get openings t)) (book_among books) (λ t. (opens t).leads));
      },
    )

-- ---- the record of an event is what the book grows by

-- the effect of a call grows the book by its record, where that record leaves it so
abbrev Grows : Tenant → Effect → Type 0
Grows s effect = effect.after.book ≡ after_made s.book effect.made

judged_grows : (s : Tenant) (call : ℕ) (token : List ℕ) (p : Prepare) (made : Option Record) (v : Verdict)
    → recorded s.book made ≡ after_made s.book made → Grows s (call_judged s call token p made v)
judged_grows s call token p made Unknown same = same
judged_grows s call token p made NoRoom same = same
judged_grows s call token p made (Refuse code amounts) same = same
judged_grows s call token p made Fulfil same = same
judged_grows s call token p made (Forward hold peer amount expiry) same = same
judged_grows s call token p made Relay same = same

decided_grows : (s : Tenant) (call now : ℕ) (stage : Option Stage) → Grows s (call_decided s call stage now)
decided_grows s call now None = refl
decided_grows s call now (Some (Stage.Ready token p)) =
    judged_grows s call token p (decide_made s.book token (key_in p) now) (judge s.book token (key_in p) now)
    (sym (record_stays (peer_with_token token (network_of s.book).peers) (key_in p) now (judge s.book token (key_in p) now) s.book))
decided_grows s call now (Some (Stage.Sent hold)) = refl

settled_grows : (s : Tenant) (call : ℕ) (given : PeerAnswer) (made : Option Record) (r : Result Verdict HoldFault)
    → recorded s.book made ≡ after_made s.book made → Grows s (call_settled s call given made r)
settled_grows s call given made (Ok v) same = same
settled_grows s call given made (Err fault) same = refl

answered_grows : (s : Tenant) (call now : ℕ) (given : PeerAnswer) (stage : Option Stage) → Grows s (call_answered s call stage now given)
answered_grows s call now given None = refl
answered_grows s call now given (Some (Stage.Ready token p)) = refl
answered_grows s call now given (Some (Stage.Sent hold)) =
    settled_grows s call given (answer_made s.book hold now (answer_key given)) (answer_to s.book hold now (answer_key given))
    (sym (held_stays (open_hold s.book hold) _ (λ h x. refl) s.book))

arrival_grows : (s : Tenant) (token : List ℕ) (a : Result Prepare Malformed) → Grows s (arrived s token a)
arrival_grows s token (Ok p) = refl
arrival_grows s token (Err wrong) = refl

pub events_make : (s : Tenant) (event : Event) → (after_alone s event).book ≡ after_made s.book (made_alone s event)
events_make s (Event.Arrives token bytes) = arrival_grows s token (arrival token bytes)
events_make s (Event.Decides call now) = decided_grows s call now (s.calls call)
events_make s (Event.Answers call now given) = answered_grows s call now (heard given) (s.calls call)
events_make s (Event.Ticks now) = sym (tick_stays s.book now s.book)
events_make s (Event.Governs now command) = command_leaves s.book command now

-- ---- the world of the openings is that of the setups

opens_so : (start t : ℕ) (o : Option TenantTerms) → new_tenant (book_opened (option_map (λ x. opening_of (0 + t) x start) o)) ≡ tenant_at_start start t o
opens_so start t None = refl
opens_so start t (Some terms) =
    let same : 0 + t ≡ t = omega arith in
    ap (λ n. new_tenant (opened (opening_of n terms start))) same

pub begins_so : (setups : List TenantTerms) (start : ℕ) → world_opened (openings_of setups start) ≡ world_at_start setups start
begins_so setups start =
    let each : (t : ℕ) → new_tenant (book_opened (slice_get (openings_of setups start) t)) ≡ tenant_at_start start t (slice_get setups t) =
    λ t. ap (λ o. new_tenant (book_opened o)) (opening_from (λ p. opening_of p.0 p.1 start) 0 setups t) ∙ opens_so start t (slice_get setups t) in
    λ i. record { tenants = λ t. each t i; hands = all_free }
