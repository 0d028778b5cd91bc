-- Purses as amounts are held, and as they are taken or released.
use Rattle.std.proofs.Common.{◌≡◌, ℕ, zero, suc, ◌+◌, ◌-◌, ◌<◌, ◌≤◌, ℤ, pos, ◌+ℤ◌, ◌-ℤ◌, Bool, true, false, cond, eqb, List, [], ◌∷◌, ◌++◌, length, get_or, map, refl, sym, ap, ◌∙◌, arith}
use Rattle.std.proofs.lemmas.Int.{ints}
use Rattle.std.specs.Prelude.{Option, Some, ◌&&◌, sum_by}
use Rattle.std.specs.List.{slice_get}
use Rattle.std.proofs.Math.ListN.{set}
use Rattle.std.proofs.lemmas.Bool.{eq-eqb, ne_eqb}
use Rattle.std.proofs.lemmas.List.Sums.{sum_by_push, sum_by-set}
use Rattle.std.proofs.lemmas.Option.{slice_get_within, get_or_from_slice_get}
use Rattle.money_core.specs.Account.{Account}
use Rattle.tenant_core.specs.ChangedAt.{changed_where}
use Rattle.tenant_core.specs.Holds.{holds_amounts, took_amounts, with_fate}
use Rattle.tenant_core.specs.Moves.{holding_in, holding_out, moving_in, moving_out}
use Rattle.tenant_core.specs.Purse.{base_of, held_from, held_for, taken_from, taken_for}
use Rattle.tenant_core.specs.Running.{purse_by}
use Rattle.tenant_core.specs.State.{State}
use Rattle.tenant_core.specs.declared.hold.Fate.{Fate}
use Rattle.tenant_core.specs.declared.hold.Fate.TheVariants.{Held, Marked, Ended}
use Rattle.tenant_core.specs.declared.hold.Hold.{Hold}
use Rattle.tenant_core.specs.declared.peer.Peer.{Peer}
use Rattle.tenant_core.proofs.ChangedLists.{IsPlaceOf, moved_at}

-- ---- what one hold adds to the sums

holds_here : (f : Fate) (t : Bool) (x : ℕ) → holds_amounts f ≡ true → cond (holds_amounts f && t) x 0 ≡ cond t x 0
holds_here Held t x e = refl
holds_here Marked t x e = absurd cc
holds_here (Ended b) t x e = absurd cc

holds_nothing : (f : Fate) (t : Bool) (x : ℕ) → holds_amounts f ≡ false → cond (holds_amounts f && t) x 0 ≡ 0
holds_nothing Held t x e = absurd cc
holds_nothing Marked t x e = refl
holds_nothing (Ended b) t x e = refl

takes_nothing : (f : Fate) (t : Bool) (x : ℕ) → holds_amounts f ≡ true → cond (took_amounts f && t) x 0 ≡ 0
takes_nothing Held t x e = refl
takes_nothing Marked t x e = absurd cc
takes_nothing (Ended b) t x e = absurd cc

takes_so : (f : Fate) (taken t : Bool) (x : ℕ) → took_amounts f ≡ taken → cond (took_amounts f && t) x 0 ≡ cond (taken && t) x 0
takes_so f taken t x e = ap (λ b. cond (b && t) x 0) e

at_number : (n m x : ℕ) → m ≡ n → cond (eqb n m) x 0 ≡ x
at_number n m x e = ap (λ b. cond b x 0) (eq-eqb n m (sym e))

at_other : (n m x : ℕ) → (m ≡ n → ⊥) → cond (eqb n m) x 0 ≡ 0
at_other n m x ne = ap (λ b. cond b x 0) (ne_eqb n m (λ e. ne (sym e)))

and_at : (b : Bool) (n m x : ℕ) → m ≡ n → cond (b && eqb n m) x 0 ≡ cond b x 0
and_at b n m x e = ap (λ t. cond (b && t) x 0) (eq-eqb n m (sym e)) ∙ both b
  where
    both : (b : Bool) → cond (b && true) x 0 ≡ cond b x 0
    both true = refl
    both false = refl

and_other : (b : Bool) (n m x : ℕ) → (m ≡ n → ⊥) → cond (b && eqb n m) x 0 ≡ 0
and_other b n m x ne = ap (λ t. cond (b && t) x 0) (ne_eqb n m (λ e. ne (sym e))) ∙ none b
  where
    none : (b : Bool) → cond (b && false) x 0 ≡ 0
    none true = refl
    none false = refl

-- ---- a hold more

-- the purse with what is held from its peer counted, the hold included
abbrev pub held_first : State → List Hold → Hold → Peer → Account
held_first s hs h p = record (purse_by s hs p) { held_in = sum_by (held_from p.number) (hs ++ h ∷ []) }

pub held_in_more : (s : State) (hs : List Hold) (h : Hold) (peers : List Peer) (place : Option ℕ) → holds_amounts h.fate ≡ true → IsPlaceOf h.from peers place
    → changed_where (holding_in h.amount) (map (purse_by s hs) peers) place ≡ map (held_first s hs h) peers
held_in_more s hs h peers place held is =
    moved_at (holding_in h.amount) (purse_by s hs) (held_first s hs h) h.from peers place is
    (λ p e. ap (λ k. record (purse_by s hs p) { held_in = k }) (more p ∙ ap (λ k. sum_by (held_from p.number) hs + k) (at_number h.from p.number h.amount e)))
    (λ p ne. ap (λ k. record (purse_by s hs p) { held_in = k }) (more p ∙ (ap (λ k. sum_by (held_from p.number) hs + k) (at_other h.from p.number h.amount ne) ∙ zero_more (sum_by (held_from p.number) hs))))
  where
    zero_more : (n : ℕ) → n + 0 ≡ n
    zero_more n = omega arith

    more : (p : Peer) → sum_by (held_from p.number) (hs ++ h ∷ []) ≡ sum_by (held_from p.number) hs + cond (eqb h.from p.number) h.amount 0
    more p = sum_by_push (held_from p.number) hs h ∙ ap (λ k. sum_by (held_from p.number) hs + k) (holds_here h.fate (eqb h.from p.number) h.amount held)

pub held_out_more : (s : State) (hs : List Hold) (h : Hold) (peers : List Peer) (place : Option ℕ) → holds_amounts h.fate ≡ true → IsPlaceOf h.to peers place
    → changed_where (holding_out h.price) (map (held_first s hs h) peers) place ≡ map (purse_by s (hs ++ h ∷ [])) peers
held_out_more s hs h peers place held is =
    moved_at (holding_out h.price) (held_first s hs h) (purse_by s ks) h.to peers place is
    (λ p e. whole p (sum_by (held_for p.number) hs + h.price) (more p ∙ ap (λ k. sum_by (held_for p.number) hs + k) (at_number h.to p.number h.price e)))
    (λ p ne. whole p (sum_by (held_for p.number) hs) (more p ∙ (ap (λ k. sum_by (held_for p.number) hs + k) (at_other h.to p.number h.price ne) ∙ zero_more (sum_by (held_for p.number) hs))))
  where
    ks : List Hold
    ks = hs ++ h ∷ []

    zero_more : (n : ℕ) → n + 0 ≡ n
    zero_more n = omega arith

    more : (p : Peer) → sum_by (held_for p.number) (hs ++ h ∷ []) ≡ sum_by (held_for p.number) hs + cond (eqb h.to p.number) h.price 0
    more p = sum_by_push (held_for p.number) hs h ∙ ap (λ k. sum_by (held_for p.number) hs + k) (holds_here h.fate (eqb h.to p.number) h.price held)

    brought : (p : Peer) → sum_by (taken_from p.number) (hs ++ h ∷ []) ≡ sum_by (taken_from p.number) hs
    brought p = sum_by_push (taken_from p.number) hs h ∙ (ap (λ k. sum_by (taken_from p.number) hs + k) (takes_nothing h.fate (eqb h.from p.number) h.amount held) ∙ zero_more (sum_by (taken_from p.number) hs))

    sent : (p : Peer) → sum_by (taken_for p.number) (hs ++ h ∷ []) ≡ sum_by (taken_for p.number) hs
    sent p = sum_by_push (taken_for p.number) hs h ∙ (ap (λ k. sum_by (taken_for p.number) hs + k) (takes_nothing h.fate (eqb h.to p.number) h.price held) ∙ zero_more (sum_by (taken_for p.number) hs))

    whole : (p : Peer) (o : ℕ) → sum_by (held_for p.number) (hs ++ h ∷ []) ≡ o
        → purse_by s (hs ++ h ∷ []) p ≡ record (held_first s hs h p) { held_out = o }
    whole p o e =
        let ins : ℕ = sum_by (held_from p.number) (hs ++ h ∷ []) in
        ap (λ k. let a : Account = record { balance = (base_of s p.number +ℤ pos k) -ℤ pos (sum_by (taken_for p.number) (hs ++ h ∷ [])); held_in = ins; held_out = sum_by (held_for p.number) (hs ++ h ∷ []); ceiling = p.terms.limits.ceiling; credit = p.terms.limits.credit } in a) (brought p)
        ∙ (ap (λ k. let a : Account = record { balance = (base_of s p.number +ℤ pos (sum_by (taken_from p.number) hs)) -ℤ pos k; held_in = ins; held_out = sum_by (held_for p.number) (hs ++ h ∷ []); ceiling = p.terms.limits.ceiling; credit = p.terms.limits.credit } in a) (sent p)
        ∙ ap (λ k. let a : Account = record { balance = (base_of s p.number +ℤ pos (sum_by (taken_from p.number) hs)) -ℤ pos (sum_by (taken_for p.number) hs); held_in = ins; held_out = k; ceiling = p.terms.limits.ceiling; credit = p.terms.limits.credit } in a) e)

-- what stands at a place of a list of purses, each made by one rule
pub made_at : (g : Peer → Account) (peers : List Peer) (i : ℕ) (a : Account) → slice_get (map g peers) i ≡ Some a
    → (p : Peer) × ((slice_get peers i ≡ Some p) × (a ≡ g p))
made_at g [] i a e = absurd cc
made_at g (p ∷ ps) zero a e = (p, (refl, (let same : g p ≡ a = cc in sym same)))
made_at g (p ∷ ps) (suc i) a e = made_at g ps i a e

-- ---- a hold's amounts move

-- the sums, with a fate that holds no amounts in the place of one that did
pub record AreMoved (n : ℕ) (taken : Bool) (hs ks : List Hold) (h : Hold) : Type 0 where
  pub held_in : sum_by (held_from n) ks + cond (eqb h.from n) h.amount 0 ≡ sum_by (held_from n) hs
  pub held_out : sum_by (held_for n) ks + cond (eqb h.to n) h.price 0 ≡ sum_by (held_for n) hs
  pub taken_in : sum_by (taken_from n) ks ≡ sum_by (taken_from n) hs + cond (taken && eqb h.from n) h.amount 0
  pub taken_out : sum_by (taken_for n) ks ≡ sum_by (taken_for n) hs + cond (taken && eqb h.to n) h.price 0

pub are_moved : (n : ℕ) (taken : Bool) (hs : List Hold) (i : ℕ) (h : Hold) (f : Fate) → slice_get hs i ≡ Some h → holds_amounts h.fate ≡ true → holds_amounts f ≡ false
    → took_amounts f ≡ taken → AreMoved n taken hs (set hs i (with_fate h f)) h
are_moved n taken hs i h f at held none takes =
    let y : Hold = with_fate h f in
    let l : i < length hs = slice_get_within hs i h at in
    let here : get_or hs i h ≡ h = get_or_from_slice_get hs i h h at in
    let hi : sum_by (held_from n) (set hs i y) + held_from n h ≡ sum_by (held_from n) hs + held_from n y = rw here at (sum_by-set (held_from n) hs i y h l) in
    let ho : sum_by (held_for n) (set hs i y) + held_for n h ≡ sum_by (held_for n) hs + held_for n y = rw here at (sum_by-set (held_for n) hs i y h l) in
    let ti : sum_by (taken_from n) (set hs i y) + taken_from n h ≡ sum_by (taken_from n) hs + taken_from n y = rw here at (sum_by-set (taken_from n) hs i y h l) in
    let to : sum_by (taken_for n) (set hs i y) + taken_for n h ≡ sum_by (taken_for n) hs + taken_for n y = rw here at (sum_by-set (taken_for n) hs i y h l) in
    let a1 : held_from n h ≡ cond (eqb h.from n) h.amount 0 = holds_here h.fate (eqb h.from n) h.amount held in
    let a2 : held_for n h ≡ cond (eqb h.to n) h.price 0 = holds_here h.fate (eqb h.to n) h.price held in
    let b1 : held_from n y ≡ 0 = holds_nothing f (eqb h.from n) h.amount none in
    let b2 : held_for n y ≡ 0 = holds_nothing f (eqb h.to n) h.price none in
    let c1 : taken_from n h ≡ 0 = takes_nothing h.fate (eqb h.from n) h.amount held in
    let c2 : taken_for n h ≡ 0 = takes_nothing h.fate (eqb h.to n) h.price held in
    let d1 : taken_from n y ≡ cond (taken && eqb h.from n) h.amount 0 = takes_so f taken (eqb h.from n) h.amount takes in
    let d2 : taken_for n y ≡ cond (taken && eqb h.to n) h.price 0 = takes_so f taken (eqb h.to n) h.price takes in
    let all = by (sum_by (held_from n) (set hs i y)) (sum_by (held_for n) (set hs i y)) (sum_by (taken_from n) (set hs i y)) (sum_by (taken_for n) (set hs i y))
    (held_from n h) (held_for n h) (taken_from n h) (taken_for n h) (held_from n y) (held_for n y) (taken_from n y) (taken_for n y) hi ho ti to a1 a2 b1 b2 c1 c2 d1 d2 in
    record { held_in = all.0; held_out = all.1; taken_in = all.2; taken_out = all.3 }
  where
    by : (hi' ho' ti' to' fi fo gi go yi yo zi zo : ℕ) → hi' + fi ≡ sum_by (held_from n) hs + yi → ho' + fo ≡ sum_by (held_for n) hs + yo
        → ti' + gi ≡ sum_by (taken_from n) hs + zi → to' + go ≡ sum_by (taken_for n) hs + zo
        → fi ≡ cond (eqb h.from n) h.amount 0 → fo ≡ cond (eqb h.to n) h.price 0 → yi ≡ 0 → yo ≡ 0 → gi ≡ 0 → go ≡ 0
        → zi ≡ cond (taken && eqb h.from n) h.amount 0 → zo ≡ cond (taken && eqb h.to n) h.price 0
        → (hi' + cond (eqb h.from n) h.amount 0 ≡ sum_by (held_from n) hs) × (ho' + cond (eqb h.to n) h.price 0 ≡ sum_by (held_for n) hs)
        × (ti' ≡ sum_by (taken_from n) hs + cond (taken && eqb h.from n) h.amount 0) × (to' ≡ sum_by (taken_for n) hs + cond (taken && eqb h.to n) h.price 0)
    by hi' ho' ti' to' fi fo gi go yi yo zi zo a b c d e1 e2 e3 e4 e5 e6 e7 e8 = (omega arith, omega arith, omega arith, omega arith)

-- the purse with what was held from its peer moved
abbrev pub moved_first : State → List Hold → List Hold → Peer → Account
moved_first s hs ks p =
    record (purse_by s hs p) {
      balance = (base_of s p.number +ℤ pos (sum_by (taken_from p.number) ks)) -ℤ pos (sum_by (taken_for p.number) hs);
      held_in = sum_by (held_from p.number) ks;
    }

-- the numbers of a purse whose amount moves on the way in
in_moves : (taken : Bool) (b : ℤ) (t t' o i i' amount : ℕ) → i' + amount ≡ i → t' ≡ t + cond taken amount 0
    → (i' ≡ i - amount) × (((b +ℤ pos t') -ℤ pos o) ≡ (((b +ℤ pos t) -ℤ pos o) +ℤ pos (cond taken amount 0)))
in_moves taken b t t' o i i' amount e d = (omega arith, omega (arith, ints))

out_moves : (taken : Bool) (b : ℤ) (t o o' i i' amount : ℕ) → i' + amount ≡ i → o' ≡ o + cond taken amount 0
    → (i' ≡ i - amount) × (((b +ℤ pos t) -ℤ pos o') ≡ (((b +ℤ pos t) -ℤ pos o) -ℤ pos (cond taken amount 0)))
out_moves taken b t o o' i i' amount e d = (omega arith, omega (arith, ints))

plus_none : (b : ℤ) → (b +ℤ pos 0) ≡ b
plus_none b = omega (arith, ints)

less_none : (b : ℤ) → (b -ℤ pos 0) ≡ b
less_none b = omega (arith, ints)

-- purses that differ in two numbers, which are the same
same_in : (a : Account) (b b' : ℤ) (i i' : ℕ) → b ≡ b' → i ≡ i' → (record a { balance = b; held_in = i }) ≡ (record a { balance = b'; held_in = i' })
same_in a b b' i i' e d = ap (λ x. record a { balance = x; held_in = i }) e ∙ ap (λ x. record a { balance = b'; held_in = x }) d

same_out : (a : Account) (b b' : ℤ) (o o' : ℕ) → b ≡ b' → o ≡ o' → (record a { balance = b; held_out = o }) ≡ (record a { balance = b'; held_out = o' })
same_out a b b' o o' e d = ap (λ x. record a { balance = x; held_out = o }) e ∙ ap (λ x. record a { balance = b'; held_out = x }) d

moving_in_is : (taken : Bool) (amount : ℕ) (a : Account) → (record a { balance = a.balance +ℤ pos (cond taken amount 0); held_in = a.held_in - amount }) ≡ moving_in taken amount a
moving_in_is true amount a = refl
moving_in_is false amount a = ap (λ x. record a { balance = x; held_in = a.held_in - amount }) (plus_none a.balance)

moving_out_is : (taken : Bool) (amount : ℕ) (a : Account) → (record a { balance = a.balance -ℤ pos (cond taken amount 0); held_out = a.held_out - amount }) ≡ moving_out taken amount a
moving_out_is true amount a = refl
moving_out_is false amount a = ap (λ x. record a { balance = x; held_out = a.held_out - amount }) (less_none a.balance)

nothing_more : (i' i x : ℕ) → i' + x ≡ i → x ≡ 0 → i' ≡ i
nothing_more i' i x e z = omega arith

nothing_added : (t' t x : ℕ) → t' ≡ t + x → x ≡ 0 → t' ≡ t
nothing_added t' t x e z = omega arith

pub moved_in : (s : State) (taken : Bool) (hs ks : List Hold) (h : Hold) (peers : List Peer) (place : Option ℕ) → ((n : ℕ) → AreMoved n taken hs ks h) → IsPlaceOf h.from peers place
    → changed_where (moving_in taken h.amount) (map (purse_by s hs) peers) place ≡ map (moved_first s hs ks) peers
moved_in s taken hs ks h peers place all is =
    moved_at (moving_in taken h.amount) (purse_by s hs) (moved_first s hs ks) h.from peers place is
    (λ p e.
    let m = all p.number in
    let in_held : sum_by (held_from p.number) ks + h.amount ≡ sum_by (held_from p.number) hs = ap (λ k. sum_by (held_from p.number) ks + k) (sym (at_number h.from p.number h.amount e)) ∙ m.held_in in
    let in_taken : sum_by (taken_from p.number) ks ≡ sum_by (taken_from p.number) hs + cond taken h.amount 0 = m.taken_in ∙ ap (λ k. sum_by (taken_from p.number) hs + k) (and_at taken h.from p.number h.amount e) in
    let both = in_moves taken (base_of s p.number) (sum_by (taken_from p.number) hs) (sum_by (taken_from p.number) ks) (sum_by (taken_for p.number) hs) (sum_by (held_from p.number) hs) (sum_by (held_from p.number) ks) h.amount in_held in_taken in
    same_in (purse_by s hs p) _ _ _ _ both.1 both.0 ∙ moving_in_is taken h.amount (purse_by s hs p))
    (λ p ne.
    let m = all p.number in
    let in_held : sum_by (held_from p.number) ks ≡ sum_by (held_from p.number) hs = nothing_more _ _ _ m.held_in (at_other h.from p.number h.amount ne) in
    let in_taken : sum_by (taken_from p.number) ks ≡ sum_by (taken_from p.number) hs = nothing_added _ _ _ m.taken_in (and_other taken h.from p.number h.amount ne) in
    same_in (purse_by s hs p) _ _ _ _ (ap (λ k. (base_of s p.number +ℤ pos k) -ℤ pos (sum_by (taken_for p.number) hs)) in_taken) in_held)

pub moved_out : (s : State) (taken : Bool) (hs ks : List Hold) (h : Hold) (peers : List Peer) (place : Option ℕ) → ((n : ℕ) → AreMoved n taken hs ks h) → IsPlaceOf h.to peers place
    → changed_where (moving_out taken h.price) (map (moved_first s hs ks) peers) place ≡ map (purse_by s ks) peers
moved_out s taken hs ks h peers place all is =
    moved_at (moving_out taken h.price) (moved_first s hs ks) (purse_by s ks) h.to peers place is
    (λ p e.
    let m = all p.number in
    let out_held : sum_by (held_for p.number) ks + h.price ≡ sum_by (held_for p.number) hs = ap (λ k. sum_by (held_for p.number) ks + k) (sym (at_number h.to p.number h.price e)) ∙ m.held_out in
    let out_taken : sum_by (taken_for p.number) ks ≡ sum_by (taken_for p.number) hs + cond taken h.price 0 = m.taken_out ∙ ap (λ k. sum_by (taken_for p.number) hs + k) (and_at taken h.to p.number h.price e) in
    let both = out_moves taken (base_of s p.number) (sum_by (taken_from p.number) ks) (sum_by (taken_for p.number) hs) (sum_by (taken_for p.number) ks) (sum_by (held_for p.number) hs) (sum_by (held_for p.number) ks) h.price out_held out_taken in
    same_out (moved_first s hs ks p) _ _ _ _ both.1 both.0 ∙ moving_out_is taken h.price (moved_first s hs ks p))
    (λ p ne.
    let m = all p.number in
    let out_held : sum_by (held_for p.number) ks ≡ sum_by (held_for p.number) hs = nothing_more _ _ _ m.held_out (at_other h.to p.number h.price ne) in
    let out_taken : sum_by (taken_for p.number) ks ≡ sum_by (taken_for p.number) hs = nothing_added _ _ _ m.taken_out (and_other taken h.to p.number h.price ne) in
    same_out (moved_first s hs ks p) _ _ _ _ (ap (λ k. (base_of s p.number +ℤ pos (sum_by (taken_from p.number) ks)) -ℤ pos k) out_taken) out_held)

-- what the first of two moves leaves
pub first_moved : (s : State) (taken : Bool) (hs : List Hold) (i : ℕ) (h : Hold) (f : Fate) (peers : List Peer) (place : Option ℕ) (before after : List Account)
    → slice_get hs i ≡ Some h → holds_amounts h.fate ≡ true → holds_amounts f ≡ false → took_amounts f ≡ taken → IsPlaceOf h.from peers place
    → before ≡ map (purse_by s hs) peers → after ≡ changed_where (moving_in taken h.amount) before place → after ≡ map (moved_first s hs (set hs i (with_fate h f))) peers
first_moved s taken hs i h f peers place before after at held none takes is was moved =
    moved ∙ (ap (λ xs. changed_where (moving_in taken h.amount) xs place) was
    ∙ moved_in s taken hs (set hs i (with_fate h f)) h peers place (λ n. are_moved n taken hs i h f at held none takes) is)

-- what is to be moved is held
pub held_enough_in : (n : ℕ) (taken : Bool) (hs ks : List Hold) (h : Hold) → AreMoved n taken hs ks h → n ≡ h.from → h.amount ≤ sum_by (held_from n) hs
held_enough_in n taken hs ks h m e = let i = m.held_in in let x : cond (eqb h.from n) h.amount 0 ≡ h.amount = at_number h.from n h.amount e in omega arith

pub held_enough_out : (n : ℕ) (taken : Bool) (hs ks : List Hold) (h : Hold) → AreMoved n taken hs ks h → n ≡ h.to → h.price ≤ sum_by (held_for n) hs
held_enough_out n taken hs ks h m e = let i = m.held_out in let x : cond (eqb h.to n) h.price 0 ≡ h.price = at_number h.to n h.price e in omega arith
