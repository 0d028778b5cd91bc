-- Lists of which one element changes, and the places at which peers stand.
use Rattle.std.proofs.Common.{take, ◌++◌, ◌+◌, add-one, subst, ◌≡◌, ℕ, ◌<◌, zero, suc, Bool, true, false, cond, eqb, List, [], ◌∷◌, length, get_or, map, refl, sym, ap, ◌∙◌, arith}
use Rattle.std.specs.Prelude.{option_map, All, Option, Some, None, IfSome, option_and_then, Result, Ok, Err, OnOk, if◌then◌else◌}
use Rattle.money_core.specs.Account.{Account}
use Rattle.money_core.specs.declared.purse.PurseFault.{PurseFault}
use Rattle.std.specs.List.{slice_get}
use Rattle.std.proofs.Math.ListN.{set}
use Rattle.std.proofs.lemmas.Bool.{eqb-true, eq-eqb, ne_eqb}
use Rattle.std.proofs.lemmas.List.{map-id}
use Rattle.std.proofs.lemmas.Option.{slice_get-get_or}
use Rattle.std.specs.List.{position_or_len}
use Rattle.std.proofs.lemmas.Option.{slice_get_within, get_or_from_slice_get}
use Rattle.std.proofs.lemmas.List.Folds.{find_at}
use Rattle.tenant_core.specs.ChangedAt.{changed_at, changed_where}
use Rattle.tenant_core.specs.Network.{Net, IsNetwork, changed_peer, peer_numbered}
use Rattle.tenant_core.specs.declared.peer.Peer.{Peer}
use Rattle.tenant_core.proofs.Numbers.{place_is}

-- ---- one element

set-changed : {X : Type 0} (f : X → X) (xs : List X) (i : ℕ) (d : X) → i < length xs → set xs i (f (get_or xs i d)) ≡ changed_at f xs i
set-changed f [] i d h = absurd (omega arith)
set-changed f (x ∷ xs) zero d h = refl
set-changed f (x ∷ xs) (suc i) d h = ap (λ ys. x ∷ ys) (set-changed f xs i d (omega arith))

-- a write of what the element becomes
pub set-changed_by : {X : Type 0} (f : X → X) (xs : List X) (i : ℕ) (x y : X) → i < length xs → x ≡ get_or xs i x → y ≡ f x → set xs i y ≡ changed_at f xs i
set-changed_by f xs i x y h read made = ap (λ z. set xs i z) (made ∙ ap f read) ∙ set-changed f xs i x h

-- the same, where there is a place
pub changed_here : {X : Type 0} (f : X → X) (xs : List X) (place : Option ℕ) (i : ℕ) (x y : X) → place ≡ Some i → i < length xs → x ≡ get_or xs i x → y ≡ f x
    → set xs i y ≡ changed_where f xs place
changed_here f xs place i x y is h read made = set-changed_by f xs i x y h read made ∙ ap (changed_where f xs) (sym is)

-- what stands at a place that was read
pub read_at : {X : Type 0} (xs : List X) (i : ℕ) (x : X) → i < length xs → x ≡ get_or xs i x → slice_get xs i ≡ Some x
read_at xs i x h read = slice_get-get_or xs i x h ∙ ap Some (sym read)

-- the change is one of two, by what is asked for
pub changed_by : {X : Type 0} (f : Bool → X → X) (b c : Bool) (xs : List X) (place : Option ℕ) (i : ℕ) (x y : X) → b ≡ c → place ≡ Some i
    → ((k : ℕ) → place ≡ Some k → k < length xs) → x ≡ get_or xs i x → y ≡ f c x → set xs i y ≡ changed_where (f b) xs place
changed_by f b c xs place i x y asked is inside read made =
    changed_here (f b) xs place i x y is (inside i is) read (made ∙ ap (λ d. f d x) (sym asked))

-- an account holds what it may
pub held_here : (holds : Account → Account) (is_past : Account → Bool) (fault : PurseFault) (xs : List Account) (place : Option ℕ) (i : ℕ) (x y : Account) (r : Result (Unit {0}) PurseFault)
    → place ≡ Some i → ((k : ℕ) → place ≡ Some k → k < length xs) → ((k : ℕ) (a : Account) → place ≡ Some k → slice_get xs k ≡ Some a → is_past a ≡ false)
    → x ≡ get_or xs i x → r ≡ (if is_past x then Err fault else Ok tt) → OnOk r (y ≡ holds x) → set xs i y ≡ changed_where holds xs place
held_here holds is_past fault xs place i x y r is inside within read told ok =
    let there : i < length xs = inside i is in
    let past : is_past x ≡ false = within i x is (read_at xs i x there read) in
    let done : r ≡ Ok tt = told ∙ ap (λ b. let r : Result (Unit {0}) PurseFault = if b then Err fault else Ok tt in r) past in
    let made : y ≡ holds x = subst (λ (r : Result (Unit {0}) PurseFault). OnOk r (y ≡ holds x)) done ok in
    changed_here holds xs place i x y is there read made

-- lists of what elements become are one where each becomes the same
pub map-same : {X Y : Type 0} (g g' : X → Y) (xs : List X) → ((k : ℕ) (x : X) → slice_get xs k ≡ Some x → g x ≡ g' x) → map g xs ≡ map g' xs
map-same g g' [] each = refl
map-same g g' (x ∷ xs) each =
    let here : g x ≡ g' x = each 0 x refl in
    let rest : map g xs ≡ map g' xs = map-same g g' xs (λ k y at. each (suc k) y at) in
    cc

changed_at_map : {X Y : Type 0} (f : Y → Y) (g g' : X → Y) (xs : List X) (i : ℕ) → ((x : X) → slice_get xs i ≡ Some x → g' x ≡ f (g x))
    → ((k : ℕ) (x : X) → slice_get xs k ≡ Some x → (k ≡ i → ⊥) → g' x ≡ g x) → changed_at f (map g xs) i ≡ map g' xs
changed_at_map f g g' [] i here others = refl
changed_at_map f g g' (x ∷ xs) zero here others =
    let first : f (g x) ≡ g' x = sym (here x refl) in
    let rest : map g xs ≡ map g' xs = map-same g g' xs (λ k y at. sym (others (suc k) y at (λ e. omega arith))) in
    cc
changed_at_map f g g' (x ∷ xs) (suc i) here others =
    let first : g x ≡ g' x = sym (others 0 x refl (λ e. omega arith)) in
    let rest : changed_at f (map g xs) i ≡ map g' xs = changed_at_map f g g' xs i here (λ k y at ne. others (suc k) y at (λ e. ne (omega arith))) in
    cc

-- ---- where a peer stands

-- the place is that of the peer of that number, if it is there
pub record IsPlaceOf (n : ℕ) (peers : List Peer) (place : Option ℕ) : Type 0 where
  pub at : (i : ℕ) (p : Peer) → place ≡ Some i → slice_get peers i ≡ Some p → p.number ≡ n
  pub others : (k : ℕ) (p : Peer) → slice_get peers k ≡ Some p → (place ≡ Some k → ⊥) → p.number ≡ n → ⊥

-- what is found has the number
pub numbered : (n : ℕ) (peers : List Peer) (p : Peer) → peer_numbered n peers ≡ Some p → p.number ≡ n
numbered n [] p e = absurd cc
numbered n (q ∷ qs) p e = by (eqb q.number n) refl e (numbered n qs p)
  where
    by : (t : Bool) → eqb q.number n ≡ t → cond t (Some q) (peer_numbered n qs) ≡ Some p → (peer_numbered n qs ≡ Some p → p.number ≡ n) → p.number ≡ n
    by true is found rest = let same : q ≡ p = cc in ap (λ (x : Peer). x.number) (sym same) ∙ eqb-true q.number n is
    by false is found rest = rest found

-- where none is found, none has the number
nobody : (n : ℕ) (peers : List Peer) (k : ℕ) (p : Peer) → peer_numbered n peers ≡ None → slice_get peers k ≡ Some p → p.number ≡ n → ⊥
nobody n [] k p none at same = absurd cc
nobody n (q ∷ qs) zero p none at same = by (eqb q.number n) refl none
  where
    by : (t : Bool) → eqb q.number n ≡ t → cond t (Some q) (peer_numbered n qs) ≡ None → ⊥
    by true is found = absurd cc
    by false is found =
        let one : q ≡ p = cc in
        let yes : eqb q.number n ≡ true = eq-eqb q.number n (ap (λ (x : Peer). x.number) one ∙ same) in
        absurd cc
nobody n (q ∷ qs) (suc k) p none at same = by (eqb q.number n) refl none (λ rest. nobody n qs k p rest at same)
  where
    by : (t : Bool) → eqb q.number n ≡ t → cond t (Some q) (peer_numbered n qs) ≡ None → (peer_numbered n qs ≡ None → ⊥) → ⊥
    by true is found rest = absurd cc
    by false is found rest = rest found

-- where the network says that the peer stands
pub place_numbered_is : (net : Net) (n : ℕ) (place : Option ℕ) → IsNetwork net → IfSome place (λ at. at < length net.peers)
    → option_and_then (λ at. slice_get net.peers at) place ≡ peer_numbered n net.peers → IsPlaceOf n net.peers place
place_numbered_is net n None is inside found =
    record {
      at = λ i p e at. absurd cc;
      others = λ k p at ne same. nobody n net.peers k p (sym found) at same;
    }
place_numbered_is net n (Some i) is inside found =
    record {
      at = λ j p e at. numbered n net.peers p (sym found ∙ (ap (λ o. option_and_then (λ x. slice_get net.peers x) o) e ∙ at));
      others = λ k p at ne same.
          let there : slice_get net.peers i ≡ Some (get_or net.peers i p) = slice_get-get_or net.peers i p inside in
          let one : (get_or net.peers i p).number ≡ n = numbered n net.peers (get_or net.peers i p) (sym found ∙ there) in
          let equal : eqb i k ≡ eqb (get_or net.peers i p).number p.number = place_is net.peers is.rising i k (get_or net.peers i p) p there at in
          let yes : eqb (get_or net.peers i p).number p.number ≡ true = eq-eqb (get_or net.peers i p).number p.number (one ∙ sym same) in
          let places : i ≡ k = eqb-true i k (equal ∙ yes) in
          ne (ap Some places);
    }

-- where a peer stands that was found
pub place_found_is : (net : Net) (i : ℕ) (p : Peer) → IsNetwork net → slice_get net.peers i ≡ Some p → IsPlaceOf p.number net.peers (Some i)
place_found_is net i p is there =
    record {
      at = λ j q e at.
          let same : i ≡ j = cc in
          let both : Some p ≡ Some q = sym there ∙ (ap (slice_get net.peers) same ∙ at) in
          let one : p ≡ q = cc in
          ap (λ (x : Peer). x.number) (sym one);
      others = λ k q at ne same.
          let equal : eqb i k ≡ eqb p.number q.number = place_is net.peers is.rising i k p q there at in
          let places : i ≡ k = eqb-true i k (equal ∙ eq-eqb p.number q.number (sym same)) in
          ne (ap Some places);
    }

-- what a change at the place of a peer makes of what is kept for each
pub moved_at : {Y : Type 0} (f : Y → Y) (g g' : Peer → Y) (n : ℕ) (peers : List Peer) (place : Option ℕ) → IsPlaceOf n peers place
    → ((p : Peer) → p.number ≡ n → g' p ≡ f (g p)) → ((p : Peer) → (p.number ≡ n → ⊥) → g' p ≡ g p)
    → changed_where f (map g peers) place ≡ map g' peers
moved_at f g g' n peers None is here others = map-same g g' peers (λ k p at. sym (others p (is.others k p at (λ e. absurd cc))))
moved_at f g g' n peers (Some i) is here others =
    changed_at_map f g g' peers i (λ p at. here p (is.at i p refl at))
    (λ k p at ne. others p (is.others k p at (λ e. ne (let same : k ≡ i = cc in same))))

-- to change the peer of a number is to change the one at its place
pub changed_peer_is : (change : Peer → Peer) (net : Net) (n : ℕ) (place : Option ℕ) → IsNetwork net → IfSome place (λ at. at < length net.peers)
    → option_and_then (λ at. slice_get net.peers at) place ≡ peer_numbered n net.peers → changed_where change net.peers place ≡ changed_peer change n net.peers
changed_peer_is change net n place is inside found =
    ap (λ ps. changed_where change ps place) (sym (map-id net.peers))
    ∙ moved_at change (λ p. p) (λ p. cond (eqb p.number n) (change p) p) n net.peers place (place_numbered_is net n place is inside found)
    (λ p e. rw (eq-eqb p.number n e) refl) (λ p ne. rw (ne_eqb p.number n ne) refl)

-- the same, of a network as it is seen
pub changed_as_seen : (change : Peer → Peer) (net seen : Net) (n : ℕ) (place : Option ℕ) (now : List Peer) → net ≡ seen → IsNetwork net
    → IfSome place (λ at. at < length seen.peers) → option_and_then (λ at. slice_get seen.peers at) place ≡ peer_numbered n seen.peers
    → now ≡ changed_where change net.peers place → now ≡ changed_peer change n net.peers
changed_as_seen change net seen n place now view is inside found changed =
    let within = subst (λ (m : Net). IfSome place (λ at. at < length m.peers)) (sym view) inside in
    let there = subst (λ (m : Net). option_and_then (λ at. slice_get m.peers at) place ≡ peer_numbered n m.peers) (sym view) found in
    changed ∙ changed_peer_is change net n place is within there

-- a place that is told stands within the list
pub place_inside : (peers : List Peer) (place : Option ℕ) (i : ℕ) → IfSome place (λ at. at < length peers) → place ≡ Some i → i < length peers
place_inside peers place i inside e = subst (λ o. IfSome o (λ at. at < length peers)) e inside

-- what stands at a place is what is found there
pub stands_at : (peers : List Peer) (found : Option Peer) (place : Option ℕ) (i : ℕ) (p : Peer) → place ≡ Some i
    → option_and_then (λ at. slice_get peers at) place ≡ found → slice_get peers i ≡ Some p → found ≡ Some p
stands_at peers found place i p e value at = sym value ∙ (ap (λ o. option_and_then (λ x. slice_get peers x) o) e ∙ at)

-- a peer that is there has a number that was given
pub read_below : (peers : List Peer) (next i : ℕ) (p : Peer) → All (λ q. q.number < next) peers → slice_get peers i ≡ Some p → p.number < next
read_below peers next i p all at =
    let l : i < length peers = slice_get_within peers i p at in
    let here : get_or peers i p ≡ p = get_or_from_slice_get peers i p p at in
    rw here at (all i p l)

-- so has one that was found
pub found_below : (n : ℕ) (peers : List Peer) (next : ℕ) (p : Peer) → All (λ q. q.number < next) peers → peer_numbered n peers ≡ Some p → n < next
found_below n peers next p all found =
    let place = position_or_len (λ q. eqb q.number n) peers in
    let read : slice_get peers place ≡ Some p = sym (find_at (λ q. eqb q.number n) peers) ∙ found in
    let below = read_below peers next place p all read in
    let same : p.number ≡ n = numbered n peers p found in
    omega arith

-- a peer that is there is the one of its number
pub read_passes : (peers : List Peer) (i : ℕ) (p : Peer) → All (λ q. peer_numbered q.number peers ≡ Some q) peers → slice_get peers i ≡ Some p
    → peer_numbered p.number peers ≡ Some p
read_passes peers i p all at =
    let l : i < length peers = slice_get_within peers i p at in
    let here : get_or peers i p ≡ p = get_or_from_slice_get peers i p p at in
    subst (λ q. peer_numbered q.number peers ≡ Some q) here (all i p l)

-- what is made of one element more
pub map_take_more : {X Y : Type 0} (f : X → Y) (xs : List X) (i : ℕ) (y : Y) → option_map f (slice_get xs i) ≡ Some y
    → map f (take (i + 1) xs) ≡ map f (take i xs) ++ y ∷ []
map_take_more f [] i y e = absurd cc
map_take_more f (x ∷ xs) zero y e = let one : f x ≡ y = cc in ap (λ z. z ∷ []) one
map_take_more f (x ∷ xs) (suc i) y e =
    let rest = map_take_more f xs i y e in
    rw add-one (rw add-one at (ap (λ zs. f x ∷ zs) rest))
