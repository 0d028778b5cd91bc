-- What a change makes of purses and buckets.
use Rattle.std.proofs.Common.{◌≡◌, ℕ, zero, suc, ◌+◌, ◌*◌, ◌<◌, ◌≤◌, ℤ, pos, ◌+ℤ◌, ◌-ℤ◌, Bool, true, false, cond, eqb, List, [], ◌∷◌, ◌++◌, length, get_or, map, refl, sym, ap, subst, ◌∙◌, arith, drop, le_of_eq}
use Rattle.std.specs.Prelude.{Option, Some, None, IfSome, All, option_and_then, fold, max, min, not, ◌&&◌, sum_by, is_some, remove}
use Rattle.std.specs.List.{slice_get, filter}
use Rattle.std.proofs.Math.ListN.{drop_of_length-le}
use Rattle.std.proofs.lemmas.Bool.{eq-eqb, ne_eqb}
use Rattle.std.proofs.lemmas.Int.{ints}
use Rattle.std.proofs.lemmas.List.{length_push, length-map}
use Rattle.std.proofs.lemmas.List.Elements.{All-tail}
use Rattle.std.proofs.lemmas.List.Sums.{fold_push, sum_by_push, sum_by-le}
use Rattle.std.proofs.lemmas.Option.{slice_get-map, slice_get_within, get_or_from_slice_get}
use Rattle.std.specs.Option.{option_or}
use Rattle.money_core.specs.Account.{Account}
use Rattle.rate_bucket.specs.Bucket.{full_bucket}
use Rattle.rate_bucket.specs.Running.{Level, IsLevelOf, RunningLaws, level_changed}
use Rattle.tenant_core.specs.Bucket.{bucket_of, stretch_of}
use Rattle.tenant_core.specs.ChangedAt.{changed_where}
use Rattle.tenant_core.specs.Following.{CanFollow, is_past_bound, levels_after, limited_so, new_bucket, new_purse, peer_changed, purses_after, settling, without}
use Rattle.tenant_core.specs.Holds.{holds_of, holds_amounts, took_amounts}
use Rattle.tenant_core.specs.Kept.{state_of, BookInvariant}
use Rattle.tenant_core.specs.Network.{Net, IsNetwork, peer_numbered}
use Rattle.tenant_core.specs.Orders.{change_record, change_refusal, is_too_much, names_present}
use Rattle.tenant_core.specs.Present.{changed, credit_of, level_left, network_of}
use Rattle.tenant_core.specs.Purse.{base_of, held_from, held_for, opening_balance, settled_in, settled_out, taken_from, taken_for}
use Rattle.tenant_core.specs.Running.{AreLevels, IsLevel, IsNamed, purse_of}
use Rattle.tenant_core.specs.State.{State, clock_of, later, recorded}
use Rattle.tenant_core.specs.declared.book.Book.TheInside.{Inside}
use Rattle.tenant_core.specs.declared.command.Side.{Side}
use Rattle.tenant_core.specs.declared.command.Side.TheVariants.{In, Out}
use Rattle.tenant_core.specs.declared.faults.CommandFault.{CommandFault}
use Rattle.tenant_core.specs.declared.faults.CommandFault.TheVariants.{Limit}
use Rattle.tenant_core.specs.declared.hold.Hold.{Hold}
use Rattle.tenant_core.specs.declared.journal.Change.{Change as Changed}
use Rattle.tenant_core.specs.declared.journal.Change.TheVariants.{PeerAdded, PeerRemoved, LimitsSet, BucketSet}
use Rattle.tenant_core.specs.declared.journal.Change.TheVariants.{RouteAdded, RouteRemoved, RateSet, Settled}
use Rattle.tenant_core.specs.declared.journal.Record.{Record}
use Rattle.tenant_core.specs.declared.peer.Peer.{Peer}
use Rattle.tenant_core.specs.declared.peer.Level.{Level as PeerLevel}
use Rattle.tenant_core.specs.declared.terms.BucketTerms.{BucketTerms}
use Rattle.tenant_core.specs.declared.terms.PeerLimits.{PeerLimits}
use Rattle.tenant_core.specs.declared.terms.PeerTerms.{PeerTerms}
use Rattle.tenant_core.proofs.ChangedLists.{IsPlaceOf, map-same, moved_at, found_below, place_numbered_is}
use Rattle.tenant_core.proofs.Courses.{holds_of-change}
use Rattle.tenant_core.proofs.Keeping.{mapped, RunningFollows}
use Rattle.tenant_core.proofs.Levels.{changed_cases, length-changed, level_stays, levels_stay}
use Rattle.tenant_core.proofs.Presents.{network_of-recorded}
use Rattle.tenant_core.proofs.Purses.{base_after}

-- the state after the record of a change
abbrev after : State → Changed → ℕ → State
after s c now = recorded s (Some (change_record c now))

-- its clock
abbrev clock_after : State → ℕ → ℕ
clock_after s now = max (clock_of s) now

-- the network that the change makes
abbrev net_changed : State → Changed → ℕ → Net
net_changed s c now = changed (network_of s) c (level_left s (network_of s) (clock_after s now) c)

-- it is the network of that state
net_is : (s : State) (c : Changed) (now : ℕ) → network_of (after s c now) ≡ net_changed s c now
net_is s c now = network_of-recorded s (change_record c now)

-- and the clock is that state's
clock_is : (s : State) (c : Changed) (now : ℕ) → clock_of (after s c now) ≡ clock_after s now
clock_is s c now = fold_push later s.opening.clock s.records (change_record c now)

-- ---- lists without what stands at a place

-- what a list without an element becomes
map-removed : {X Y : Type 0} (g : X → Y) (xs : List X) (i : ℕ) → remove (map g xs) i ≡ map g (remove xs i)
map-removed g [] zero = refl
map-removed g [] (suc i) = refl
map-removed g (x ∷ xs) zero = refl
map-removed g (x ∷ xs) (suc i) = ap (λ ys. g x ∷ ys) (map-removed g xs i)

-- the same, where there is a place
map-without : {X Y : Type 0} (g : X → Y) (xs : List X) (place : Option ℕ) → without (map g xs) place ≡ map g (without xs place)
map-without g xs None = refl
map-without g xs (Some i) = map-removed g xs i

-- lists of one length keep one
length-removed : {X Y : Type 0} (xs : List X) (ys : List Y) (i : ℕ) → length xs ≡ length ys → length (remove xs i) ≡ length (remove ys i)
length-removed [] [] zero e = refl
length-removed [] [] (suc i) e = refl
length-removed [] (y ∷ ys) i e = absurd (omega arith)
length-removed (x ∷ xs) [] i e = absurd (omega arith)
length-removed (x ∷ xs) (y ∷ ys) zero e = omega arith
length-removed (x ∷ xs) (y ∷ ys) (suc i) e = ap suc (length-removed xs ys i (omega arith))

-- the same, where there is a place
length-without : {X Y : Type 0} (xs : List X) (ys : List Y) (place : Option ℕ) → length xs ≡ length ys → length (without xs place) ≡ length (without ys place)
length-without xs ys None e = e
length-without xs ys (Some i) e = length-removed xs ys i e

-- what stands side by side in two lists still does
removed_both : {X Y : Type 0} (R : X → Y → Type 0) (xs : List X) (ys : List Y) (i : ℕ)
    → ((k : ℕ) (x : X) (y : Y) → slice_get xs k ≡ Some x → slice_get ys k ≡ Some y → R x y)
    → (k : ℕ) (x : X) (y : Y) → slice_get (remove xs i) k ≡ Some x → slice_get (remove ys i) k ≡ Some y → R x y
removed_both R [] ys zero all k x y a b = absurd cc
removed_both R [] ys (suc i) all k x y a b = absurd cc
removed_both R (x ∷ xs) [] zero all k p l a b = absurd cc
removed_both R (x ∷ xs) [] (suc i) all k p l a b = absurd cc
removed_both R (x ∷ xs) (y ∷ ys) zero all k p l a b = all (suc k) p l a b
removed_both R (x ∷ xs) (y ∷ ys) (suc i) all zero p l a b = all 0 p l a b
removed_both R (x ∷ xs) (y ∷ ys) (suc i) all (suc k) p l a b = removed_both R xs ys i (λ j q m. all (suc j) q m) k p l a b

-- the same, where there is a place
without_both : {X Y : Type 0} (R : X → Y → Type 0) (xs : List X) (ys : List Y) (place : Option ℕ)
    → ((k : ℕ) (x : X) (y : Y) → slice_get xs k ≡ Some x → slice_get ys k ≡ Some y → R x y)
    → (k : ℕ) (x : X) (y : Y) → slice_get (without xs place) k ≡ Some x → slice_get (without ys place) k ≡ Some y → R x y
without_both R xs ys None all = all
without_both R xs ys (Some i) all = removed_both R xs ys i all

-- and so does what is put behind both
pushed_both : {X Y : Type 0} (R : X → Y → Type 0) (xs : List X) (ys : List Y) (x : X) (y : Y) → length xs ≡ length ys
    → ((k : ℕ) (p : X) (l : Y) → slice_get xs k ≡ Some p → slice_get ys k ≡ Some l → R p l) → R x y
    → (k : ℕ) (p : X) (l : Y) → slice_get (xs ++ x ∷ []) k ≡ Some p → slice_get (ys ++ y ∷ []) k ≡ Some l → R p l
pushed_both R [] [] x y e all new zero p l a b =
    let one : x ≡ p = cc in
    let two : y ≡ l = cc in
    subst (λ z. R p z) two (subst (λ z. R z y) one new)
pushed_both R [] [] x y e all new (suc k) p l a b = absurd cc
pushed_both R [] (z ∷ ys) x y e all new k p l a b = absurd (omega arith)
pushed_both R (z ∷ xs) [] x y e all new k p l a b = absurd (omega arith)
pushed_both R (z ∷ xs) (w ∷ ys) x y e all new zero p l a b = all 0 p l a b
pushed_both R (z ∷ xs) (w ∷ ys) x y e all new (suc k) p l a b = pushed_both R xs ys x y (omega arith) (λ j q m. all (suc j) q m) new k p l a b

-- lists of what elements become, with one more
map-pushed : {X Y : Type 0} (g g' : X → Y) (xs : List X) (x : X) (y : Y) → ((k : ℕ) (z : X) → slice_get xs k ≡ Some z → g z ≡ g' z) → y ≡ g' x
    → map g xs ++ y ∷ [] ≡ map g' (xs ++ x ∷ [])
map-pushed g g' [] x y each new = ap (λ z. z ∷ []) new
map-pushed g g' (z ∷ xs) x y each new =
    let here : g z ≡ g' z = each 0 z refl in
    let rest : map g xs ++ y ∷ [] ≡ map g' (xs ++ x ∷ []) = map-pushed g g' xs x y (λ k w at. each (suc k) w at) new in
    cc

-- where no peer has the number, all stay
kept_all : (n : ℕ) (peers : List Peer) → ((k : ℕ) (p : Peer) → slice_get peers k ≡ Some p → p.number ≡ n → ⊥)
    → filter (λ p. not (eqb p.number n)) peers ≡ peers
kept_all n [] others = refl
kept_all n (q ∷ qs) others =
    ap (λ (b : Bool). cond (not b) (q ∷ filter (λ p. not (eqb p.number n)) qs) (filter (λ p. not (eqb p.number n)) qs)) (ne_eqb q.number n (others 0 q refl))
    ∙ ap (λ (ps : List Peer). q ∷ ps) (kept_all n qs (λ k p at. others (suc k) p at))

-- the peers but the one of a number, which stands at that place
kept_but : (n : ℕ) (peers : List Peer) (i : ℕ) → ((p : Peer) → slice_get peers i ≡ Some p → p.number ≡ n)
    → ((k : ℕ) (p : Peer) → slice_get peers k ≡ Some p → (k ≡ i → ⊥) → p.number ≡ n → ⊥)
    → filter (λ p. not (eqb p.number n)) peers ≡ remove peers i
kept_but n [] zero at others = refl
kept_but n [] (suc i) at others = refl
kept_but n (q ∷ qs) zero at others =
    ap (λ (b : Bool). cond (not b) (q ∷ filter (λ p. not (eqb p.number n)) qs) (filter (λ p. not (eqb p.number n)) qs)) (eq-eqb q.number n (at q refl))
    ∙ kept_all n qs (λ k p there. others (suc k) p there (λ e. omega arith))
kept_but n (q ∷ qs) (suc i) at others =
    ap (λ (b : Bool). cond (not b) (q ∷ filter (λ p. not (eqb p.number n)) qs) (filter (λ p. not (eqb p.number n)) qs)) (ne_eqb q.number n (others 0 q refl (λ e. omega arith)))
    ∙ ap (λ (ps : List Peer). q ∷ ps) (kept_but n qs i at (λ k p there ne. others (suc k) p there (λ e. ne (omega arith))))

-- the same, where there is a place
without_is : (n : ℕ) (peers : List Peer) (place : Option ℕ) → IsPlaceOf n peers place → filter (λ p. not (eqb p.number n)) peers ≡ without peers place
without_is n peers None is = kept_all n peers (λ k p at. is.others k p at (λ e. absurd cc))
without_is n peers (Some i) is =
    kept_but n peers i (λ p at. is.at i p refl at) (λ k p at ne. is.others k p at (λ e. ne (let same : k ≡ i = cc in same)))

-- ---- purses

-- the purse of a peer with that base, where these are the holds
abbrev account_by : ℤ → List Hold → Peer → Account
account_by b hs p =
    record {
      balance = (b +ℤ pos (sum_by (taken_from p.number) hs)) -ℤ pos (sum_by (taken_for p.number) hs);
      held_in = sum_by (held_from p.number) hs;
      held_out = sum_by (held_for p.number) hs;
      ceiling = p.terms.limits.ceiling;
      credit = p.terms.limits.credit;
    }

-- the purse of a peer after a change, by its base
purse_after : (s : State) (c : Changed) (now : ℕ) (b : ℤ) (p : Peer) → base_of (after s c now) p.number ≡ b → purse_of (after s c now) p ≡ account_by b (holds_of s) p
purse_after s c now b p e =
    ap (λ x. account_by x (holds_of (after s c now)) p) e ∙ ap (λ (hs : List Hold). account_by b hs p) (holds_of-change s c now)

-- a change that settles nothing with the peer leaves its purse
purse_stays : (s : State) (c : Changed) (now : ℕ) (p : Peer) → settled_in p.number (change_record c now) ≡ 0 → settled_out p.number (change_record c now) ≡ 0
    → purse_of (after s c now) p ≡ purse_of s p
purse_stays s c now p i o = purse_after s c now (base_of s p.number) p (base_after s (change_record c now) p.number i o)

-- what a peer owed but for its packets, one record more
base_moved : (s : State) (r : Record) (n : ℕ) → base_of (recorded s (Some r)) n ≡ ((base_of s n -ℤ pos (settled_in n r)) +ℤ pos (settled_out n r))
base_moved s r n =
    let owed : ℤ = opening_balance (peer_numbered n s.opening.network.peers) in
    let si = sum_by (settled_in n) s.records in
    let so = sum_by (settled_out n) s.records in
    ap (λ k. (owed -ℤ pos k) +ℤ pos (sum_by (settled_out n) (s.records ++ r ∷ []))) (sum_by_push (settled_in n) s.records r)
    ∙ (ap (λ k. (owed -ℤ pos (si + settled_in n r)) +ℤ pos k) (sum_by_push (settled_out n) s.records r) ∙ regroup owed si so (settled_in n r) (settled_out n r))
  where
    regroup : (owed : ℤ) (si so a b : ℕ) → ((owed -ℤ pos (si + a)) +ℤ pos (so + b)) ≡ ((((owed -ℤ pos si) +ℤ pos so) -ℤ pos a) +ℤ pos b)
    regroup owed si so a b = omega (arith, ints)

-- an amount that counts
cond_true : (t : Bool) (x : ℕ) → t ≡ true → cond t x 0 ≡ x
cond_true t x e = rw e refl

-- an amount that does not
cond_false : (t : Bool) (x : ℕ) → t ≡ false → cond t x 0 ≡ 0
cond_false t x e = rw e refl

-- one that does not by its second condition
and_none : (a b : Bool) (x : ℕ) → b ≡ false → cond (a && b) x 0 ≡ 0
and_none true b x e = cond_false b x e
and_none false b x e = refl

-- a settlement moves the balance of its peer
settled_here : (s : State) (n : ℕ) (side : Side) (amount now : ℕ) (p : Peer) → p.number ≡ n
    → purse_of (after s (Settled n side amount) now) p ≡ settling side amount (purse_of s p)
settled_here s n In amount now p e =
    let c : Changed = Settled n In amount in
    let b : ℤ = base_of s p.number in
    let paid : settled_in p.number (change_record c now) ≡ amount = cond_true (eqb n p.number) amount (eq-eqb n p.number (sym e)) in
    let base : base_of (after s c now) p.number ≡ (b -ℤ pos amount) =
    base_moved s (change_record c now) p.number ∙ (ap (λ k. (b -ℤ pos k) +ℤ pos 0) paid ∙ less b amount) in
    purse_after s c now (b -ℤ pos amount) p base
    ∙ ap (λ x. record (purse_of s p) { balance = x }) (moves b amount (sum_by (taken_from p.number) (holds_of s)) (sum_by (taken_for p.number) (holds_of s)))
  where
    less : (b : ℤ) (a : ℕ) → ((b -ℤ pos a) +ℤ pos 0) ≡ (b -ℤ pos a)
    less b a = omega (arith, ints)

    moves : (b : ℤ) (a t o : ℕ) → (((b -ℤ pos a) +ℤ pos t) -ℤ pos o) ≡ (((b +ℤ pos t) -ℤ pos o) -ℤ pos a)
    moves b a t o = omega (arith, ints)
settled_here s n Out amount now p e =
    let c : Changed = Settled n Out amount in
    let b : ℤ = base_of s p.number in
    let got : settled_out p.number (change_record c now) ≡ amount = cond_true (eqb n p.number) amount (eq-eqb n p.number (sym e)) in
    let base : base_of (after s c now) p.number ≡ (b +ℤ pos amount) =
    base_moved s (change_record c now) p.number ∙ (ap (λ k. (b -ℤ pos 0) +ℤ pos k) got ∙ more b amount) in
    purse_after s c now (b +ℤ pos amount) p base
    ∙ ap (λ x. record (purse_of s p) { balance = x }) (moves b amount (sum_by (taken_from p.number) (holds_of s)) (sum_by (taken_for p.number) (holds_of s)))
  where
    more : (b : ℤ) (a : ℕ) → ((b -ℤ pos 0) +ℤ pos a) ≡ (b +ℤ pos a)
    more b a = omega (arith, ints)

    moves : (b : ℤ) (a t o : ℕ) → (((b +ℤ pos a) +ℤ pos t) -ℤ pos o) ≡ (((b +ℤ pos t) -ℤ pos o) +ℤ pos a)
    moves b a t o = omega (arith, ints)

-- and no other one
settled_elsewhere : (s : State) (n : ℕ) (side : Side) (amount now : ℕ) (p : Peer) → (p.number ≡ n → ⊥)
    → purse_of (after s (Settled n side amount) now) p ≡ purse_of s p
settled_elsewhere s n In amount now p ne = purse_stays s (Settled n In amount) now p (cond_false (eqb n p.number) amount (ne_eqb n p.number (λ e. ne (sym e)))) refl
settled_elsewhere s n Out amount now p ne = purse_stays s (Settled n Out amount) now p refl (cond_false (eqb n p.number) amount (ne_eqb n p.number (λ e. ne (sym e))))

-- a number that was not given yet is that of no peer
none_numbered : (n next : ℕ) (peers : List Peer) → All (λ p. p.number < next) peers → next ≤ n → peer_numbered n peers ≡ None
none_numbered n next [] all less = refl
none_numbered n next (q ∷ qs) all less =
    let below : q.number < next = all 0 q (omega arith) in
    ap (λ (b : Bool). cond b (Some q) (peer_numbered n qs)) (ne_eqb q.number n (λ e. omega arith))
    ∙ none_numbered n next qs (All-tail (λ p. p.number < next) q qs all) less

-- a sum of nothing
sum_none : (f : Hold → ℕ) (hs : List Hold) → All (λ h. f h ≡ 0) hs → sum_by f hs ≡ 0
sum_none f hs none = let l : sum_by f hs ≤ length hs * 0 = sum_by-le f 0 hs (λ i d h. le_of_eq (none i d h)) in omega arith

-- the purse of a peer that is added
purse_new : (s : State) (t : PeerTerms) (now : ℕ) (level : PeerLevel) → IsNamed s
    → new_purse t ≡ purse_of (after s (PeerAdded t) now) (record { number = (network_of s).next_peer; terms = t; balance = pos 0; bucket = level })
purse_new s t now level named =
    let n : ℕ = (network_of s).next_peer in
    let hs : List Hold = holds_of s in
    let p : Peer = record { number = n; terms = t; balance = pos 0; bucket = level } in
    let none : peer_numbered n s.opening.network.peers ≡ None = none_numbered n s.opening.network.next_peer s.opening.network.peers named.opened named.opening in
    let i : sum_by (settled_in n) s.records ≡ 0 = named.paid n (omega arith) in
    let o : sum_by (settled_out n) s.records ≡ 0 = named.got n (omega arith) in
    let base : base_of (after s (PeerAdded t) now) n ≡ pos 0 =
    base_after s (change_record (PeerAdded t) now) n refl refl
    ∙ (ap (λ x. (opening_balance x -ℤ pos (sum_by (settled_in n) s.records)) +ℤ pos (sum_by (settled_out n) s.records)) none
    ∙ (ap (λ k. (pos 0 -ℤ pos k) +ℤ pos (sum_by (settled_out n) s.records)) i ∙ ap (λ k. (pos 0 -ℤ pos 0) +ℤ pos k) o)) in
    let from : (k : ℕ) (h : Hold) → k < length hs → eqb (get_or hs k h).from n ≡ false = λ k h l. ne_eqb _ n (λ e. let b = (named.holds k h l).0 in omega arith) in
    let to : (k : ℕ) (h : Hold) → k < length hs → eqb (get_or hs k h).to n ≡ false = λ k h l. ne_eqb _ n (λ e. let b = (named.holds k h l).1 in omega arith) in
    let hi : sum_by (held_from n) hs ≡ 0 = sum_none (held_from n) hs (λ k h l. and_none (holds_amounts (get_or hs k h).fate) _ _ (from k h l)) in
    let ho : sum_by (held_for n) hs ≡ 0 = sum_none (held_for n) hs (λ k h l. and_none (holds_amounts (get_or hs k h).fate) _ _ (to k h l)) in
    let ti : sum_by (taken_from n) hs ≡ 0 = sum_none (taken_from n) hs (λ k h l. and_none (took_amounts (get_or hs k h).fate) _ _ (from k h l)) in
    let tout : sum_by (taken_for n) hs ≡ 0 = sum_none (taken_for n) hs (λ k h l. and_none (took_amounts (get_or hs k h).fate) _ _ (to k h l)) in
    sym (purse_after s (PeerAdded t) now (pos 0) p base
    ∙ (ap (λ x. record (account_by (pos 0) hs p) { balance = (pos 0 +ℤ pos x) -ℤ pos (sum_by (taken_for n) hs) }) ti
    ∙ (ap (λ x. record (account_by (pos 0) hs p) { balance = (pos 0 +ℤ pos 0) -ℤ pos x }) tout
    ∙ (ap (λ x. record (account_by (pos 0) hs p) { balance = pos 0; held_in = x }) hi
    ∙ ap (λ x. record (new_purse t) { held_out = x }) ho))))

-- a peer that is changed where it has a number
abbrev changed_if : (Peer → Peer) → ℕ → Peer → Peer
changed_if f n p = cond (eqb p.number n) (f p) p

-- the peer that has the number is changed
is_changed : (f : Peer → Peer) (n : ℕ) (p : Peer) → p.number ≡ n → changed_if f n p ≡ f p
is_changed f n p e = ap (λ (b : Bool). cond b (f p) p) (eq-eqb p.number n e)

-- another one is not
is_unchanged : (f : Peer → Peer) (n : ℕ) (p : Peer) → (p.number ≡ n → ⊥) → changed_if f n p ≡ p
is_unchanged f n p ne = ap (λ (b : Bool). cond b (f p) p) (ne_eqb p.number n ne)

-- a peer with other limits
abbrev limited : PeerLimits → Peer → Peer
limited limits p = record p { terms = record p.terms { limits = limits } }

-- a peer with another bucket, which has that level
abbrev filled_so : BucketTerms → PeerLevel → Peer → Peer
filled_so bucket level p = record p { terms = record p.terms { bucket = bucket }; bucket = level }

-- lists of what elements become, in one step or in two
map-map-same : {X Y Z : Type 0} (g : X → Z) (h : Y → Z) (f : X → Y) (xs : List X) → ((x : X) → g x ≡ h (f x)) → map g xs ≡ map h (map f xs)
map-map-same g h f [] each = refl
map-map-same g h f (x ∷ xs) each =
    let here : g x ≡ h (f x) = each x in
    let rest : map g xs ≡ map h (map f xs) = map-map-same g h f xs each in
    cc

-- the purses that a change leaves are those of the state after it
pub purses_followed : (s : State) (c : Changed) (now : ℕ) (place : Option ℕ) → IsNamed s
    → ((n : ℕ) → peer_changed c ≡ Some n → IsPlaceOf n (network_of s).peers place)
    → purses_after c place (map (purse_of s) (network_of s).peers) ≡ map (purse_of (after s c now)) (network_of (after s c now)).peers
purses_followed s c now place named is =
    by c is ∙ ap (λ (n : Net). map (purse_of (after s c now)) n.peers) (sym (net_is s c now))
  where
    peers : List Peer
    peers = (network_of s).peers

    all_stay : (c : Changed) → ((n : ℕ) → settled_in n (change_record c now) ≡ 0) → ((n : ℕ) → settled_out n (change_record c now) ≡ 0)
        → map (purse_of s) peers ≡ map (purse_of (after s c now)) peers
    all_stay c i o = map-same (purse_of s) (purse_of (after s c now)) peers (λ k p at. sym (purse_stays s c now p (i p.number) (o p.number)))

    refilled : (c : Changed) (bucket : BucketTerms) (level : PeerLevel) (p : Peer) (b : Bool) → purse_of (after s c now) p ≡ purse_of (after s c now) (cond b (filled_so bucket level p) p)
    refilled c bucket level p true = refl
    refilled c bucket level p false = refl

    by : (c : Changed) → ((n : ℕ) → peer_changed c ≡ Some n → IsPlaceOf n peers place)
        → purses_after c place (map (purse_of s) peers) ≡ map (purse_of (after s c now)) (net_changed s c now).peers
    by (PeerAdded t) is =
        let level : PeerLevel = level_left s (network_of s) (clock_after s now) (PeerAdded t) in
        map-pushed (purse_of s) (purse_of (after s (PeerAdded t) now)) peers (record { number = (network_of s).next_peer; terms = t; balance = pos 0; bucket = level }) (new_purse t)
        (λ k p at. sym (purse_stays s (PeerAdded t) now p refl refl)) (purse_new s t now level named)
    by (PeerRemoved n) is =
        let c : Changed = PeerRemoved n in
        ap (λ xs. without xs place) (all_stay c (λ m. refl) (λ m. refl))
        ∙ (map-without (purse_of (after s c now)) peers place ∙ ap (map (purse_of (after s c now))) (sym (without_is n peers place (is n refl))))
    by (LimitsSet n limits) is =
        let c : Changed = LimitsSet n limits in
        moved_at (limited_so limits) (purse_of s) (λ p. purse_of (after s c now) (changed_if (limited limits) n p)) n peers place (is n refl)
        (λ p e. ap (purse_of (after s c now)) (is_changed (limited limits) n p e) ∙ ap (limited_so limits) (purse_stays s c now p refl refl))
        (λ p ne. ap (purse_of (after s c now)) (is_unchanged (limited limits) n p ne) ∙ purse_stays s c now p refl refl)
        ∙ map-map-same (λ p. purse_of (after s c now) (changed_if (limited limits) n p)) (purse_of (after s c now)) (changed_if (limited limits) n) peers (λ p. refl)
    by (BucketSet n bucket) is =
        let c : Changed = BucketSet n bucket in
        let level : PeerLevel = level_left s (network_of s) (clock_after s now) c in
        map-map-same (purse_of s) (purse_of (after s c now)) (changed_if (filled_so bucket level) n) peers
        (λ p. sym (purse_stays s c now p refl refl) ∙ refilled c bucket level p (eqb p.number n))
    by (RouteAdded prefix hop) is = all_stay (RouteAdded prefix hop) (λ m. refl) (λ m. refl)
    by (RouteRemoved prefix) is = all_stay (RouteRemoved prefix) (λ m. refl) (λ m. refl)
    by (RateSet r) is = all_stay (RateSet r) (λ m. refl) (λ m. refl)
    by (Settled n side amount) is =
        moved_at (settling side amount) (purse_of s) (purse_of (after s (Settled n side amount) now)) n peers place (is n refl)
        (λ p e. settled_here s n side amount now p e) (λ p ne. settled_elsewhere s n side amount now p ne)

-- what is not refused passes the test
unrefused : (b : Bool) (f : CommandFault) → option_or (cond b (Some f) None) None ≡ None → b ≡ false
unrefused true f e = absurd cc
unrefused false f e = refl

-- what is settled passes no bound
pub can_follow : (s : State) (c : Changed) (place : Option ℕ) → change_refusal s (network_of s) c ≡ None
    → ((n : ℕ) → peer_changed c ≡ Some n → IsPlaceOf n (network_of s).peers place)
    → CanFollow c place (map (purse_of s) (network_of s).peers)
can_follow s (PeerAdded t) place allowed is = tt
can_follow s (PeerRemoved n) place allowed is = tt
can_follow s (LimitsSet n limits) place allowed is = tt
can_follow s (BucketSet n bucket) place allowed is = tt
can_follow s (RouteAdded prefix hop) place allowed is = tt
can_follow s (RouteRemoved prefix) place allowed is = tt
can_follow s (RateSet r) place allowed is = tt
can_follow s (Settled n side amount) place allowed is = λ i a e at.
    let peers : List Peer = (network_of s).peers in
    let found = mapped (purse_of s) (slice_get peers i) a (sym at ∙ slice_get-map (purse_of s) peers i) in
    let p : Peer = found.0 in
    let number : p.number ≡ n = (is n refl).at i p e found.1 in
    let little : is_too_much s n side amount ≡ false = unrefused (is_too_much s n side amount) Limit allowed in
    ap (is_past_bound side amount) found.2 ∙ (by side p ∙ (ap (λ m. is_too_much s m side amount) number ∙ little))
  where
    by : (side : Side) (p : Peer) → is_past_bound side amount (purse_of s p) ≡ is_too_much s p.number side amount
    by In p = refl
    by Out p = refl

-- ---- buckets

-- no record follows the one of the change
none_since : (s : State) (r : Record) → drop (length s.records + 1) (recorded s (Some r)).records ≡ []
none_since s r = let longer = length_push s.records r in drop_of_length-le (s.records ++ r ∷ []) (omega arith)

-- a bucket that the change begins
level_begins : (s : State) (c : Changed) (now : ℕ) (p : Peer) (l : Level) → p.bucket.clock ≡ clock_after s now → p.bucket.entries ≡ length s.records + 1
    → l.clock ≡ clock_after s now → IsLevelOf (bucket_of p []) l → IsLevel (after s c now) p l
level_begins s c now p l clock entries at is =
    let r : Record = change_record c now in
    let none : drop p.bucket.entries (after s c now).records ≡ [] = ap (λ n. drop n (after s c now).records) entries ∙ none_since s r in
    let told = clock_is s c now in
    let longer = length_push s.records r in
    record {
      stretch = subst (λ rs. IsLevelOf (bucket_of p rs) l) (sym none) is;
      clock = le_of_eq (at ∙ sym told);
      entries = omega arith;
      told = ap (fold later p.bucket.clock) none ∙ (clock ∙ sym told);
    }

-- the lesser of a number and itself
min_same : (n : ℕ) → min n n ≡ n
min_same n = omega arith

-- a peer of a network is found by its number
own_number : (peers : List Peer) (k : ℕ) (p : Peer) → All (λ q. peer_numbered q.number peers ≡ Some q) peers → slice_get peers k ≡ Some p
    → peer_numbered p.number peers ≡ Some p
own_number peers k p all at =
    subst (λ q. peer_numbered q.number peers ≡ Some q) (get_or_from_slice_get peers k p p at) (all k p (slice_get_within peers k p at))

-- the buckets that a change leaves have come from what is recorded after it
pub levels_followed : (laws : RunningLaws) (s : State) (c : Changed) (now : ℕ) (place : Option ℕ) (levels : List Level) → IsNetwork (network_of s)
    → ((n : ℕ) → peer_changed c ≡ Some n → IsPlaceOf n (network_of s).peers place) → AreLevels s (network_of s).peers levels
    → AreLevels (after s c now) (network_of (after s c now)).peers (levels_after c place (clock_after s now) levels)
levels_followed laws s c now place levels net is are =
    subst (λ (n : Net). AreLevels (after s c now) n.peers (levels_after c place (clock_after s now) levels)) (sym (net_is s c now)) (by c is)
  where
    peers : List Peer
    peers = (network_of s).peers

    clock : ℕ
    clock = clock_after s now

    stay : (c : Changed) (p : Peer) (l : Level) → IsLevel s p l → IsLevel (after s c now) p l
    stay c p l is = level_stays s (change_record c now) p l refl is

    all_stay : (c : Changed) → AreLevels (after s c now) peers levels
    all_stay c = levels_stay s (change_record c now) peers levels (λ m. refl) are

    limits_stay : (t : State) (limits : PeerLimits) (p : Peer) (l : Level) (b : Bool) → IsLevel t p l → IsLevel t (cond b (limited limits p) p) l
    limits_stay t limits p l true is = record { stretch = is.stretch; clock = is.clock; entries = is.entries; told = is.told }
    limits_stay t limits p l false is = is

    changes : (n : ℕ) (bucket : BucketTerms) (p : Peer) (l : Level) → p.number ≡ n → peer_numbered p.number peers ≡ Some p → IsLevel s p l
        → IsLevel (after s (BucketSet n bucket) now) (filled_so bucket (level_left s (network_of s) clock (BucketSet n bucket)) p) (level_changed bucket.burst bucket.per_second clock l)
    changes n bucket p l e found is =
        let c : Changed = BucketSet n bucket in
        let level : PeerLevel = level_left s (network_of s) clock c in
        let one : peer_numbered n peers ≡ Some p = subst (λ m. peer_numbered m peers ≡ Some p) e found in
        let before = is.clock in
        let begun = laws.changed (stretch_of s p) l bucket.burst bucket.per_second clock is.stretch (omega arith) in
        level_begins s c now (filled_so bucket level p) (level_changed bucket.burst bucket.per_second clock l) refl refl refl
        (subst (λ o. IsLevelOf (record (bucket_of (filled_so bucket level p) []) { credit = min (credit_of s o clock) (full_bucket bucket.burst) }) (level_changed bucket.burst bucket.per_second clock l)) (sym one) begun)

    bucket_set : (n : ℕ) (bucket : BucketTerms) (place : Option ℕ) → IsPlaceOf n peers place
        → AreLevels (after s (BucketSet n bucket) now) (net_changed s (BucketSet n bucket) now).peers (changed_where (level_changed bucket.burst bucket.per_second clock) levels place)
    bucket_set n bucket None here =
        let c : Changed = BucketSet n bucket in
        let f : Peer → Peer = changed_if (filled_so bucket (level_left s (network_of s) clock c)) n in
        record {
          long = are.long ∙ sym (length-map peers f);
          each = λ k q l a b.
              let found = mapped f (slice_get peers k) q (sym a ∙ slice_get-map f peers k) in
              let p : Peer = found.0 in
              let same : q ≡ p = found.2 ∙ is_unchanged (filled_so bucket (level_left s (network_of s) clock c)) n p (here.others k p found.1 (λ e. absurd cc)) in
              subst (λ x. IsLevel (after s c now) x l) (sym same) (stay c p l (are.each k p l found.1 b));
        }
    bucket_set n bucket (Some i) here =
        let c : Changed = BucketSet n bucket in
        let g : Peer → Peer = filled_so bucket (level_left s (network_of s) clock c) in
        let f : Peer → Peer = changed_if g n in
        let h : Level → Level = level_changed bucket.burst bucket.per_second clock in
        record {
          long = length-changed h levels i ∙ (are.long ∙ sym (length-map peers f));
          each = λ k q l a b.
              let found = mapped f (slice_get peers k) q (sym a ∙ slice_get-map f peers k) in
              let p : Peer = found.0 in
              changed_cases (IsLevel (after s c now) q) h levels i k l b
              (λ x e old.
              let number : p.number ≡ n = here.at i p refl (ap (slice_get peers) (sym e) ∙ found.1) in
              subst (λ y. IsLevel (after s c now) y (h x)) (sym (found.2 ∙ is_changed g n p number))
              (changes n bucket p x number (own_number peers k p net.numbers found.1) (are.each k p x found.1 old)))
              (λ x ne old.
              let same : q ≡ p = found.2 ∙ is_unchanged g n p (here.others k p found.1 (λ e. ne (let one : i ≡ k = cc in sym one))) in
              subst (λ y. IsLevel (after s c now) y x) (sym same) (stay c p x (are.each k p x found.1 old)));
        }

    by : (c : Changed) → ((n : ℕ) → peer_changed c ≡ Some n → IsPlaceOf n peers place) → AreLevels (after s c now) (net_changed s c now).peers (levels_after c place clock levels)
    by (PeerAdded t) is =
        let c : Changed = PeerAdded t in
        let level : PeerLevel = level_left s (network_of s) clock c in
        let new : Peer = record { number = (network_of s).next_peer; terms = t; balance = pos 0; bucket = level } in
        let full : ℕ = full_bucket t.bucket.burst in
        let long = are.long in
        let l1 = length_push levels (new_bucket t clock) in
        let l2 = length_push peers new in
        let begun : IsLevelOf (bucket_of new []) (new_bucket t clock) =
        subst (λ n. IsLevelOf (bucket_of new []) (record (new_bucket t clock) { credit = n })) (min_same full) (laws.begun clock full t.bucket.burst t.bucket.per_second) in
        record {
          long = omega arith;
          each = pushed_both (IsLevel (after s c now)) peers levels new (new_bucket t clock) (sym are.long)
              (λ k p l a b. stay c p l (are.each k p l a b)) (level_begins s c now new (new_bucket t clock) refl refl refl begun);
        }
    by (PeerRemoved n) is =
        let c : Changed = PeerRemoved n in
        subst (λ (ps : List Peer). AreLevels (after s c now) ps (without levels place)) (sym (without_is n peers place (is n refl)))
        (record {
          long = length-without levels peers place are.long;
          each = without_both (IsLevel (after s c now)) peers levels place (λ k p l a b. stay c p l (are.each k p l a b));
        })
    by (LimitsSet n limits) is =
        let c : Changed = LimitsSet n limits in
        let f : Peer → Peer = changed_if (limited limits) n in
        record {
          long = are.long ∙ sym (length-map peers f);
          each = λ k q l a b.
              let found = mapped f (slice_get peers k) q (sym a ∙ slice_get-map f peers k) in
              subst (λ x. IsLevel (after s c now) x l) (sym found.2) (limits_stay (after s c now) limits found.0 l (eqb found.0.number n) (stay c found.0 l (are.each k found.0 l found.1 b)));
        }
    by (BucketSet n bucket) is = bucket_set n bucket place (is n refl)
    by (RouteAdded prefix hop) is = all_stay (RouteAdded prefix hop)
    by (RouteRemoved prefix) is = all_stay (RouteRemoved prefix)
    by (RateSet r) is = all_stay (RateSet r)
    by (Settled n side amount) is = all_stay (Settled n side amount)

-- something stands at each place of a list
stands : {X : Type 0} (xs : List X) (i : ℕ) → i < length xs → slice_get xs i ≡ None → ⊥
stands [] i inside none = absurd (omega arith)
stands (x ∷ xs) zero inside none = absurd cc
stands (x ∷ xs) (suc i) inside none = stands xs i (omega arith) none

-- a bucket's clock is none to come
pub levels_before : (s : State) (peers : List Peer) (levels : List Level) (clock i : ℕ) (l : Level) → AreLevels s peers levels → clock_of s ≤ clock
    → slice_get levels i ≡ Some l → l.clock ≤ clock
levels_before s peers levels clock i l are late at =
    let inside : i < length levels = slice_get_within levels i l at in
    let long = are.long in
    by (slice_get peers i) refl (λ none. stands peers i (omega arith) none)
  where
    by : (o : Option Peer) → slice_get peers i ≡ o → (slice_get peers i ≡ None → ⊥) → l.clock ≤ clock
    by None e some = absurd (some e)
    by (Some p) e some = let before = (are.each i p l e at).clock in omega arith

-- ---- numbers

-- numbers are given in order
grows : (net : Net) (c : Changed) (level : PeerLevel) → net.next_peer ≤ (changed net c level).next_peer
grows net (PeerAdded t) level = omega arith
grows net (PeerRemoved n) level = omega arith
grows net (LimitsSet n limits) level = omega arith
grows net (BucketSet n bucket) level = omega arith
grows net (RouteAdded prefix hop) level = omega arith
grows net (RouteRemoved prefix) level = omega arith
grows net (RateSet r) level = omega arith
grows net (Settled n side amount) level = omega arith

-- a peer that is there has a number that was given
known : (net : Net) (n : ℕ) (o : Option Peer) → IsNetwork net → peer_numbered n net.peers ≡ o → is_some o ≡ true → n < net.next_peer
known net n None is found there = absurd cc
known net n (Some p) is found there = found_below n net.peers net.next_peer p is.next found

-- nothing is settled of a number that was not given: what the peer paid
settles_known_in : (s : State) (c : Changed) (now n : ℕ) → IsNetwork (network_of s) → names_present (network_of s) c ≡ true → (network_of s).next_peer ≤ n
    → settled_in n (change_record c now) ≡ 0
settles_known_in s (PeerAdded t) now n is there late = refl
settles_known_in s (PeerRemoved m) now n is there late = refl
settles_known_in s (LimitsSet m limits) now n is there late = refl
settles_known_in s (BucketSet m bucket) now n is there late = refl
settles_known_in s (RouteAdded prefix hop) now n is there late = refl
settles_known_in s (RouteRemoved prefix) now n is there late = refl
settles_known_in s (RateSet r) now n is there late = refl
settles_known_in s (Settled m In amount) now n is there late =
    let l = known (network_of s) m (peer_numbered m (network_of s).peers) is refl there in
    cond_false (eqb m n) amount (ne_eqb m n (λ e. omega arith))
settles_known_in s (Settled m Out amount) now n is there late = refl

-- and what it was paid
settles_known_out : (s : State) (c : Changed) (now n : ℕ) → IsNetwork (network_of s) → names_present (network_of s) c ≡ true → (network_of s).next_peer ≤ n
    → settled_out n (change_record c now) ≡ 0
settles_known_out s (PeerAdded t) now n is there late = refl
settles_known_out s (PeerRemoved m) now n is there late = refl
settles_known_out s (LimitsSet m limits) now n is there late = refl
settles_known_out s (BucketSet m bucket) now n is there late = refl
settles_known_out s (RouteAdded prefix hop) now n is there late = refl
settles_known_out s (RouteRemoved prefix) now n is there late = refl
settles_known_out s (RateSet r) now n is there late = refl
settles_known_out s (Settled m In amount) now n is there late = refl
settles_known_out s (Settled m Out amount) now n is there late =
    let l = known (network_of s) m (peer_numbered m (network_of s).peers) is refl there in
    cond_false (eqb m n) amount (ne_eqb m n (λ e. omega arith))

-- a sum of nothing, one record more
nothing_more : (f : Record → ℕ) (rs : List Record) (r : Record) → sum_by f rs ≡ 0 → f r ≡ 0 → sum_by f (rs ++ r ∷ []) ≡ 0
nothing_more f rs r e z = let more = sum_by_push f rs r in omega arith

-- a change names no peer by a number that was not given
pub named_followed : (s : State) (c : Changed) (now : ℕ) → IsNetwork (network_of s) → names_present (network_of s) c ≡ true → IsNamed s → IsNamed (after s c now)
named_followed s c now is there named =
    let r : Record = change_record c now in
    let old : ℕ = (network_of s).next_peer in
    let more : old ≤ (network_of (after s c now)).next_peer =
    subst (λ (n : Net). old ≤ n.next_peer) (sym (net_is s c now)) (grows (network_of s) c (level_left s (network_of s) (clock_after s now) c)) in
    let before = named.opening in
    let next : ℕ = (network_of (after s c now)).next_peer in
    record {
      opening = omega arith;
      opened = named.opened;
      holds = subst (λ (hs : List Hold). All (λ h. (h.from < next) × (h.to < next)) hs) (sym (holds_of-change s c now))
          (λ k h l. let both = named.holds k h l in let a = both.0 in let b = both.1 in (omega arith, omega arith));
      paid = λ n late. nothing_more (settled_in n) s.records r (named.paid n (omega arith)) (settles_known_in s c now n is there (omega arith));
      got = λ n late. nothing_more (settled_out n) s.records r (named.got n (omega arith)) (settles_known_out s c now n is there (omega arith));
    }

-- ---- what a book keeps

-- where the peer stands that the change is about
pub place_changed_is : (net : Net) (c : Changed) (place : Option ℕ) → IsNetwork net → IfSome place (λ at. at < length net.peers)
    → option_and_then (λ at. slice_get net.peers at) place ≡ option_and_then (λ n. peer_numbered n net.peers) (peer_changed c)
    → (n : ℕ) → peer_changed c ≡ Some n → IsPlaceOf n net.peers place
place_changed_is net c place is inside value n e =
    place_numbered_is net n place is inside (value ∙ ap (λ o. option_and_then (λ m. peer_numbered m net.peers) o) e)

-- the same place among the peers that the records tell of
place_kept : (b : Inside) (c : Changed) (place : Option ℕ) → BookInvariant b → IfSome place (λ at. at < length b.network.peers)
    → option_and_then (λ at. slice_get b.network.peers at) place ≡ option_and_then (λ n. peer_numbered n b.network.peers) (peer_changed c)
    → (n : ℕ) → peer_changed c ≡ Some n → IsPlaceOf n (network_of (state_of b)).peers place
place_kept b c place k inside value n e =
    let is : IsNetwork b.network = subst (λ (x : Net). IsNetwork x) (sym k.network) k.sound.network in
    subst (λ (x : Net). IsPlaceOf n x.peers place) k.network (place_changed_is b.network c place is inside value n e)

-- the purses can follow a change that is not refused
pub can_follow_kept : (b : Inside) (c : Changed) (place : Option ℕ) → BookInvariant b → IfSome place (λ at. at < length b.network.peers)
    → option_and_then (λ at. slice_get b.network.peers at) place ≡ option_and_then (λ n. peer_numbered n b.network.peers) (peer_changed c)
    → change_refusal (state_of b) b.network c ≡ None → CanFollow c place b.purses.items
can_follow_kept b c place k inside value allowed =
    let s : State = state_of b in
    let free : change_refusal s (network_of s) c ≡ None = ap (λ (n : Net). change_refusal s n c) (sym k.network) ∙ allowed in
    subst (λ xs. CanFollow c place xs) (sym k.purses) (can_follow s c place free (place_kept b c place k inside value))

-- no bucket's clock is later than one that is no less than the book's
pub buckets_before : (b : Inside) (clock : ℕ) → BookInvariant b → b.clock ≤ clock → (i : ℕ) (l : Level) → slice_get b.buckets.items i ≡ Some l → l.clock ≤ clock
buckets_before b clock k late i l at =
    let e = k.clock in
    levels_before (state_of b) (network_of (state_of b)).peers b.buckets.items clock i l k.buckets (omega arith) at

-- the purses and the buckets of a book have followed a change
pub changed_follows : (laws : RunningLaws) (b after : Inside) (c : Changed) (now clock : ℕ) (place : Option ℕ) → BookInvariant b → clock ≡ max b.clock now
    → names_present b.network c ≡ true → IfSome place (λ at. at < length b.network.peers)
    → option_and_then (λ at. slice_get b.network.peers at) place ≡ option_and_then (λ n. peer_numbered n b.network.peers) (peer_changed c)
    → after.purses.items ≡ purses_after c place b.purses.items → after.buckets.items ≡ levels_after c place clock b.buckets.items
    → RunningFollows b after (change_record c now)
changed_follows laws b d c now clock place k at present inside value purses buckets =
    let s : State = state_of b in
    let is = place_kept b c place k inside value in
    let there : names_present (network_of s) c ≡ true = ap (λ (n : Net). names_present n c) (sym k.network) ∙ present in
    let clock_here : clock ≡ clock_after s now = at ∙ ap (λ n. max n now) k.clock in
    record {
      purses = purses ∙ (ap (purses_after c place) k.purses ∙ purses_followed s c now place k.named is);
      buckets = subst (λ (ls : List Level). AreLevels (after s c now) (network_of (after s c now)).peers ls) (sym (buckets ∙ ap (λ n. levels_after c place n b.buckets.items) clock_here))
          (levels_followed laws s c now place b.buckets.items k.sound.network is k.buckets);
      named = named_followed s c now k.sound.network there k.named;
    }
