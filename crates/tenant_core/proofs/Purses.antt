-- Purses keep their bounds.
use Rattle.std.proofs.Common.{◌≡◌, ℕ, ◌+◌, ◌<◌, ◌≤◌, ℤ, pos, negsuc, ◌+ℤ◌, ◌-ℤ◌, ◌≤ℤ◌, Bool, true, false, cond, eqb, List, [], ◌∷◌, ◌++◌, length, get_or, map, arith, refl, sym, ap, subst, ◌∙◌}
use Rattle.std.proofs.Common.{le_refl, le_of_eq, le_antisymm, add-zero}
use Rattle.std.specs.Prelude.{Some, None, int_lt, IfSome, find, neg_ℤ, unsigned_abs, ◌&&◌, sum_by, count_by, nat_le}
use Rattle.std.specs.List.{All}
use Rattle.std.proofs.lemmas.List.Elements.{All-tail}
use Rattle.std.proofs.Math.ListN.{set}
use Rattle.std.proofs.lemmas.Bool.{and_parts, leb-true, eqb-true}
use Rattle.std.proofs.lemmas.List.Folds.{fold-map}
use Rattle.std.proofs.lemmas.List.Sums.{sum_by_push, sum_by-set, sum_by-le-sum_by}
use Rattle.std.proofs.lemmas.Int.{ints}
use Rattle.tenant_core.specs.declared.hold.Fate.{Fate}
use Rattle.tenant_core.specs.declared.hold.Fate.TheVariants.{Held, Marked, Ended}
use Rattle.tenant_core.specs.declared.hold.Hold.{Hold}
use Rattle.tenant_core.specs.declared.terms.PeerTerms.{PeerTerms}
use Rattle.tenant_core.specs.declared.peer.Peer.{Peer}
use Rattle.std.specs.Option.{option_or}
use Rattle.std.specs.Int.Signed.{lt_z_no}
use Rattle.std.proofs.lemmas.Float.{T_from_false}
use Rattle.tenant_core.specs.declared.command.Side.TheVariants.{In, Out}
use Rattle.tenant_core.specs.declared.faults.CommandFault.{CommandFault}
use Rattle.tenant_core.specs.declared.faults.CommandFault.TheVariants.{Limit}
use Rattle.tenant_core.specs.declared.journal.Change.{Change as Changed}
use Rattle.tenant_core.specs.declared.journal.Change.TheVariants.{PeerAdded, PeerRemoved, LimitsSet, BucketSet}
use Rattle.tenant_core.specs.declared.journal.Change.TheVariants.{RouteAdded, RouteRemoved, RateSet, Settled}
use Rattle.tenant_core.specs.Orders.{change_record, change_refusal, is_too_much}
use Rattle.tenant_core.specs.Present.{network_of}
use Rattle.tenant_core.specs.declared.journal.Record.{Record}
use Rattle.tenant_core.specs.declared.verdict.Verdict.{Verdict}
use Rattle.tenant_core.specs.declared.verdict.Verdict.TheVariants.{Unknown, NoRoom, Refuse, Forward, Fulfil, Relay}
use Rattle.tenant_core.specs.Holds.{holds_of, next_hold, begun_by, is_open, with_fate, hold_ticked, holds_amounts, took_amounts, awaits_answer}
use Rattle.tenant_core.specs.Key.{Key}
use Rattle.money_core.specs.Account.{max_money}
use Rattle.tenant_core.specs.Network.{IsNetwork, peer_numbered}
use Rattle.tenant_core.specs.State.{State, recorded, extended}
use Rattle.tenant_core.specs.Terms.{are_terms_within, is_balance_within}
use Rattle.tenant_core.specs.Purse.{IsWithinBounds, balance_of, base_of, settled_in, settled_out, opening_balance, held_in_of, held_out_of, held_from, held_for, taken_from, taken_for}
use Rattle.tenant_core.specs.Judge.{decide_entry, decide_record}
use Rattle.tenant_core.proofs.Courses.{holds_of-decide, holds_of-change}

-- ---- the limits of peers

abbrev IsSmall : ℤ → Type 0
IsSmall b = (b ≤ℤ pos max_money) × (neg_ℤ (pos max_money) ≤ℤ b)

-- what the limits of a setup say of a peer's money
pub record HasLimits (p : PeerTerms) : Type 0 where
  pub ceiling : p.limits.ceiling ≤ max_money
  pub credit : p.limits.credit ≤ max_money

small : (b : ℤ) → unsigned_abs b ≤ max_money → IsSmall b
small (pos n) e = (omega (arith, ints), omega (arith, ints))
small (negsuc n) e = (omega (arith, ints), omega (arith, ints))

pub has_limits : (p : PeerTerms) → are_terms_within p ≡ true → HasLimits p
has_limits p e =
    let money = (and_parts _ _ (and_parts _ _ e).0).0 in
    let others = (and_parts _ _ money).0 in
    record { ceiling = leb-true _ _ (and_parts _ _ others).1; credit = leb-true _ _ (and_parts _ _ money).1 }

-- the terms of a peer are within the limits of a setup
abbrev pub has_terms_within : Peer → Bool
has_terms_within p = are_terms_within p.terms

-- those of each peer are
abbrev pub AreLimited : List Peer → Type 0
AreLimited ps = All (λ p. has_terms_within p ≡ true) ps

-- what is found in a list passes what each of the list does
pub found_passes : (q : Peer → Bool) (xs : List Peer) → AreLimited xs → IfSome (find q xs) (λ x. has_terms_within x ≡ true)
found_passes q [] e = tt
found_passes q (x ∷ xs) e =
    elim (q x) as (λ b. IfSome (cond b (Some x) (find q xs)) (λ y. has_terms_within y ≡ true)) [
      | true ↦ e 0 x (omega arith)
      | false ↦ found_passes q xs (All-tail (λ p. has_terms_within p ≡ true) x xs e)
    ]

opening_small : (n : ℕ) (ps : List Peer) → All (λ p. is_balance_within p.balance ≡ true) ps → IsSmall (opening_balance (peer_numbered n ps))
opening_small n [] e = small (pos 0) (omega arith)
opening_small n (p ∷ ps) e =
    elim (eqb p.number n) as (λ b. IsSmall (opening_balance (cond b (Some p) (peer_numbered n ps)))) [
      | true ↦ small p.balance (leb-true _ _ (e 0 p (omega arith)))
      | false ↦ opening_small n ps (All-tail (λ q. is_balance_within q.balance ≡ true) p ps e)
    ]

-- what was taken and what is held move within the bounds of a purse
moved_most : (b : ℤ) (ti to hi ti' to' hi' : ℕ) → hi' + ti' ≤ hi + ti → to ≤ to'
    → (((b +ℤ pos ti) -ℤ pos to) +ℤ pos hi) ≤ℤ pos max_money → (((b +ℤ pos ti') -ℤ pos to') +ℤ pos hi') ≤ℤ pos max_money
moved_most b ti to hi ti' to' hi' moved more within = omega (arith, ints)

moved_least : (b : ℤ) (ti to ho ti' to' ho' : ℕ) → ho' + to' ≤ ho + to → ti ≤ ti'
    → neg_ℤ (pos max_money) ≤ℤ (((b +ℤ pos ti) -ℤ pos to) -ℤ pos ho) → neg_ℤ (pos max_money) ≤ℤ (((b +ℤ pos ti') -ℤ pos to') -ℤ pos ho')
moved_least b ti to ho ti' to' ho' moved more within = omega (arith, ints)

start_most : (b : ℤ) → b ≤ℤ pos max_money → (((b +ℤ pos 0) -ℤ pos 0) +ℤ pos 0) ≤ℤ pos max_money
start_most b h = omega (arith, ints)

start_least : (b : ℤ) → neg_ℤ (pos max_money) ≤ℤ b → neg_ℤ (pos max_money) ≤ℤ (((b +ℤ pos 0) -ℤ pos 0) -ℤ pos 0)
start_least b h = omega (arith, ints)

-- the bounds of the purse of n that began with b, by these holds
record AreWithin (b : ℤ) (n : ℕ) (hs : List Hold) : Type 0 where
  most : (((b +ℤ pos (sum_by (taken_from n) hs)) -ℤ pos (sum_by (taken_for n) hs)) +ℤ pos (sum_by (held_from n) hs)) ≤ℤ pos max_money
  least : neg_ℤ (pos max_money) ≤ℤ (((b +ℤ pos (sum_by (taken_from n) hs)) -ℤ pos (sum_by (taken_for n) hs)) -ℤ pos (sum_by (held_for n) hs))

within_by : (s : State) (n : ℕ) (b : ℤ) (hs : List Hold) → base_of s n ≡ b → holds_of s ≡ hs → AreWithin b n hs → IsWithinBounds s n
within_by s n b hs f e w =
    let u : AreWithin (base_of s n) n hs = subst (λ c. AreWithin c n hs) (sym f) w in
    let v : AreWithin (base_of s n) n (holds_of s) = subst (λ (ks : List Hold). AreWithin (base_of s n) n ks) (sym e) u in
    record { most = v.most; least = v.least }

-- a record that settles nothing leaves what a peer owed but for its packets
pub base_after : (s : State) (r : Record) (n : ℕ) → settled_in n r ≡ 0 → settled_out n r ≡ 0 → base_of (recorded s (Some r)) n ≡ base_of s n
base_after s r n i o =
    let owed : ℤ = opening_balance (peer_numbered n s.opening.network.peers) in
    let paid : sum_by (settled_in n) (s.records ++ r ∷ []) ≡ sum_by (settled_in n) s.records = sum_by_push (settled_in n) s.records r ∙ (ap (λ k. sum_by (settled_in n) s.records + k) i ∙ add-zero (sum_by (settled_in n) s.records)) in
    let was : sum_by (settled_out n) (s.records ++ r ∷ []) ≡ sum_by (settled_out n) s.records = sum_by_push (settled_out n) s.records r ∙ (ap (λ k. sum_by (settled_out n) s.records + k) o ∙ add-zero (sum_by (settled_out n) s.records)) in
    ap (λ k. (owed -ℤ pos k) +ℤ pos (sum_by (settled_out n) (s.records ++ r ∷ []))) paid
    ∙ ap (λ k. (owed -ℤ pos (sum_by (settled_in n) s.records)) +ℤ pos k) was

base_opened : (b : ℤ) → ((b -ℤ pos 0) +ℤ pos 0) ≡ b
base_opened b = omega (arith, ints)

-- a period begins within the bounds
pub opened_within : (s : State) → s.records ≡ [] → holds_of s ≡ [] → IsNetwork s.opening.network → (n : ℕ) → IsWithinBounds s n
opened_within s empty none net n =
    let b : ℤ = opening_balance (peer_numbered n s.opening.network.peers) in
    let is : IsSmall b = opening_small n s.opening.network.peers net.balances in
    let base : base_of s n ≡ b = ap (λ (rs : List Record). (b -ℤ pos (sum_by (settled_in n) rs)) +ℤ pos (sum_by (settled_out n) rs)) empty ∙ base_opened b in
    within_by s n b [] base none (record { most = start_most b is.0; least = start_least b is.1 })

-- ---- a packet goes on

-- what a verdict holds keeps the bounds of both purses, and holds are numbered on
abbrev pub IsPaid : State → ℕ → ℕ → Verdict → Type 0
IsPaid s from amount Unknown = Unit {0}
IsPaid s from amount NoRoom = Unit {0}
IsPaid s from amount (Refuse code amounts) = Unit {0}
IsPaid s from amount (Forward hold peer price expiry) =
    ((balance_of s from +ℤ pos (held_in_of s from + amount)) ≤ℤ pos max_money)
    × (neg_ℤ (pos max_money) ≤ℤ (balance_of s peer -ℤ pos (held_out_of s peer + price)))
    × (hold ≡ next_hold s)
IsPaid s from amount Fulfil = Unit {0}
IsPaid s from amount Relay = Unit {0}

most_after : (s : State) (from amount n : ℕ) (t : Bool) → eqb from n ≡ t → IsWithinBounds s n
    → (balance_of s from +ℤ pos (held_in_of s from + amount)) ≤ℤ pos max_money
    → (balance_of s n +ℤ pos (held_in_of s n + cond t amount 0)) ≤ℤ pos max_money
most_after s from amount n false e within paid = rw (add-zero (held_in_of s n)) within.most
most_after s from amount n true e within paid =
    subst (λ k. (balance_of s k +ℤ pos (held_in_of s k + amount)) ≤ℤ pos max_money) (eqb-true from n e) paid

least_after : (s : State) (peer price n : ℕ) (t : Bool) → eqb peer n ≡ t → IsWithinBounds s n
    → neg_ℤ (pos max_money) ≤ℤ (balance_of s peer -ℤ pos (held_out_of s peer + price))
    → neg_ℤ (pos max_money) ≤ℤ (balance_of s n -ℤ pos (held_out_of s n + cond t price 0))
least_after s peer price n false e within paid = rw (add-zero (held_out_of s n)) within.least
least_after s peer price n true e within paid =
    subst (λ k. neg_ℤ (pos max_money) ≤ℤ (balance_of s k -ℤ pos (held_out_of s k + price))) (eqb-true peer n e) paid

pushed_within : (s : State) (h : Hold) (n : ℕ) → h.fate ≡ Held → IsWithinBounds s n
    → (balance_of s h.from +ℤ pos (held_in_of s h.from + h.amount)) ≤ℤ pos max_money
    → neg_ℤ (pos max_money) ≤ℤ (balance_of s h.to -ℤ pos (held_out_of s h.to + h.price))
    → AreWithin (base_of s n) n (holds_of s ++ h ∷ [])
pushed_within s h n held within most least =
    let b : ℤ = base_of s n in
    let hs : List Hold = holds_of s in
    let ks : List Hold = hs ++ h ∷ [] in
    let ti : sum_by (taken_from n) ks ≡ sum_by (taken_from n) hs + 0 =
    sum_by_push (taken_from n) hs h ∙ ap (λ (f : Fate). sum_by (taken_from n) hs + cond (took_amounts f && eqb h.from n) h.amount 0) held in
    let to : sum_by (taken_for n) ks ≡ sum_by (taken_for n) hs + 0 =
    sum_by_push (taken_for n) hs h ∙ ap (λ (f : Fate). sum_by (taken_for n) hs + cond (took_amounts f && eqb h.to n) h.price 0) held in
    let hi : sum_by (held_from n) ks ≡ sum_by (held_from n) hs + cond (eqb h.from n) h.amount 0 =
    sum_by_push (held_from n) hs h ∙ ap (λ (f : Fate). sum_by (held_from n) hs + cond (holds_amounts f && eqb h.from n) h.amount 0) held in
    let ho : sum_by (held_for n) ks ≡ sum_by (held_for n) hs + cond (eqb h.to n) h.price 0 =
    sum_by_push (held_for n) hs h ∙ ap (λ (f : Fate). sum_by (held_for n) hs + cond (holds_amounts f && eqb h.to n) h.price 0) held in
    let up = most_after s h.from h.amount n (eqb h.from n) refl within most in
    let down = least_after s h.to h.price n (eqb h.to n) refl within least in
    let brought = sum_by (taken_from n) hs in
    let sent = sum_by (taken_for n) hs in
    let held_in = sum_by (held_from n) hs + cond (eqb h.from n) h.amount 0 in
    let held_out = sum_by (held_for n) hs + cond (eqb h.to n) h.price 0 in
    record {
      most = moved_most b brought sent held_in (sum_by (taken_from n) ks) (sum_by (taken_for n) ks) (sum_by (held_from n) ks) (omega arith) (omega arith) up;
      least = moved_least b brought sent held_out (sum_by (taken_from n) ks) (sum_by (taken_for n) ks) (sum_by (held_for n) ks) (omega arith) (omega arith) down;
    }

pub decided_within : (s : State) (from : ℕ) (key : Key) (now : ℕ) (v : Verdict) → IsPaid s from key.amount v → (n : ℕ) → IsWithinBounds s n
    → IsWithinBounds (recorded s (Some (decide_record from key now v))) n
decided_within s from key now v paid n within = by v paid (holds_of-decide s from key now v)
  where
    b : ℤ
    b = base_of s n

    base : (v : Verdict) → base_of (recorded s (Some (decide_record from key now v))) n ≡ b
    base v = base_after s (decide_record from key now v) n refl refl

    same : AreWithin b n (holds_of s)
    same = record { most = within.most; least = within.least }

    by : (v : Verdict) → IsPaid s from key.amount v → holds_of (recorded s (Some (decide_record from key now v))) ≡ extended (holds_of s) (begun_by (decide_entry from key now) v)
        → IsWithinBounds (recorded s (Some (decide_record from key now v))) n
    by Unknown paid e = within_by (recorded s (Some (decide_record from key now Unknown))) n b (holds_of s) (base Unknown) e same
    by NoRoom paid e = within_by (recorded s (Some (decide_record from key now NoRoom))) n b (holds_of s) (base NoRoom) e same
    by (Refuse code amounts) paid e = within_by (recorded s (Some (decide_record from key now (Refuse code amounts)))) n b (holds_of s) (base (Refuse code amounts)) e same
    by Fulfil paid e = within_by (recorded s (Some (decide_record from key now Fulfil))) n b (holds_of s) (base Fulfil) e same
    by Relay paid e = within_by (recorded s (Some (decide_record from key now Relay))) n b (holds_of s) (base Relay) e same
    by (Forward hold peer price expiry) paid e =
        let h : Hold = record { number = hold; from = from; to = peer; amount = key.amount; price = price; expiry = expiry; condition = key.condition; fate = Held } in
        within_by (recorded s (Some (decide_record from key now (Forward hold peer price expiry)))) n b (holds_of s ++ h ∷ []) (base (Forward hold peer price expiry)) e (pushed_within s h n refl within paid.0 paid.1)

-- ---- holds are released or taken

-- what leaves the held amounts of the purse of n comes to the taken ones at most
pub record IsMoved (n : ℕ) (hs ks : List Hold) : Type 0 where
  pub incoming : sum_by (held_from n) ks + sum_by (taken_from n) ks ≤ sum_by (held_from n) hs + sum_by (taken_from n) hs
  pub outgoing : sum_by (held_for n) ks + sum_by (taken_for n) ks ≤ sum_by (held_for n) hs + sum_by (taken_for n) hs
  pub brought : sum_by (taken_from n) hs ≤ sum_by (taken_from n) ks
  pub sent : sum_by (taken_for n) hs ≤ sum_by (taken_for n) ks

pub moved_within : (s : State) (r : Record) (ks : List Hold) (n : ℕ) → settled_in n r ≡ 0 → settled_out n r ≡ 0
    → holds_of (recorded s (Some r)) ≡ ks → IsMoved n (holds_of s) ks → IsWithinBounds s n → IsWithinBounds (recorded s (Some r)) n
moved_within s r ks n i o e m within =
    let b : ℤ = base_of s n in
    let hs : List Hold = holds_of s in
    let brought = sum_by (taken_from n) hs in
    let sent = sum_by (taken_for n) hs in
    let brought' = sum_by (taken_from n) ks in
    let sent' = sum_by (taken_for n) ks in
    within_by (recorded s (Some r)) n b ks (base_after s r n i o) e (record {
      most = moved_most b brought sent (sum_by (held_from n) hs) brought' sent' (sum_by (held_from n) ks) m.incoming m.sent within.most;
      least = moved_least b brought sent (sum_by (held_for n) hs) brought' sent' (sum_by (held_for n) ks) m.outgoing m.brought within.least;
    })

-- a hold that ends takes no more than it held
taken_le_held : (f : Fate) (b t : Bool) (x : ℕ) → (b ≡ true → holds_amounts f ≡ true) → cond (b && t) x 0 ≤ cond (holds_amounts f && t) x 0
taken_le_held f false t x h = omega arith
taken_le_held f true t x h = rw (h refl) (le_refl (cond t x 0))

pub open_takes_nothing : (f : Fate) (t : Bool) (x : ℕ) → awaits_answer f ≡ true → cond (took_amounts f && t) x 0 ≡ 0
open_takes_nothing Held t x e = refl
open_takes_nothing Marked t x e = refl
open_takes_nothing (Ended b) t x e = absurd cc

pub ended_moves : (n : ℕ) (hs : List Hold) (i : ℕ) (h : Hold) (b : Bool) → i < length hs → get_or hs i h ≡ h → is_open h ≡ true
    → (b ≡ true → holds_amounts h.fate ≡ true) → IsMoved n hs (set hs i (with_fate h (Ended b)))
ended_moves n hs i h b l place «open» held =
    let y : Hold = with_fate h (Ended b) in
    let hi : sum_by (held_from n) (set hs i y) + held_from n h ≡ sum_by (held_from n) hs + 0 = rw place at (sum_by-set (held_from n) hs i y h l) in
    let ho : sum_by (held_for n) (set hs i y) + held_for n h ≡ sum_by (held_for n) hs + 0 = rw place at (sum_by-set (held_for n) hs i y h l) in
    let ti : sum_by (taken_from n) (set hs i y) + taken_from n h ≡ sum_by (taken_from n) hs + taken_from n y = rw place at (sum_by-set (taken_from n) hs i y h l) in
    let to : sum_by (taken_for n) (set hs i y) + taken_for n h ≡ sum_by (taken_for n) hs + taken_for n y = rw place at (sum_by-set (taken_for n) hs i y h l) in
    let nothing_in : taken_from n h ≡ 0 = open_takes_nothing h.fate (eqb h.from n) h.amount «open» in
    let nothing_out : taken_for n h ≡ 0 = open_takes_nothing h.fate (eqb h.to n) h.price «open» in
    let incoming : taken_from n y ≤ held_from n h = taken_le_held h.fate b (eqb h.from n) h.amount held in
    let outgoing : taken_for n y ≤ held_for n h = taken_le_held h.fate b (eqb h.to n) h.price held in
    ended_numbers n hs (set hs i y) (held_from n h) (taken_from n y) (held_for n h) (taken_for n y) (taken_from n h) (taken_for n h) hi ho ti to nothing_in nothing_out incoming outgoing
  where
    ended_numbers : (n : ℕ) (hs ks : List Hold) (hf tf hg tg z w : ℕ) → sum_by (held_from n) ks + hf ≡ sum_by (held_from n) hs + 0 → sum_by (held_for n) ks + hg ≡ sum_by (held_for n) hs + 0
        → sum_by (taken_from n) ks + z ≡ sum_by (taken_from n) hs + tf → sum_by (taken_for n) ks + w ≡ sum_by (taken_for n) hs + tg
        → z ≡ 0 → w ≡ 0 → tf ≤ hf → tg ≤ hg → IsMoved n hs ks
    ended_numbers n hs ks hf tf hg tg z w hi ho ti to zi zo li lo =
        record { incoming = omega arith; outgoing = omega arith; brought = omega arith; sent = omega arith }

-- ---- ticks

sum_by-map : (f : Hold → ℕ) (g : Hold → Hold) (hs : List Hold) → sum_by f (map g hs) ≡ sum_by (λ h. f (g h)) hs
sum_by-map f g hs = fold-map (λ a h. a + f h) g 0 hs

pub sum_by-map-same : (f : Hold → ℕ) (g : Hold → Hold) (hs : List Hold) → ((h : Hold) → f (g h) ≡ f h) → sum_by f (map g hs) ≡ sum_by f hs
sum_by-map-same f g hs same =
    let most = sum_by-le-sum_by (λ h. f (g h)) f hs (λ h. le_of_eq (same h)) in
    let least = sum_by-le-sum_by f (λ h. f (g h)) hs (λ h. le_of_eq (sym (same h))) in
    sum_by-map f g hs ∙ le_antisymm most least

sum_by-map-le : (f : Hold → ℕ) (g : Hold → Hold) (hs : List Hold) → ((h : Hold) → f (g h) ≤ f h) → sum_by f (map g hs) ≤ sum_by f hs
sum_by-map-le f g hs less = subst (λ n. n ≤ sum_by f hs) (sym (sum_by-map f g hs)) (sum_by-le-sum_by (λ h. f (g h)) f hs less)

ticked_holds_less : (f : Fate) (b t : Bool) (x : ℕ) → cond (holds_amounts (cond (holds_amounts f && b) Marked f) && t) x 0 ≤ cond (holds_amounts f && t) x 0
ticked_holds_less Held true t x = omega arith
ticked_holds_less Held false t x = le_refl (cond t x 0)
ticked_holds_less Marked b t x = omega arith
ticked_holds_less (Ended c) b t x = omega arith

ticked_takes : (f : Fate) (b t : Bool) (x : ℕ) → cond (took_amounts (cond (holds_amounts f && b) Marked f) && t) x 0 ≡ cond (took_amounts f && t) x 0
ticked_takes Held true t x = refl
ticked_takes Held false t x = refl
ticked_takes Marked b t x = refl
ticked_takes (Ended c) b t x = refl

pub ticked_awaits : (f : Fate) (b : Bool) → awaits_answer (cond (holds_amounts f && b) Marked f) ≡ awaits_answer f
ticked_awaits Held true = refl
ticked_awaits Held false = refl
ticked_awaits Marked b = refl
ticked_awaits (Ended c) b = refl

pub ticked_moves : (n clock : ℕ) (hs : List Hold) → IsMoved n hs (map (hold_ticked clock) hs)
ticked_moves n clock hs =
    let hi = sum_by-map-le (held_from n) (hold_ticked clock) hs (λ h. ticked_holds_less h.fate (nat_le h.expiry clock) (eqb h.from n) h.amount) in
    let ho = sum_by-map-le (held_for n) (hold_ticked clock) hs (λ h. ticked_holds_less h.fate (nat_le h.expiry clock) (eqb h.to n) h.price) in
    let ti = sum_by-map-same (taken_from n) (hold_ticked clock) hs (λ h. ticked_takes h.fate (nat_le h.expiry clock) (eqb h.from n) h.amount) in
    let to = sum_by-map-same (taken_for n) (hold_ticked clock) hs (λ h. ticked_takes h.fate (nat_le h.expiry clock) (eqb h.to n) h.price) in
    record { incoming = omega arith; outgoing = omega arith; brought = le_of_eq (sym ti); sent = le_of_eq (sym to) }

pub ticked_count : (clock : ℕ) (hs : List Hold) → count_by is_open (map (hold_ticked clock) hs) ≡ count_by is_open hs
ticked_count clock hs =
    sum_by-map-same (λ h. cond (is_open h) 1 0) (hold_ticked clock) hs (λ h. ap (λ (t : Bool). cond t 1 0) (ticked_awaits h.fate (nat_le h.expiry clock)))

-- ---- an order was accepted

-- what was settled of the peer of that number leaves the bounds of its purse
paid_within : (s : State) (r : Record) (n amount : ℕ) → settled_in n r ≡ amount → settled_out n r ≡ 0 → holds_of (recorded s (Some r)) ≡ holds_of s
    → neg_ℤ (pos max_money) ≤ℤ (balance_of s n -ℤ pos (held_out_of s n + amount)) → IsWithinBounds s n → IsWithinBounds (recorded s (Some r)) n
paid_within s r n amount i o holds least within =
    let owed : ℤ = opening_balance (peer_numbered n s.opening.network.peers) in
    let si = sum_by (settled_in n) s.records in
    let so = sum_by (settled_out n) s.records in
    let paid : sum_by (settled_in n) (s.records ++ r ∷ []) ≡ si + amount = sum_by_push (settled_in n) s.records r ∙ ap (λ k. si + k) i in
    let was : sum_by (settled_out n) (s.records ++ r ∷ []) ≡ so = sum_by_push (settled_out n) s.records r ∙ (ap (λ k. so + k) o ∙ add-zero so) in
    let base : base_of (recorded s (Some r)) n ≡ (base_of s n -ℤ pos amount) =
    ap (λ k. (owed -ℤ pos k) +ℤ pos (sum_by (settled_out n) (s.records ++ r ∷ []))) paid
    ∙ (ap (λ k. (owed -ℤ pos (si + amount)) +ℤ pos k) was ∙ less owed si so amount) in
    within_by (recorded s (Some r)) n (base_of s n -ℤ pos amount) (holds_of s) base holds (record {
      most = less_most (base_of s n) amount (sum_by (taken_from n) (holds_of s)) (sum_by (taken_for n) (holds_of s)) (sum_by (held_from n) (holds_of s)) within.most;
      least = less_least (base_of s n) amount (sum_by (taken_from n) (holds_of s)) (sum_by (taken_for n) (holds_of s)) (sum_by (held_for n) (holds_of s)) least;
    })
  where
    less : (owed : ℤ) (si so a : ℕ) → ((owed -ℤ pos (si + a)) +ℤ pos so) ≡ (((owed -ℤ pos si) +ℤ pos so) -ℤ pos a)
    less owed si so a = omega (arith, ints)

    less_most : (b : ℤ) (a ti to hi : ℕ) → (((b +ℤ pos ti) -ℤ pos to) +ℤ pos hi) ≤ℤ pos max_money → ((((b -ℤ pos a) +ℤ pos ti) -ℤ pos to) +ℤ pos hi) ≤ℤ pos max_money
    less_most b a ti to hi h = omega (arith, ints)

    less_least : (b : ℤ) (a ti to ho : ℕ) → neg_ℤ (pos max_money) ≤ℤ (((b +ℤ pos ti) -ℤ pos to) -ℤ pos (ho + a)) → neg_ℤ (pos max_money) ≤ℤ ((((b -ℤ pos a) +ℤ pos ti) -ℤ pos to) -ℤ pos ho)
    less_least b a ti to ho h = omega (arith, ints)

got_within : (s : State) (r : Record) (n amount : ℕ) → settled_in n r ≡ 0 → settled_out n r ≡ amount → holds_of (recorded s (Some r)) ≡ holds_of s
    → (balance_of s n +ℤ pos (held_in_of s n + amount)) ≤ℤ pos max_money → IsWithinBounds s n → IsWithinBounds (recorded s (Some r)) n
got_within s r n amount i o holds most within =
    let owed : ℤ = opening_balance (peer_numbered n s.opening.network.peers) in
    let si = sum_by (settled_in n) s.records in
    let so = sum_by (settled_out n) s.records in
    let paid : sum_by (settled_in n) (s.records ++ r ∷ []) ≡ si = sum_by_push (settled_in n) s.records r ∙ (ap (λ k. si + k) i ∙ add-zero si) in
    let was : sum_by (settled_out n) (s.records ++ r ∷ []) ≡ so + amount = sum_by_push (settled_out n) s.records r ∙ ap (λ k. so + k) o in
    let base : base_of (recorded s (Some r)) n ≡ (base_of s n +ℤ pos amount) =
    ap (λ k. (owed -ℤ pos k) +ℤ pos (sum_by (settled_out n) (s.records ++ r ∷ []))) paid
    ∙ (ap (λ k. (owed -ℤ pos si) +ℤ pos k) was ∙ more owed si so amount) in
    within_by (recorded s (Some r)) n (base_of s n +ℤ pos amount) (holds_of s) base holds (record {
      most = more_most (base_of s n) amount (sum_by (taken_from n) (holds_of s)) (sum_by (taken_for n) (holds_of s)) (sum_by (held_from n) (holds_of s)) most;
      least = more_least (base_of s n) amount (sum_by (taken_from n) (holds_of s)) (sum_by (taken_for n) (holds_of s)) (sum_by (held_for n) (holds_of s)) within.least;
    })
  where
    more : (owed : ℤ) (si so a : ℕ) → ((owed -ℤ pos si) +ℤ pos (so + a)) ≡ (((owed -ℤ pos si) +ℤ pos so) +ℤ pos a)
    more owed si so a = omega (arith, ints)

    more_most : (b : ℤ) (a ti to hi : ℕ) → (((b +ℤ pos ti) -ℤ pos to) +ℤ pos (hi + a)) ≤ℤ pos max_money → ((((b +ℤ pos a) +ℤ pos ti) -ℤ pos to) +ℤ pos hi) ≤ℤ pos max_money
    more_most b a ti to hi h = omega (arith, ints)

    more_least : (b : ℤ) (a ti to ho : ℕ) → neg_ℤ (pos max_money) ≤ℤ (((b +ℤ pos ti) -ℤ pos to) -ℤ pos ho) → neg_ℤ (pos max_money) ≤ℤ ((((b +ℤ pos a) +ℤ pos ti) -ℤ pos to) -ℤ pos ho)
    more_least b a ti to ho h = omega (arith, ints)

not_over : (a b : ℤ) → int_lt a b ≡ false → b ≤ℤ a
not_over a b e = let l = lt_z_no {a = a} {b = b} (T_from_false _ e) in omega (arith, ints)

not_under : (a b : ℤ) → int_lt a b ≡ false → b ≤ℤ a
not_under a b e = not_over a b e

unrefused : (b : Bool) (f : CommandFault) → option_or (cond b (Some f) None) None ≡ None → b ≡ false
unrefused true f e = absurd cc
unrefused false f e = refl

pub changed_within : (s : State) (c : Changed) (now n : ℕ) → change_refusal s (network_of s) c ≡ None → IsWithinBounds s n
    → IsWithinBounds (recorded s (Some (change_record c now))) n
changed_within s c now n allowed within = by c allowed (holds_of-change s c now)
  where
    b : ℤ
    b = base_of s n

    same : AreWithin b n (holds_of s)
    same = record { most = within.most; least = within.least }

    plain : (c : Changed) → settled_in n (change_record c now) ≡ 0 → settled_out n (change_record c now) ≡ 0
        → holds_of (recorded s (Some (change_record c now))) ≡ holds_of s → IsWithinBounds (recorded s (Some (change_record c now))) n
    plain c i o e = within_by (recorded s (Some (change_record c now))) n b (holds_of s) (base_after s (change_record c now) n i o) e same

    zero_unless : (t : Bool) (x : ℕ) → t ≡ false → cond t x 0 ≡ 0
    zero_unless t x e = rw e refl

    all_where : (t : Bool) (x : ℕ) → t ≡ true → cond t x 0 ≡ x
    all_where t x e = rw e refl

    settles_in : (p amount : ℕ) (t : Bool) → eqb p n ≡ t → is_too_much s p In amount ≡ false
        → holds_of (recorded s (Some (change_record (Settled p In amount) now))) ≡ holds_of s → IsWithinBounds (recorded s (Some (change_record (Settled p In amount) now))) n
    settles_in p amount false e little holds = plain (Settled p In amount) (zero_unless (eqb p n) amount e) refl holds
    settles_in p amount true e little holds =
        paid_within s (change_record (Settled p In amount) now) n amount (all_where (eqb p n) amount e) refl holds
        (subst (λ k. neg_ℤ (pos max_money) ≤ℤ (balance_of s k -ℤ pos (held_out_of s k + amount))) (eqb-true p n e)
        (not_under _ _ little)) within

    settles_out : (p amount : ℕ) (t : Bool) → eqb p n ≡ t → is_too_much s p Out amount ≡ false
        → holds_of (recorded s (Some (change_record (Settled p Out amount) now))) ≡ holds_of s → IsWithinBounds (recorded s (Some (change_record (Settled p Out amount) now))) n
    settles_out p amount false e little holds = plain (Settled p Out amount) refl (zero_unless (eqb p n) amount e) holds
    settles_out p amount true e little holds =
        got_within s (change_record (Settled p Out amount) now) n amount refl (all_where (eqb p n) amount e) holds
        (subst (λ k. (balance_of s k +ℤ pos (held_in_of s k + amount)) ≤ℤ pos max_money) (eqb-true p n e)
        (not_over _ _ little)) within

    by : (c : Changed) → change_refusal s (network_of s) c ≡ None → holds_of (recorded s (Some (change_record c now))) ≡ holds_of s
        → IsWithinBounds (recorded s (Some (change_record c now))) n
    by (PeerAdded t) a e = plain (PeerAdded t) refl refl e
    by (PeerRemoved p) a e = plain (PeerRemoved p) refl refl e
    by (LimitsSet p l) a e = plain (LimitsSet p l) refl refl e
    by (BucketSet p k) a e = plain (BucketSet p k) refl refl e
    by (RouteAdded x hop) a e = plain (RouteAdded x hop) refl refl e
    by (RouteRemoved x) a e = plain (RouteRemoved x) refl refl e
    by (RateSet r) a e = plain (RateSet r) refl refl e
    by (Settled p In amount) a e = settles_in p amount (eqb p n) refl (unrefused (is_too_much s p In amount) Limit a) e
    by (Settled p Out amount) a e = settles_out p amount (eqb p n) refl (unrefused (is_too_much s p Out amount) Limit a) e
