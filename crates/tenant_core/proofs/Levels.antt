-- Buckets and their stretches, one record more.
use Rattle.std.proofs.Common.{◌≡◌, ℕ, zero, suc, ◌≤◌, Bool, true, false, cond, eqb, List, [], ◌∷◌, ◌++◌, length, map, refl, sym, ap, ◌∙◌, subst, arith, drop, le_refl}
use Rattle.std.specs.Prelude.{option_map, Some, max, fold, ◌&&◌, not, nat_le}
use Rattle.std.specs.List.{list_all, slice_get}
use Rattle.std.proofs.lemmas.Bool.{and_parts, eq-eqb, eqb-true, ne_eqb, leb-true}
use Rattle.std.proofs.lemmas.List.{length_push, drop-append-le, length-map}
use Rattle.std.proofs.lemmas.List.Sums.{fold_push}
use Rattle.std.proofs.lemmas.Option.{slice_get-map}
use Rattle.rate_bucket.specs.Bucket.{packet, is_admitted}
use Rattle.rate_bucket.specs.Running.{Level, IsLevelOf, RunningLaws, credit_by, left_by}
use Rattle.tenant_core.specs.Bucket.{admits, admitted_clocks, bucket_of, is_limited, stretch_of}
use Rattle.tenant_core.specs.ChangedAt.{changed_at}
use Rattle.tenant_core.specs.Following.{charged}
use Rattle.tenant_core.specs.Judge.{decide_record}
use Rattle.tenant_core.specs.Key.{Key}
use Rattle.tenant_core.specs.Reopening.{is_fresh}
use Rattle.tenant_core.specs.Running.{AreLevels, IsLevel, opened_level}
use Rattle.tenant_core.specs.State.{State, opened, clock_of, later, is_of, recorded}
use Rattle.tenant_core.specs.declared.journal.Record.{Record}
use Rattle.tenant_core.specs.declared.opening.Opening.{Opening}
use Rattle.tenant_core.specs.declared.peer.Peer.{Peer}
use Rattle.tenant_core.specs.declared.verdict.Verdict.{Verdict}
use Rattle.tenant_core.proofs.ChangedLists.{IsPlaceOf}

-- ---- the clocks of admitted packets, one record more

admitted_push : (n clock : ℕ) (rs : List Record) (r : Record)
    → admitted_clocks n clock (rs ++ r ∷ []) ≡ admitted_clocks n clock rs ++ cond (is_of n r.entry && admits r.outcome) (later (fold later clock rs) r ∷ []) []
admitted_push n clock [] r = by (is_of n r.entry && admits r.outcome)
  where
    by : (t : Bool) → cond t (later clock r ∷ []) [] ≡ [] ++ cond t (later clock r ∷ []) []
    by true = refl
    by false = refl
admitted_push n clock (x ∷ rs) r = by (is_of n x.entry && admits x.outcome) (admitted_push n (later clock x) rs r)
  where
    ats : List ℕ
    ats = admitted_clocks n (later clock x) (rs ++ r ∷ [])

    bs : List ℕ
    bs = admitted_clocks n (later clock x) rs

    more : List ℕ
    more = cond (is_of n r.entry && admits r.outcome) (later (fold later clock (x ∷ rs)) r ∷ []) []

    by : (t : Bool) → ats ≡ bs ++ more → cond t (later clock x ∷ ats) ats ≡ cond t (later clock x ∷ bs) bs ++ more
    by true e = ap (λ xs. later clock x ∷ xs) e
    by false e = e

-- the records since a level was taken, one more
dropped_more : (s : State) (r : Record) (n : ℕ) → n ≤ length s.records → drop n (recorded s (Some r)).records ≡ drop n s.records ++ r ∷ []
dropped_more s r n l = drop-append-le n s.records (r ∷ []) l

told_more : (s : State) (r : Record) (p : Peer) (l : Level) → IsLevel s p l
    → fold later p.bucket.clock (drop p.bucket.entries (recorded s (Some r)).records) ≡ clock_of (recorded s (Some r))
told_more s r p l is =
    ap (fold later p.bucket.clock) (dropped_more s r p.bucket.entries is.entries)
    ∙ (fold_push later p.bucket.clock (drop p.bucket.entries s.records) r
    ∙ (ap (λ k. later k r) is.told ∙ sym (fold_push later s.opening.clock s.records r)))

entries_more : (s : State) (r : Record) (n : ℕ) → n ≤ length s.records → n ≤ length (recorded s (Some r)).records
entries_more s r n l = let longer = length_push s.records r in omega arith

clock_more : (s : State) (r : Record) (n : ℕ) → n ≤ clock_of s → n ≤ clock_of (recorded s (Some r))
clock_more s r n l = let more : clock_of (recorded s (Some r)) ≡ later (clock_of s) r = fold_push later s.opening.clock s.records r in omega arith

admitted_more : (s : State) (r : Record) (p : Peer) (l : Level) → IsLevel s p l
    → admitted_clocks p.number p.bucket.clock (drop p.bucket.entries (recorded s (Some r)).records)
    ≡ (stretch_of s p).admitted ++ cond (is_of p.number r.entry && admits r.outcome) (later (clock_of s) r ∷ []) []
admitted_more s r p l is =
    ap (admitted_clocks p.number p.bucket.clock) (dropped_more s r p.bucket.entries is.entries)
    ∙ (admitted_push p.number p.bucket.clock (drop p.bucket.entries s.records) r
    ∙ ap (λ k. (stretch_of s p).admitted ++ cond (is_of p.number r.entry && admits r.outcome) (later k r ∷ []) []) is.told)

append-nil : (ats : List ℕ) → ats ++ [] ≡ ats
append-nil [] = refl
append-nil (x ∷ xs) = ap (λ ys. x ∷ ys) (append-nil xs)

-- a record that says of no packet that the peer's bucket admitted it leaves the stretch
pub level_stays : (s : State) (r : Record) (p : Peer) (l : Level) → (is_of p.number r.entry && admits r.outcome) ≡ false → IsLevel s p l
    → IsLevel (recorded s (Some r)) p l
level_stays s r p l none is =
    let same : admitted_clocks p.number p.bucket.clock (drop p.bucket.entries (recorded s (Some r)).records) ≡ (stretch_of s p).admitted =
    admitted_more s r p l is ∙ (ap (λ (t : Bool). (stretch_of s p).admitted ++ cond t (later (clock_of s) r ∷ []) []) none ∙ append-nil (stretch_of s p).admitted) in
    record {
      stretch = subst (λ ats. IsLevelOf (record (stretch_of s p) { admitted = ats }) l) (sym same) is.stretch;
      clock = clock_more s r l.clock is.clock;
      entries = entries_more s r p.bucket.entries is.entries;
      told = told_more s r p l is;
    }

-- a packet that the bucket admitted, and that paid
level_pays : (laws : RunningLaws) (s : State) (r : Record) (p : Peer) (l : Level) → (is_of p.number r.entry && admits r.outcome) ≡ true
    → packet ≤ credit_by l (later (clock_of s) r) → IsLevel s p l → IsLevel (recorded s (Some r)) p (left_by true (later (clock_of s) r) l)
level_pays laws s r p l one enough is =
    let same : admitted_clocks p.number p.bucket.clock (drop p.bucket.entries (recorded s (Some r)).records) ≡ (stretch_of s p).admitted ++ later (clock_of s) r ∷ [] =
    admitted_more s r p l is ∙ ap (λ (t : Bool). (stretch_of s p).admitted ++ cond t (later (clock_of s) r ∷ []) []) one in
    let at : clock_of (recorded s (Some r)) ≡ later (clock_of s) r = fold_push later s.opening.clock s.records r in
    let behind : l.clock ≤ later (clock_of s) r = let c = is.clock in omega arith in
    record {
      stretch = subst (λ ats. IsLevelOf (record (stretch_of s p) { admitted = ats }) (left_by true (later (clock_of s) r) l)) (sym same) (laws.admitted (stretch_of s p) l (later (clock_of s) r) is.stretch behind enough);
      clock = omega arith;
      entries = entries_more s r p.bucket.entries is.entries;
      told = told_more s r p l is;
    }

-- the bucket of a sender whose packet was decided
pub level_charged : (laws : RunningLaws) (s : State) (key : Key) (now : ℕ) (v : Verdict) (p : Peer) (l : Level)
    → is_limited v ≡ not (is_admitted (stretch_of s p) (max (clock_of s) now)) → IsLevel s p l
    → IsLevel (recorded s (Some (decide_record p.number key now v))) p (charged (max (clock_of s) now) l)
level_charged laws s key now v p l limited is = by (nat_le packet (credit_by l clock)) refl
  where
    clock : ℕ
    clock = max (clock_of s) now

    r : Record
    r = decide_record p.number key now v

    mine : eqb p.number p.number ≡ true
    mine = eq-eqb p.number p.number refl

    asked : is_admitted (stretch_of s p) clock ≡ nat_le packet (credit_by l clock)
    asked = let c = is.clock in ap (nat_le packet) (is.stretch.credit clock (omega arith))

    not_not : (b : Bool) → not (not b) ≡ b
    not_not true = refl
    not_not false = refl

    admitted : admits r.outcome ≡ nat_le packet (credit_by l clock)
    admitted = ap not limited ∙ (not_not (is_admitted (stretch_of s p) clock) ∙ asked)

    told : (t : Bool) → nat_le packet (credit_by l clock) ≡ t → (is_of p.number r.entry && admits r.outcome) ≡ t
    told t e = ap (λ b. b && admits r.outcome) mine ∙ (admitted ∙ e)

    by : (t : Bool) → nat_le packet (credit_by l clock) ≡ t → IsLevel (recorded s (Some r)) p (left_by (nat_le packet (credit_by l clock)) clock l)
    by true e = subst (λ b. IsLevel (recorded s (Some r)) p (left_by b clock l)) (sym e) (level_pays laws s r p l (told true e) (leb-true _ _ e) is)
    by false e = subst (λ b. IsLevel (recorded s (Some r)) p (left_by b clock l)) (sym e) (level_stays s r p l (told false e) is)

-- ---- all of them

pub length-changed : {X : Type 0} (f : X → X) (xs : List X) (i : ℕ) → length (changed_at f xs i) ≡ length xs
length-changed f [] i = refl
length-changed f (x ∷ xs) zero = refl
length-changed f (x ∷ xs) (suc i) = ap suc (length-changed f xs i)

-- what stands in a list of which one element changed: that element, changed, or one of the others
pub changed_cases : {X : Type 0} (P : X → Type 0) (f : X → X) (xs : List X) (i k : ℕ) (y : X) → slice_get (changed_at f xs i) k ≡ Some y
    → ((x : X) → k ≡ i → slice_get xs k ≡ Some x → P (f x)) → ((x : X) → (k ≡ i → ⊥) → slice_get xs k ≡ Some x → P x) → P y
changed_cases P f [] i k y at here others = absurd cc
changed_cases P f (x ∷ xs) zero zero y at here others = let same : f x ≡ y = cc in subst P same (here x refl refl)
changed_cases P f (x ∷ xs) zero (suc k) y at here others = others y (λ e. omega arith) at
changed_cases P f (x ∷ xs) (suc i) zero y at here others = let same : x ≡ y = cc in subst P same (others x (λ e. omega arith) refl)
changed_cases P f (x ∷ xs) (suc i) (suc k) y at here others =
    changed_cases P f xs i k y at (λ z e. here z (omega arith)) (λ z ne. others z (λ e. ne (omega arith)))

pub levels_charged : (laws : RunningLaws) (s : State) (key : Key) (now : ℕ) (v : Verdict) (peers : List Peer) (levels : List Level) (i : ℕ) (from : Peer)
    → slice_get peers i ≡ Some from → IsPlaceOf from.number peers (Some i)
    → is_limited v ≡ not (is_admitted (stretch_of s from) (max (clock_of s) now)) → AreLevels s peers levels
    → AreLevels (recorded s (Some (decide_record from.number key now v))) peers (changed_at (charged (max (clock_of s) now)) levels i)
levels_charged laws s key now v peers levels i from at is limited all =
    record {
      long = length-changed (charged clock) levels i ∙ all.long;
      each = λ k p l there here. changed_cases (IsLevel (recorded s (Some r)) p) (charged clock) levels i k l here
          (λ x e old.
          let same : Some from ≡ Some p = sym at ∙ (ap (slice_get peers) (sym e) ∙ there) in
          let one : from ≡ p = cc in
          subst (λ q. IsLevel (recorded s (Some r)) q (charged clock x)) one (level_charged laws s key now v from x limited (subst (λ q. IsLevel s q x) (sym one) (all.each k p x there old))))
          (λ x ne old.
          level_stays s r p x (ap (λ b. b && admits r.outcome) (ne_eqb from.number p.number (λ e. is.others k p there (λ q. ne (let e' : i ≡ k = cc in sym e')) (sym e)))) (all.each k p x there old));
    }
  where
    clock : ℕ
    clock = max (clock_of s) now

    r : Record
    r = decide_record from.number key now v

-- a record of no packet
pub levels_stay : (s : State) (r : Record) (peers : List Peer) (levels : List Level) → ((n : ℕ) → (is_of n r.entry && admits r.outcome) ≡ false)
    → AreLevels s peers levels → AreLevels (recorded s (Some r)) peers levels
levels_stay s r peers levels none all =
    record { long = all.long; each = λ k p l there here. level_stays s r p l (none p.number) (all.each k p l there here) }

-- a period begins
fresh_one : (clock : ℕ) (p : Peer) → is_fresh clock p ≡ true → (p.bucket.clock ≡ clock) × (p.bucket.entries ≡ 0)
fresh_one clock p e =
    let parts = and_parts _ _ e in
    let more = and_parts _ _ parts.1 in
    (eqb-true p.bucket.clock clock parts.0, eqb-true p.bucket.entries 0 more.0)

fresh_at : (clock : ℕ) (peers : List Peer) → list_all (is_fresh clock) peers ≡ true
    → (k : ℕ) (p : Peer) → slice_get peers k ≡ Some p → (p.bucket.clock ≡ clock) × (p.bucket.entries ≡ 0)
fresh_at clock [] e k p at = absurd cc
fresh_at clock (q ∷ qs) e zero p at =
    let same : q ≡ p = cc in
    subst (λ x. (x.bucket.clock ≡ clock) × (x.bucket.entries ≡ 0)) same (fresh_one clock q (and_parts _ _ e).0)
fresh_at clock (q ∷ qs) e (suc k) p at = fresh_at clock qs (and_parts _ _ e).1 k p at

pub levels_opened : (laws : RunningLaws) (o : Opening) (peers : List Peer) (levels : List Level) → levels ≡ map opened_level peers
    → list_all (is_fresh o.clock) peers ≡ true → AreLevels (opened o) peers levels
levels_opened laws o peers levels is fresh =
    record {
      long = ap length is ∙ length-map peers opened_level;
      each = λ k p l there here.
          let made : Some (opened_level p) ≡ Some l = sym (slice_get-map opened_level peers k ∙ ap (option_map opened_level) there) ∙ (ap (λ xs. slice_get xs k) (sym is) ∙ here) in
          let one : opened_level p ≡ l = cc in
          let f = fresh_at o.clock peers fresh k p there in
          subst (λ x. IsLevel (opened o) p x) one (record {
            stretch = subst (λ n. IsLevelOf (bucket_of p (drop n [])) (opened_level p)) (sym f.1) (laws.begun p.bucket.clock p.bucket.credit p.terms.bucket.burst p.terms.bucket.per_second);
            clock = subst (λ n. n ≤ o.clock) (sym f.0) (le_refl o.clock);
            entries = subst (λ n. n ≤ 0) (sym f.1) (le_refl 0);
            told = ap (λ n. fold later p.bucket.clock (drop n [])) f.1 ∙ f.0;
          });
    }
