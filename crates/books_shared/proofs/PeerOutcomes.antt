-- Counts by peer, as records are added.
use Rattle.std.proofs.Common.{◌≡◌, ◌<◌, ◌+◌, ◌∙◌, ℕ, zero, suc, List, [], ◌∷◌, ◌++◌, length, get_or, true, false, cond, Bor, IfSome, eqb, ltb, is_some, option_copied, refl, inl, inr, sym, ap, subst, arith}
use Rattle.std.specs.Prelude.{Bool, Option, Some, None, count_by, min, ◌&&◌}
use Rattle.std.specs.List.{slice_get}
use Rattle.std.proofs.Math.ListN.{set, take}
use Rattle.std.proofs.lemmas.Bool.{eq-eqb, ltb-false, ltb-true, ne_eqb}
use Rattle.std.proofs.lemmas.Option.{slice_get_past, slice_get_read}
use Rattle.std.proofs.lemmas.Grind.{get_or-set_at}
use Rattle.std.proofs.lemmas.List.{get_or-set_other}
use Rattle.std.proofs.lemmas.List.Sums.{sum_by_push}
use Rattle.std.proofs.lemmas.Bool.Decides.{eqb_tells}
use Rattle.tenant_core.specs.Holds.{AreNumbered}
use Rattle.tenant_core.specs.declared.hold.Hold.{Hold}
use Rattle.tenant_core.specs.declared.journal.Record.{Record}
use Rattle.books_shared.specs.Outcomes.{count_at, counted, is_of, most_counted, place_of}
use Rattle.books_shared.specs.PeerOutcomes.{AreCountedByPeer, AreRaised, SayTheSame, count_of_peer, hold_numbered, is_peers, peer_count_in, peer_outcome_in, row_count}
use Rattle.books_shared.specs.declared.outcomes.PacketCounts.{PacketCounts}
use Rattle.books_shared.specs.declared.outcomes.PacketOutcome.{PacketOutcome}
use Rattle.books_shared.specs.declared.peer_outcomes.PeerOutcome.{PeerOutcome}

-- what is read of a list at a place
pub copied_read : {X : Type 0} (xs : List X) (i : ℕ) (r : Option (Bor X)) → is_some r ≡ ltb i (length xs)
    → IfSome r (λ x. x.now ≡ get_or xs i x.now) → option_copied r ≡ slice_get xs i
copied_read xs i None some read = sym (slice_get_past xs i (ltb-false _ _ (sym some)))
copied_read xs i (Some x) some read = sym (slice_get_read xs (length xs) i x.now refl (ltb-true _ _ (sym some)) read)

-- no packet went on under a number below the first
pub none_before : (first n : ℕ) (hs : List Hold) → AreNumbered first hs → n < first → hold_numbered n hs ≡ None
none_before first n [] numbered below = refl
none_before first n (h ∷ hs) numbered below =
    let here = numbered.0 in
    let other : eqb h.number n ≡ false = ne_eqb h.number n (λ same. omega arith) in
    rw other (none_before (first + 1) n hs numbered.1 (omega arith))

-- the packet that went on under a number is at that place from the first on
pub numbered_at : (first i : ℕ) (hs : List Hold) → AreNumbered first hs → hold_numbered (first + i) hs ≡ slice_get hs i
numbered_at first i [] numbered = refl
numbered_at first zero (h ∷ hs) numbered =
    let here = numbered.0 in
    let same : eqb h.number (first + 0) ≡ true = eq-eqb h.number (first + 0) (omega arith) in
    rw same refl
numbered_at first (suc i) (h ∷ hs) numbered =
    let here = numbered.0 in
    let other : eqb h.number (first + suc i) ≡ false = ne_eqb h.number (first + suc i) (λ same. omega arith) in
    rw other (subst (λ n. hold_numbered n hs ≡ slice_get hs i) (omega arith) (numbered_at (first + 1) i hs numbered.1))

-- a row more of a peer for whom nothing counts
pub row_more : (rows : List PacketCounts) (counts : PacketCounts) (peer : ℕ) (o : PacketOutcome) → count_at o counts ≡ 0
    → count_of_peer (rows ++ counts ∷ []) peer o ≡ count_of_peer rows peer o
row_more [] counts zero o none = none
row_more [] counts (suc peer) o none = refl
row_more (row ∷ rows) counts zero o none = refl
row_more (row ∷ rows) counts (suc peer) o none = row_more rows counts peer o none

-- the first packet that went on has the first number
pub first_number : (first : ℕ) (hs : List Hold) (h : Hold) → AreNumbered first hs → slice_get hs 0 ≡ Some h → h.number ≡ first
first_number first [] h numbered at = absurd cc
first_number first (x ∷ hs) h numbered at =
    let same : x ≡ h = cc in
    ap (λ (y : Hold). y.number) (sym same) ∙ numbered.0

-- ---- rows

-- a row that was written is there
set_here : (rows : List PacketCounts) (place : ℕ) (row : PacketCounts) → place < length rows → slice_get (set rows place row) place ≡ Some row
set_here [] place row inside = absurd (omega arith)
set_here (x ∷ rows) zero row inside = refl
set_here (x ∷ rows) (suc place) row inside = set_here rows place row (omega arith)

-- others stay
set_apart : (rows : List PacketCounts) (place other : ℕ) (row : PacketCounts) → (place ≡ other → ⊥)
    → slice_get (set rows place row) other ≡ slice_get rows other
set_apart [] place other row apart = refl
set_apart (x ∷ rows) zero zero row apart = absurd (apart refl)
set_apart (x ∷ rows) zero (suc other) row apart = refl
set_apart (x ∷ rows) (suc place) zero row apart = refl
set_apart (x ∷ rows) (suc place) (suc other) row apart = set_apart rows place other row (λ same. apart (ap suc same))

-- a packet more of an outcome in a row
row_raised : (row : PacketCounts) (q o : PacketOutcome) → place_of q < length row.counts
    → count_at o (counted (Some q) row) ≡ cond (is_of o (Some q)) (min most_counted (count_at o row + 1)) (count_at o row)
row_raised row q o inside =
    let more : ℕ = min most_counted (count_at q row + 1) in
    elim (eqb_tells (place_of q) (place_of o)) [
      | inl same ↦
          get_or-set_at row.counts (place_of q) (place_of o) more 0 (sym same.1) inside
          ∙ ap (λ i. min most_counted (get_or row.counts i 0 + 1)) same.1
          ∙ sym (ap (λ b. cond b (min most_counted (count_at o row + 1)) (count_at o row)) same.0)
      | inr other ↦
          get_or-set_other row.counts (place_of q) (place_of o) more 0 (λ is. other.1 (sym is))
          ∙ sym (ap (λ b. cond b (min most_counted (count_at o row + 1)) (count_at o row)) other.0)
    ]

-- a packet more of an outcome of a peer that has a row
pub raised : (old rows : List PacketCounts) (said : PeerOutcome) (row : PacketCounts) → SayTheSame rows old → said.peer < length rows
    → slice_get rows said.peer ≡ Some row → place_of said.outcome < length row.counts
    → AreRaised (Some said) old (set rows said.peer (counted (Some said.outcome) row))
raised old rows said row same inside at fits peer o =
    let new : PacketCounts = counted (Some said.outcome) row in
    let before : ℕ = count_of_peer old peer o in
    elim (eqb_tells said.peer peer) [
      | inl here ↦
          let there : count_at o row ≡ before = sym (ap (row_count o) (subst (λ k. slice_get rows k ≡ Some row) here.1 at)) ∙ same peer o in
          ap (row_count o) (subst (λ k. slice_get (set rows said.peer new) k ≡ Some new) here.1 (set_here rows said.peer new inside))
          ∙ row_raised row said.outcome o fits
          ∙ ap (λ n. cond (is_of o (Some said.outcome)) (min most_counted (n + 1)) n) there
          ∙ sym (ap (λ b. cond (b && is_of o (Some said.outcome)) (min most_counted (before + 1)) before) here.0)
      | inr apart ↦
          ap (row_count o) (set_apart rows said.peer peer new apart.1) ∙ same peer o
          ∙ sym (ap (λ b. cond (b && is_of o (Some said.outcome)) (min most_counted (before + 1)) before) apart.0)
    ]

-- ---- records

-- one record more
take_more : (records : List Record) (place : ℕ) (r : Record) → slice_get records place ≡ Some r
    → take (suc place) records ≡ take place records ++ r ∷ []
take_more [] place r at = absurd cc
take_more (x ∷ records) zero r at = ap (λ (y : Record). y ∷ []) cc
take_more (x ∷ records) (suc place) r at = ap (λ (rest : List Record). x ∷ rest) (take_more records place r at)

-- none more
take_same : (records : List Record) (place : ℕ) → slice_get records place ≡ None → take (suc place) records ≡ take place records
take_same [] zero past = refl
take_same [] (suc place) past = refl
take_same (x ∷ records) zero past = absurd cc
take_same (x ∷ records) (suc place) past = ap (λ (rest : List Record). x ∷ rest) (take_same records place past)

pub take_past : (records : List Record) (place : ℕ) → slice_get records place ≡ None → take (place + 1) records ≡ take place records
take_past records place past =
    let more : suc place ≡ place + 1 = omega arith in
    subst (λ n. take n records ≡ take place records) more (take_same records place past)

more_counted : (b : Bool) (count many : ℕ) → count ≡ min most_counted many
    → cond b (min most_counted (count + 1)) count ≡ min most_counted (many + cond b 1 0)
more_counted true count many is = omega arith
more_counted false count many is = omega arith

-- the counts by one record more
pub next_counted : (rows more : List PacketCounts) (holds : List Hold) (records : List Record) (place : ℕ) (r : Record)
    → AreCountedByPeer rows holds (take place records) → slice_get records place ≡ Some r → AreRaised (peer_outcome_in holds r) rows more
    → AreCountedByPeer more holds (take (place + 1) records)
next_counted rows others holds records place r here at rise peer o =
    let is : Record → Bool = λ x. is_peers peer o (peer_outcome_in holds x) in
    let more : suc place ≡ place + 1 = omega arith in
    rise peer o
    ∙ more_counted (is r) (count_of_peer rows peer o) (count_by is (take place records)) (here peer o)
    ∙ ap (λ n. min most_counted n) (sym (sum_by_push (λ (x : Record). cond (is x) 1 0) (take place records) r))
    ∙ ap (λ (all : List Record). peer_count_in holds peer o all) (subst (λ n. take place records ++ r ∷ [] ≡ take n records) more (sym (take_more records place r at)))
