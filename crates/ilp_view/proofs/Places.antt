-- Where the fields of a Prepare lie behind its expiry.
use Rattle.std.proofs.Common.{◌≡◌, ◌≤◌, ◌+◌, ℕ, List, ◌++◌, length, take, drop, Result, Ok, Err, IsOkAnd, IfOk, refl, ap, subst, ◌∙◌, sym, arith}
use Rattle.std.proofs.lemmas.List.{take_at, drop_at, length-append}
use Rattle.oer_core.specs.Length.{AreBytes}
use Rattle.ilp_view.specs.Below.{LawsBelow}
use Rattle.ilp_view.specs.Packet.{Prepare, IsPrepare, before_amount, behind_expiry}
use Rattle.ilp_view.specs.Places.{ArePlaces, ArePlacesIn}
use Rattle.ilp_view.specs.Reading.{prepare_at}
use Rattle.ilp_view.specs.declared.prepare.places.PreparePlaces.{PreparePlaces}
use Rattle.ilp_view.proofs.Cuts.{in_four, prepare_cut}
use Rattle.ilp_view.proofs.PrepareLaws.{prepare_takes}

-- the value of a result that is there, and what holds of it
pub known : {A E : Type 0} (r : Result A E) (P : A → Type 0) → IsOkAnd r P → (x : A) × (r ≡ Ok x) × P x
known (Ok x) P holds = (x, refl, holds)
known (Err e) P holds = absurd holds

-- the Prepare of a frame, and where its fields lie in the bytes behind its expiry
pub record Lies (frame : List ℕ) (at : PreparePlaces) : Type 0 where
  pub packet : Prepare
  pub reading : prepare_at frame ≡ Ok packet
  pub is : IsPrepare frame packet
  pub places : ArePlaces packet at
  pub front : at.amount_at + 25 ≤ length frame
  pub condition_fits : 32 ≤ length (drop (at.amount_at + 25) frame)
  pub condition : take 32 (drop (at.amount_at + 25) frame) ≡ packet.condition
  pub spelling_fits : at.spelling ≤ length (drop 32 (drop (at.amount_at + 25) frame))
  pub destination_fits : at.destination ≤ length (drop at.spelling (drop 32 (drop (at.amount_at + 25) frame)))
  pub destination : take at.destination (drop at.spelling (drop 32 (drop (at.amount_at + 25) frame))) ≡ packet.destination

-- and so it is for each frame of which that was read
pub lies : LawsBelow → (frame : List ℕ) (at : PreparePlaces) → AreBytes frame → ArePlacesIn frame at → Lies frame at
lies laws frame at fits read =
    let k = known (prepare_at frame) (λ q. ArePlaces q at) read in
    let p : Prepare = k.0 in
    let q : ArePlaces p at = k.2 in
    let is : IsPrepare frame p = prepare_takes laws frame p fits k.1 in
    let cut = prepare_cut frame p is in
    let front : List ℕ = before_amount p in
    let four = in_four frame front _ p.expiry (behind_expiry p) at.amount_at cut (omega (arith, q.amount_at)) in
    let rest : List ℕ = p.data_length ++ (p.payload ++ p.extra) in
    let after : List ℕ = p.destination ++ rest in
    let last : List ℕ = p.destination_length ++ after in
    let back : drop (at.amount_at + 25) frame ≡ p.condition ++ last = four.back_is in
    let behind_condition : drop 32 (drop (at.amount_at + 25) frame) ≡ last =
    ap (λ (f : List ℕ). drop 32 f) back ∙ drop_at p.condition last 32 is.condition in
    let behind_spelling : drop at.spelling (drop 32 (drop (at.amount_at + 25) frame)) ≡ after =
    ap (λ (f : List ℕ). drop at.spelling f) behind_condition ∙ drop_at p.destination_length after at.spelling (sym q.spelling) in
    record {
      packet = p;
      reading = k.1;
      is = is;
      places = q;
      front = four.within;
      condition_fits = omega (arith, ap (λ (f : List ℕ). length f) back, length-append p.condition last, is.condition);
      condition = ap (λ (f : List ℕ). take 32 f) back ∙ take_at p.condition last 32 is.condition;
      spelling_fits = omega (arith, ap (λ (f : List ℕ). length f) behind_condition, length-append p.destination_length after, q.spelling);
      destination_fits = omega (arith, ap (λ (f : List ℕ). length f) behind_spelling, length-append p.destination rest, q.destination);
      destination = ap (λ (f : List ℕ). take at.destination f) behind_spelling ∙ take_at p.destination rest at.destination (sym q.destination);
    }

-- a fact about the value that a result has
pub if_known : {A E : Type 0} (r : Result A E) (P : A → Type 0) (x : A) → r ≡ Ok x → P x → IfOk r P
if_known (Ok y) P x e holds = let same : x ≡ y = cc in subst P same holds
if_known (Err f) P x e holds = tt
