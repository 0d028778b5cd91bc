-- Where the amount and the expiry of a Prepare lie in its frame, and other bytes in their places.
use Rattle.std.proofs.Common.{◌≡◌, ◌<◌, ◌≤◌, ◌+◌, ◌^◌, ℕ, List, ◌++◌, length, take, drop, Result, Ok, Err, IsOk, IfOk, refl, sym, ap, subst, ◌∙◌, append_assoc, arith}
use Rattle.std.specs.Int.{w64, to_be_bytes}
use Rattle.std.proofs.lemmas.List.{take_at, drop_at, length-append}
use Rattle.common_types.specs.Outcomes.{Gives}
use Rattle.oer_core.specs.Length.{AreBytes}
use Rattle.ilp_addr.specs.Timestamp.{IsTimestamp}
use Rattle.ilp_view.specs.declared.prepare_mut.PrepareMut.{PrepareMut}
use Rattle.ilp_view.specs.Below.{LawsBelow}
use Rattle.ilp_view.specs.Lent.{cut_of, lent_of}
use Rattle.ilp_view.specs.Packet.{Prepare, IsPrepare, IsCutAt, IsForwardOf, before_amount, behind_expiry, prepare_contents, with_amount_and_expiry}
use Rattle.ilp_view.specs.Reading.{envelope_at, prepare_at}
use Rattle.ilp_view.proofs.FieldLaws.{envelope_again}
use Rattle.ilp_view.proofs.PrepareLaws.{prepare_takes, replaced_is}

-- the envelope of a frame that reads
pub envelope_of : LawsBelow → (frame : List ℕ) (p : Prepare) → AreBytes frame → prepare_at frame ≡ Ok p
    → envelope_at 12 frame ≡ Ok (p.contents_length, prepare_contents p)
envelope_of laws frame p fits read =
    envelope_again laws 12 frame p.contents_length (prepare_contents p) (prepare_takes laws frame p fits read).framed

-- the value of a result that is there
pub value_of : {A E : Type 0} (r : Result A E) → IsOk r → (x : A) × (r ≡ Ok x)
value_of (Ok x) is = (x, refl)
value_of (Err e) is = absurd cc

-- a fact about the value of a result, if there is one
pub if_ok : {A E : Type 0} (r : Result A E) (P : A → Type 0) → ((x : A) → r ≡ Ok x → P x) → IfOk r P
if_ok (Ok x) P holds = holds x refl
if_ok (Err e) P holds = tt

-- what was returned is there where what is to be read is
pub given_ok : {X Y E : Type 0} (view : X → Y) (r : Result X E) (read : Result Y E) (y : Y) → Gives view r read → read ≡ Ok y → IsOk r
given_ok view (Ok x) read y gives e = refl
given_ok view (Err f) read y gives e = absurd cc

-- and what it is
pub given_at : {X Y E : Type 0} (view : X → Y) (r : Result X E) (read : Result Y E) (x : X) → Gives view r read → r ≡ Ok x → read ≡ Ok (view x)
given_at view (Ok z) read x gives e = let same : z ≡ x = cc in gives ∙ ap (λ (q : _). Ok (view q)) same
given_at view (Err f) read x gives e = absurd cc

-- and of its value
pub at_ok : {A E : Type 0} (r : Result A E) (P : A → Type 0) (x : A) → IfOk r P → r ≡ Ok x → P x
at_ok (Ok z) P x holds e = let same : z ≡ x = cc in subst P same holds
at_ok (Err f) P x holds e = absurd cc

-- the first of a pair that was read
pub same_first : {A B E : Type 0} (read : Result (A × B) E) (x y : A × B) → read ≡ Ok x → read ≡ Ok y → x.0 ≡ y.0
same_first read x y p q = let same : x ≡ y = cc in ap (λ (r : _). r.0) same

-- what stands in each of the four ranges of a frame
pub record InFour (frame front amount expiry back : List ℕ) (place : ℕ) : Type 0 where
  pub front_is : take place frame ≡ front
  pub amount_is : take 8 (drop place frame) ≡ amount
  pub expiry_is : take 17 (drop (place + 8) frame) ≡ expiry
  pub back_is : drop (place + 25) frame ≡ back
  pub within : place + 25 ≤ length frame

pub in_four : (frame front amount expiry back : List ℕ) (place : ℕ) → IsCutAt frame front amount expiry back → length front ≡ place → InFour frame front amount expiry back place
in_four frame front amount expiry back place cut at =
    let two : List ℕ = front ++ amount in
    let three : List ℕ = two ++ expiry in
    let by_two : frame ≡ two ++ (expiry ++ back) = cut.bytes ∙ sym (append_assoc front amount (expiry ++ back)) in
    let by_three : frame ≡ three ++ back = by_two ∙ sym (append_assoc two expiry back) in
    let at_two : length two ≡ place + 8 = omega (arith, length-append front amount, cut.amount_size) in
    let at_three : length three ≡ place + 25 = omega (arith, length-append two expiry, cut.expiry_size) in
    record {
      front_is = ap (λ (f : List ℕ). take place f) cut.bytes ∙ take_at front (amount ++ (expiry ++ back)) place at;
      amount_is = ap (λ (f : List ℕ). take 8 (drop place f)) cut.bytes ∙ ap (λ (f : List ℕ). take 8 f) (drop_at front (amount ++ (expiry ++ back)) place at)
          ∙ take_at amount (expiry ++ back) 8 cut.amount_size;
      expiry_is = ap (λ (f : List ℕ). take 17 (drop (place + 8) f)) by_two ∙ ap (λ (f : List ℕ). take 17 f) (drop_at two (expiry ++ back) (place + 8) at_two)
          ∙ take_at expiry back 17 cut.expiry_size;
      back_is = ap (λ (f : List ℕ). drop (place + 25) f) by_three ∙ drop_at three back (place + 25) at_three;
      within = omega (arith, ap (λ (f : List ℕ). length f) by_three, length-append three back, at_three);
    }

-- a Prepare is cut before its amount and behind its expiry
pub prepare_cut : (frame : List ℕ) (p : Prepare) → IsPrepare frame p → IsCutAt frame (before_amount p) (to_be_bytes w64 p.amount) p.expiry (behind_expiry p)
prepare_cut frame p is = record { bytes = is.framed.bytes; amount_size = refl; expiry_size = is.expiry.len }

-- what lends the frame of a Prepare is cut as the Prepare is
pub lent_is : (m : PrepareMut) (p : Prepare) → IsPrepare m.frame.now p → m.place ≡ 1 + length p.contents_length → lent_of m ≡ cut_of p
lent_is m p is at =
    let four = in_four m.frame.now (before_amount p) (to_be_bytes w64 p.amount) p.expiry (behind_expiry p) m.place (prepare_cut m.frame.now p is) (omega arith) in
    λ k. record { front = four.front_is k; amount = four.amount_is k; expiry = four.expiry_is k; back = four.back_is k }

-- other bytes in the two places
pub forward_of : (frame : List ℕ) (p : Prepare) → IsPrepare frame p → (amount expiry : List ℕ) → length amount ≡ 8 → length expiry ≡ 17
    → IsForwardOf frame (before_amount p ++ (amount ++ (expiry ++ behind_expiry p)))
forward_of frame p is amount expiry eight seventeen = record {
  prepare = p;
  amount_came = to_be_bytes w64 p.amount;
  expiry_came = p.expiry;
  amount_went = amount;
  expiry_went = expiry;
  is = is;
  came_cut = prepare_cut frame p is;
  went_cut = record { bytes = refl; amount_size = eight; expiry_size = seventeen };
}

-- another amount and another date leave the frame of a Prepare one
pub forward_is : (frame : List ℕ) (p : Prepare) (amount : ℕ) (expiry : List ℕ) → IsPrepare frame p → amount < 2 ^ 64 → IsTimestamp expiry
    → IsPrepare (with_amount_and_expiry p amount expiry) (record p { amount = amount; expiry = expiry })
forward_is frame p amount expiry is small date = replaced_is p amount expiry (subst (λ (f : List ℕ). IsPrepare f p) is.framed.bytes is) small date
