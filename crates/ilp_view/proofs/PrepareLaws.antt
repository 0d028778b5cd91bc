-- A frame that is read is a Prepare with the parts that were read, and each Prepare is read.
use Rattle.std.proofs.Common.{◌≡◌, ◌≤◌, ◌<◌, ◌+◌, ◌^◌, ℕ, List, ◌∷◌, ◌++◌, length, get_or, Result, Ok, Err, IfOk, refl, ap, subst, ◌∙◌, arith}
use Rattle.std.specs.Int.{w64, to_be_bytes}
use Rattle.std.proofs.lemmas.List.{get_or-append-add, length-append}
use Rattle.common_types.specs.ResultChain.{◌>>=◌}
use Rattle.oer_core.specs.Length.{AreBytes, IsLength, number_at}
use Rattle.ilp_addr.specs.Timestamp.{IsTimestamp}
use Rattle.ilp_view.specs.declared.fault.ViewFault.{ViewFault}
use Rattle.ilp_view.specs.Below.{LawsBelow}
use Rattle.ilp_view.specs.Packet.{IsFrame, Prepare, prepare_contents, prepare_frame, IsPrepare}
use Rattle.ilp_view.specs.Reading.{as_oer, fixed_at, expiry_at, destination_at, data_at, envelope_at, prepare_parts, prepare_fields, prepare_at}
use Rattle.ilp_view.proofs.Results.{bind_ok}
use Rattle.ilp_view.proofs.FieldLaws.{as_oer_ok, same_ok, fixed_takes, fixed_again, expiry_takes, expiry_again, destination_takes, destination_again, data_takes, data_again, envelope_takes, envelope_again}

abbrev Pair : Type 0
Pair = List ℕ × List ℕ

abbrev Triple : Type 0
Triple = List ℕ × List ℕ × List ℕ

-- what is made of the fields that were read
abbrev made : List ℕ → ℕ × List ℕ → Pair → Pair → Triple → Triple → Result Prepare ViewFault
made spelling amount expiry condition destination payload = Ok (prepare_parts spelling amount expiry condition destination payload)

abbrev from_data : List ℕ → ℕ × List ℕ → Pair → Pair → Triple → Result Prepare ViewFault
from_data spelling amount expiry condition destination = data_at destination.2 >>= λ payload. made spelling amount expiry condition destination payload

abbrev from_destination : List ℕ → ℕ × List ℕ → Pair → Pair → Result Prepare ViewFault
from_destination spelling amount expiry condition = destination_at condition.1 >>= λ destination. from_data spelling amount expiry condition destination

abbrev from_condition : List ℕ → ℕ × List ℕ → Pair → Result Prepare ViewFault
from_condition spelling amount expiry = fixed_at 32 expiry.1 >>= λ condition. from_destination spelling amount expiry condition

abbrev from_expiry : List ℕ → ℕ × List ℕ → Result Prepare ViewFault
from_expiry spelling amount = expiry_at amount.1 >>= λ expiry. from_condition spelling amount expiry

joined : (all a after_a e after_e c after_c s d after_d f : List ℕ) → all ≡ a ++ after_a → after_a ≡ e ++ after_e → after_e ≡ c ++ after_c
    → after_c ≡ s ++ (d ++ after_d) → after_d ≡ f → all ≡ a ++ (e ++ (c ++ (s ++ (d ++ f))))
joined all a after_a e after_e c after_c s d after_d f p q r t u = cc

-- a frame is what was read of its contents
fields_take : LawsBelow → (frame spelling contents : List ℕ) (p : Prepare) → IsFrame frame 12 spelling contents → AreBytes contents → prepare_fields spelling contents ≡ Ok p → IsPrepare frame p
unfolding prepare_fields
fields_take laws frame spelling contents p envelope fits read =
    let a = bind_ok (as_oer (number_at contents)) (λ amount. from_expiry spelling amount) p read in
    let e = bind_ok (expiry_at a.0.1) (λ expiry. from_condition spelling a.0 expiry) p a.2 in
    let c = bind_ok (fixed_at 32 e.0.1) (λ condition. from_destination spelling a.0 e.0 condition) p e.2 in
    let d = bind_ok (destination_at c.0.1) (λ destination. from_data spelling a.0 e.0 c.0 destination) p c.2 in
    let f = bind_ok (data_at d.0.2) (λ payload. made spelling a.0 e.0 c.0 d.0 payload) p d.2 in
    let ta = laws.numbers.read_is_spelled contents a.0.0 a.0.1 fits (as_oer_ok (number_at contents) a.0 a.1) in
    let te = expiry_takes laws a.0.1 e.0 e.1 in
    let tc = fixed_takes 32 e.0.1 c.0 c.1 in
    let td = destination_takes laws c.0.1 d.0 d.1 in
    let tf = data_takes laws d.0.2 f.0 f.1 in
    let whole = joined contents (to_be_bytes w64 a.0.0) a.0.1 e.0.0 e.0.1 c.0.0 c.0.1 d.0.0 d.0.1 d.0.2 (f.0.0 ++ (f.0.1 ++ f.0.2)) ta.1 te.0 tc.0 td.0 tf.0 in
    let same : prepare_parts spelling a.0 e.0 c.0 d.0 f.0 ≡ p = same_ok (prepare_parts spelling a.0 e.0 c.0 d.0 f.0) p f.2 in
    subst (IsPrepare frame) {x = prepare_parts spelling a.0 e.0 c.0 d.0 f.0} {y = p} same
    (record {
      framed = subst (IsFrame frame 12 spelling) {x = contents} {y = prepare_contents (prepare_parts spelling a.0 e.0 c.0 d.0 f.0)} whole envelope;
      amount = ta.0;
      expiry = te.1;
      condition = tc.1;
      destination_length = td.1;
      destination = td.2;
      data_length = tf.1;
      payload = tf.2;
    })

AreBytes-contents : (frame front contents : List ℕ) → frame ≡ front ++ contents → AreBytes frame → AreBytes contents
AreBytes-contents frame front contents e fits = λ i. subst (λ (b : ℕ). b < 256) (ap (λ (x : List ℕ). get_or x (length front + i) 0) e ∙ get_or-append-add front contents i 0) (fits (length front + i))

pub prepare_takes : LawsBelow → (frame : List ℕ) (p : Prepare) → AreBytes frame → prepare_at frame ≡ Ok p → IsPrepare frame p
unfolding prepare_at
prepare_takes laws frame p fits read =
    let b = bind_ok (envelope_at 12 frame) (λ e. prepare_fields e.0 e.1) p read in
    let envelope = envelope_takes laws 12 frame b.0 b.1 in
    fields_take laws frame b.0.0 b.0.1 p envelope (AreBytes-contents frame (12 ∷ b.0.0) b.0.1 envelope.bytes fits) b.2

fields_again : LawsBelow → (frame : List ℕ) (p : Prepare) → IsPrepare frame p → prepare_fields p.contents_length (prepare_contents p) ≡ Ok p
unfolding prepare_fields
fields_again laws frame p is =
    rw (
      laws.numbers.spelled_is_read p.amount (p.expiry ++ (p.condition ++ (p.destination_length ++ (p.destination ++ (p.data_length ++ (p.payload ++ p.extra)))))) is.amount,
      expiry_again laws p.expiry (p.condition ++ (p.destination_length ++ (p.destination ++ (p.data_length ++ (p.payload ++ p.extra))))) is.expiry,
      fixed_again 32 p.condition (p.destination_length ++ (p.destination ++ (p.data_length ++ (p.payload ++ p.extra)))) is.condition,
      destination_again laws p.destination_length p.destination (p.data_length ++ (p.payload ++ p.extra)) is.destination_length is.destination,
      data_again laws p.data_length p.payload p.extra is.data_length is.payload,
    ) refl

pub prepare_again : LawsBelow → (frame : List ℕ) (p : Prepare) → IsPrepare frame p → prepare_at frame ≡ Ok p
unfolding prepare_at
prepare_again laws frame p is = rw (envelope_again laws 12 frame p.contents_length (prepare_contents p) is.framed) (fields_again laws frame p is)

-- another amount and another date leave the frame a Prepare
pub replaced_is : (p : Prepare) (amount : ℕ) (text : List ℕ) → IsPrepare (prepare_frame p) p → amount < 2 ^ 64 → IsTimestamp text → IsPrepare
    (prepare_frame (record p { amount = amount; expiry = text })) (record p { amount = amount; expiry = text })
replaced_is p amount text is small date =
    let q : Prepare = record p { amount = amount; expiry = text } in
    let rest : List ℕ = p.condition ++ (p.destination_length ++ (p.destination ++ (p.data_length ++ (p.payload ++ p.extra)))) in
    let before : length (to_be_bytes w64 p.amount ++ (p.expiry ++ rest)) ≡ 8 + length (p.expiry ++ rest) = length-append (to_be_bytes w64 p.amount) (p.expiry ++ rest) in
    let after : length (to_be_bytes w64 amount ++ (text ++ rest)) ≡ 8 + length (text ++ rest) = length-append (to_be_bytes w64 amount) (text ++ rest) in
    let same : length (prepare_contents p) ≡ length (prepare_contents q) = omega (arith, length-append p.expiry rest, length-append text rest, is.expiry.len, date.len) in
    let size : length (prepare_frame q) ≤ 34000 =
    omega (arith, length-append (12 ∷ p.contents_length) (prepare_contents p), length-append (12 ∷ p.contents_length) (prepare_contents q), is.framed.size) in
    record {
      framed = record { bytes = refl; spelled = subst (λ (n : ℕ). IsLength p.contents_length n) same is.framed.spelled; size = size };
      amount = small;
      expiry = date;
      condition = is.condition;
      destination_length = is.destination_length;
      destination = is.destination;
      data_length = is.data_length;
      payload = is.payload;
    }

-- what a result holds, from what it holds
pub if_ok_then : {A E : Type 0} (r : Result A E) (P Q : A → Type 0) → IfOk r P → ((x : A) → P x → Q x) → IfOk r Q
if_ok_then (Ok x) P Q holds then = then x holds
if_ok_then (Err e) P Q holds then = tt
