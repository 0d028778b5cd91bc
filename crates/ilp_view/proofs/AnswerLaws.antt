-- A frame that is read is a Fulfill or a Reject with the parts that were read, and each is read; no
-- frame begins another.
use Rattle.std.proofs.Common.{◌≡◌, ◌≤◌, ℕ, List, [], ◌∷◌, ◌++◌, length, drop, Result, Ok, refl, sym, ap, subst, ◌∙◌, append_assoc, arith}
use Rattle.std.proofs.lemmas.List.{append_cancel_left, length-append, nil_from_length}
use Rattle.common_types.specs.ResultChain.{◌>>=◌}
use Rattle.ilp_view.specs.declared.fault.ViewFault.{ViewFault}
use Rattle.ilp_view.specs.Below.{LawsBelow}
use Rattle.ilp_view.specs.Packet.{IsFrame, Fulfill, fulfill_contents, IsFulfill, Reject, reject_contents, IsReject}
use Rattle.ilp_view.specs.Reading.{fixed_at, string_at, data_at, envelope_at, fulfill_parts, fulfill_fields, fulfill_at, reject_parts, reject_fields, reject_at}
use Rattle.ilp_view.proofs.Results.{bind_ok}
use Rattle.ilp_view.proofs.FieldLaws.{same_ok, fixed_takes, fixed_again, string_takes, string_again, data_takes, data_again, envelope_takes, envelope_again}

abbrev Pair : Type 0
Pair = List ℕ × List ℕ

abbrev Triple : Type 0
Triple = List ℕ × List ℕ × List ℕ

-- ---- a Fulfill

abbrev made_fulfill : List ℕ → Pair → Triple → Result Fulfill ViewFault
made_fulfill spelling fulfillment payload = Ok (fulfill_parts spelling fulfillment payload)

two_joined : (all a after_a f : List ℕ) → all ≡ a ++ after_a → after_a ≡ f → all ≡ a ++ f
two_joined all a after_a f p q = cc

-- a frame is what was read of its contents
fulfill_fields_take : LawsBelow → (frame spelling contents : List ℕ) (p : Fulfill) → IsFrame frame 13 spelling contents → fulfill_fields spelling contents ≡ Ok p → IsFulfill frame p
unfolding fulfill_fields
fulfill_fields_take laws frame spelling contents p envelope read =
    let a = bind_ok (fixed_at 32 contents) (λ fulfillment. data_at fulfillment.1 >>= λ payload. made_fulfill spelling fulfillment payload) p read in
    let f = bind_ok (data_at a.0.1) (λ payload. made_fulfill spelling a.0 payload) p a.2 in
    let ta = fixed_takes 32 contents a.0 a.1 in
    let tf = data_takes laws a.0.1 f.0 f.1 in
    let whole = two_joined contents a.0.0 a.0.1 (f.0.0 ++ (f.0.1 ++ f.0.2)) ta.0 tf.0 in
    let same : fulfill_parts spelling a.0 f.0 ≡ p = same_ok (fulfill_parts spelling a.0 f.0) p f.2 in
    subst (IsFulfill frame) {x = fulfill_parts spelling a.0 f.0} {y = p} same (record { framed = subst (IsFrame frame 13 spelling) whole envelope; fulfillment = ta.1; data_length = tf.1; payload = tf.2 })

pub fulfill_takes : LawsBelow → (frame : List ℕ) (p : Fulfill) → fulfill_at frame ≡ Ok p → IsFulfill frame p
unfolding fulfill_at
fulfill_takes laws frame p read =
    let b = bind_ok (envelope_at 13 frame) (λ e. fulfill_fields e.0 e.1) p read in
    fulfill_fields_take laws frame b.0.0 b.0.1 p (envelope_takes laws 13 frame b.0 b.1) b.2

fulfill_fields_again : LawsBelow → (frame : List ℕ) (p : Fulfill) → IsFulfill frame p → fulfill_fields p.contents_length (fulfill_contents p) ≡ Ok p
unfolding fulfill_fields
fulfill_fields_again laws frame p is =
    rw (fixed_again 32 p.fulfillment (p.data_length ++ (p.payload ++ p.extra)) is.fulfillment, data_again laws p.data_length p.payload p.extra is.data_length is.payload) refl

pub fulfill_again : LawsBelow → (frame : List ℕ) (p : Fulfill) → IsFulfill frame p → fulfill_at frame ≡ Ok p
unfolding fulfill_at
fulfill_again laws frame p is = rw (envelope_again laws 13 frame p.contents_length (fulfill_contents p) is.framed) (fulfill_fields_again laws frame p is)

-- ---- a Reject

abbrev made_reject : List ℕ → Pair → Triple → Triple → Triple → Result Reject ViewFault
made_reject spelling code triggered_by message payload = Ok (reject_parts spelling code triggered_by message payload)

abbrev from_data : List ℕ → Pair → Triple → Triple → Result Reject ViewFault
from_data spelling code triggered_by message = data_at message.2 >>= λ payload. made_reject spelling code triggered_by message payload

abbrev from_message : List ℕ → Pair → Triple → Result Reject ViewFault
from_message spelling code triggered_by = string_at triggered_by.2 >>= λ message. from_data spelling code triggered_by message

abbrev from_triggered_by : List ℕ → Pair → Result Reject ViewFault
from_triggered_by spelling code = string_at code.1 >>= λ triggered_by. from_message spelling code triggered_by

four_joined : (all a after_a s t after_t m n after_n f : List ℕ) → all ≡ a ++ after_a → after_a ≡ s ++ (t ++ after_t) → after_t ≡ m ++ (n ++ after_n)
    → after_n ≡ f → all ≡ a ++ (s ++ (t ++ (m ++ (n ++ f))))
four_joined all a after_a s t after_t m n after_n f p q r u = cc

-- a frame is what was read of its contents
reject_fields_take : LawsBelow → (frame spelling contents : List ℕ) (p : Reject) → IsFrame frame 14 spelling contents → reject_fields spelling contents ≡ Ok p → IsReject frame p
unfolding reject_fields
reject_fields_take laws frame spelling contents p envelope read =
    let a = bind_ok (fixed_at 3 contents) (λ code. from_triggered_by spelling code) p read in
    let t = bind_ok (string_at a.0.1) (λ triggered_by. from_message spelling a.0 triggered_by) p a.2 in
    let m = bind_ok (string_at t.0.2) (λ message. from_data spelling a.0 t.0 message) p t.2 in
    let f = bind_ok (data_at m.0.2) (λ payload. made_reject spelling a.0 t.0 m.0 payload) p m.2 in
    let ta = fixed_takes 3 contents a.0 a.1 in
    let tt' = string_takes laws a.0.1 t.0 t.1 in
    let tm = string_takes laws t.0.2 m.0 m.1 in
    let tf = data_takes laws m.0.2 f.0 f.1 in
    let whole = four_joined contents a.0.0 a.0.1 t.0.0 t.0.1 t.0.2 m.0.0 m.0.1 m.0.2 (f.0.0 ++ (f.0.1 ++ f.0.2)) ta.0 tt'.0 tm.0 tf.0 in
    let same : reject_parts spelling a.0 t.0 m.0 f.0 ≡ p = same_ok (reject_parts spelling a.0 t.0 m.0 f.0) p f.2 in
    subst (IsReject frame) {x = reject_parts spelling a.0 t.0 m.0 f.0} {y = p} same
    (record { framed = subst (IsFrame frame 14 spelling) {x = contents} {y = reject_contents (reject_parts spelling a.0 t.0 m.0 f.0)} whole envelope; code = ta.1; triggered_by_length = tt'.1; message_length = tm.1; data_length = tf.1; payload = tf.2 })

pub reject_takes : LawsBelow → (frame : List ℕ) (p : Reject) → reject_at frame ≡ Ok p → IsReject frame p
unfolding reject_at
reject_takes laws frame p read =
    let b = bind_ok (envelope_at 14 frame) (λ e. reject_fields e.0 e.1) p read in
    reject_fields_take laws frame b.0.0 b.0.1 p (envelope_takes laws 14 frame b.0 b.1) b.2

contents_size : (frame : List ℕ) (kind : ℕ) (s c : List ℕ) → IsFrame frame kind s c → length c ≤ 34000
contents_size frame kind s c f = omega (arith, f.size, ap length f.bytes, length-append (kind ∷ s) c)

strings_size : (a s t m n f : List ℕ) → length (a ++ (s ++ (t ++ (m ++ (n ++ f))))) ≤ 34000 → (length t ≤ 34000) × (length n ≤ 34000)
strings_size a s t m n f small =
    let one = length-append a (s ++ (t ++ (m ++ (n ++ f)))) in
    let two = length-append s (t ++ (m ++ (n ++ f))) in
    let three = length-append t (m ++ (n ++ f)) in
    let four = length-append m (n ++ f) in
    let five = length-append n f in
    (omega (arith, one, two, three), omega (arith, one, two, three, four, five))

reject_fields_again : LawsBelow → (frame : List ℕ) (p : Reject) → IsReject frame p → reject_fields p.contents_length (reject_contents p) ≡ Ok p
unfolding reject_fields
reject_fields_again laws frame p is =
    let sizes = strings_size p.code p.triggered_by_length p.triggered_by p.message_length p.message (p.data_length ++ (p.payload ++ p.extra))
    (contents_size frame 14 p.contents_length (reject_contents p) is.framed) in
    rw (
      fixed_again 3 p.code (p.triggered_by_length ++ (p.triggered_by ++ (p.message_length ++ (p.message ++ (p.data_length ++ (p.payload ++ p.extra)))))) is.code,
      string_again laws p.triggered_by_length p.triggered_by (p.message_length ++ (p.message ++ (p.data_length ++ (p.payload ++ p.extra)))) is.triggered_by_length sizes.0,
      string_again laws p.message_length p.message (p.data_length ++ (p.payload ++ p.extra)) is.message_length sizes.1,
      data_again laws p.data_length p.payload p.extra is.data_length is.payload,
    ) refl

pub reject_again : LawsBelow → (frame : List ℕ) (p : Reject) → IsReject frame p → reject_at frame ≡ Ok p
unfolding reject_at
reject_again laws frame p is = rw (envelope_again laws 14 frame p.contents_length (reject_contents p) is.framed) (reject_fields_again laws frame p is)

-- ---- prefixes

behind_first : (k l : ℕ) (xs ys : List ℕ) → k ∷ xs ≡ l ∷ ys → xs ≡ ys
behind_first k l xs ys e = ap (λ (x : List ℕ). drop 1 x) e

pub no_frame_begins : LawsBelow → (first other rest : List ℕ) (k l : ℕ) (s t c d : List ℕ) → IsFrame first k s c → IsFrame other l t d → other ≡ first ++ rest → rest ≡ []
no_frame_begins laws first other rest k l s t c d f g e =
    let whole : l ∷ (t ++ d) ≡ k ∷ ((s ++ c) ++ rest) = sym g.bytes ∙ e ∙ ap (λ (x : List ℕ). x ++ rest) f.bytes in
    let behind : t ++ d ≡ s ++ (c ++ rest) = behind_first l k (t ++ d) ((s ++ c) ++ rest) whole ∙ append_assoc s c rest in
    let spelled = laws.lengths.none_begins_another t s d (c ++ rest) (length d) (length c) g.spelled f.spelled behind in
    let contents : d ≡ c ++ rest = append_cancel_left s d (c ++ rest) (ap (λ (x : List ℕ). x ++ d) (sym spelled.0) ∙ behind) in
    nil_from_length rest (omega (arith, spelled.1, ap length contents, length-append c rest))
