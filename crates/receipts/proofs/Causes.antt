-- What a call made has a cause: a frame that reads as the call's key, the frame of an answer, a moment, an order.
use Rattle.std.proofs.Common.{◌≡◌, ◌<◌, ◌≤◌, ◌^◌, ℕ, true, List, [], ◌∷◌, ◌++◌, length, Some, refl, ap, ◌∙◌, arith}
use Rattle.std.specs.Prelude.{Result, Ok, Err, is_ok}
use Rattle.std.specs.Int.{w64, to_be_bytes}
use Rattle.std.proofs.lemmas.Bool.{and_parts, ltb-true, leb-true, eqb-true, le-ltb}
use Rattle.std.proofs.lemmas.List.{length-append}
use Rattle.oer_core.specs.Laws.{LengthLaws}
use Rattle.oer_core.specs.Length.{AreBytes, octet_string, shortest_length}
use Rattle.ilp_addr.specs.Address.{IsAddress, address_at}
use Rattle.ilp_addr.specs.Laws.{AddressLaws, TimestampLaws}
use Rattle.ilp_addr.specs.Timestamp.{latest_expiry, timestamp_of}
use Rattle.ilp_view.specs.Packet.{IsFrame, IsPrepare, Prepare, Reject, fulfill_frame, max_data, max_frame, prepare_contents, prepare_frame, reject_frame, written_fulfill, written_reject}
use Rattle.ilp_view.specs.Reading.{behind_type, envelope_at, fulfill_at, prepare_at, reject_at}
use Rattle.ilp_view.specs.declared.fault.ViewFault.TheVariants as fault
use Rattle.common_types.specs.Token.{is_token}
use Rattle.tenant_core.specs.Called.{Call, IsCalled, IsGiven, IsOfBytes, called, is_answer}
use Rattle.tenant_core.specs.Governed.{order_left, order_made}
use Rattle.tenant_core.specs.Judge.{decide_made}
use Rattle.tenant_core.specs.Key.{Key}
use Rattle.tenant_core.specs.Orders.{ordered}
use Rattle.tenant_core.specs.Replay.{is_sayable}
use Rattle.tenant_core.specs.State.{State, recorded}
use Rattle.tenant_core.specs.declared.command.Command.TheVariants as command
use Rattle.tenant_core.specs.declared.faults.CommandFault.{CommandFault}
use Rattle.tenant_core.specs.declared.journal.AnswerKey.{AnswerKey}
use Rattle.tenant_core.specs.declared.journal.AnswerKey.TheVariants.{Fulfilled, Rejected, Fault}
use Rattle.tenant_core.specs.declared.journal.Change.{Change as Changed}
use Rattle.tenant_core.specs.declared.journal.Record.{Record}
use Rattle.floor_core.specs.Causes.{BringsBytes, Cause, left_from, made_from}
use Rattle.floor_core.specs.World.{answer_key, arrival, heard, key_in}
use Rattle.floor_core.specs.declared.step.PeerAnswer.{PeerAnswer}
use Rattle.floor_core.specs.declared.step.PeerAnswer.TheVariants as given
use Rattle.receipts.proofs.Octets.{amount, both, none, one_more, spelling, timestamp}

-- a Reject of code F00, and nothing else
abbrev pub plain_reject : List ℕ
plain_reject = reject_frame (70 ∷ 48 ∷ 48 ∷ []) [] [] []

-- the laws of frames that this stands on
pub record FrameLaws : Type 0 where
  pub lengths : LengthLaws
  pub addresses : AddressLaws
  pub timestamps : TimestampLaws
  pub prepares : (frame : List ℕ) (p : Prepare) → IsPrepare frame p → prepare_at frame ≡ Ok p
  pub fulfills : (fulfillment payload : List ℕ) → length fulfillment ≡ 32 → length payload ≤ max_data
      → fulfill_at (fulfill_frame fulfillment payload) ≡ Ok (written_fulfill fulfillment payload)
  pub short : (fulfillment payload : List ℕ) → length fulfillment ≡ 32 → length payload ≤ max_data
      → length (fulfill_frame fulfillment payload) ≤ max_frame
  pub reject : reject_at plain_reject ≡ Ok (written_reject (70 ∷ 48 ∷ 48 ∷ []) [] [] [])
  pub reject_short : length plain_reject ≤ max_frame

-- ---- a frame of a key

-- the parts of a Prepare with that key and no data, but for the length of its contents
abbrev bare : Key → Prepare
bare key = record {
  contents_length = [];
  amount = key.amount;
  expiry = timestamp_of key.expiry;
  condition = key.condition;
  destination_length = shortest_length (length key.destination);
  destination = key.destination;
  data_length = shortest_length (length {A = ℕ} []);
  payload = [];
  extra = [];
}

-- all of them, each length in the fewest bytes
abbrev prepare_of : Key → Prepare
prepare_of key = record (bare key) { contents_length = shortest_length (length (prepare_contents (bare key))) }

-- what a Prepare can say
record IsSaid (key : Key) : Type 0 where
  amount : key.amount < 2 ^ 64
  expiry : key.expiry ≤ latest_expiry
  condition : length key.condition ≡ 32
  destination : IsAddress key.destination
  octets : IsOfBytes key

-- what was read, where something was
value_of : {A E : Type 0} (r : Result A E) → is_ok r ≡ true → (x : A) × (r ≡ Ok x)
value_of (Ok x) e = (x, refl)
value_of (Err f) e = absurd cc

-- what a key that is sayable keeps
is_said : AddressLaws → (key : Key) → is_sayable key ≡ true → IsOfBytes key → IsSaid key
is_said laws key e octets =
    let last = and_parts _ _ e in
    let third = and_parts _ _ last.0 in
    let second = and_parts _ _ third.0 in
    let address = value_of (address_at key.destination) last.1 in
    record {
      amount = ltb-true _ _ second.0;
      expiry = leb-true _ _ second.1;
      condition = eqb-true _ _ third.1;
      destination = (laws.read_is_address key.destination address.0 address.1).0;
      octets = octets;
    }

-- contents behind their length in the fewest bytes
framed_so : LengthLaws → (kind : ℕ) (contents : List ℕ) → length contents ≤ 1200
    → IsFrame (kind ∷ shortest_length (length contents) ++ contents) kind (shortest_length (length contents)) contents
framed_so laws kind contents few =
    let front = laws.three_bytes (length contents) (omega arith) in
    record {
      bytes = refl;
      spelled = laws.shortest_spells (length contents) (omega arith);
      size = omega (arith, length-append (shortest_length (length contents)) contents);
    }

-- the frame of a key is a Prepare
is_prepare : FrameLaws → (key : Key) → IsSaid key → IsPrepare (prepare_frame (prepare_of key)) (prepare_of key)
is_prepare laws key said =
    let d : List ℕ = key.destination in
    let short = said.destination.short in
    let expiry = laws.timestamps.timestamp_of_is_one key.expiry said.expiry in
    let digits = expiry.len in
    let condition = said.condition in
    let spelled = laws.lengths.three_bytes (length d) (omega arith) in
    let none : length (shortest_length (length {A = ℕ} [])) ≤ 3 = laws.lengths.three_bytes 0 (omega arith) in
    let contents : length (prepare_contents (bare key)) ≤ 1200 = simp length-append (omega arith) in
    record {
      framed = framed_so laws.lengths 12 (prepare_contents (bare key)) contents;
      amount = said.amount;
      expiry = expiry;
      condition = said.condition;
      destination_length = laws.lengths.shortest_spells (length d) (omega arith);
      destination = said.destination;
      data_length = laws.lengths.shortest_spells 0 (omega arith);
      payload = omega arith;
    }

-- and made of bytes
frame_octets : FrameLaws → (key : Key) → IsSaid key → AreBytes (prepare_frame (prepare_of key))
frame_octets laws key said =
    let d : List ℕ = key.destination in
    let rest : List ℕ = prepare_contents (bare key) in
    let short = said.destination.short in
    let framed = (is_prepare laws key said).framed in
    let size = framed.size in
    let few : length rest < 65_536 = omega (arith, length-append (shortest_length (length rest)) rest) in
    one_more 12 (shortest_length (length rest) ++ rest) (omega arith)
    (both (shortest_length (length rest)) rest (spelling laws.lengths (length rest) few)
    (both (to_be_bytes w64 key.amount) _ (amount key.amount)
    (both (timestamp_of key.expiry) _ (timestamp (timestamp_of key.expiry) (laws.timestamps.timestamp_of_is_one key.expiry said.expiry))
    (both key.condition _ said.octets.0
    (both (shortest_length (length d)) _ (spelling laws.lengths (length d) (omega arith))
    (both d _ said.octets.1
    (both (shortest_length 0) [] (spelling laws.lengths 0 (omega arith)) none)))))))

-- which arrives with any token
arrives : FrameLaws → (token : List ℕ) (key : Key) → is_token token ≡ true → IsSaid key
    → arrival token (prepare_frame (prepare_of key)) ≡ Ok (prepare_of key)
arrives laws token key named said =
    rw (named, laws.prepares (prepare_frame (prepare_of key)) (prepare_of key) (is_prepare laws key said)) refl

-- and reads as the key
key_back : TimestampLaws → (key : Key) → IsSaid key → key_in (prepare_of key) ≡ key
key_back laws key said =
    ap (λ (e : ℕ). record { amount = key.amount; expiry = e; condition = key.condition; destination = key.destination })
    (laws.timestamp_of_is_back key.expiry said.expiry)

-- ---- what came back

-- what came back, to be settled by that
abbrev given_of : AnswerKey → PeerAnswer
given_of (Fulfilled fulfillment) = given.Bytes (fulfill_frame fulfillment [])
given_of Rejected = given.Bytes plain_reject
given_of Fault = given.Fault

-- a frame of a Reject is none of a Fulfill
not_fulfill : (rest : List ℕ) → length (14 ∷ rest) ≤ max_frame → fulfill_at (14 ∷ rest) ≡ Err fault.Kind
unfolding fulfill_at envelope_at behind_type
not_fulfill rest short = rw (le-ltb max_frame (length (14 ∷ rest)) short) refl

-- and reads as a Reject
rejected : (rest : List ℕ) (w : Reject) → length (14 ∷ rest) ≤ max_frame → reject_at (14 ∷ rest) ≡ Ok w → answer_key (heard (given.Bytes (14 ∷ rest))) ≡ Rejected
rejected rest w short reads = rw (le-ltb max_frame (length (14 ∷ rest)) short, not_fulfill rest short, reads) refl

-- what came back reads as the answer
key_heard : FrameLaws → (key : AnswerKey) → is_answer key ≡ true → answer_key (heard (given_of key)) ≡ key
key_heard laws (Fulfilled f) e =
    let size : length f ≡ 32 = eqb-true _ _ e in
    let short = laws.short f [] size (omega arith) in
    rw (le-ltb max_frame (length (fulfill_frame f [])) short, laws.fulfills f [] size (omega arith)) refl
key_heard laws Rejected e =
    rejected (octet_string ((70 ∷ 48 ∷ 48 ∷ []) ++ (octet_string [] ++ (octet_string [] ++ octet_string []))))
    (written_reject (70 ∷ 48 ∷ 48 ∷ []) [] [] []) laws.reject_short laws.reject
key_heard laws Fault e = refl

-- ---- the cause of each record

-- the cause makes the record, and leaves the state with it
pub record Explains (s : State) (r : Record) : Type 0 where
  pub cause : Cause
  pub brings : BringsBytes cause
  pub made : made_from s cause ≡ Some r
  pub left : left_from s cause ≡ recorded s (Some r)

-- an order that makes a record leaves the state with it
order_leaves : (s : State) (o : Result Changed CommandFault) (now : ℕ) (r : Record) → order_made o now ≡ Some r → order_left s o now ≡ recorded s (Some r)
order_leaves s (Ok c) now r e = ap (recorded s) e
order_leaves s (Err fault) now r e = absurd cc

explained : FrameLaws → (s : State) (r : Record) (call : Call) → IsGiven call → called s call ≡ Some r → Explains s r
explained laws s r (Call.Decides token key now) bounds made =
    let said = is_said laws.addresses key bounds.1 bounds.2 in
    let frame : List ℕ = prepare_frame (prepare_of key) in
    let comes = arrives laws token key bounds.0 said in
    let made_here : made_from s (Cause.Packet token frame now) ≡ Some r =
    rw comes (ap (λ (k : Key). decide_made s token k now) (key_back laws.timestamps key said) ∙ made) in
    record { cause = Cause.Packet token frame now; brings = frame_octets laws key said; made = made_here; left = ap (recorded s) made_here }
explained laws s r (Call.Answers hold now key) bounds made =
    let cause : Cause = Cause.Return hold now (given_of key) in
    let made_here : made_from s cause ≡ Some r = rw (key_heard laws key bounds) made in
    record { cause = cause; brings = tt; made = made_here; left = ap (recorded s) made_here }
explained laws s r (Call.Ticks now) bounds made = record { cause = Cause.Moment now; brings = tt; made = made; left = ap (recorded s) made }
explained laws s r (Call.Orders order now) bounds made =
    record { cause = Cause.Order now (command.Order order); brings = tt; made = made; left = order_leaves s (ordered s order) now r made }

pub explained_call : FrameLaws → (s : State) (r : Record) → IsCalled s r → Explains s r
explained_call laws s r call = explained laws s r call.call call.given call.made
