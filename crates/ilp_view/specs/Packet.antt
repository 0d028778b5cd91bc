-- What packets are: their frames and their parts (RFC 0027).
use Rattle.std.specs.Prelude.{◌≡◌, ◌<◌, ◌≤◌, ◌^◌, ℕ, List, [], ◌∷◌, ◌++◌, length}
use Rattle.std.specs.Int.{w64, to_be_bytes}
use Rattle.common_types.specs.declared.limits.TheConstants.{MAX_FRAME}
use Rattle.oer_core.specs.Length.{IsLength, shortest_length, octet_string}
use Rattle.ilp_addr.specs.Address.{IsAddress}
use Rattle.ilp_addr.specs.Timestamp.{IsTimestamp}
use Rattle.ilp_view.specs.declared.fields.TheConstants.{MAX_DATA}

-- The most bytes of a frame.
abbrev pub max_frame : ℕ
max_frame = MAX_FRAME

-- The most bytes of the data of a packet (RFC 0027, "ILP Prepare").
abbrev pub max_data : ℕ
max_data = MAX_DATA

-- A frame of that kind: a type byte, the length of the contents in any spelling, and the contents, in
-- no more bytes than a frame may have (RFC 0027, "Packet Format").
pub record IsFrame (frame : List ℕ) (kind : ℕ) (spelling contents : List ℕ) : Type 0 where
  pub bytes : frame ≡ kind ∷ spelling ++ contents
  pub spelled : IsLength spelling (length contents)
  pub size : length frame ≤ max_frame

-- The parts of a Prepare, each as it is in the frame, with the spellings of the lengths and the bytes
-- after the last field (RFC 0027, "ILP Prepare").
pub record Prepare : Type 0 where
  pub contents_length : List ℕ
  pub amount : ℕ
  pub expiry : List ℕ
  pub condition : List ℕ
  pub destination_length : List ℕ
  pub destination : List ℕ
  pub data_length : List ℕ
  pub payload : List ℕ
  pub extra : List ℕ

-- The fields of a Prepare in their order (RFC 0027, "ILP Prepare").
abbrev pub prepare_contents : Prepare → List ℕ
prepare_contents p =
    to_be_bytes w64 p.amount ++ (p.expiry ++ (p.condition
    ++ (p.destination_length ++ (p.destination
    ++ (p.data_length ++ (p.payload ++ p.extra))))))

-- The frame of a Prepare, from its parts (RFC 0027, "ILP Prepare").
abbrev pub prepare_frame : Prepare → List ℕ
prepare_frame p = 12 ∷ p.contents_length ++ prepare_contents p

-- The frame is a Prepare with these parts, and each keeps its rule (RFC 0027, "ILP Prepare").
pub record IsPrepare (frame : List ℕ) (p : Prepare) : Type 0 where
  pub framed : IsFrame frame 12 p.contents_length (prepare_contents p)
  pub amount : p.amount < 2 ^ 64
  pub expiry : IsTimestamp p.expiry
  pub condition : length p.condition ≡ 32
  pub destination_length : IsLength p.destination_length (length p.destination)
  pub destination : IsAddress p.destination
  pub data_length : IsLength p.data_length (length p.payload)
  pub payload : length p.payload ≤ max_data

-- The frame that is sent on: the same parts in the same spellings, but for the amount and the expiry
-- (RFC 0027, "ILP Prepare").
abbrev pub with_amount_and_expiry : Prepare → ℕ → List ℕ → List ℕ
with_amount_and_expiry p amount expiry = prepare_frame (record p { amount = amount; expiry = expiry })

-- The bytes of a Prepare before its amount: its type and the length of its contents, as it was spelled
-- (RFC 0027, "ILP Prepare").
abbrev pub before_amount : Prepare → List ℕ
before_amount p = 12 ∷ p.contents_length

-- The bytes of a Prepare after its expiry: the last fields and the bytes after them (RFC 0027, "ILP
-- Prepare").
abbrev pub behind_expiry : Prepare → List ℕ
behind_expiry p =
    p.condition ++ (p.destination_length ++ (p.destination ++ (p.data_length ++ (p.payload ++ p.extra))))

-- The frame is these bytes: the front, 8 of an amount, 17 of an expiry, and the back (RFC 0027, "ILP
-- Prepare").
pub record IsCutAt (frame front amount expiry back : List ℕ) : Type 0 where
  pub bytes : frame ≡ front ++ (amount ++ (expiry ++ back))
  pub amount_size : length amount ≡ 8
  pub expiry_size : length expiry ≡ 17

-- A frame came that is a Prepare, and the frame that went differs from it in its amount and its expiry
-- at most (RFC 0027, "ILP Prepare").
pub record IsForwardOf (came went : List ℕ) : Type 0 where
  pub prepare : Prepare
  pub amount_came : List ℕ
  pub expiry_came : List ℕ
  pub amount_went : List ℕ
  pub expiry_went : List ℕ
  pub is : IsPrepare came prepare
  pub came_cut : IsCutAt came (before_amount prepare) amount_came expiry_came (behind_expiry prepare)
  pub went_cut : IsCutAt went (before_amount prepare) amount_went expiry_went (behind_expiry prepare)

-- The parts of a Fulfill, each as it is in the frame (RFC 0027, "ILP Fulfill").
pub record Fulfill : Type 0 where
  pub contents_length : List ℕ
  pub fulfillment : List ℕ
  pub data_length : List ℕ
  pub payload : List ℕ
  pub extra : List ℕ

-- The fields of a Fulfill in their order (RFC 0027, "ILP Fulfill").
abbrev pub fulfill_contents : Fulfill → List ℕ
fulfill_contents p = p.fulfillment ++ (p.data_length ++ (p.payload ++ p.extra))

-- The frame is a Fulfill with these parts, and each keeps its rule (RFC 0027, "ILP Fulfill").
pub record IsFulfill (frame : List ℕ) (p : Fulfill) : Type 0 where
  pub framed : IsFrame frame 13 p.contents_length (fulfill_contents p)
  pub fulfillment : length p.fulfillment ≡ 32
  pub data_length : IsLength p.data_length (length p.payload)
  pub payload : length p.payload ≤ max_data

-- The parts of a Reject, each as it is in the frame (RFC 0027, "ILP Reject").
pub record Reject : Type 0 where
  pub contents_length : List ℕ
  pub code : List ℕ
  pub triggered_by_length : List ℕ
  pub triggered_by : List ℕ
  pub message_length : List ℕ
  pub message : List ℕ
  pub data_length : List ℕ
  pub payload : List ℕ
  pub extra : List ℕ

-- The fields of a Reject in their order (RFC 0027, "ILP Reject").
abbrev pub reject_contents : Reject → List ℕ
reject_contents p =
    p.code ++ (p.triggered_by_length ++ (p.triggered_by
    ++ (p.message_length ++ (p.message
    ++ (p.data_length ++ (p.payload ++ p.extra))))))

-- The frame is a Reject with these parts, and each keeps its rule; code, sender and message are any
-- bytes (RFC 0027, "ILP Reject").
pub record IsReject (frame : List ℕ) (p : Reject) : Type 0 where
  pub framed : IsFrame frame 14 p.contents_length (reject_contents p)
  pub code : length p.code ≡ 3
  pub triggered_by_length : IsLength p.triggered_by_length (length p.triggered_by)
  pub message_length : IsLength p.message_length (length p.message)
  pub data_length : IsLength p.data_length (length p.payload)
  pub payload : length p.payload ≤ max_data

-- The frame of a Fulfill, its lengths in the fewest bytes (RFC 0027, "ILP Fulfill").
abbrev pub fulfill_frame : List ℕ → List ℕ → List ℕ
fulfill_frame fulfillment payload = 13 ∷ octet_string (fulfillment ++ octet_string payload)

-- The frame of a Reject, its lengths in the fewest bytes (RFC 0027, "ILP Reject").
abbrev pub reject_frame : List ℕ → List ℕ → List ℕ → List ℕ → List ℕ
reject_frame code triggered_by message payload =
    14 ∷ octet_string (code ++ (octet_string triggered_by ++ (octet_string message ++ octet_string payload)))

-- The parts of the Fulfill with that frame (RFC 0027, "ILP Fulfill").
abbrev pub written_fulfill : List ℕ → List ℕ → Fulfill
written_fulfill fulfillment payload = record {
  contents_length = shortest_length (length (fulfillment ++ octet_string payload));
  fulfillment = fulfillment;
  data_length = shortest_length (length payload);
  payload = payload;
  extra = [];
}

-- The parts of the Reject with that frame (RFC 0027, "ILP Reject").
abbrev pub written_reject : List ℕ → List ℕ → List ℕ → List ℕ → Reject
written_reject code triggered_by message payload = record {
  contents_length = shortest_length (length (code
      ++ (octet_string triggered_by ++ (octet_string message ++ octet_string payload))));
  code = code;
  triggered_by_length = shortest_length (length triggered_by);
  triggered_by = triggered_by;
  message_length = shortest_length (length message);
  message = message;
  data_length = shortest_length (length payload);
  payload = payload;
  extra = [];
}
