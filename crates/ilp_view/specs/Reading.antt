-- Reading a frame from the first byte on, with the first fault that is met.
use Rattle.std.specs.Prelude.{ℕ, List, [], ◌∷◌, length, take, drop, Result, Ok, Err, nat_lt, ◌==◌, if◌then◌else◌}
use Rattle.oer_core.specs.declared.fault.OerFault.{OerFault}
use Rattle.common_types.specs.ResultChain.{◌>>=◌}
use Rattle.oer_core.specs.Length.{length_at, number_at}
use Rattle.ilp_addr.specs.declared.fault.AddrFault.{AddrFault}
use Rattle.ilp_addr.specs.Address.{address_at}
use Rattle.ilp_addr.specs.Timestamp.{timestamp_at}
use Rattle.ilp_view.specs.declared.fault.ViewFault.{ViewFault}
use Rattle.ilp_view.specs.declared.fault.ViewFault.TheVariants.{Kind, Oer, Field, AfterEnd, Size}
use Rattle.ilp_view.specs.Packet.{max_frame, max_data, Prepare, Fulfill, Reject}

-- What is wrong with a length or a number is one fault.
abbrev pub as_oer : {A : Type 0} → Result A OerFault → Result A ViewFault
as_oer (Ok x) = Ok x
as_oer (Err e) = Err Oer

-- What is wrong with an address or a date is one fault.
abbrev pub as_field : {A : Type 0} → Result A AddrFault → Result A ViewFault
as_field (Ok x) = Ok x
as_field (Err e) = Err Field

-- That many bytes, and the bytes after them.
unfoldable pub fixed_at : ℕ → List ℕ → Result (List ℕ × List ℕ) ViewFault
fixed_at count bytes = if nat_lt (length bytes) count then Err Oer else Ok (take count bytes, drop count bytes)

-- An octet string: how its length is spelled, its text, and the bytes after it (RFC 0030,
-- "Variable-Length Octet Strings").
unfoldable pub string_at : List ℕ → Result (List ℕ × List ℕ × List ℕ) ViewFault
string_at bytes = do
  r ← as_oer (length_at max_frame bytes)
  if nat_lt (length (drop r.1 bytes)) r.0 then Err Oer
      else Ok (take r.1 bytes, take r.0 (drop r.1 bytes), drop r.0 (drop r.1 bytes))

-- A date and time in 17 digits, and the bytes after it (RFC 0027, "ILP Prepare").
unfoldable pub expiry_at : List ℕ → Result (List ℕ × List ℕ) ViewFault
expiry_at bytes = do
  text ← fixed_at 17 bytes
  moment ← as_field (timestamp_at text.0)
  Ok text

-- An octet string that holds an address (RFC 0027, "ILP Prepare").
unfoldable pub destination_at : List ℕ → Result (List ℕ × List ℕ × List ℕ) ViewFault
destination_at bytes = do
  s ← string_at bytes
  address ← as_field (address_at s.1)
  Ok s

-- An octet string that holds the data of a packet (RFC 0027, "ILP Prepare").
unfoldable pub data_at : List ℕ → Result (List ℕ × List ℕ × List ℕ) ViewFault
data_at bytes = do
  s ← string_at bytes
  if nat_lt max_data (length s.1) then Err Size else Ok s

-- A length and as many bytes as it says, with none after them.
unfoldable pub whole_string : List ℕ → Result (List ℕ × List ℕ) ViewFault
whole_string bytes = do
  s ← string_at bytes
  if length s.2 == 0 then Ok (s.0, s.1) else Err AfterEnd

-- The length and the contents after the type byte of that kind.
unfoldable pub behind_type : ℕ → List ℕ → Result (List ℕ × List ℕ) ViewFault
behind_type kind [] = Err Kind
behind_type kind (b ∷ rest) = if b == kind then whole_string rest else Err Kind

-- The spelling of the length and the contents of a frame of that kind (RFC 0027, "Packet Format").
unfoldable pub envelope_at : ℕ → List ℕ → Result (List ℕ × List ℕ) ViewFault
envelope_at kind frame = if nat_lt max_frame (length frame) then Err Size else behind_type kind frame

-- The Prepare of parts that were read, each with the bytes after it.
abbrev pub prepare_parts : List ℕ → ℕ × List ℕ → (expiry condition : List ℕ × List ℕ)
    → (destination payload : List ℕ × List ℕ × List ℕ) → Prepare
prepare_parts spelling amount expiry condition destination payload = record {
  contents_length = spelling;
  amount = amount.0;
  expiry = expiry.0;
  condition = condition.0;
  destination_length = destination.0;
  destination = destination.1;
  data_length = payload.0;
  payload = payload.1;
  extra = payload.2;
}

-- The parts of a Prepare, its contents read field by field.
unfoldable pub prepare_fields : List ℕ → List ℕ → Result Prepare ViewFault
prepare_fields spelling contents = do
  amount ← as_oer (number_at contents)
  expiry ← expiry_at amount.1
  condition ← fixed_at 32 expiry.1
  destination ← destination_at condition.1
  payload ← data_at destination.2
  Ok (prepare_parts spelling amount expiry condition destination payload)

-- The parts of the Prepare that the frame is, or the first fault (RFC 0027, "ILP Prepare").
unfoldable pub prepare_at : List ℕ → Result Prepare ViewFault
prepare_at frame = do
  e ← envelope_at 12 frame
  prepare_fields e.0 e.1

-- The Fulfill of parts that were read, each with the bytes after it.
abbrev pub fulfill_parts : List ℕ → List ℕ × List ℕ → List ℕ × List ℕ × List ℕ → Fulfill
fulfill_parts spelling fulfillment payload = record {
  contents_length = spelling;
  fulfillment = fulfillment.0;
  data_length = payload.0;
  payload = payload.1;
  extra = payload.2;
}

-- The parts of a Fulfill, its contents read field by field.
unfoldable pub fulfill_fields : List ℕ → List ℕ → Result Fulfill ViewFault
fulfill_fields spelling contents = do
  fulfillment ← fixed_at 32 contents
  payload ← data_at fulfillment.1
  Ok (fulfill_parts spelling fulfillment payload)

-- The parts of the Fulfill that the frame is, or the first fault (RFC 0027, "ILP Fulfill").
unfoldable pub fulfill_at : List ℕ → Result Fulfill ViewFault
fulfill_at frame = do
  e ← envelope_at 13 frame
  fulfill_fields e.0 e.1

-- The Reject of parts that were read, each with the bytes after it.
abbrev pub reject_parts : List ℕ → List ℕ × List ℕ → (triggered_by message payload : List ℕ × List ℕ × List ℕ) → Reject
reject_parts spelling code triggered_by message payload = record {
  contents_length = spelling;
  code = code.0;
  triggered_by_length = triggered_by.0;
  triggered_by = triggered_by.1;
  message_length = message.0;
  message = message.1;
  data_length = payload.0;
  payload = payload.1;
  extra = payload.2;
}

-- The parts of a Reject, its contents read field by field.
unfoldable pub reject_fields : List ℕ → List ℕ → Result Reject ViewFault
reject_fields spelling contents = do
  code ← fixed_at 3 contents
  triggered_by ← string_at code.1
  message ← string_at triggered_by.2
  payload ← data_at message.2
  Ok (reject_parts spelling code triggered_by message payload)

-- The parts of the Reject that the frame is, or the first fault (RFC 0027, "ILP Reject").
unfoldable pub reject_at : List ℕ → Result Reject ViewFault
reject_at frame = do
  e ← envelope_at 14 frame
  reject_fields e.0 e.1
