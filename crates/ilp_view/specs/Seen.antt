-- The parts that a view lends, as lists.
use Rattle.std.specs.Prelude.{◌≡◌, ◌≤◌, length}
use Rattle.ilp_view.specs.declared.prepare.PrepareParts.{PrepareParts}
use Rattle.ilp_view.specs.declared.fulfill.FulfillParts.{FulfillParts}
use Rattle.ilp_view.specs.declared.reject.RejectParts.{RejectParts}
use Rattle.ilp_view.specs.Packet.{max_data, Prepare, prepare_frame, IsPrepare, Fulfill, Reject}
use Rattle.ilp_addr.specs.Timestamp.{latest_expiry, moment_of}

-- The parts of a Prepare as the view lends them.
abbrev pub prepare_of : PrepareParts → Prepare
prepare_of v = record {
  contents_length = v.contents_length.now;
  amount = v.amount;
  expiry = v.expiry_text.now;
  condition = v.condition.now;
  destination_length = v.destination_length.now;
  destination = v.destination;
  data_length = v.data_length.now;
  payload = v.payload.now;
  extra = v.extra.now;
}

-- The parts keep their rules, and the moment is that of the text, the latest at most.
pub record ArePrepareParts (v : PrepareParts) : Type 0 where
  pub rules : IsPrepare (prepare_frame (prepare_of v)) (prepare_of v)
  pub moment : v.expiry ≡ moment_of v.expiry_text.now
  pub bound : v.expiry ≤ latest_expiry

-- The parts of a Fulfill as the view lends them.
abbrev pub fulfill_of : FulfillParts → Fulfill
fulfill_of v = record {
  contents_length = v.contents_length.now;
  fulfillment = v.fulfillment.now;
  data_length = v.data_length.now;
  payload = v.payload.now;
  extra = v.extra.now;
}

-- The sizes of the parts.
pub record AreFulfillParts (v : FulfillParts) : Type 0 where
  pub fulfillment : length v.fulfillment.now ≡ 32
  pub payload : length v.payload.now ≤ max_data

-- The parts of a Reject as the view lends them.
abbrev pub reject_of : RejectParts → Reject
reject_of v = record {
  contents_length = v.contents_length.now;
  code = v.code.now;
  triggered_by_length = v.triggered_by_length.now;
  triggered_by = v.triggered_by.now;
  message_length = v.message_length.now;
  message = v.message.now;
  data_length = v.data_length.now;
  payload = v.payload.now;
  extra = v.extra.now;
}

-- The sizes of the parts.
pub record AreRejectParts (v : RejectParts) : Type 0 where
  pub code : length v.code.now ≡ 3
  pub payload : length v.payload.now ≤ max_data
