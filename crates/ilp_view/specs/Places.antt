-- What was read of a Prepare and is kept without its frame, and the fields that it gives again.
use Rattle.std.specs.Prelude.{◌≡◌, ◌+◌, ℕ, List, length, IsOkAnd}
use Rattle.ilp_addr.specs.Timestamp.{moment_of}
use Rattle.ilp_view.specs.Packet.{Prepare}
use Rattle.ilp_view.specs.Reading.{prepare_at}
use Rattle.ilp_view.specs.declared.prepare.places.PrepareFields.{PrepareFields}
use Rattle.ilp_view.specs.declared.prepare.places.PreparePlaces.{PreparePlaces}

-- It was read of a Prepare with these parts.
pub record ArePlaces (p : Prepare) (at : PreparePlaces) : Type 0 where
  pub amount : at.amount ≡ p.amount
  pub expiry : at.expiry ≡ moment_of p.expiry
  pub amount_at : at.amount_at ≡ 1 + length p.contents_length
  pub spelling : at.spelling ≡ length p.destination_length
  pub destination : at.destination ≡ length p.destination

-- The frame is a Prepare, and it was read of it.
abbrev pub ArePlacesIn : List ℕ → PreparePlaces → Type 0
ArePlacesIn frame at = IsOkAnd (prepare_at frame) (λ p. ArePlaces p at)

-- They are fields of the Prepare with these parts.
pub record AreFields (p : Prepare) (f : PrepareFields) : Type 0 where
  pub amount : f.amount ≡ p.amount
  pub expiry : f.expiry ≡ moment_of p.expiry
  pub condition : f.condition.now ≡ p.condition
  pub destination : f.destination ≡ p.destination
