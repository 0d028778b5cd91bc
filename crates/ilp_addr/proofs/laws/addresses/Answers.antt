use Rattle.ilp_addr.proofs.Parts.{address_found, address_again}
use Rattle.ilp_addr.proofs.laws.addresses.Goals as goal

pub returns : goal.returns
returns c = record { read_is_address = address_found; address_is_read = address_again }
