use Rattle.ilp_addr.proofs.Parts.{address_found, address_again}
use Rattle.ilp_addr.proofs.address.Address.parse.Goals as goal

pub returns-in_err-check_address-clause-only : goal.returns-in_err-check_address-clause-only
returns-in_err-check_address-clause-only c = λ h. let e = address_again c.args.bytes.now h in let f = c.in_err-check_address.ensures in absurd cc

pub invariant_of-result : goal.invariant_of-result
invariant_of-result c = (address_found c.args.bytes.now c.args.bytes.now c.in_ok-check_address.ensures).0

pub returns-clause-found : goal.returns-clause-found
returns-clause-found c = (address_found c.args.bytes.now c.args.bytes.now c.in_ok-check_address.ensures)
