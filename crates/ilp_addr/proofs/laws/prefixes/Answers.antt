use Rattle.ilp_addr.proofs.Boundary.{begins_true, begins_test}
use Rattle.ilp_addr.proofs.Parts.{prefix_at_found, prefix_at_again}
use Rattle.ilp_addr.proofs.laws.prefixes.Goals as goal

pub returns : goal.returns
returns c = record {
  read_is_prefix = prefix_at_found;
  prefix_is_read = prefix_at_again;
  begins_with_decides = λ p d. (begins_true p d, begins_test p d);
}
