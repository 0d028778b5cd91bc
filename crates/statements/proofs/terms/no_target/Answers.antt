use Rattle.std.proofs.Common.{◌∙◌, refl}
use Rattle.ilp_addr.specs.Target.{target_in, endpoint_in, host_in, v4_in, v6_in}
use Rattle.std.specs.Net.Reader.{read_ipv4, read_octet, read_number}
use Rattle.statements.proofs.terms.no_target.Goals as goal

pub returns : goal.returns
unfolding target_in endpoint_in host_in v4_in v6_in read_ipv4 read_octet read_number
returns c = c.new.ensures.exact ∙ refl
