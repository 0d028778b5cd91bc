use Rattle.ildcp_core.proofs.Addresses.{is_address}
use Rattle.ildcp_core.proofs.Configurations.{has_fields, only_fields, configuration_within, answer_within}
use Rattle.ildcp_core.proofs.laws.configurations.Goals as goal

pub returns : goal.returns
returns c =
    let laws = c.laws_below.ensures.lengths in
    record {
      address = is_address;
      fields = has_fields laws;
      only = only_fields laws;
      short = configuration_within laws;
      answer = answer_within laws;
    }
