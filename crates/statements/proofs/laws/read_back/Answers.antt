use Rattle.statements.proofs.RecordsBack.{record_back}
use Rattle.statements.proofs.OpeningsBack.{peer_line_back, rate_line_back, route_line_back, start_line_back, tenant_line_back}
use Rattle.statements.proofs.ReadBack.{bucket_back, hash_back, limits_back, number_back, prefix_back, rate_back, terms_back}
use Rattle.statements.proofs.laws.read_back.Goals as goal

pub returns : goal.returns
returns c =
    let nums = c.numerals.ensures in
    let addresses = c.addresses.ensures in
    let prefixes = c.prefix_words.ensures in
    record {
      number = number_back nums;
      hash = hash_back;
      limits = limits_back nums;
      bucket = bucket_back nums;
      terms = terms_back nums;
      prefix = prefix_back prefixes;
      rate = rate_back nums;
      record_line = record_back nums prefixes;
      tenant_line = tenant_line_back nums addresses;
      period_line = start_line_back nums;
      peer_line = peer_line_back nums;
      route_line = route_line_back nums prefixes;
      rate_line = rate_line_back nums;
    }
