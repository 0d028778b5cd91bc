use Rattle.std.proofs.Common.{◌∙◌, ap, ◌==◌, length}
use Rattle.std.specs.Prelude.{unwrap_or}
use Rattle.ilp_addr.proofs.Hosts.{place_or_all}
use Rattle.ilp_addr.proofs.target.place_or_len.Goals as goal

pub returns-clause-value : goal.returns-clause-value
returns-clause-value c =
    let e = place_or_all (λ b. b == c.args.stop) c.args.bytes.now in
    let f = c.unwrap_or.ensures in
    let p = c.place_of.ensures in
    f ∙ (ap (λ o. unwrap_or o (length c.args.bytes.now)) p ∙ e)
