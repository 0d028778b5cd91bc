use Rattle.std.proofs.Common.{◌≡◌, ◌≤◌, true, length, arith, sym, ◌∙◌}
use Rattle.std.specs.List.{list_all}
use Rattle.ilp_addr.specs.Address.{segments, is_segment}
use Rattle.ilp_addr.proofs.Parts.{checked}
use Rattle.ilp_addr.proofs.address.check_address.Goals as goal

pub returns : goal.returns
returns c =
    let short : length c.args.bytes.now ≤ 1023 = omega arith in
    let fine : list_all is_segment (segments c.in-Some.rest.now) ≡ true = sym c.are_segments.ensures ∙ c.if-not-are_segments.false in
    checked c.args.bytes.now c.in-Some.scheme.now c.in-Some.rest.now c.in-Some.ensures short (sym c.is_scheme.ensures ∙ c.if-not-is_scheme.false) fine
