use Rattle.std.proofs.Common.{◌==◌, true, refl, arith}
use Rattle.common_types.proofs.Tables.{agree_below, from_table}
use Rattle.ilp_addr.specs.declared.segments.TheConstants.{KINDS}
use Rattle.ilp_addr.specs.Address.{is_segment_byte}
use Rattle.ilp_addr.proofs.Marks.{is_kind, kind_from}
use Rattle.ilp_addr.proofs.segments.kind_of.Goals as goal

pub returns : goal.returns
unfolding agree_below is_segment_byte
returns c =
    let b = c.args.byte in
    kind_from _ b
    (from_table (λ x. x == 48) is_segment_byte KINDS b (omega arith) refl)
    (from_table (λ x. x == 49) (λ x. x == 46) KINDS b (omega arith) refl)
    (from_table is_kind (λ x. true) KINDS b (omega arith) refl)
