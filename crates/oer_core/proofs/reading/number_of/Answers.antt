use Rattle.std.proofs.Common.{◌≤◌, arith}
use Rattle.std.proofs.Math.Nat.{pow-le-pow_right}
use Rattle.oer_core.proofs.reading.number_of.Goals as goal

pub overflow_mul-value : goal.overflow_mul-value
overflow_mul-value c =
    let i : c.loop-byte.byte-index ≤ 7 = omega arith in
    omega (arith, pow-le-pow_right {n = 256} (omega arith) i)

pub overflow_add-value : goal.overflow_add-value
overflow_add-value c =
    let i : c.loop-byte.byte-index ≤ 7 = omega arith in
    omega (arith, pow-le-pow_right {n = 256} (omega arith) i, c.type_inv.bytes c.loop-byte.byte-index)
