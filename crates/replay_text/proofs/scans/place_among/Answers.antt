use Rattle.std.proofs.Common.{arith, sym, eqb, w8, ◌∙◌}
use Rattle.std.proofs.lemmas.Bool.{cond-true, cond-false, eq-eqb, ne_eqb}
use Rattle.std.proofs.lemmas.Simd.{bitmask_splat}
use Rattle.replay_text.proofs.Places.{place_marked}
use Rattle.replay_text.proofs.scans.place_among.Goals as goal

pub returns-then-marks-eq0 : goal.returns-then-marks-eq0
returns-then-marks-eq0 c =
    let marks = bitmask_splat w8 eqb c.args.bytes.now 16 c.args.byte c.told-bytes (omega arith) in
    sym (cond-true _ _ _ (eq-eqb _ _ c.if-marks-eq0.true)) ∙ place_marked c.args.byte _ c.args.bytes.now c.told-bytes marks

pub returns-else-marks-eq0 : goal.returns-else-marks-eq0
returns-else-marks-eq0 c =
    let marks = bitmask_splat w8 eqb c.args.bytes.now 16 c.args.byte c.told-bytes (omega arith) in
    sym (cond-false _ _ _ (ne_eqb _ _ c.if-marks-eq0.false)) ∙ place_marked c.args.byte _ c.args.bytes.now c.told-bytes marks
