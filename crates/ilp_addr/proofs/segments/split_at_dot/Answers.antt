use Rattle.std.proofs.Common.{◌≡◌, take_all, eqb, false}
use Rattle.std.proofs.lemmas.Bool.{ne_eqb}
use Rattle.std.proofs.lemmas.List.Elements.{All-more}
use Rattle.std.proofs.lemmas.List.{take_rest}
use Rattle.std.proofs.lemmas.List.Splits.{slice_split_none}
use Rattle.ilp_addr.proofs.Dots.{segments_at}
use Rattle.ilp_addr.proofs.segments.split_at_dot.Goals as goal

pub returns-then-byte-eq46 : goal.returns-then-byte-eq46
returns-then-byte-eq46 c = rw take_rest (segments_at c.args.bytes.now _ c.loop-i-test.true c.if-byte-eq46.true c.loop-i.invariant)

pub returns : goal.returns
returns c = slice_split_none (λ b. eqb b 46) _ (rw (take_all _ _ c.loop-i-test.false) at c.loop-i.invariant)

pub loop-i-preserved : goal.loop-i-preserved
loop-i-preserved c = All-more (λ b. eqb b 46 ≡ false) c.args.bytes.now c.loop-i.i 0 c.loop-i-test.true c.loop-i.invariant (ne_eqb _ 46 c.if-byte-eq46.false)
