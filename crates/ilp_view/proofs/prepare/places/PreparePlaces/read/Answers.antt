use Rattle.std.proofs.Common.{arith}
use Rattle.ilp_view.specs.Seen.{prepare_of}
use Rattle.ilp_view.proofs.PrepareLaws.{prepare_takes}
use Rattle.ilp_view.proofs.prepare.places.PreparePlaces.read.Goals as goal

pub returns-clause-short : goal.returns-clause-short
returns-clause-short c = (prepare_takes c.laws_below.ensures c.args.frame.now (prepare_of c.in_ok-parts.parts) (λ i. omega (arith, c.type_inv.frame i)) c.in_ok-parts.ensures.exact).framed.size
