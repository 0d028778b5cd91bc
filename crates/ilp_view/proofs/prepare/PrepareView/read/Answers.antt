use Rattle.std.proofs.Common.{List, ℕ, sym, ◌∙◌, subst, arith}
use Rattle.ilp_view.specs.Packet.{IsPrepare}
use Rattle.ilp_view.specs.Seen.{prepare_of}
use Rattle.ilp_view.proofs.PrepareLaws.{prepare_takes, prepare_again}
use Rattle.ilp_view.proofs.prepare.PrepareView.read.Goals as goal

pub returns-in_err-parts-clause-only : goal.returns-in_err-parts-clause-only
returns-in_err-parts-clause-only c = λ p is. let read = prepare_again c.laws_below.ensures c.args.frame.now p is in let failed = c.in_err-parts.ensures.exact in absurd cc

pub invariant_of-result : goal.invariant_of-result
invariant_of-result c =
    let p = prepare_of c.in_ok-parts.parts in
    let is = prepare_takes c.laws_below.ensures c.args.frame.now p (λ i. omega (arith, c.type_inv.frame i)) c.in_ok-parts.ensures.exact in
    record { rules = subst (λ (f : List ℕ). IsPrepare f p) is.framed.bytes is; moment = c.in_ok-parts.ensures.moment; bound = c.in_ok-parts.ensures.bound }

pub returns-clause-found : goal.returns-clause-found
returns-clause-found c = prepare_takes c.laws_below.ensures c.args.frame.now (prepare_of c.in_ok-parts.parts) (λ i. omega (arith, c.type_inv.frame i)) c.in_ok-parts.ensures.exact

pub returns-clause-only : goal.returns-clause-only
returns-clause-only c = λ p is. sym c.in_ok-parts.ensures.exact ∙ prepare_again c.laws_below.ensures c.args.frame.now p is
