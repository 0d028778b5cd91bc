use Rattle.std.proofs.Common.{ℕ, ◌+◌, List, length, ap, arith}
use Rattle.ilp_view.specs.Reading.{envelope_at, prepare_at}
use Rattle.ilp_view.proofs.PrepareLaws.{prepare_takes}
use Rattle.ilp_view.proofs.Cuts.{envelope_of, value_of, if_ok, given_ok, given_at, same_first}
use Rattle.ilp_view.proofs.prepare_mut.place_of_amount.Goals as goal

pub unwrap-requires : goal.unwrap-requires
unwrap-requires c =
    let frame = c.args.frame.now in
    let p = value_of (prepare_at frame) c.requires in
    given_ok _ c.envelope.result (envelope_at 12 frame) _ c.envelope.ensures
    (envelope_of c.laws_below.ensures frame p.0 (λ i. omega (arith, c.type_inv.frame i)) p.1)

pub returns-clause-place : goal.returns-clause-place
returns-clause-place c =
    let frame = c.args.frame.now in
    if_ok (prepare_at frame) _ (λ p read.
    let e = envelope_of c.laws_below.ensures frame p (λ i. omega (arith, c.type_inv.frame i)) read in
    let g = given_at _ c.envelope.result (envelope_at 12 frame) c.unwrap.result c.envelope.ensures c.unwrap.ensures in
    ap (λ (s : List ℕ). 1 + length s) (same_first (envelope_at 12 frame) _ _ g e))

pub returns-clause-parts : goal.returns-clause-parts
returns-clause-parts c =
    let frame = c.args.frame.now in
    if_ok (prepare_at frame) _ (λ p read. prepare_takes c.laws_below.ensures frame p (λ i. omega (arith, c.type_inv.frame i)) read)
