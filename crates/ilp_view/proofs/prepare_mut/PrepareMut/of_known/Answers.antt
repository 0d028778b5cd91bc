use Rattle.ilp_view.specs.Reading.{prepare_at}
use Rattle.ilp_view.proofs.Cuts.{if_ok, at_ok, lent_is}
use Rattle.ilp_view.proofs.prepare_mut.PrepareMut.of_known.Goals as goal

pub returns-clause-cut : goal.returns-clause-cut
returns-clause-cut c =
    let read = prepare_at c.args.frame.now in
    let place = c.place_of_amount-place in
    if_ok read _ (λ p e. lent_is (record { frame = c.args.frame; place = place.result }) p (at_ok read _ p place.ensures.parts e) (at_ok read _ p place.ensures.place e))
