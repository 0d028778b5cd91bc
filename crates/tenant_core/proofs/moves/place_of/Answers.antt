use Rattle.std.proofs.Common.{◌≤◌, length, option_and_then, slice_get, arith, ap, sym, ◌∙◌}
use Rattle.std.proofs.lemmas.Bool.{ltb-false, ltb-true}
use Rattle.tenant_core.proofs.Ending.{placed}
use Rattle.tenant_core.proofs.Ticking.{find_none_before, find_none_past}
use Rattle.tenant_core.proofs.moves.place_of.Goals as goal

pub returns-in_err-place-clause-value : goal.returns-in_err-place-clause-value
returns-in_err-place-clause-value c =
    let below : c.args.first ≤ c.args.number → ⊥ = c.in_err-place.ensures in
    ap (option_and_then (λ i. slice_get c.args.holds.now i)) c.from_residual.ensures
    ∙ sym (find_none_before c.args.first c.args.number c.args.holds.now c.requires.numbers (omega arith))

pub returns-in_err-hold-clause-value : goal.returns-in_err-hold-clause-value
returns-in_err-hold-clause-value c =
    let place = c.in_ok-place.ensures in
    let past : length c.args.holds.now ≤ c.in_ok-place.place = ltb-false _ _ (sym c.in_err-hold.ensures.lookup.0) in
    ap (option_and_then (λ i. slice_get c.args.holds.now i)) c.from_residual-in_err-hold.ensures
    ∙ sym (find_none_past c.args.first c.args.number c.args.holds.now c.requires.numbers (omega arith))

pub returns-clause-value : goal.returns-clause-value
returns-clause-value c =
    let place = c.in_ok-place.ensures in
    let found = c.in_ok-hold.ensures.lookup in
    placed c.args.first c.args.number c.in_ok-place.place c.args.holds.now c.in_ok-hold.hold.now c.is_open.result c.then_some.result c.requires.numbers
    (omega arith) (omega arith) (ltb-true _ _ (sym found.0)) found.1 c.is_open.ensures c.then_some.ensures
