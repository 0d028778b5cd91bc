use Rattle.std.proofs.Common.{◌≤◌, length, sym, ◌∙◌, rules, arith}
use Rattle.statements.proofs.KnownSteps.{anew_past}
use Rattle.statements.proofs.known.anew.Goals as goal

pub returns-in_err-other : goal.returns-in_err-other
returns-in_err-other c =
    let past : length c.args.others.now ≤ c.loop-place.place = search (rules, arith) in
    search rules ∙ (sym (anew_past c.args.peers.now c.args.others.now c.loop-place.place c.args.number past) ∙ c.loop-place.invariant)
