use Rattle.std.proofs.Common.{◌≡◌, List, [], map, option_map, slice_get, slice_set, Some, ap, sym, refl, ◌∙◌, subst}
use Rattle.std.proofs.Math.ListN.{get_or}
use Rattle.tenant_core.specs.Answer.{settle_answer}
use Rattle.tenant_core.specs.Ground.{state_on}
use Rattle.tenant_core.specs.Holds.{with_fate}
use Rattle.tenant_core.specs.Running.{purse_by}
use Rattle.tenant_core.specs.declared.hold.Fate.TheVariants.{Held, Ended}
use Rattle.tenant_core.specs.declared.hold.Hold.{Hold}
use Rattle.tenant_core.proofs.Ending.{IsFoundAt, found_at, found_read, unheld_ends}
use Rattle.tenant_core.proofs.Ticking.{ended_map}
use Rattle.tenant_core.proofs.moves.end_hold.Goals.{then-holds_amounts, else-holds_amounts}
use Rattle.tenant_core.proofs.moves.end_hold.Goals as goal

-- what a read past the holds would give
abbrev blank : Hold
blank = record { number = 0; from = 0; to = 0; amount = 0; price = 0; expiry = 0; condition = []; fate = Held }

pub end-requires-clause-held : goal.end-requires-clause-held
end-requires-clause-held c = λ h at.
    (found_at c.args.number c.args.holds.now.holds c.as_slice.result.now c.in_ok-place.place h c.as_slice.ensures.value c.in_ok-place.ensures.value at).awaits

pub returns-clause-verdict : goal.returns-clause-verdict
returns-clause-verdict c =
    let h : Hold = get_or c.as_slice-2.result.now c.in_ok-place.place blank in
    let here : IsFoundAt c.args.number c.args.holds.now.holds c.in_ok-place.place h =
    found_read c.args.number c.args.holds.now.holds c.as_slice.result.now c.as_slice-2.result.now c.in_ok-place.place blank c.as_slice.ensures.value c.as_slice-2.ensures.value
    c.in_ok-place.ensures.inside c.in_ok-place.ensures.value in
    ap Some c.settle_answer-verdict.ensures ∙ ap (option_map (λ (x : Hold). settle_answer x c.args.clock c.args.key.now)) (sym here.found)

pub returns-clause-holds : goal.returns-clause-holds
returns-clause-holds c =
    let h : Hold = get_or c.as_slice-2.result.now c.in_ok-place.place blank in
    let here : IsFoundAt c.args.number c.args.holds.now.holds c.in_ok-place.place h =
    found_read c.args.number c.args.holds.now.holds c.as_slice.result.now c.as_slice-2.result.now c.in_ok-place.place blank c.as_slice.ensures.value c.as_slice-2.ensures.value
    c.in_ok-place.ensures.inside c.in_ok-place.ensures.value in
    rw (← c.is_fulfilled-fulfilled.ensures)
    (c.end.ensures.holds h here.at
    ∙ ended_map c.args.ground.now.opening.now.next_hold c.args.number c.is_fulfilled-fulfilled.result c.args.holds.now.holds h c.in_ok-place.place c.requires.numbers here.at here.number here.awaits)

pub returns-clause-purses : goal.returns-clause-purses
returns-clause-purses c =
    let h : Hold = get_or c.as_slice-2.result.now c.in_ok-place.place blank in
    let b = c.is_fulfilled-fulfilled.result in
    let place = c.in_ok-place.place in
    let hs : List Hold = c.args.holds.now.holds in
    let here : IsFoundAt c.args.number hs place h =
    found_read c.args.number hs c.as_slice.result.now c.as_slice-2.result.now place blank c.as_slice.ensures.value c.as_slice-2.ensures.value
    c.in_ok-place.ensures.inside c.in_ok-place.ensures.value in
    let ended : slice_set hs place (with_fate h (Ended b)) ≡ c.end.new.self.holds = sym (c.end.ensures.holds h here.at) in
    let of = λ (ks : List Hold). map (purse_by (state_on c.args.ground.now) ks) c.args.ground.now.network.now.peers in
    let moved : c.if-holds_amounts.purses.items ≡ of (slice_set hs place (with_fate h (Ended b))) =
    elim c.if-holds_amounts.branch [
      | then-holds_amounts w ↦
          let same = w.as_slice-then-holds_amounts.ensures.value in
          let at : slice_get w.as_slice-then-holds_amounts.result.now place ≡ Some h = subst (λ (ks : List Hold). slice_get ks place ≡ Some h) (sym same) here.at in
          rw w.purses-is
          (w.move_amounts.ensures h (Ended b) at refl refl ∙ ap (λ (ks : List Hold). of (slice_set ks place (with_fate h (Ended b)))) same)
      | else-holds_amounts w ↦
          rw w.purses-is
          (c.requires.purses
          ∙ sym (unheld_ends (state_on c.args.ground.now) hs place h c.args.ground.now.network.now.peers c.args.clock c.args.key.now c.settle_answer-verdict.result b
          here.at here.awaits (sym c.holds_amounts.ensures ∙ w.if-holds_amounts.false) c.settle_answer-verdict.ensures c.is_fulfilled-fulfilled.ensures))
    ] in
    moved ∙ ap of ended
