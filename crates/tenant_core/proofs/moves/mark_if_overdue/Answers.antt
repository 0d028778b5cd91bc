use Rattle.std.proofs.Common.{◌≡◌, true, false, List, [], slice_get, slice_set, map, Some, ap, sym, refl, ◌∙◌, subst}
use Rattle.std.proofs.Math.ListN.{get_or}
use Rattle.std.proofs.lemmas.Option.{slice_get-get_or}
use Rattle.tenant_core.specs.Ground.{state_on}
use Rattle.tenant_core.specs.Holds.{with_fate}
use Rattle.tenant_core.specs.Running.{purse_by}
use Rattle.tenant_core.specs.declared.hold.Fate.TheVariants.{Held, Marked}
use Rattle.tenant_core.specs.declared.hold.Hold.{Hold}
use Rattle.tenant_core.proofs.Marking.{overdue_read, not_overdue, overdue}
use Rattle.tenant_core.proofs.Ticking.{overdue_held}
use Rattle.tenant_core.proofs.moves.mark_if_overdue.Goals as goal

-- what a read past the holds would give
abbrev blank : Hold
blank = record { number = 0; from = 0; to = 0; amount = 0; price = 0; expiry = 0; condition = []; fate = Held }

pub returns-then-not-is_overdue-clause-holds : goal.returns-then-not-is_overdue-clause-holds
returns-then-not-is_overdue-clause-holds c = λ h at.
    not_overdue c.args.clock c.args.place c.args.holds.now h at
    (overdue_read c.args.clock c.args.holds.now.holds c.as_slice.result.now c.args.place h blank false c.as_slice.ensures.value at c.if-not-is_overdue.ensures)

pub move_amounts-requires-clause-held : goal.move_amounts-requires-clause-held
move_amounts-requires-clause-held c = λ h at.
    let there : slice_get c.args.holds.now.holds c.args.place ≡ Some h = subst (λ (hs : List Hold). slice_get hs c.args.place ≡ Some h) c.as_slice-2.ensures.value at in
    (overdue_held c.args.clock h
    (overdue_read c.args.clock c.args.holds.now.holds c.as_slice.result.now c.args.place h blank true c.as_slice.ensures.value there c.if-not-is_overdue.ensures)).0

pub mark-requires-clause-held : goal.mark-requires-clause-held
mark-requires-clause-held c = λ h at.
    (overdue_held c.args.clock h
    (overdue_read c.args.clock c.args.holds.now.holds c.as_slice.result.now c.args.place h blank true c.as_slice.ensures.value at c.if-not-is_overdue.ensures)).0

pub returns-clause-holds : goal.returns-clause-holds
returns-clause-holds c = λ h at.
    overdue c.args.clock c.args.place c.args.holds.now c.mark.new.self h
    (overdue_read c.args.clock c.args.holds.now.holds c.as_slice.result.now c.args.place h blank true c.as_slice.ensures.value at c.if-not-is_overdue.ensures)
    (c.mark.ensures.holds h at) c.mark.ensures.room c.mark.ensures.table

pub returns-clause-purses : goal.returns-clause-purses
returns-clause-purses c =
    let h : Hold = get_or c.args.holds.now.holds c.args.place blank in
    let there : slice_get c.args.holds.now.holds c.args.place ≡ Some h = slice_get-get_or c.args.holds.now.holds c.args.place blank c.requires.inside in
    let at : slice_get c.as_slice-2.result.now c.args.place ≡ Some h = subst (λ (hs : List Hold). slice_get hs c.args.place ≡ Some h) (sym c.as_slice-2.ensures.value) there in
    let same : slice_set c.as_slice-2.result.now c.args.place (with_fate h Marked) ≡ c.mark.new.self.holds =
    ap (λ (hs : List Hold). slice_set hs c.args.place (with_fate h Marked)) c.as_slice-2.ensures.value ∙ sym (c.mark.ensures.holds h there) in
    c.move_amounts.ensures h Marked at refl refl
    ∙ ap (λ (hs : List Hold). map (purse_by (state_on c.args.ground.now) hs) c.args.ground.now.network.now.peers) same
