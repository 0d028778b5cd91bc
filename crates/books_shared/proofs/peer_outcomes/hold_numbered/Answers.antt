use Rattle.std.proofs.Common.{rules, ◌≡◌, ◌≤◌, ◌+◌, ◌∙◌, ap, sym, subst, Some, option_copied, arith}
use Rattle.std.specs.List.{slice_get}
use Rattle.std.proofs.lemmas.Option.{slice_get_read}
use Rattle.books_shared.specs.PeerOutcomes.{hold_numbered}
use Rattle.books_shared.proofs.PeerOutcomes.{copied_read, first_number, none_before, numbered_at}
use Rattle.books_shared.proofs.peer_outcomes.hold_numbered.Goals as goal

pub returns-in_err-checked_sub : goal.returns-in_err-checked_sub
returns-in_err-checked_sub c =
    let there : slice_get c.args.holds.now 0 ≡ Some c.in_ok-first.field-0.now = search (rules, slice_get_read) in
    let number = first_number c.requires.0 c.args.holds.now c.in_ok-first.field-0.now c.requires.1 there in
    let above : c.in_ok-first.field-0.now.number ≤ c.args.number → ⊥ = c.in_err-checked_sub.ensures in
    ap option_copied c.from_residual-in_err-checked_sub.ensures ∙ sym (none_before c.requires.0 c.args.number c.args.holds.now c.requires.1 (omega arith))

pub returns : goal.returns
returns c =
    let there : slice_get c.args.holds.now 0 ≡ Some c.in_ok-first.field-0.now = search (rules, slice_get_read) in
    let number = first_number c.requires.0 c.args.holds.now c.in_ok-first.field-0.now c.requires.1 there in
    let sub = c.in_ok-checked_sub.ensures in
    let place : c.requires.0 + c.in_ok-checked_sub.field-0 ≡ c.args.number = omega arith in
    let at : option_copied c.get.result ≡ slice_get c.args.holds.now c.in_ok-checked_sub.field-0 =
    copied_read c.args.holds.now c.in_ok-checked_sub.field-0 c.get.result c.get.ensures.lookup.0 c.get.ensures.lookup.1 in
    subst (λ n. option_copied c.get.result ≡ hold_numbered n c.args.holds.now) place
    (at ∙ sym (numbered_at c.requires.0 c.in_ok-checked_sub.field-0 c.args.holds.now c.requires.1))
