use Rattle.std.proofs.Common.{◌≡◌, ℕ, Some, subst, slice_get, arith}
use Rattle.std.proofs.lemmas.Option.{slice_get_within}
use mathlib.Core.Logic.{dite}
use native.Mathlib.Decide.{ℕ_discrete}
use Rattle.receipts.proofs.check.are_held_whole.Goals as goal

pub returns-then-not-is_held_whole-clause-nowhere : goal.returns-then-not-is_held_whole-clause-nowhere
returns-then-not-is_held_whole-clause-nowhere c = λ e.
    let found = c.is_held_whole.ensures.nowhere c.if-not-is_held_whole.true in
    (c.loop-k.k, found.0, found.1, found.2)

pub loop-k-preserved : goal.loop-k-preserved
loop-k-preserved c = λ j p below there. dite (ℕ_discrete j c.loop-k.k)
    (λ same.
    let P : ℕ → Type 0 = λ k. slice_get c.args.laid.now.periods.now k ≡ Some p in
    c.is_held_whole.ensures.whole c.if-not-is_held_whole.false p (subst P same there))
    (λ other. c.loop-k.invariant j p (omega arith) there)

pub returns-clause-whole : goal.returns-clause-whole
returns-clause-whole c = λ e k p there.
    let below = slice_get_within c.args.laid.now.periods.now k p there in
    let past = c.loop-k-test.false in
    c.loop-k.invariant k p (omega arith) there
