use Rattle.std.proofs.Common.{◌≡◌, ℕ, Some, option_and_then, slice_get, slice_set, nat_cmp, subst, sym, ap, ◌∙◌, arith}
use Rattle.std.specs.BTreeMap.{get}
use mathlib.Core.Logic.{dite}
use native.Mathlib.Decide.{ℕ_discrete}
use Rattle.receipts.proofs.Places.{are_apart, read_there, unwritten, written}
use Rattle.receipts.proofs.index.Index.insert.Goals as goal

pub returns-in-Ok-clause-there : goal.returns-in-Ok-clause-there
returns-in-Ok-clause-there c =
    let maps = c.args.self.now.places in
    let index = c.requires.index in
    let tenant = c.requires.tenant in
    let there = written maps.items c.args.tenant c.insert.new.self (omega arith) in
    ap (option_and_then (λ m. get nat_cmp m c.args.number)) there ∙ c.in-Ok.ensures.updates.1

pub returns-in-Ok-clause-others : goal.returns-in-Ok-clause-others
returns-in-Ok-clause-others c = λ t n apart.
    let maps = c.args.self.now.places in
    let index = c.requires.index in
    let tenant = c.requires.tenant in
    dite (ℕ_discrete t c.args.tenant)
    (λ same.
    let other_number : n ≡ c.args.number → ⊥ = λ e. apart (same, e) in
    let there = written maps.items c.args.tenant c.insert.new.self (omega arith) in
    let was = read_there maps.items c.args.tenant c.index_mut.result.now (omega arith) in
    let at_new = ap (option_and_then (λ m. get nat_cmp m n)) there in
    let at_old = ap (option_and_then (λ m. get nat_cmp m n)) (was ∙ ap Some (sym c.index_mut.ensures.value)) in
    let kept = c.in-Ok.ensures.updates.2 n (are_apart c.args.number n other_number) in
    let P : ℕ → Type 0 = λ u.
    option_and_then (λ m. get nat_cmp m n) (slice_get (slice_set maps.items c.args.tenant c.insert.new.self) u)
    ≡ option_and_then (λ m. get nat_cmp m n) (slice_get maps.items u) in
    subst P (sym same) (at_new ∙ kept ∙ sym at_old))
    (λ other_tenant. ap (option_and_then (λ m. get nat_cmp m n)) (unwritten maps.items c.args.tenant t c.insert.new.self other_tenant))
