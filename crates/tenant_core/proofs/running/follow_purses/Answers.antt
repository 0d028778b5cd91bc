use Rattle.std.proofs.Common.{◌≡◌, ◌<◌, ℕ, List, length, false, ap, subst, sym, ◌∙◌}
use Rattle.money_core.specs.Account.{Account}
use Rattle.tenant_core.specs.Following.{CanFollow, is_past_bound, limited_so, settling, purses_after}
use Rattle.tenant_core.specs.declared.command.Side.{Side}
use Rattle.tenant_core.specs.declared.journal.Change.{Change as Changed}
use Rattle.tenant_core.proofs.ChangedLists.{changed_here, read_at}
use Rattle.tenant_core.proofs.running.follow_purses.Goals as goal

pub returns-in-LimitsSet-Some : goal.returns-in-LimitsSet-Some
returns-in-LimitsSet-Some c =
    let xs : List Account = c.args.purses.now.items in
    let i : ℕ = c.in-LimitsSet-Some.place in
    let a : Account = c.index_mut.result.now in
    let limits = c.in-LimitsSet-Some.limits in
    let inside : i < length xs = c.requires.inside i c.in-LimitsSet-Some.is-1 in
    let made : c.set_limits.new.self ≡ limited_so limits a =
    c.set_limits.ensures ∙ (ap (λ n. record a { ceiling = n; credit = c.get-in-LimitsSet-Some.result }) c.get.ensures.value
    ∙ ap (λ n. record a { ceiling = limits.ceiling; credit = n }) c.get-in-LimitsSet-Some.ensures.value) in
    changed_here (limited_so limits) xs c.args.place i a c.set_limits.new.self c.in-LimitsSet-Some.is-1 inside c.index_mut.ensures.value made
    ∙ ap (λ (x : Changed). purses_after x c.args.place xs) (sym c.in-LimitsSet-Some.is-0)

pub settle-requires : goal.settle-requires
settle-requires c =
    let xs : List Account = c.args.purses.now.items in
    let i : ℕ = c.in-Settled-Some.place in
    let a : Account = c.index_mut-in-Settled-Some.result.now in
    let inside : i < length xs = c.requires.inside i c.in-Settled-Some.is-1 in
    let can = subst (λ (x : Changed). CanFollow x c.args.place xs) c.in-Settled-Some.is-0 c.requires.can in
    let past : is_past_bound c.in-Settled-Some.side c.in-Settled-Some.amount a ≡ false =
    can i a c.in-Settled-Some.is-1 (read_at xs i a inside c.index_mut-in-Settled-Some.ensures.value) in
    record { can = ap (λ n. is_past_bound c.in-Settled-Some.side n a) c.get-in-Settled-Some.ensures.value ∙ past }

pub returns-in-Settled-Some : goal.returns-in-Settled-Some
returns-in-Settled-Some c =
    let xs : List Account = c.args.purses.now.items in
    let i : ℕ = c.in-Settled-Some.place in
    let a : Account = c.index_mut-in-Settled-Some.result.now in
    let side : Side = c.in-Settled-Some.side in
    let amount : ℕ = c.in-Settled-Some.amount in
    let inside : i < length xs = c.requires.inside i c.in-Settled-Some.is-1 in
    let made : c.settle.new.purse ≡ settling side amount a =
    c.settle.ensures ∙ ap (λ n. settling side n a) c.get-in-Settled-Some.ensures.value in
    changed_here (settling side amount) xs c.args.place i a c.settle.new.purse c.in-Settled-Some.is-1 inside c.index_mut-in-Settled-Some.ensures.value made
    ∙ ap (λ (x : Changed). purses_after x c.args.place xs) (sym c.in-Settled-Some.is-0)
