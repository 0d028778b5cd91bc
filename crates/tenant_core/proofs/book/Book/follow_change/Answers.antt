use Rattle.std.proofs.Common.{◌≡◌, ℕ, ap, subst, ◌∙◌}
use Rattle.std.specs.Prelude.{Option, Some}
use Rattle.tenant_core.specs.Network.{Net}
use Rattle.tenant_core.specs.Orders.{IsOrdered, ordered}
use Rattle.tenant_core.specs.Present.{network_of}
use Rattle.tenant_core.specs.Reopening.{IsOrderFor}
use Rattle.tenant_core.specs.State.{State}
use Rattle.tenant_core.specs.declared.command.Order.{Order}
use Rattle.tenant_core.specs.declared.journal.ChangeEntry.{ChangeEntry}
use Rattle.tenant_core.proofs.Followings.{followed_by, order_came}
use Rattle.tenant_core.proofs.book.Book.follow_change.Goals as goal

pub returns : goal.returns
returns c =
    let s : State = c.args.self.now in
    let e : ChangeEntry = c.args.change.now in
    let order : Order = c.in-Some.order in
    let net : c.self.inside.network ≡ network_of s = c.self.invariant.network ∙ ap network_of c.self.view_is in
    let found : IsOrderFor c.self.inside.network e.change (Some order) =
    subst (λ (o : Option Order). IsOrderFor c.self.inside.network e.change o) c.in-Some.is c.in_ok-order.ensures in
    let here : IsOrderFor (network_of s) e.change (Some order) = subst (λ (n : Net). IsOrderFor n e.change (Some order)) net found in
    let done : IsOrdered c.order.result (ordered s order) s c.order.new.self e.now =
    subst (λ (n : ℕ). IsOrdered c.order.result (ordered s order) s c.order.new.self n) c.requires c.order.ensures in
    let all = followed_by s c.order.new.self e _ c.order_outcome.result c.order_outcome.ensures (order_came s c.order.new.self e order c.order.result here done) in
    record { step = all.0; err = all.1 }
