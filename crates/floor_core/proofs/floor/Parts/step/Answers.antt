use Rattle.std.proofs.Common.{◌≡◌, List, length, sym, ap, ◌∙◌}
use Rattle.std.proofs.lemmas.List.{with_items_is}
use Rattle.tenant_core.specs.State.{State}
use Rattle.floor_core.specs.Moves.{floor_with}
use Rattle.floor_core.proofs.floor.Parts.step.Goals as goal

pub returns-in-Tick-clause-told : goal.returns-in-Tick-clause-told
returns-in-Tick-clause-told c = rw (← c.self.view_is, c.in-Tick.is, ← c.deref_mut-in-Tick.ensures.value) c.tick_on-output.ensures.output

pub returns-in-Tick-clause-moved : goal.returns-in-Tick-clause-moved
returns-in-Tick-clause-moved c =
    let same : length c.tick_on-output.new.books ≡ c.self.inside.books.len = c.tick_on-output.auto.books ∙ ap length c.deref_mut-in-Tick.ensures.value ∙ sym c.self.inside.books.ok.0 in
    rw (← c.self.view_is, c.in-Tick.is)
    (ap (λ (books : List State). floor_with c.self.inside.seats.items books c.self.inside.next_calls.items) (with_items_is c.self.inside.books c.tick_on-output.new.books same ∙ rw c.deref_mut-in-Tick.ensures.value at c.tick_on-output.ensures.books))
