use Rattle.std.proofs.Common.{◌≤◌, ℕ, List, length, take, drop, sym, ap, subst, ◌∙◌, arith}
use Rattle.ilp_addr.specs.Address.{IsAddress}
use Rattle.ilp_view.specs.Reading.{prepare_at}
use Rattle.ilp_view.proofs.Places.{Lies, lies, if_known}
use Rattle.ilp_view.proofs.prepare.places.PreparePlaces.fields.Goals as goal

pub overflow_add-self : goal.overflow_add-self
overflow_add-self c =
    let l = lies c.laws_below.ensures c.args.frame.now c.args.self.now (λ i. omega (arith, c.type_inv.frame i)) c.requires in
    omega (arith, l.front, l.is.framed.size)

pub split_at-requires : goal.split_at-requires
split_at-requires c =
    (lies c.laws_below.ensures c.args.frame.now c.args.self.now (λ i. omega (arith, c.type_inv.frame i)) c.requires).front

pub split_at-requires-2 : goal.split_at-requires-2
split_at-requires-2 c =
    let l = lies c.laws_below.ensures c.args.frame.now c.args.self.now (λ i. omega (arith, c.type_inv.frame i)) c.requires in
    subst (λ (b : List ℕ). 32 ≤ length b) (sym c.split_at.ensures.back) l.condition_fits

pub split_at-requires-3 : goal.split_at-requires-3
split_at-requires-3 c =
    let l = lies c.laws_below.ensures c.args.frame.now c.args.self.now (λ i. omega (arith, c.type_inv.frame i)) c.requires in
    let back = c.split_at-2.ensures.back ∙ ap (λ (b : List ℕ). drop 32 b) c.split_at.ensures.back in
    subst (λ (b : List ℕ). c.args.self.now.spelling ≤ length b) (sym back) l.spelling_fits

pub split_at-requires-4 : goal.split_at-requires-4
split_at-requires-4 c =
    let l = lies c.laws_below.ensures c.args.frame.now c.args.self.now (λ i. omega (arith, c.type_inv.frame i)) c.requires in
    let back = c.split_at-3.ensures.back ∙ ap (λ (b : List ℕ). drop c.args.self.now.spelling b)
    (c.split_at-2.ensures.back ∙ ap (λ (b : List ℕ). drop 32 b) c.split_at.ensures.back) in
    subst (λ (b : List ℕ). c.args.self.now.destination ≤ length b) (sym back) l.destination_fits

pub of_known-requires : goal.of_known-requires
of_known-requires c =
    let l = lies c.laws_below.ensures c.args.frame.now c.args.self.now (λ i. omega (arith, c.type_inv.frame i)) c.requires in
    let back = c.split_at-3.ensures.back ∙ ap (λ (b : List ℕ). drop c.args.self.now.spelling b)
    (c.split_at-2.ensures.back ∙ ap (λ (b : List ℕ). drop 32 b) c.split_at.ensures.back) in
    let is = c.split_at-4.ensures.front ∙ ap (λ (b : List ℕ). take c.args.self.now.destination b) back ∙ l.destination in
    subst IsAddress (sym is) l.is.destination

pub returns-clause-fields : goal.returns-clause-fields
returns-clause-fields c =
    let l = lies c.laws_below.ensures c.args.frame.now c.args.self.now (λ i. omega (arith, c.type_inv.frame i)) c.requires in
    let back = c.split_at-3.ensures.back ∙ ap (λ (b : List ℕ). drop c.args.self.now.spelling b)
    (c.split_at-2.ensures.back ∙ ap (λ (b : List ℕ). drop 32 b) c.split_at.ensures.back) in
    if_known (prepare_at c.args.frame.now) _ l.packet l.reading
    (record {
      amount = l.places.amount;
      expiry = l.places.expiry;
      condition = c.split_at-2.ensures.front ∙ ap (λ (b : List ℕ). take 32 b) c.split_at.ensures.back ∙ l.condition;
      destination = c.of_known.ensures ∙ c.split_at-4.ensures.front ∙ ap (λ (b : List ℕ). take c.args.self.now.destination b) back ∙ l.destination;
    })

pub returns-clause-bound : goal.returns-clause-bound
returns-clause-bound c =
    let l = lies c.laws_below.ensures c.args.frame.now c.args.self.now (λ i. omega (arith, c.type_inv.frame i)) c.requires in
    omega (arith, l.places.expiry, c.laws_below.ensures.timestamps.none_later l.packet.expiry)
