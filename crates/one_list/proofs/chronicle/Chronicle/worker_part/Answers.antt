use Rattle.std.proofs.Common.{ap, ◌∙◌, arith, [], true}
use Rattle.one_list.specs.Parts.{UnclaimedView}
use Rattle.one_list.specs.Rules.{other_claims}
use Rattle.one_list.proofs.Moves.{next_claims}
use Rattle.one_list.proofs.chronicle.Chronicle.worker_part.Goals as goal

pub overflow_add-unclaimed : goal.overflow_add-unclaimed
overflow_add-unclaimed g c =
    omega (arith, ap (λ (u : UnclaimedView). u.workers) c.unclaimed.view_is, c.requires, c.unclaimed.invariant.1.countable)

pub invariant_of-unclaimed : goal.invariant_of-unclaimed
invariant_of-unclaimed g c =
    let i = c.unclaimed.invariant.1 in
    let f = c.first-pass.ensures in
    let n = ap (λ (u : UnclaimedView). u.workers) c.unclaimed.view_is in
    let next = next_claims true c.unclaimed.inside.workers g.J.Run.size.workers (omega (arith, n, c.requires)) in (
      c.unclaimed.invariant.0,
      record {
        few = omega (arith, n, c.requires);
        countable = i.countable;
        same_table = f.tables.0;
        claims = f.rest ∙ ((λ k. (other_claims (i.claims k).0, (i.claims k).1)) ∙ (λ k. (other_claims (next k), [])));
      },
    )
