use Rattle.std.proofs.Common.{rules, ◌≡◌, ◌<◌, Some, Option, length, slice_get, subst, sym, ◌∙◌}
use Rattle.std.proofs.Math.ListN.{set}
use Rattle.books_shared.specs.declared.outcomes.PacketCounts.{PacketCounts}
use Rattle.books_shared.specs.declared.peer_outcomes.PeerOutcome.{PeerOutcome}
use Rattle.std.proofs.lemmas.Option.{slice_get_read}
use Rattle.books_shared.specs.PeerOutcomes.{AreRaised}
use Rattle.books_shared.proofs.PeerOutcomes.{raised}
use Rattle.books_shared.proofs.peer_outcomes.count_record.Goals as goal

pub returns-clause-raised : goal.returns-clause-raised
returns-clause-raised c =
    let inside : c.in-Some.said.peer < length c.make_rows.new.rows.items = search rules in
    let at : slice_get c.make_rows.new.rows.items c.in-Some.said.peer ≡ Some c.index.result.now = search (rules, slice_get_read) in
    subst (λ (said : Option PeerOutcome). AreRaised said c.args.rows.now.items (set c.make_rows.new.rows.items c.in-Some.said.peer c.counted.result))
    (sym c.in-Some.is ∙ c.peer_outcome_in.ensures)
    (subst (λ (row : PacketCounts). AreRaised (Some c.in-Some.said) c.args.rows.now.items (set c.make_rows.new.rows.items c.in-Some.said.peer row)) (sym c.counted.ensures)
    (raised c.args.rows.now.items c.make_rows.new.rows.items c.in-Some.said c.index.result.now c.in_ok-make_rows.ensures.same inside at (search rules)))
