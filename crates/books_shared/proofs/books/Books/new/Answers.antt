use Rattle.std.proofs.Common.{◌≡◌, length, rules, ap, ◌∙◌}
use Rattle.books_shared.proofs.Tracing.{openings_many}
use Rattle.books_shared.proofs.books.Books.new.Goals as goal

pub invariant_of-books : goal.invariant_of-books
invariant_of-books g c =
    let each : length g.J.Run.openings ≡ length c.args.setups.now
    = ap length c.requires.openings ∙ openings_many c.args.setups.now c.args.start in
    record {
      of_size = search rules;
      opened = search (rules, each);
      tenants_few = search rules;
      workers_few = search rules;
    }
