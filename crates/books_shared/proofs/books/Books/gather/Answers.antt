use Rattle.std.proofs.Common.{ℕ, ◌≡◌, List, length, map, rules, subst, sym}
use Rattle.one_list.specs.Steps.{HaveOneList, PartView, WorkerView}
use Rattle.books_shared.specs.BooksKept.{AreFew}
use Rattle.books_shared.specs.Traced.{share_part}
use Rattle.books_shared.proofs.Gathering.{list_of}
use Rattle.books_shared.proofs.books.Books.gather.Goals as goal

pub invariant_of-books : goal.invariant_of-books
invariant_of-books g c =
    subst (λ (n : ℕ). AreFew g.J.Run.size g.J.Run.openings n c.self.inside.workers) (sym c.in-Err.ensures.err) c.self.invariant

pub returns-clause-one_list : goal.returns-clause-one_list
returns-clause-one_list g c =
    let tenants : c.add_all.new.parts.tenants ≡ c.in-Ok.opened.1.tenants = search rules in
    let workers : c.add_all.new.parts.workers ≡ map share_part c.args.shares.items = search rules in
    let many : g.J.Run.size.tenants ≡ length c.in-Ok.opened.0.items = search rules in
    let each : length g.J.Run.openings ≡ length c.in-Ok.opened.0.items = search rules in
    list_of c.records_are_a_run.ensures g.J.Run.size g.J.Run.openings c.in-Ok.opened.0.items c.sort.new.books.items c.args.shares.items c.in-Ok.opened.1.tenants
    many each c.in-Ok.ensures.parts c.sort.ensures.moved c.sort.ensures.sorted
    (subst (λ (ps : List PartView). HaveOneList g.J.Run.size ps (map share_part c.args.shares.items)) tenants
    (subst (λ (ps : List WorkerView). HaveOneList g.J.Run.size c.add_all.new.parts.tenants ps) workers c.close.ensures))
