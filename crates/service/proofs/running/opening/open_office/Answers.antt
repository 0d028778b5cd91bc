use Rattle.std.proofs.Common.{◌≡◌, ◌∙◌, rules, All, ap, length, sym, subst}
use Rattle.books_shared.specs.Gathers.{BooksView}
use Rattle.service.specs.Answering.{IsUncounted}
use Rattle.service.proofs.Fresh.{count_fresh, all_fresh}
use Rattle.service.proofs.Sums.{length_map}
use Rattle.service.proofs.running.opening.open_office.Goals as goal

pub invariant_of-office-3 : goal.invariant_of-office-3
invariant_of-office-3 g c =
    let books : c.in_ok-books.books.tenants ≡ length c.args.start.setup.now.tenants
    = ap (λ (b : BooksView). b.tenants) c.in_ok-books.ensures.books ∙ c.requires.as_many in
    let many : length c.in_ok-names.field-0.items ≡ length c.args.start.setup.now.tenants
    = ap length c.in_ok-names.ensures ∙ length_map _ c.args.start.setup.now.tenants in
    record { known = search (rules, books); named = search (rules, books, many); metered = search (rules, books) }

pub returns-clause-known : goal.returns-clause-known
returns-clause-known g c =
    let books : c.in_ok-books.books.tenants ≡ length c.args.start.setup.now.tenants
    = ap (λ (b : BooksView). b.tenants) c.in_ok-books.ensures.books ∙ c.requires.as_many in
    record { names = search rules; operators = search rules; holds = search rules; books = search (rules, books) }

pub returns-clause-each : goal.returns-clause-each
returns-clause-each g c = search (rules, count_fresh)

pub returns-clause-fresh : goal.returns-clause-fresh
returns-clause-fresh g c = subst (All IsUncounted) (sym c.in_ok-books.ensures.shares) (all_fresh c.args.plan.report.audit c.args.desks)
