use Rattle.std.proofs.Common.{◌≡◌, sym, ◌∙◌, subst, true, false}
use Rattle.tenant_core.specs.Views.{record_of as shown_by}
use Rattle.tenant_core.specs.declared.journal.Record.{Record}
use Rattle.receipts.specs.Audits.{NamesRecord}
use Rattle.receipts.proofs.Naming.{named_by_index}
use Rattle.receipts.proofs.check.named_by.Goals as goal

pub returns-then-shows-clause-named : goal.returns-then-shows-clause-named
returns-then-shows-clause-named c =
    let periods = c.args.laid.now.periods.now in
    let r = c.args.receipt.now in
    let named = named_by_index c.args.laid.now.index.now periods r c.in-Some.k c.index-periods-k.result _ (shown_by c.in-Some-get.record) c.requires.index c.in-Some.ensures c.index-periods-k.is c.records.ensures c.in-Some-get.ensures in
    (sym c.in-Some.ensures, subst (λ (x : Record). NamesRecord periods r x) (c.shows.ensures.0 c.if-shows.true) named)

pub returns-else-shows-clause-refused : goal.returns-else-shows-clause-refused
returns-else-shows-clause-refused c = λ holders. (
  shown_by c.in-Some-get.record,
  named_by_index c.args.laid.now.index.now c.args.laid.now.periods.now c.args.receipt.now c.in-Some.k c.index-periods-k.result _ (shown_by c.in-Some-get.record) c.requires.index c.in-Some.ensures c.index-periods-k.is c.records.ensures c.in-Some-get.ensures,
  λ same.
      let e : false ≡ true = sym c.if-shows.false ∙ c.shows.ensures.1 (sym same) in
      cc,
)
