use Rattle.std.proofs.Common.{◌≡◌, ◌+◌, List, ℕ, Some, slice_get, take, rules, subst, sym}
use Rattle.std.proofs.lemmas.Option.{slice_get_read}
use Rattle.service.specs.Filing.{AreFiled}
use Rattle.service.proofs.Filings.{filed_next}
use Rattle.service.proofs.filing.file_each.Goals as goal

pub loop-period-preserved : goal.loop-period-preserved
loop-period-preserved g c =
    let at : slice_get c.args.periods.now c.loop-period.period-index ≡ Some c.period-item.result = search (rules, slice_get_read) in
    let told = c.in_ok-file_or_tell.ensures in
    record {
      filed = subst (λ (lines : List ℕ). AreFiled g.S.StatementStore.tells g.S.StatementStore.keeps
          (take (c.loop-period.period-index + 1) c.args.periods.now) c.args.store.now c.file_or_tell.new.store lines) (sym told.2)
          (filed_next g.S.StatementStore.tells g.S.StatementStore.keeps c.args.periods.now c.loop-period.period-index c.period-item.result
          at told.0 c.args.store.now c.loop-period.store c.file_or_tell.new.store c.loop-period.lines.items c.loop-period.invariant.filed told.1);
    }
