use Rattle.std.proofs.Common.{sym, ap, ◌∙◌, arith}
use Rattle.std.specs.Prelude.{option_map}
use Rattle.book_log.specs.Written.{IsLoggable}
use Rattle.tenant_core.specs.Views.{record_of}
use Rattle.tenant_core.specs.declared.journal.Record.{Record}
use Rattle.book_journal.specs.Loggable.{HasAddress}
use Rattle.book_journal.proofs.Putting.{is_there}
use Rattle.book_journal.proofs.Visited.{all_from, at_place, next_from}
use Rattle.book_journal.proofs.loggable.are_kept.Goals.{in-Some, in_default}
use Rattle.book_journal.proofs.loggable.are_kept.Goals as goal

pub record_is_kept-requires : goal.record_is_kept-requires
record_is_kept-requires c =
    at_place (λ (r : Record). HasAddress r.entry) c.args.records.now.records c.loop-place.place (record_of c.in-Some.view) c.requires
    (sym c.get.ensures.value ∙ ap (option_map record_of) c.in-Some.is)

pub loop-place-preserved : goal.loop-place-preserved
loop-place-preserved c = elim c.match-get.branch [
  | in-Some w ↦
      next_from IsLoggable c.args.records.now.records c.args.from c.loop-place.place (record_of w.in-Some.view)
      (sym c.get.ensures.value ∙ ap (option_map record_of) w.in-Some.is) w.record_is_kept.ensures c.loop-place.invariant
  | in_default w ↦ absurd (is_there c.args.records.now.records c.loop-place.place (omega arith)
      (sym (ap (option_map record_of) w.in_default.is) ∙ c.get.ensures.value))
]

pub returns : goal.returns
returns c = all_from IsLoggable c.args.records.now.records c.args.from c.loop-place.place (omega arith) c.loop-place.invariant
