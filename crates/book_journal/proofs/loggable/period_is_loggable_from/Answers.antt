use Rattle.std.proofs.Common.{List, sym, subst, ◌∙◌}
use Rattle.std.specs.List.{All}
use Rattle.book_log.specs.Written.{IsLoggable}
use Rattle.tenant_core.specs.declared.journal.Record.{Record}
use Rattle.book_journal.specs.Loggable.{HasAddress}
use Rattle.book_journal.specs.Written.{closed_state}
use Rattle.book_journal.proofs.Addressed.{replay_has}
use Rattle.book_journal.proofs.Visited.{all_unnoted}
use Rattle.book_journal.proofs.loggable.period_is_loggable_from.Goals as goal

pub are_kept-requires : goal.are_kept-requires
are_kept-requires c =
    subst (λ (rs : List Record). All (λ (r : Record). HasAddress r.entry) rs) (sym (c.journal.ensures ∙ c.records.ensures))
    (replay_has c.addresses.ensures (closed_state c.args.period.now) c.period_is_kept.ensures.replay)

pub returns : goal.returns
returns c =
    all_unnoted IsLoggable c.args.place c.place_in.result (closed_state c.args.period.now) c.number.result _ c.place_in.ensures
    c.number.ensures (c.journal.ensures ∙ c.records.ensures) c.are_kept.ensures
