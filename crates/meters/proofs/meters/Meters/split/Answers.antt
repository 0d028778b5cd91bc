use Rattle.std.proofs.Common.{◌∙◌, ap, arith}
use Rattle.meters.specs.Seats.{SeatState}
use Rattle.atomic_table.specs.Table.{Me}
use Rattle.meters.specs.declared.rule.View.{View}
use Rattle.meters.specs.Counts.{word_of}
use Rattle.meters.proofs.Words.{at_place, belongs, no_count, split_splits}
use Rattle.meters.proofs.meters.Meters.split.Goals as goal

pub split_seat-theirs-requires : goal.split_seat-theirs-requires
split_seat-theirs-requires c =
    let table = c.self.inside.table.shared in
    let mine = c.seat.inside.seat in
    let splits = ap (λ (s : SeatState). s.splits) c.seat.view_is in (
      belongs mine.table_id table.table_id c.self.inside.tenants mine.me.0 c.args.seat.now c.args.self.now c.seat.view_is c.self.view_is c.requires.here,
      omega (arith, c.self.invariant.1, c.self.invariant.3),
      split_splits table.key mine.id mine.me.0 (ap (λ (s : SeatState). s.first) c.seat.view_is ∙ c.requires.first) (omega arith),
    )

pub returns-clause-zero : goal.returns-clause-zero
returns-clause-zero c t k =
    ap (λ (m : Me (Unit {0}) View). at_place (word_of t k) m.0) c.split_seat-theirs.ensures.4 ∙ no_count 256 (word_of t k)
