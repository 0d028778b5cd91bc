use Rattle.std.proofs.Common.{◌≡◌, ◌∙◌, false, ap, refl, ℕ, List, length, slice_index, arith}
use Rattle.atomic_table.specs.Table.{Me}
use Rattle.meters.specs.declared.rule.View.{View}
use Rattle.meters.specs.declared.kind.Kind.TheVariants.{Answered}
use Rattle.meters.specs.Counts.{word_of, both_rows}
use Rattle.meters.specs.Seats.{SeatState, count_of}
use Rattle.meters.proofs.Words.{belongs, both_at, load_allows, join_joins}
use Rattle.meters.proofs.meters.Meters.join.Goals as goal

pub load-requires : goal.load-requires
load-requires c =
    let table = c.self.inside.table.shared in
    let mine = c.seat.inside.seat in (
      belongs mine.table_id table.table_id c.self.inside.tenants mine.me.0 c.args.seat.now c.args.self.now c.seat.view_is c.self.view_is c.requires.here,
      omega (arith, c.self.invariant.1, c.self.invariant.3),
      load_allows table.key table.table_id.slots mine.id 0 0 Answered mine.me refl (omega (arith, c.self.invariant.0, c.self.invariant.3)),
    )

pub load-requires-2 : goal.load-requires-2
load-requires-2 c =
    let table = c.self.inside.table.shared in
    let theirs = c.other.inside.seat in (
      belongs theirs.table_id table.table_id c.self.inside.tenants theirs.me.0 c.args.other c.args.self.now c.other.view_is c.self.view_is c.requires.there,
      omega (arith, c.self.invariant.1, c.self.invariant.3),
      load_allows table.key table.table_id.slots theirs.id 0 0 Answered theirs.me refl (omega (arith, c.self.invariant.0, c.self.invariant.3)),
    )

pub join_seat-requires : goal.join_seat-requires
join_seat-requires c =
    let first = c.load.ensures in
    let second = c.load-2.ensures in
    let table = c.self.inside.table.shared in
    let mine = c.seat.inside.seat in
    let theirs = c.other.inside.seat in
    let plain : theirs.me.0.first ≡ false = ap (λ (s : SeatState). s.first) c.other.view_is ∙ c.requires.plain in
    let plain_yet : c.load-2.new.seat.me.0.first ≡ false = ap (λ (m : Me (Unit {0}) View). m.0.first) second.2.0 ∙ plain in
    let parts : c.load-2.new.seat.me.0.parts ≡ theirs.me.0.parts = ap (λ (m : Me (Unit {0}) View). m.0.parts) second.2.0 in (
      first.0 ∙ belongs mine.table_id table.table_id c.self.inside.tenants mine.me.0 c.args.seat.now c.args.self.now c.seat.view_is c.self.view_is c.requires.here,
      second.0 ∙ belongs theirs.table_id table.table_id c.self.inside.tenants theirs.me.0 c.args.other c.args.self.now c.other.view_is c.self.view_is c.requires.there,
      ap (λ (m : Me (Unit {0}) View). m.1) second.2.0 ∙ c.other.invariant.1,
      omega (arith, c.self.invariant.1, c.self.invariant.3),
      join_joins table.key c.load.new.seat.id c.load-2.new.seat.id c.load.new.seat.me.0 c.load-2.new.seat.me.0 plain_yet (omega (arith, c.other.invariant.2)),
    )

pub returns-clause-each : goal.returns-clause-each
returns-clause-each c t k =
    let mine = c.seat.inside.seat.me.0 in
    let theirs = c.other.inside.seat.me.0 in
    let ours = ap (λ (m : Me (Unit {0}) View). m.0.counts) c.join_seat.ensures.2 in
    let first = ap (λ (m : Me (Unit {0}) View). m.0.counts) c.load.ensures.2.0 in
    let second = ap (λ (m : Me (Unit {0}) View). m.0.counts) c.load-2.ensures.2.0 in
    let rows : c.join_seat.new.seat.me.0.counts ≡ both_rows mine.counts theirs.counts = cc in
    let same : length mine.counts ≡ length theirs.counts = omega (arith, ap length c.seat.invariant.0, ap length c.other.invariant.0) in
    let sum = ap (λ (row : List ℕ). slice_index row (word_of t k)) rows ∙ both_at mine.counts theirs.counts (word_of t k) same in
    let one = ap (count_of t k) c.seat.view_is in
    let two = ap (count_of t k) c.other.view_is in
    omega arith
