use Rattle.std.proofs.Common.{ap, arith}
use Rattle.meters.specs.Seats.{MetersState}
use Rattle.meters.proofs.Words.{belongs, load_allows, word_below}
use Rattle.meters.proofs.meters.Meters.read.Goals as goal

pub load-requires : goal.load-requires
load-requires c =
    let table = c.self.inside.table.shared in
    let mine = c.seat.inside.seat in
    let tenants = ap (λ (m : MetersState). m.tenants) c.self.view_is in
    let below = word_below c.args.tenant c.self.inside.tenants c.args.kind (omega arith) in (
      belongs mine.table_id table.table_id c.self.inside.tenants mine.me.0 c.args.seat.now c.args.self.now c.seat.view_is c.self.view_is c.requires.here,
      omega (arith, c.self.invariant.1, c.word_of.ensures.value),
      load_allows table.key table.table_id.slots mine.id c.args.tenant c.word_of.result c.args.kind mine.me c.word_of.ensures.value (omega (arith, c.self.invariant.0)),
    )
