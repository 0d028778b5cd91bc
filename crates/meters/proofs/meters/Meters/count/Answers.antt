use Rattle.std.proofs.Common.{ℕ, List, slice_index, ◌<◌, ◌^◌, ap, subst, sym, arith}
use Rattle.meters.specs.Seats.{MetersState}
use Rattle.meters.proofs.Words.{at_place, belongs, count_allows, word_below}
use Rattle.meters.proofs.meters.Meters.count.Goals as goal

pub fetch_add-requires : goal.fetch_add-requires
fetch_add-requires c =
    let table = c.self.inside.table.shared in
    let mine = c.seat.inside.seat in
    let word = c.word_of-word.result in
    let tenants = ap (λ (m : MetersState). m.tenants) c.self.view_is in
    let below = word_below c.args.tenant c.self.inside.tenants c.args.kind (omega arith) in
    let P : List ℕ → Type 0 = λ own. slice_index own word < 2 ^ 40 in
    let room : at_place word mine.me.0 < 2 ^ 40 = subst P (sym c.seat.invariant.0) c.if-seat-word-ge-MOST.false in (
      belongs mine.table_id table.table_id c.self.inside.tenants mine.me.0 c.args.seat.now c.args.self.now c.seat.view_is c.self.view_is c.requires.here,
      omega (arith, c.self.invariant.1, c.word_of-word.ensures.value),
      count_allows table.key table.table_id.slots mine.id c.args.tenant word c.args.kind mine.me c.word_of-word.ensures.value
          (omega (arith, c.self.invariant.0)) (omega (arith, c.self.invariant.0, c.self.invariant.4)) room c.seat.invariant.2,
    )
