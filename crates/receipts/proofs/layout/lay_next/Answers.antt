use Rattle.std.proofs.Common.{arith, length, refl, sym}
use Rattle.std.proofs.lemmas.Option.{slice_get_read}
use Rattle.receipts.proofs.Lays.{lays_next}
use Rattle.receipts.proofs.layout.lay_next.Goals as goal

pub returns-in-Some-checked_add-clause-next : goal.returns-in-Some-checked_add-clause-next
returns-in-Some-checked_add-clause-next c =
    let periods = c.args.periods.now in
    let found = c.requires.index.right c.args.tenant c.args.number c.in-Some.place (sym c.in-Some.ensures) in
    let below = found.0 in
    let at = slice_get_read periods (length periods) c.in-Some.place c.index-periods-place.result refl (omega arith) c.index-periods-place.is in
    let many = c.len.ensures.value in
    let sum = c.in-Some-checked_add.ensures in
    lays_next c.args.index.now periods c.args.offsets.now.items c.args.tenant c.args.number c.in-Some.place c.args.total c.in-Some-checked_add.more
    c.index-periods-place.result c.requires.index c.requires.laid (sym c.in-Some.ensures) at (omega (arith, c.in-Some-checked_add.ensures.1, c.len.ensures.value))
