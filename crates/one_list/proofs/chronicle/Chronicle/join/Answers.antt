use Rattle.std.proofs.Common.{◌<◌, sym, ◌∙◌, subst, arith}
use Rattle.atomic_table.specs.Seated.{TableId}
use Rattle.one_list.proofs.Moves.{joins}
use Rattle.one_list.proofs.chronicle.Chronicle.join.Goals as goal

pub join_seat-requires : goal.join_seat-requires
join_seat-requires g c =
    let i = c.self.invariant in
    (c.requires.tables.0 ∙ sym i.same_table, c.requires.tables.1 ∙ sym i.same_table, c.requires.other, subst (λ (z : TableId). 0 < z.words) (sym i.same_table) (omega (arith, i.roomy.words)), joins _ _ _ _ _)
