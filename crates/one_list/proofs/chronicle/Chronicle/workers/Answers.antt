use Rattle.std.proofs.Common.{◌<◌, sym, ◌∙◌, subst, arith}
use Rattle.atomic_table.specs.Seated.{TableId}
use Rattle.one_list.proofs.Moves.{splits_kinds}
use Rattle.one_list.proofs.chronicle.Chronicle.workers.Goals as goal

pub split_seat-requires : goal.split_seat-requires
split_seat-requires g c =
    let i = c.self.invariant in
    (c.requires ∙ sym i.same_table, subst (λ (z : TableId). 0 < z.words) (sym i.same_table) (omega (arith, i.roomy.words)), splits_kinds _ _ _)
