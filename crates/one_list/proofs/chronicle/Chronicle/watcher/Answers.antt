use Rattle.std.proofs.Common.{◌<◌, sym, subst, arith}
use Rattle.atomic_table.specs.Seated.{TableId}
use Rattle.one_list.proofs.Moves.{watches}
use Rattle.one_list.proofs.chronicle.Chronicle.watcher.Goals as goal

pub load_new_seat-requires : goal.load_new_seat-requires
load_new_seat-requires g c =
    let i = c.self.invariant in
    (subst (λ (z : TableId). 0 < z.words) (sym i.same_table) (omega (arith, i.roomy.words)), watches _ _ _ _ i.same_size)
