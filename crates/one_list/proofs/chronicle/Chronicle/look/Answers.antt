use Rattle.std.proofs.Common.{◌<◌, ℕ, sym, ◌∙◌, subst}
use Rattle.atomic_table.specs.Seated.{TableId}
use Rattle.one_list.proofs.Moves.{looks_as}
use Rattle.one_list.proofs.chronicle.Chronicle.look.Goals as goal

pub load-requires : goal.load-requires
load-requires g c =
    let i = c.self.invariant in
    (c.requires.table ∙ sym i.same_table, subst (λ (z : TableId). c.args.word < z.words) (sym i.same_table) (subst (λ (n : ℕ). c.args.word < n) (sym i.roomy.words) c.requires.word), looks_as _ _ _ _ _ _ i.same_size)
