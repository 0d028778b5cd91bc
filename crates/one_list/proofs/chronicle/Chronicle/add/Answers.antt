use Rattle.std.proofs.Common.{◌<◌, sym, ap, ◌∙◌, subst, arith, List, [], ◌++◌}
use Rattle.atomic_table.specs.Seated.{TableId}
use Rattle.atomic_table.specs.Table.{Me}
use Rattle.tenant_core.specs.Journals.{Recorded}
use Rattle.one_list.specs.declared.rule.Claim.{Claim}
use Rattle.one_list.specs.declared.step.Size.{Size}
use Rattle.one_list.specs.Rules.{first_claim, other_claims}
use Rattle.one_list.proofs.Moves.{joins, adds_as, after_add, splits_first}
use Rattle.one_list.proofs.chronicle.Chronicle.add.Goals as goal

pub join_seat-requires : goal.join_seat-requires
join_seat-requires g c =
    let i = c.self.invariant in
    (c.requires.tables.1 ∙ sym i.same_table, c.requires.tables.0 ∙ sym i.same_table, ap (λ m. m.1) c.requires.mine.1, subst (λ (z : TableId). 0 < z.words) (sym i.same_table) (omega (arith, i.roomy.words)), joins _ _ _ _ _)

pub word_of-word-requires : goal.word_of-word-requires
word_of-word-requires g c = omega (arith, c.self.invariant.roomy.few, c.requires.below.0)

pub compare_exchange_with-requires : goal.compare_exchange_with-requires
compare_exchange_with-requires g c =
    let i = c.self.invariant in
    let j = c.join_seat.ensures in
    let theirs = c.requires.theirs.2 in
    let mine = c.requires.mine.1 in
    let is = j.2 ∙ (λ k. ((theirs k).0 ++ (mine k).0, (theirs k).1)) in (
      j.0 ∙ (c.requires.tables.1 ∙ sym i.same_table),
      subst (λ (z : TableId). c.word_of-word.result < z.words) (sym i.same_table) (omega (arith, i.roomy.words, c.word_of-word.ensures)),
      adds_as _ _ _ _ _ c.args.worker c.args.tenant c.args.period c.args.journal.now (λ n. n) c.requires.theirs.0 c.requires.mine.0 c.requires.theirs.1 is
          (subst (λ (z : Size). c.args.tenant < z.tenants) (sym i.same_size) c.requires.below.0) (subst (λ (z : Size). c.args.worker < z.workers) (sym i.same_size) c.requires.below.1),
    )

pub split_seat-theirs-requires : goal.split_seat-theirs-requires
split_seat-theirs-requires g c =
    let i = c.self.invariant in
    (c.compare_exchange_with.ensures.0 ∙ (c.join_seat.ensures.0 ∙ (c.requires.tables.1 ∙ sym i.same_table)), subst (λ (z : TableId). 0 < z.words) (sym i.same_table) (omega (arith, i.roomy.words)), splits_first _ _ _)

pub returns-clause-mine : goal.returns-clause-mine
returns-clause-mine g c steps e =
    let theirs = c.requires.theirs in
    let after = after_add c.args.worker c.args.tenant c.args.period c.args.journal.now theirs.0 steps theirs.1 _ _ _ _ theirs.2 e c.join_seat.ensures.2 c.compare_exchange_with.ensures.2 in
    c.split_seat-theirs.ensures.2 ∙ ap (λ (m : Me Recorded (List Claim)). (other_claims m.0, m.1)) after

pub returns-clause-theirs : goal.returns-clause-theirs
returns-clause-theirs g c steps met e =
    let mine = c.requires.mine in
    let after = after_add c.args.worker c.args.tenant c.args.period c.args.journal.now steps mine.0 met _ _ _ _ e mine.1 c.join_seat.ensures.2 c.compare_exchange_with.ensures.2 in
    c.split_seat-theirs.ensures.4 ∙ ap (λ (m : Me Recorded (List Claim)). (first_claim m.0, [])) after
