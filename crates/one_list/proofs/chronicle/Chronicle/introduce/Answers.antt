use Rattle.std.proofs.Common.{◌<◌, ◌++◌, sym, ap, ◌∙◌, subst, arith, []}
use Rattle.atomic_table.specs.Seated.{TableId}
use Rattle.atomic_table.specs.Table.{Me}
use Rattle.tenant_core.specs.Journals.{Recorded}
use Rattle.std.specs.Prelude.{List}
use Rattle.one_list.specs.declared.rule.Claim.{Claim}
use Rattle.one_list.specs.Rules.{first_claim, other_claims}
use Rattle.one_list.proofs.Meeting.{met_before, told_alike}
use Rattle.one_list.proofs.Moves.{after_meet, joins, meets_as, splits_first}
use Rattle.one_list.proofs.chronicle.Chronicle.introduce.Goals as goal

pub join_seat-requires : goal.join_seat-requires
join_seat-requires g c =
    let i = c.self.invariant in
    (c.requires.tables.1 ∙ sym i.same_table, c.requires.tables.0 ∙ sym i.same_table, ap (λ m. m.1) c.requires.mine.1, subst (λ (z : TableId). 0 < z.words) (sym i.same_table) (omega (arith, i.roomy.words)), joins _ _ _ _ _)

pub word_of-requires : goal.word_of-requires
word_of-requires g c = omega (arith, c.self.invariant.roomy.few, c.requires.below)

pub load-requires : goal.load-requires
load-requires g c =
    let i = c.self.invariant in
    let j = c.join_seat.ensures in
    let theirs = c.requires.theirs in
    let mine = c.requires.mine in
    let is = j.2 ∙ (λ k. ((theirs.3 k).0 ++ (mine.1 k).0, (theirs.3 k).1)) in (
      j.0 ∙ (c.requires.tables.1 ∙ sym i.same_table),
      subst (λ (z : TableId). c.word_of.result < z.words) (sym i.same_table) (omega (arith, i.roomy.words, c.word_of.ensures)),
      meets_as _ _ _ _ _ _ theirs.0 c.args.tenant theirs.1 mine.0 theirs.2 i.same_size is,
    )

pub split_seat-theirs-requires : goal.split_seat-theirs-requires
split_seat-theirs-requires g c =
    let i = c.self.invariant in
    (c.load.ensures.0 ∙ (c.join_seat.ensures.0 ∙ (c.requires.tables.1 ∙ sym i.same_table)), subst (λ (z : TableId). 0 < z.words) (sym i.same_table) (omega (arith, i.roomy.words)), splits_first _ _ _)

pub returns-clause-mine : goal.returns-clause-mine
returns-clause-mine g c =
    let theirs = c.requires.theirs in
    let mine = c.requires.mine in
    let after = after_meet theirs.0 c.args.tenant theirs.1 mine.0 theirs.2 _ _ _ _ theirs.3 mine.1 c.join_seat.ensures.2 c.load.ensures.2.1 in
    c.split_seat-theirs.ensures.2 ∙ (ap (λ (m : Me Recorded (List Claim)). (other_claims m.0, m.1)) after ∙ sym mine.1)

pub returns-clause-theirs : goal.returns-clause-theirs
returns-clause-theirs g c worker steps others met mine theirs =
    let after = after_meet worker c.args.tenant others steps met _ _ _ _ theirs mine c.join_seat.ensures.2 c.load.ensures.2.1 in
    c.split_seat-theirs.ensures.4 ∙ ap (λ (m : Me Recorded (List Claim)). (first_claim m.0, [])) after

pub returns-clause-shared : goal.returns-clause-shared
returns-clause-shared g c worker steps others met mine theirs =
    let joined = ap (λ (m : Me Recorded (List Claim)). m.0) c.join_seat.ensures.2 in
    told_alike g.J.Run.size worker c.args.tenant others steps met _ (joined ∙ (λ k. (theirs k).0 ++ (mine k).0)) c.load.ensures.2.0

pub returns-clause-goes_on : goal.returns-clause-goes_on
returns-clause-goes_on g c worker steps others met mine theirs =
    let joined = ap (λ (m : Me Recorded (List Claim)). m.0) c.join_seat.ensures.2 in
    met_before g.J.Run.size worker c.args.tenant others steps met _ (joined ∙ (λ k. (theirs k).0 ++ (mine k).0)) c.load.ensures.2.0
