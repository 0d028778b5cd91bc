use Rattle.std.proofs.Common.{rules, ◌≡◌, ◌∙◌, List, ap, subst, sym}
use Rattle.std.specs.Prelude.{All}
use Rattle.one_list.specs.declared.step.Beginning.{Beginning}
use Rattle.journal_shared.specs.Fronts.{IsMet}
use Rattle.journal_shared.proofs.pen.Pen.commit.Goals as goal

pub returns : goal.returns
returns g c =
    let next = c.requires.next in
    let same = c.write.ensures.same in
    let swapped : c.swap.new.x ≡ c.args.self.now.next = search rules in
    record {
      ready = record {
        fronts = next.after;
        are = next.are;
        written = c.in_ok-write.ensures.written next;
        places = ap (λ (ps : _). ps.items) swapped ∙ next.places;
        met = subst (λ (met : List Beginning). All (IsMet met) next.after) (sym same.2) next.met;
        none = c.in_ok-write.ensures.lines;
      };
    }
