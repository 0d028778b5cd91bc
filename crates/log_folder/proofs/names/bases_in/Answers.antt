use Rattle.std.proofs.Common.{rules, tests, ◌++◌, ◌∷◌, [], map, sym, subst, ap, ◌∙◌, eqb}
use Rattle.std.proofs.lemmas.List.{map-append}
use Rattle.std.proofs.lemmas.Iterator.Splits.{YieldsList-from_slice_split}
use Rattle.log_folder.specs.Folder.{AreBases}
use Rattle.log_folder.proofs.Bases.{bases_more, all_taken}
use Rattle.log_folder.proofs.names.bases_in.Goals as goal

pub loop-name-preserved : goal.loop-name-preserved
loop-name-preserved c =
    let step = c.in_ok-put_base.ensures in
    let more = bases_more _ _ c.in-Some.name.now step.0 c.loop-name.invariant step.1 in
    let here = subst (λ l. AreBases (map (λ x. x.now) c.loop-name.yielded ++ c.in-Some.name.now ∷ []) l) (sym step.2) more in
    subst (λ l. AreBases l c.put_base.new.bases.items) (sym (map-append (λ x. x.now) c.loop-name.yielded (c.in-Some.name ∷ []))) here

pub returns : goal.returns
returns c =
    let same = c.into_iter-name-iterator.ensures.into_iter_gives in
    let all = all_taken c.loop-name.yielded _ c.loop-name.yielded_by _ _ c.in-None.is c.next.ensures.steps
    (YieldsList-from_slice_split _ (λ b. eqb b 0) c.args.names.now (ap (λ s. s.rest.now) same ∙ c.split-name-items.ensures.rest) (ap (λ s. s.done) same ∙ c.split-name-items.ensures.done) (ap (λ s. s.pred) same ∙ c.split-name-items.ensures.closure) (λ x b q k. search (rules, tests))) in
    subst (λ l. AreBases l c.loop-name.bases.items) all c.loop-name.invariant
