use Rattle.std.proofs.Common.{◌≡◌, ◌<◌, ◌∙◌, ◌++◌, ◌∷◌, [], Some, Contains, inl, length, slice_get, take, map, rules, ap, subst, sym}
use Rattle.std.proofs.lemmas.List.{map-append}
use Rattle.std.proofs.lemmas.List.Elements.{Contains-get_or}
use Rattle.std.proofs.lemmas.Option.{slice_get_read}
use Rattle.service.specs.Auditing.{AreLacking, lists_of}
use Rattle.service.proofs.Audits.{lists_next, kept_next}
use Rattle.service.proofs.running.auditing.lists_of.Goals as goal

pub loop-share-preserved : goal.loop-share-preserved
loop-share-preserved g c =
    let at : slice_get c.args.shares.now c.loop-share.share-index ≡ Some c.share-item.result = search (rules, slice_get_read) in
    record {
      lists = ap (map (λ list. list.now)) c.push_reserved.ensures.items
          ∙ (map-append (λ list. list.now) c.loop-share.lists.items (c.in_ok-list_of.field-0 ∷ [])
          ∙ (ap (λ ls. ls ++ c.in_ok-list_of.field-0.now ∷ []) c.loop-share.invariant.lists
          ∙ (ap (λ r. lists_of (take c.loop-share.share-index c.args.shares.now) ++ r ∷ []) c.in_ok-list_of.ensures.list
          ∙ sym (lists_next c.args.shares.now c.loop-share.share-index c.share-item.result at))));
      kept = kept_next c.args.shares.now c.loop-share.share-index c.share-item.result at c.loop-share.invariant.kept c.in_ok-list_of.ensures.kept;
      few = search rules;
      room = search rules;
    }

pub returns-in_err-list_of-clause-lacking : goal.returns-in_err-list_of-clause-lacking
returns-in_err-list_of-clause-lacking g c =
    let share = c.share-item.result in
    let lacking = c.in_err-list_of.ensures.lacking in
    let within : c.loop-share.share-index < length c.args.shares.now = search rules in
    let there : Contains c.args.shares.now share
    = subst (Contains c.args.shares.now) (sym c.share-item.is) (Contains-get_or c.args.shares.now c.loop-share.share-index share within) in
    let found : AreLacking c.args.shares.now c.in_err-list_of.field-0.0 = inl (lacking.0, (share, there, lacking.1)) in
    search (rules, found)
