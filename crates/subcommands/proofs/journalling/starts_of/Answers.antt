use Rattle.std.proofs.Common.{◌≡◌, ◌+◌, List, [], ◌∷◌, ◌++◌, length, rules, sym, ap, subst, ◌∙◌}
use Rattle.std.specs.Prelude.{Some}
use Rattle.std.specs.List.{slice_get}
use Rattle.std.proofs.lemmas.Option.{slice_get_read}
use Rattle.book_log.specs.declared.base.TenantStart.{TenantStart}
use Rattle.journal_law.specs.Kept.{AreFirstStarts}
use Rattle.subcommands.proofs.LogKept.{one_start_more}
use Rattle.subcommands.proofs.journalling.starts_of.Goals as goal

pub loop-number-preserved : goal.loop-number-preserved
loop-number-preserved c =
    let starts = c.loop-number.starts.items in
    let tenant = c.tenant-item.result in
    let here : slice_get c.args.setup.now.tenants c.loop-number.number ≡ Some tenant = search (rules, slice_get_read) in
    let many : length starts ≡ c.loop-number.number = c.loop-number.invariant.1 in
    let more : AreFirstStarts c.args.setup.now.tenants c.args.setup.now.start (starts ++ c.in_ok-start_of.field-0 ∷ []) =
    one_start_more c.args.setup.now.tenants c.args.setup.now.start starts c.in_ok-start_of.field-0 tenant c.loop-number.invariant.0
    (ap (λ n. slice_get c.args.setup.now.tenants n) many ∙ here) (search (rules, many)) in
    (subst (λ (xs : List TenantStart). AreFirstStarts c.args.setup.now.tenants c.args.setup.now.start xs) (search rules) more, search (rules, many))
