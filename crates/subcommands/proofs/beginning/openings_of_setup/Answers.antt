use Rattle.std.proofs.Common.{◌≡◌, ◌+◌, List, ◌∷◌, [], ◌++◌, map, take, rules, ap, ◌∙◌}
use Rattle.std.specs.Prelude.{Some}
use Rattle.std.specs.List.{enumerate_from, slice_get}
use Rattle.std.proofs.lemmas.Option.{slice_get_read}
use Rattle.tenant_core.specs.State.{opening_of}
use Rattle.subcommands.proofs.Openings.{next_opening_more}
use Rattle.subcommands.proofs.beginning.openings_of_setup.Goals as goal

pub loop-number-preserved : goal.loop-number-preserved
loop-number-preserved c =
    let setup = c.args.setup.now in
    let tenant = c.tenant-item.result in
    let here : slice_get setup.tenants c.loop-number.number ≡ Some tenant = search (rules, slice_get_read) in
    let pushed : c.push.new.self.items ≡ c.loop-number.openings.items ++ opening_of c.loop-number.number tenant setup.start ∷ [] = search rules in
    let all : c.push.new.self.items ≡ map (λ t. opening_of t.0 t.1 setup.start) (enumerate_from 0 (take (c.loop-number.number + 1) setup.tenants)) =
    pushed
    ∙ (ap (λ os. os ++ opening_of c.loop-number.number tenant setup.start ∷ []) c.loop-number.invariant
    ∙ next_opening_more (λ t. opening_of t.0 t.1 setup.start) setup.tenants c.loop-number.number tenant here) in
    search (rules, all)
