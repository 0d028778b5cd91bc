use Rattle.std.proofs.Common.{◌≡◌, ◌≤◌, List, [], ◌∷◌, length, arith, refl, sym, subst}
use Rattle.std.specs.Prelude.{Result}
use Rattle.toml.specs.declared.value.Value.{Value}
use Rattle.toml.specs.View.{items_view}
use Rattle.common_types.specs.Outcomes.{GivesUnlessMemory}
use Rattle.tenant_core.specs.declared.terms.TenantTerms.{TenantTerms}
use Rattle.admin_text.specs.Tenants.{some_tenants, tenants_of_items}
use Rattle.admin_text.specs.Wrong.{fault_alone}
use Rattle.admin_text.specs.declared.version.Version.{Version}
use Rattle.admin_text.specs.declared.setup.SetupFault.{SetupFault}
use Rattle.admin_text.proofs.setup.some_tenants.Goals as goal

some_are : (version : Version) (values : List Value) → 1 ≤ length values → some_tenants version (items_view values) ≡ tenants_of_items version [] (items_view values)
some_are version [] h = absurd (omega arith)
some_are version (value ∷ values) h = refl

pub returns-in-len1-up : goal.returns-in-len1-up
returns-in-len1-up c =
    subst (λ (r : Result (List TenantTerms) SetupFault). GivesUnlessMemory (λ tenants. tenants.items) (fault_alone c.tenants_of_items.result) r)
    (sym (some_are c.args.version c.args.values.now c.in-len1-up.len_at_least)) c.tenants_of_items.ensures
