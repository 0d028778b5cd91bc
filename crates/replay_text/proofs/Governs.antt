-- Lines that tell a tenant's book something.
use Rattle.std.proofs.Common.{arith, ◌≡◌, ◌<◌, ℕ, List, [], ◌∷◌, length, Option, Some, None, refl}
use Rattle.common_types.specs.OptionChain.{◌>>=◌}
use Rattle.std.specs.Result.{result_ok}
use Rattle.admin_text.specs.Commands.{command_among, verb_taken}
use Rattle.floor_core.specs.declared.step.Step.{Step}
use Rattle.floor_core.specs.declared.step.Step.TheVariants.{Govern}
use Rattle.replay_text.specs.Script.{govern_of, moment_spelled, tenant_named}

-- a tenant and a moment without a command are no step
no_command : (names : List (List ℕ)) (tenant now : List ℕ) → govern_of names (tenant ∷ now ∷ []) ≡ None
unfolding command_among verb_taken
no_command names tenant now = by (tenant_named names tenant) (moment_spelled now)
  where
    by : (o p : Option ℕ) → (◌>>=◌ {B = Step} o (λ t. p >>= (λ n. result_ok (command_among []) >>= (λ c. Some (Govern t n c))))) ≡ None
    by None p = refl
    by (Some t) None = refl
    by (Some t) (Some n) = refl

pub govern_of_few : (names : List (List ℕ)) (ws : List (List ℕ)) → length ws < 3 → govern_of names ws ≡ None
govern_of_few names [] h = refl
govern_of_few names (tenant ∷ []) h = refl
govern_of_few names (tenant ∷ now ∷ []) h = no_command names tenant now
govern_of_few names (tenant ∷ now ∷ word ∷ words) h = absurd (omega arith)
