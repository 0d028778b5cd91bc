-- Words have no space.
use Rattle.std.specs.Prelude.{ℕ, List, Bool, not, ◌==◌}
use Rattle.std.specs.List.{list_all}

-- no byte is a space
abbrev pub is_spaceless : List ℕ → Bool
is_spaceless bytes = list_all (λ b. not (b == 32)) bytes
