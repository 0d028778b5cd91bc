-- The last line of a service that is audited.
use Rattle.std.specs.Prelude.{ℕ, ◌++◌, ◌∷◌, [], List, codes}

-- the line of an audit with that outcome
abbrev pub audit_told : List ℕ → List ℕ
audit_told words = codes "audit " ++ words ++ 10 ∷ []
