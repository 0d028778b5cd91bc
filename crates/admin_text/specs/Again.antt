-- Setups that are read, written and read again.
use Rattle.std.specs.Prelude.{ℕ, ◌≡◌, List, map, Ok}
use Rattle.admin_text.specs.Anew.{anew, AreTenants}
use Rattle.admin_text.specs.Setup.{setup_of}
use Rattle.admin_text.specs.declared.setup.Setup.{Setup}

-- What is read as a setup may be written, and it is numbered as it would be anew: what is read then is the same.
abbrev pub SetupAgainLaw : Type 0
SetupAgainLaw =
    (text : List ℕ) (s : Setup) → setup_of text ≡ Ok s → AreTenants s.tenants × (map anew s.tenants ≡ s.tenants)
