-- Where packets for a prefix go, as maps store it.
use Rattle.std.specs.Prelude.{ℕ, refl}
use Rattle.std.specs.Coded.{Coded, code_by, coded×, coded_ℕ}
use Rattle.route_table.specs.declared.hop.Hop.{Hop}

-- stored as the pair of its fields
abbrev pub hop_code : Coded Hop
hop_code =
    code_by (ℕ × ℕ) (coded× coded_ℕ coded_ℕ)
    (λ h. (h.peer, h.fee)) (λ p. record { peer = p.0; fee = p.1 }) (λ _. refl)
