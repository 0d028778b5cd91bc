-- Which Prepares may ask for the configuration (RFC 0031).
use Rattle.std.specs.Prelude.{ℕ, Bool, true, false, not, ◌==◌, List, codes, replicate, Result, Ok, Err, if◌then◌else◌}
use Rattle.std.specs.Str.{bytes_eq}
use Rattle.sha2.specs.Sha256.{sha256}
use Rattle.ildcp_core.specs.declared.child.Role.{Role}
use Rattle.ildcp_core.specs.declared.child.Role.TheVariants as role
use Rattle.ildcp_core.specs.declared.fault.IldcpFault.{IldcpFault}
use Rattle.ildcp_core.specs.declared.fault.IldcpFault.TheVariants.{NotChild, Amount, Condition}

-- The condition that the fulfillment of every answer fits: the SHA-256 of 32 zero bytes (RFC 0031).
unfoldable pub config_condition : List ℕ
config_condition = sha256 (replicate 32 0)

-- A condition is that one.
abbrev pub is_config_condition : List ℕ → Bool
is_config_condition condition = bytes_eq condition config_condition

-- An address is `peer.config` (RFC 0031).
abbrev pub is_config : List ℕ → Bool
is_config destination = bytes_eq destination (codes "peer.config")

-- A peer is a child.
abbrev pub is_child : Role → Bool
is_child role.Child = true
is_child role.Peer = false

-- A request of a peer of that role with that amount and condition is good, or its first fault.
abbrev pub checked_request : Role → ℕ → List ℕ → Result (Unit {0}) IldcpFault
checked_request role amount condition =
    if not (is_child role) then Err NotChild
    else (if not (amount == 0) then Err Amount
    else (if not (is_config_condition condition) then Err Condition else Ok tt))
