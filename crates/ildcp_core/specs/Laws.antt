-- What holds of the configurations of children, in the terms of their definitions.
use Rattle.std.specs.Prelude.{◌≡◌, ◌≤◌, ℕ, List, length}
use Rattle.ilp_addr.specs.Address.{IsAddress}
use Rattle.ildcp_core.specs.Client.{Client, IsClient, client_address}
use Rattle.ildcp_core.specs.Answer.{IsConfiguration, configuration, max_configuration, config_answer, max_answer}

-- Configurations: the answer to a child is one, and has its fields (RFC 0031).
pub record ConfigurationLaws : Type 0 where
  -- The address that a child is given is an address.
  pub address : (c : Client) → IsClient c → IsAddress (client_address c)
  -- The configuration of a child is one of its address and its asset.
  pub fields : (c : Client) → IsClient c → IsConfiguration (configuration c) (client_address c) c.scale c.code
  -- The bytes of a configuration are that of no other fields.
  pub only : (bytes address other : List ℕ) (scale step : ℕ) (code sign : List ℕ)
      → IsConfiguration bytes address scale code → IsConfiguration bytes other step sign
      → (address ≡ other) × (scale ≡ step) × (code ≡ sign)
  -- How long it is.
  pub short : (c : Client) → IsClient c → length (configuration c) ≤ max_configuration
  -- How long the answer is.
  pub answer : (c : Client) → IsClient c → length (config_answer c) ≤ max_answer
