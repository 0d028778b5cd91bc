-- The configuration that a child gets (RFC 0031).
use Rattle.std.specs.Prelude.{◌≡◌, ◌<◌, ℕ, List, ◌∷◌, ◌++◌, replicate}
use Rattle.oer_core.specs.Length.{octet_string, IsOctetString}
use Rattle.ilp_view.specs.Packet.{fulfill_frame}
use Rattle.ildcp_core.specs.Client.{Client, client_address}
use Rattle.ildcp_core.specs.declared.fulfill.TheConstants.{MAX_ANSWER, MAX_CONFIGURATION}

-- The bytes are a configuration of these fields: the client address as an octet string, the scale of
-- the asset in one byte, and its code as an octet string, lengths in any spelling (RFC 0031).
abbrev pub IsConfiguration : List ℕ → List ℕ → ℕ → List ℕ → Type 0
IsConfiguration bytes address scale code =
    (first : List ℕ) × (last : List ℕ) × IsOctetString first address × (scale < 256) × IsOctetString last code
    × (bytes ≡ first ++ scale ∷ last)

-- The configuration of a child, its lengths in the fewest bytes (RFC 0031).
abbrev pub configuration : Client → List ℕ
configuration c = octet_string (client_address c) ++ c.scale ∷ octet_string c.code

-- The most bytes of a configuration.
abbrev pub max_configuration : ℕ
max_configuration = MAX_CONFIGURATION

-- The answer to a child: a Fulfill of 32 zero bytes, with its configuration as data (RFC 0031).
abbrev pub config_answer : Client → List ℕ
config_answer c = fulfill_frame (replicate 32 0) (configuration c)

-- The most bytes of an answer.
abbrev pub max_answer : ℕ
max_answer = MAX_ANSWER
