-- The URL at which a peer listens and the token for it: an `http` URL (RFC 9110, 4.2.1) and a bearer token (RFC
-- 6750, 2.1).
use Rattle.std.specs.Prelude.{◌≡◌, ◌≤◌, ℕ, ◌+◌, List, [], ◌∷◌, ◌++◌, length, take, drop, slice_index, codes}
use Rattle.std.specs.Prelude.{Bool, ◌==◌, if◌then◌else◌, IsTrue, Option, Some, None, option_map, ◌&&◌, ◌-◌, nat_le}
use Rattle.std.specs.List.{list_all, position_or_len}
use Rattle.std.specs.Net.Grammar.{IsIpv4Text, IsIpv6Text}
use Rattle.std.specs.Result.{result_ok}
use Rattle.std.specs.Str.{bytes_eq}
use Rattle.common_types.specs.OptionChain.{◌>>=◌}
use Rattle.common_types.specs.Numbers.{is_between}
use Rattle.common_types.specs.Numerals.{number_in}
use Rattle.common_types.specs.Token.{is_token}
use Rattle.std.specs.Net.Reader.{read_ipv4, read_ipv6, whole_value}
use Rattle.std.specs.declared.net.ipv4_addr.Ipv4Addr.{Ipv4Addr}
use Rattle.std.specs.declared.net.ipv6_addr.Ipv6Addr.{Ipv6Addr}
use Rattle.ilp_addr.specs.declared.target.Host.{Host}
use Rattle.ilp_addr.specs.declared.target.Host.TheVariants.{Localhost, V4, V6}

-- a target as contracts see it
pub record Parts : Type 0 where
  pub url : List ℕ
  pub token : List ℕ
  pub host : Host
  pub port : ℕ

-- the bytes up to the first that is that byte, or all
abbrev pub up_to : ℕ → List ℕ → List ℕ
up_to stop bytes = take (position_or_len (λ b. b == stop) bytes) bytes

-- the bytes from the first that is that byte on, or none
abbrev pub from_first : ℕ → List ℕ → List ℕ
from_first stop bytes = drop (position_or_len (λ b. b == stop) bytes) bytes

-- what a URL says between `http://` and the next slash (RFC 3986, 3.2)
abbrev pub authority_of : List ℕ → List ℕ
authority_of url = up_to 47 (drop 7 url)

-- what it says from that slash on (RFC 3986, 3.3 and 3.4)
abbrev pub path_of : List ℕ → List ℕ
path_of url = from_first 47 (drop 7 url)

-- how many bytes of an authority are its host: an IPv6 literal goes up to and with its bracket, any other host to a
-- colon
abbrev pub host_len : List ℕ → ℕ
host_len authority =
    if slice_index authority 0 == 91 then position_or_len (λ b. b == 93) authority + 1
    else position_or_len (λ b. b == 58) authority

-- the host of an authority
abbrev pub host_text : List ℕ → List ℕ
host_text authority = take (host_len authority) authority

-- the text after the host
abbrev pub port_text : List ℕ → List ℕ
port_text authority = drop (host_len authority) authority

-- a host that a text spells: `localhost`, an IPv4 literal, or an IPv6 literal in brackets (RFC 3986, 3.2.2)
abbrev pub IsHost : List ℕ → Host → Type 0
IsHost text Localhost = text ≡ codes "localhost"
IsHost text (V4 address) = IsIpv4Text text address
IsHost text (V6 address) =
    (literal : List ℕ) × (text ≡ 91 ∷ literal ++ 93 ∷ []) × IsIpv6Text literal address

-- the IPv4 address of four octets
abbrev pub v4_of : List ℕ → Ipv4Addr
v4_of octets = record { octets = octets }

-- the IPv4 address that a text spells
unfoldable pub v4_in : List ℕ → Option Ipv4Addr
v4_in text = option_map v4_of (whole_value (read_ipv4 text))

-- the IPv6 address of eight segments
abbrev pub v6_of : List ℕ → Ipv6Addr
v6_of segments = record { segments = segments }

-- the IPv6 address that a text spells
unfoldable pub v6_in : List ℕ → Option Ipv6Addr
v6_in text = option_map v6_of (whole_value (read_ipv6 text))

-- the text between brackets
abbrev pub literal_in : List ℕ → Option (List ℕ)
literal_in text =
    if (slice_index text 0 == 91) && (slice_index text (length text - 1) == 93) && nat_le 2 (length text)
    then Some (take (length text - 2) (drop 1 text))
    else None

-- one address or the other
abbrev pub host_or : Option Ipv4Addr → Option Ipv6Addr → Option Host
host_or (Some a) other = Some (V4 a)
host_or None (Some a) = Some (V6 a)
host_or None None = None

-- the host that a text spells
unfoldable pub host_in : List ℕ → Option Host
host_in text =
    if bytes_eq text (codes "localhost") then Some Localhost
    else host_or (v4_in text) (literal_in text >>= v6_in)

-- the port after a host: a colon and 1 to 65,535 in decimal with no leading zero, or 80 if nothing follows the host
-- (RFC 9110, 4.2.1)
abbrev pub port_behind : List ℕ → Option ℕ
port_behind [] = Some 80
port_behind (first ∷ digits) = if first == 58 then result_ok (number_in 1 65_535 digits) else None

-- each byte is visible ASCII (RFC 3986, 2)
abbrev pub are_visible : List ℕ → Bool
are_visible bytes = list_all (is_between 33 126) bytes

-- the URL is visible ASCII, begins with `http://`, and names that host and that port before a path
pub record Names (url : List ℕ) (host : Host) (port : ℕ) : Type 0 where
  pub scheme : take 7 url ≡ codes "http://"
  pub is_host : IsHost (host_text (authority_of url)) host
  pub is_port : port_behind (port_text (authority_of url)) ≡ Some port
  pub is_path : slice_index (path_of url) 0 ≡ 47
  pub visible : IsTrue (are_visible url)

-- the host and the port that a URL names
unfoldable pub endpoint_in : List ℕ → Option (Host × ℕ)
endpoint_in url =
    if bytes_eq (take 7 url) (codes "http://") && are_visible url && (slice_index (path_of url) 0 == 47)
    then (host_in (host_text (authority_of url)) >>= λ host.
    option_map (λ port. (host, port)) (port_behind (port_text (authority_of url))))
    else None

-- the target of a URL of at most 255 bytes and a token
pub record IsTarget (url token : List ℕ) (target : Parts) : Type 0 where
  pub url_is : target.url ≡ url
  pub token_is : target.token ≡ token
  pub short : length url ≤ 255
  pub names : Names url target.host target.port
  pub is_token : IsTrue (is_token token)

-- the target of a URL and a token, if they have one
unfoldable pub target_in : List ℕ → List ℕ → Option Parts
target_in url token =
    if is_token token && nat_le (length url) 255
    then option_map (λ e. record { url = url; token = token; host = e.0; port = e.1 }) (endpoint_in url)
    else None
