-- Lengths, octet strings and 64-bit numbers as bytes, as relations and as functions on lists.
use Rattle.std.specs.Prelude.{◌≡◌, ◌<◌, ◌≤◌, ◌+◌, ◌-◌, ◌*◌, ◌⊎◌, ℕ, zero, suc, List, [], ◌∷◌, ◌++◌, length, take, drop}
use Rattle.std.specs.Prelude.{fold, slice_index, Result, Ok, Err, nat_lt, nat_le, ◌==◌, ◌||◌, if◌then◌else◌}
use Rattle.std.specs.Int.{w64, from_be_bytes, to_be_bytes}
use Rattle.common_types.specs.ResultChain.{◌>>=◌}
use Rattle.oer_core.specs.declared.fault.OerFault.{OerFault}
use Rattle.oer_core.specs.declared.fault.OerFault.TheVariants.{Short, BadLength, TooLong}

-- The number that the bytes spell, the highest byte first.
abbrev pub big_endian : List ℕ → ℕ
big_endian bytes = fold (λ n b. n * 256 + b) 0 bytes

-- Each number of the list is a byte.
abbrev pub AreBytes : List ℕ → Type 0
AreBytes bytes = (i : ℕ) → slice_index bytes i < 256

-- The bytes spell the length n: one byte below 128, or 128 + k and then n in k bytes, which may be more than n
-- needs (RFC 0030, "Variable-Length Octet Strings"; X.696, 8.6).
abbrev pub IsLength : List ℕ → ℕ → Type 0
IsLength [] n = ⊥
IsLength (b ∷ bytes) n =
    ((b < 128) × (bytes ≡ []) × (n ≡ b))
    ⊎ ((128 < b) × (b ≤ 136) × (length bytes ≡ b - 128) × (n ≡ big_endian bytes))

-- The bytes from the first that is not zero.
unfoldable pub without_leading_zeros : List ℕ → List ℕ
without_leading_zeros [] = []
without_leading_zeros (zero ∷ bytes) = without_leading_zeros bytes
without_leading_zeros (suc b ∷ bytes) = suc b ∷ bytes

-- The spelling of a length below 2 ^ 64 that has the fewest bytes (RFC 0030, "Variable-Length Octet Strings").
unfoldable pub shortest_length : ℕ → List ℕ
shortest_length n =
    if nat_lt n 128 then n ∷ []
    else ((128 + length (without_leading_zeros (to_be_bytes w64 n))) ∷ without_leading_zeros (to_be_bytes w64 n))

-- The octet string that holds the text, its length in the fewest bytes.
abbrev pub octet_string : List ℕ → List ℕ
octet_string text = shortest_length (length text) ++ text

-- The bytes are an octet string that holds the text: a spelling of its length, then the text
-- (RFC 0030, "Variable-Length Octet Strings").
abbrev pub IsOctetString : List ℕ → List ℕ → Type 0
IsOctetString bytes text = (spelling : List ℕ) × IsLength spelling (length text) × (bytes ≡ spelling ++ text)

-- The bytes begin with an octet string that holds the text, and end with the rest.
abbrev pub BeginsWithString : List ℕ → List ℕ → List ℕ → Type 0
BeginsWithString bytes text rest = (front : List ℕ) × IsOctetString front text × (bytes ≡ front ++ rest)

-- The length and how many bytes spell it, unless it is over the limit.
abbrev pub limited : ℕ → ℕ → ℕ → Result (ℕ × ℕ) OerFault
limited limit n taken = if nat_le n limit then Ok (n, taken) else Err TooLong

-- The length at the front of the bytes and how many bytes spell it, or the first fault.
unfoldable pub length_at : ℕ → List ℕ → Result (ℕ × ℕ) OerFault
length_at limit [] = Err Short
length_at limit (b ∷ bytes) =
    if nat_lt b 128 then limited limit b 1
    else (if b == 128 || nat_lt 136 b then Err BadLength
    else (if nat_lt (length bytes) (b - 128) then Err Short
    else limited limit (big_endian (take (b - 128) bytes)) (b - 128 + 1)))

-- The octet string at the front and the bytes after it, or the first fault.
unfoldable pub octets_at : ℕ → List ℕ → Result (List ℕ × List ℕ) OerFault
octets_at limit bytes = do
  r ← length_at limit bytes
  if nat_lt (length (drop r.1 bytes)) r.0 then Err Short else Ok (take r.0 (drop r.1 bytes), drop r.0 (drop r.1 bytes))

-- The number that the first eight bytes spell and the bytes after them (RFC 0030, "UInt64").
unfoldable pub number_at : List ℕ → Result (ℕ × List ℕ) OerFault
number_at bytes = if nat_lt (length bytes) 8 then Err Short else Ok (from_be_bytes w64 (take 8 bytes), drop 8 bytes)
