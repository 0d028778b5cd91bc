-- What follows a head: a body of a stated length, or one in chunks (RFC 9112, 6.2, 6.3 and 7.1).
use Rattle.std.specs.Prelude.{◌≡◌, ◌≢◌, ◌+◌, ◌-◌, ◌<◌, ◌≤◌, ◌⊎◌, ℕ, List, [], ◌∷◌, ◌++◌, length, take, drop, All, Bool, true, false, ◌||◌, ◌==◌}
use Rattle.std.specs.Prelude.{codes}
use Rattle.std.specs.List.{flat_map, ends_with}
use Rattle.std.specs.Str.{bytes_eq}
use Rattle.httparse.specs.Ascii.{crlf_bytes}
use Rattle.httparse.specs.Grammar.{ChunkLine, IsChunkLine, ReadsChunkLine, chunk_size, print_chunk_line}
use Rattle.httparse.specs.Grammar.{Field, LineEnd, ReadsSection, print_section}
use Rattle.http_link.specs.Limits.{max_chunk_line, max_head, max_lines}
use Rattle.http_link.specs.Grammars.{ends_empty_line}
use Rattle.http_link.specs.declared.bodies.BodyFault.{BodyFault}
use Rattle.http_link.specs.declared.bodies.BodyFault.TheVariants.{Malformed, TooLarge}
use Rattle.http_link.specs.declared.bodies.Framing.{Framing}
use Rattle.http_link.specs.declared.bodies.Framing.TheVariants.{Chunked, Sized}

-- what bytes are as a body: the body, and what follows it; cut, as they end inside it; or something is wrong with it
pub data Body : Type 0 where
  whole : (bytes after : List ℕ) → Body
  cut : Body
  bad : BodyFault → Body

-- the most bytes of a body that is framed so
abbrev pub most_of : Framing → ℕ
most_of (Sized size) = size
most_of (Chunked most) = most

-- ---- chunks

-- a chunk: the line that states its size, and its bytes
pub record Chunk : Type 0 where
  pub line : ChunkLine
  pub content : List ℕ

-- its text
abbrev pub print_chunk : Chunk → List ℕ
print_chunk chunk = print_chunk_line chunk.line ++ (chunk.content ++ crlf_bytes)

-- it has as many bytes as its line states, and one at least
pub record IsChunk (chunk : Chunk) : Type 0 where
  pub line : IsChunkLine chunk.line
  pub short : length (print_chunk_line chunk.line) ≤ max_chunk_line
  pub stated : length chunk.content ≡ chunk_size chunk.line
  pub some : 0 < length chunk.content

-- the bytes of chunks, one after another
abbrev pub contents : List Chunk → List ℕ
contents chunks = flat_map (λ chunk. chunk.content) chunks

-- the line of a chunk of that size begins the bytes
pub record BeginsChunk (bytes : List ℕ) (size : ℕ) (rest : List ℕ) : Type 0 where
  pub line : ChunkLine
  pub reads : ReadsChunkLine bytes line rest
  pub short : length (print_chunk_line line) ≤ max_chunk_line
  pub states : size ≡ chunk_size line

-- the bytes begin with trailers and an empty line after them
pub record BeginsTrailers (bytes rest : List ℕ) : Type 0 where
  pub fields : List Field
  pub last : LineEnd
  pub reads : ReadsSection bytes fields last rest
  pub short : length (print_section fields last) ≤ max_head
  pub few : length fields ≤ max_lines

-- ---- texts that are malformed

-- a line feed ends the text
abbrev pub ends_line : List ℕ → Bool
ends_line text = ends_with (λ a b. a == b) text (10 ∷ [])

-- an empty line ends the text
abbrev pub ends_section : List ℕ → Bool
ends_section text = bytes_eq text (codes "\n") || bytes_eq text (codes "\r\n") || ends_empty_line text

-- no front of the text ends so, the text itself included
abbrev pub NoneEnds : (List ℕ → Bool) → List ℕ → Type 0
NoneEnds ends text = (n : ℕ) → n ≤ length text → ends (take n text) ≡ false

-- the text ends so, and no shorter front of it does
pub record EndsFirst (ends : List ℕ → Bool) (text : List ℕ) : Type 0 where
  pub ended : ends text ≡ true
  pub first : (n : ℕ) → n < length text → ends (take n text) ≡ false

-- the first text at the front of the bytes that ends like this is malformed, or it has more bytes than allowed
abbrev pub BeginsWrong : (List ℕ → Bool) → ℕ → (List ℕ → Type 0) → List ℕ → Type 0
BeginsWrong ends most Is bytes =
    ((text : List ℕ) × (rest : List ℕ) × (bytes ≡ text ++ rest) × EndsFirst ends text × (Is text → ⊥))
    ⊎ ((most ≤ length bytes) × NoneEnds ends (take most bytes))

-- the bytes are fewer than may be, and no such text is whole
abbrev pub BeginsNothing : (List ℕ → Bool) → ℕ → List ℕ → Type 0
BeginsNothing ends most bytes = (length bytes < most) × NoneEnds ends bytes

-- the line of a chunk
abbrev pub IsSizeLine : List ℕ → Type 0
IsSizeLine text = (line : ChunkLine) × ReadsChunkLine text line []

-- trailers, and an empty line after them
abbrev pub IsTrailerText : List ℕ → Type 0
IsTrailerText text = (fields : List Field) × (last : LineEnd) × ReadsSection text fields last [] × (length fields ≤ max_lines)

-- ---- a body in chunks

-- a chunk begins the bytes that has some bytes, and no more than there is room for
pub record BeginsFitting (room : ℕ) (bytes : List ℕ) (size : ℕ) (rest : List ℕ) : Type 0 where
  pub begins : BeginsChunk bytes size rest
  pub some : 0 < size
  pub fits : size ≤ room

-- a line that is not a chunk's is in a chunk line's place; no line end follows a chunk; or the trailers are malformed
abbrev pub IsMalformed : ℕ → List ℕ → Type 0
IsMalformed room bytes =
    BeginsWrong ends_line max_chunk_line IsSizeLine bytes
    ⊎ (((size : ℕ) × (rest : List ℕ) × BeginsFitting room bytes size rest × (size + 2 ≤ length rest)
    × (take 2 (drop size rest) ≢ crlf_bytes))
    ⊎ ((rest : List ℕ) × BeginsChunk bytes 0 rest × BeginsWrong ends_section max_head IsTrailerText rest))

-- the bytes end inside a chunk's line, inside a chunk or the line end after it, or inside the trailers
abbrev pub IsCutShort : ℕ → List ℕ → Type 0
IsCutShort room bytes =
    BeginsNothing ends_line max_chunk_line bytes
    ⊎ (((size : ℕ) × (rest : List ℕ) × BeginsFitting room bytes size rest × (length rest < size + 2))
    ⊎ ((rest : List ℕ) × BeginsChunk bytes 0 rest × BeginsNothing ends_section max_head rest))

-- What follows the chunks of a body with this content: the last chunk, which is empty, and the trailers; an end that
-- cuts the body short; something malformed; or a chunk with more bytes than there is room for.
abbrev pub EndsBody : (room : ℕ) → (content bytes : List ℕ) → Body → Type 0
EndsBody room content bytes (whole body after) =
    (body ≡ content) × ((rest : List ℕ) × BeginsChunk bytes 0 rest × BeginsTrailers rest after)
EndsBody room content bytes cut = IsCutShort room bytes
EndsBody room content bytes (bad Malformed) = IsMalformed room bytes
EndsBody room content bytes (bad TooLarge) = (size : ℕ) × (rest : List ℕ) × BeginsChunk bytes size rest × (room < size)

-- what bytes are as a body in chunks, of so many bytes at most: chunks, and an end
pub record IsChunked (most : ℕ) (bytes : List ℕ) (body : Body) : Type 0 where
  pub chunks : List Chunk
  pub are : All IsChunk chunks
  pub fit : length (contents chunks) ≤ most
  pub rest : List ℕ
  pub parts : bytes ≡ flat_map print_chunk chunks ++ rest
  pub ends : EndsBody (most - length (contents chunks)) (contents chunks) rest body

-- ---- a body

-- what bytes are as a body of a stated length
abbrev pub IsSized : ℕ → List ℕ → Body → Type 0
IsSized size bytes (whole body after) = (size ≤ length bytes) × (body ≡ take size bytes) × (after ≡ drop size bytes)
IsSized size bytes cut = length bytes < size
IsSized size bytes (bad fault) = ⊥

-- what bytes are as a body that is framed so
abbrev pub IsBody : Framing → List ℕ → Body → Type 0
IsBody (Sized size) bytes body = IsSized size bytes body
IsBody (Chunked most) bytes body = IsChunked most bytes body

-- the status that refuses a body (RFC 9110, 15.5.1 and 15.5.14)
abbrev pub body_status : BodyFault → ℕ
body_status Malformed = 400
body_status TooLarge = 413
