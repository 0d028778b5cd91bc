-- Bodies as they are read: bytes that had come first, and then those of a reader.
use Rattle.std.specs.Prelude.{◌≡◌, ◌≢◌, ◌+◌, ◌-◌, ◌<◌, ◌≤◌, ◌⊎◌, ℕ, List, [], ◌∷◌, ◌++◌, length, take, drop, Bool, true, false, Option, Some, None, Result, IfOk}
use Rattle.std.specs.Io.KnownBytes.{Consumes, IsAtEnd}
use Rattle.httparse.specs.Ascii.{crlf_bytes}
use Rattle.httparse.specs.Grammar.{ChunkLine, ReadsChunkLine, chunk_size}
use Rattle.http_link.specs.Bodies.{Body, whole, cut, bad, Chunk, IsChunk, print_chunk, EndsBody}
use Rattle.http_link.specs.Bodies.{BeginsNothing, BeginsWrong, EndsFirst, NoneEnds, ends_line, ends_section}
use Rattle.http_link.specs.Bodies.{IsSizeLine, IsTrailerText}
use Rattle.http_link.specs.Limits.{max_chunk_line, max_head}
use Rattle.http_link.specs.declared.held.Held.{Held}
use Rattle.http_link.specs.declared.bodies.BodyFault.TheVariants.{Malformed, TooLarge}
use Rattle.http_link.specs.declared.bodies.BodyRead.{BodyRead}
use Rattle.http_link.specs.declared.bodies.BodyRead.TheVariants.{Whole, Cut, Bad}
use Rattle.http_link.specs.declared.chunks.Checked.{Checked}
use Rattle.http_link.specs.declared.chunks.Checked.TheVariants.{Right, Wrong, Short}
use Rattle.http_link.specs.declared.chunks.Stated.{Stated}
use Rattle.http_link.specs.declared.chunks.Stated.TheVariants as stated
use Rattle.http_link.specs.declared.chunks.Step.{Step}
use Rattle.http_link.specs.declared.chunks.Step.TheVariants.{More, Over}
use Rattle.http_link.specs.declared.intake.Sought.{Sought}
use Rattle.http_link.specs.declared.intake.Sought.TheVariants.{Line, Section}
use Rattle.http_link.specs.declared.intake.Text.{Text}
use Rattle.http_link.specs.declared.intake.Text.TheVariants.{Found, TooLong, Ended}

-- held bytes are in the buffer, after the first `done` bytes of it
pub record LiesBehind (done : ℕ) (room : List ℕ) (held : Held) : Type 0 where
  pub behind : done ≤ held.from
  pub ordered : held.from ≤ held.to
  pub within : held.to ≤ length room

-- bytes came after those that were held; these bytes were taken from the front of both, and those are left
pub record Takes (had : List ℕ) (old new : Option (List ℕ)) (taken has : List ℕ) : Type 0 where
  pub came : List ℕ
  pub parts : had ++ came ≡ taken ++ has
  pub consumed : Consumes old new came

-- these were taken, nothing is left, and no more comes
pub record TakesEveryByte (had : List ℕ) (old new : Option (List ℕ)) (taken has : List ℕ) : Type 0 where
  pub takes : Takes had old new taken has
  pub none : has ≡ []
  pub ended : IsAtEnd new

-- a stream on which no more bytes come
abbrev pub no_more : Option (List ℕ)
no_more = Some []

-- the reader is as it was, and the result of the call is this; or too few bytes were held before it
abbrev pub ReadsOnlyFor : {D A E : Type 0} → (old new : D) → Result A E → (So : A → Type 0) → (Few : Type 0) → Type 0
ReadsOnlyFor old new result So Few = ((new ≡ old) × IfOk result So) ⊎ Few

-- the next byte was taken, or there is none
abbrev pub TakesNext : List ℕ → Option (List ℕ) → Option (List ℕ) → List ℕ → Option ℕ → Type 0
TakesNext had old new has (Some b) = Takes had old new (b ∷ []) has
TakesNext had old new has None = TakesEveryByte had old new [] has

-- how the text ends that the reader looks for
abbrev pub ends_sought : Sought → List ℕ → Bool
ends_sought Line text = ends_line text
ends_sought Section text = ends_section text

-- that text was taken; as many bytes as there is room for, with no such text at the front; or all, with none
abbrev pub TakesText : Sought → List ℕ → Option (List ℕ) → Option (List ℕ) → List ℕ → List ℕ → Text → Type 0
TakesText sought had old new has text (Found n) =
    (n ≤ length text) × EndsFirst (ends_sought sought) (take n text) × Takes had old new (take n text) has
TakesText sought had old new has text TooLong = NoneEnds (ends_sought sought) text × Takes had old new text has
TakesText sought had old new has text Ended =
    (taken : List ℕ) × BeginsNothing (ends_sought sought) (length text) taken × TakesEveryByte had old new taken has

-- ---- chunks

-- the line of a chunk, of that size
pub record IsSizeOf (text : List ℕ) (size : ℕ) : Type 0 where
  pub line : ChunkLine
  pub reads : ReadsChunkLine text line []
  pub states : size ≡ chunk_size line

-- the size that a text states
abbrev pub IsStatedIn : List ℕ → Option ℕ → Type 0
IsStatedIn text (Some size) = IsSizeOf text size
IsStatedIn text None = IsSizeLine text → ⊥

-- bytes came, and this holds of the held bytes with them
pub record Makes (had : List ℕ) (old new : Option (List ℕ)) (Is : List ℕ → Type 0) : Type 0 where
  pub came : List ℕ
  pub consumed : Consumes old new came
  pub so : Is (had ++ came)

-- bytes came, until no more were left, and this holds of the held bytes with them
pub record MakesAll (had : List ℕ) (old new : Option (List ℕ)) (has : List ℕ) (Is : List ℕ → Type 0) : Type 0 where
  pub makes : Makes had old new Is
  pub none : has ≡ []
  pub ended : IsAtEnd new

-- a chunk's line was taken, no chunk's line begins the bytes, or they end inside it
abbrev pub TakesSize : List ℕ → Option (List ℕ) → Option (List ℕ) → List ℕ → Stated → Type 0
TakesSize had old new has (stated.Size size) =
    (text : List ℕ) × IsSizeOf text size × (length text ≤ max_chunk_line) × Takes had old new text has
TakesSize had old new has stated.Malformed = Makes had old new (BeginsWrong ends_line max_chunk_line IsSizeLine)
TakesSize had old new has stated.Short = MakesAll had old new has (BeginsNothing ends_line max_chunk_line)

-- so many bytes were taken, and are in the buffer after the first; or there are fewer
abbrev pub TakesBytes : List ℕ → Option (List ℕ) → Option (List ℕ) → List ℕ → (size done : ℕ) → (before after : List ℕ) → Bool → Type 0
TakesBytes had old new has size done before after true =
    (bytes : List ℕ) × (length bytes ≡ size) × (take (done + size) after ≡ take done before ++ bytes)
    × Takes had old new bytes has
TakesBytes had old new has size done before after false =
    (taken : List ℕ) × (length taken < size) × TakesEveryByte had old new taken has

-- a line end was taken, or two other bytes, or there are fewer
abbrev pub TakesEnd : List ℕ → Option (List ℕ) → Option (List ℕ) → List ℕ → Checked → Type 0
TakesEnd had old new has Right = Takes had old new crlf_bytes has
TakesEnd had old new has Wrong = (two : List ℕ) × (length two ≡ 2) × (two ≢ crlf_bytes) × Takes had old new two has
TakesEnd had old new has Short = (taken : List ℕ) × (length taken < 2) × TakesEveryByte had old new taken has

-- what was read, as a body: it is at the front of the buffer, and those bytes are left
abbrev pub body_read : (room has : List ℕ) → BodyRead → Body
body_read room has (Whole n) = whole (take n room) has
body_read room has Cut = cut
body_read room has (Bad fault) = bad fault

-- bytes came, and with the held ones they are such a body; if it is cut short, nothing is left and no more comes
pub record ReadsAs (had : List ℕ) (old new : Option (List ℕ)) (has room : List ℕ) (Is : List ℕ → Body → Type 0) (read : BodyRead) : Type 0 where
  pub came : List ℕ
  pub consumed : Consumes old new came
  pub so : Is (had ++ came) (body_read room has read)
  pub ended : read ≡ Cut → (has ≡ []) × IsAtEnd new

-- a body that was read has so many bytes at most
abbrev pub ReadsAtMost : ℕ → BodyRead → Type 0
ReadsAtMost most (Whole n) = n ≤ most
ReadsAtMost most Cut = Unit {0}
ReadsAtMost most (Bad fault) = Unit {0}

-- whether a text is trailers
abbrev pub AreTrailersIn : List ℕ → Bool → Type 0
AreTrailersIn text true = IsTrailerText text
AreTrailersIn text false = IsTrailerText text → ⊥

-- what the bytes after a chunk mean for its body
abbrev pub step_after : Checked → Step
step_after Right = More
step_after Wrong = Over (Bad Malformed)
step_after Short = Over Cut

-- a body that is over has no more bytes than were done
abbrev pub StepsTo : ℕ → Step → Type 0
StepsTo done More = Unit {0}
StepsTo done (Over read) = ReadsAtMost done read

-- After a chunk's line with that size. Either the chunk's bytes were taken, and are in the buffer after those before
-- it, so that `now` bytes are done. Or the bytes end inside the chunk or its line end. Or no line end follows it.
abbrev pub TakesChunk : List ℕ → Option (List ℕ) → Option (List ℕ) → List ℕ → (size done now : ℕ) → (before after : List ℕ) → Step → Type 0
TakesChunk had old new has size done now before after More =
    (now ≡ done + size) × ((bytes : List ℕ) × (length bytes ≡ size) × (take (done + size) after ≡ take done before ++ bytes)
    × Takes had old new (bytes ++ crlf_bytes) has)
TakesChunk had old new has size done now before after (Over Cut) = MakesAll had old new has (λ bytes. length bytes < size + 2)
TakesChunk had old new has size done now before after (Over (Bad Malformed)) =
    Makes had old new (λ bytes. (size + 2 ≤ length bytes) × (take 2 (drop size bytes) ≢ crlf_bytes))
TakesChunk had old new has size done now before after (Over (Bad TooLarge)) = ⊥
TakesChunk had old new has size done now before after (Over (Whole n)) = ⊥

-- After the line of the last chunk: the trailers were taken, they are cut short, or they are malformed.
abbrev pub TakesLast : List ℕ → Option (List ℕ) → Option (List ℕ) → List ℕ → (done : ℕ) → (before after : List ℕ) → Step → Type 0
TakesLast had old new has done before after More = ⊥
TakesLast had old new has done before after (Over (Whole n)) =
    (n ≡ done) × (take done after ≡ take done before)
    × ((text : List ℕ) × IsTrailerText text × (length text ≤ max_head) × Takes had old new text has)
TakesLast had old new has done before after (Over Cut) = MakesAll had old new has (BeginsNothing ends_section max_head)
TakesLast had old new has done before after (Over (Bad Malformed)) =
    Makes had old new (BeginsWrong ends_section max_head IsTrailerText)
TakesLast had old new has done before after (Over (Bad TooLarge)) = ⊥

-- a chunk was taken, and is in the buffer after those before it, so that `now` bytes are done; or the held bytes and those
-- that came end a body
abbrev pub TakesStep : List ℕ → Option (List ℕ) → Option (List ℕ) → List ℕ → (most done now : ℕ) → (before after : List ℕ) → Step → Type 0
TakesStep had old new has most done now before after More =
    (chunk : Chunk) × IsChunk chunk × (now ≡ done + length chunk.content) × (now ≤ most)
    × (take now after ≡ take done before ++ chunk.content) × Takes had old new (print_chunk chunk) has
TakesStep had old new has most done now before after (Over read) =
    ReadsAs had old new has after (EndsBody (most - done) (take done before)) read
