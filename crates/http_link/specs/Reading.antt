-- Heads as they are found in what has come, by whichever grammar.
use Rattle.std.specs.Prelude.{◌≡◌, ℕ, ◌<◌, ◌≤◌, List, ◌++◌, length, take, Option}
use Rattle.std.specs.Io.KnownBytes.{Consumes, IsAtEnd}
use Rattle.httparse.specs.declared.spans.HeaderSpan.{HeaderSpan}
use Rattle.http_link.specs.Grammars.{Grammar}
use Rattle.http_link.specs.Limits.{max_head}
use Rattle.http_link.specs.declared.grammar.Offered.{Offered}
use Rattle.http_link.specs.declared.grammar.Offered.TheVariants.{Whole, Partial, Malformed}

-- each head with at most so many lines that begins with this text is longer than it
abbrev pub IsHeadBegun : {S : Type 0} → Grammar S → List ℕ → ℕ → Type 0
IsHeadBegun grammar text room =
    (head more rest : List ℕ) → grammar.IsHead head room → text ++ more ≡ head ++ rest → length text < length head

-- the text and what follows begin with no head with so many lines at most
abbrev pub BeginsNone : {S : Type 0} → Grammar S → List ℕ → ℕ → Type 0
BeginsNone grammar text room = (head more rest : List ℕ) → grammar.IsHead head room → text ++ more ≡ head ++ rest → ⊥

-- what is known of a text
abbrev pub Decides : {S : Type 0} → Grammar S → List ℕ → ℕ → List HeaderSpan → Offered S → Type 0
Decides grammar text room lines (Whole spans) = grammar.Covers text lines spans
Decides grammar text room lines Partial = IsHeadBegun grammar text room
Decides grammar text room lines Malformed = BeginsNone grammar text room

-- no head within the limits begins the bytes
abbrev pub BeginsNot : {S : Type 0} → Grammar S → List ℕ → (lines : ℕ) → Type 0
BeginsNot grammar bytes lines =
    (head rest : List ℕ) → grammar.IsHead head lines → bytes ≡ head ++ rest → length head ≤ max_head → ⊥

-- nor the bytes and what follows
abbrev pub BeginsNever : {S : Type 0} → Grammar S → List ℕ → (lines : ℕ) → Type 0
BeginsNever grammar bytes lines = (more : List ℕ) → BeginsNot grammar (bytes ++ more) lines

-- what was seen of a text, of which so many bytes were looked at: a head that ends there, that it goes on, or that none begins it
abbrev pub Sees : {S : Type 0} → Grammar S → List ℕ → (seen room : ℕ) → List HeaderSpan → Offered S → Type 0
Sees grammar text seen room lines (Whole spans) =
    grammar.Covers (take seen text) lines spans × (grammar.len spans ≡ seen)
Sees grammar text seen room lines Partial = IsHeadBegun grammar (take seen text) room × (seen ≡ length text)
Sees grammar text seen room lines Malformed = BeginsNone grammar (take seen text) room

-- a head was seen that ends after the bytes that had been looked at
abbrev pub SeesFurther : {S : Type 0} → (before now : ℕ) → Offered S → Type 0
SeesFurther before now (Whole spans) = before < now
SeesFurther before now Partial = Unit {0}
SeesFurther before now Malformed = Unit {0}

-- a head that was found has so many bytes
abbrev pub EndsAt : {S : Type 0} → Grammar S → ℕ → Offered S → Type 0
EndsAt grammar there (Whole spans) = grammar.len spans ≡ there
EndsAt grammar there Partial = Unit {0}
EndsAt grammar there Malformed = Unit {0}

-- what the bytes begin with: a head, too little of one with no more bytes left, or none
abbrev pub StandsIn : {S : Type 0} → Grammar S → List ℕ → List HeaderSpan → Option (List ℕ) → Offered S → Type 0
StandsIn grammar bytes lines left (Whole spans) =
    (grammar.len spans ≤ length bytes) × (grammar.len spans ≤ max_head)
    × grammar.Covers (take (grammar.len spans) bytes) lines spans
StandsIn grammar bytes lines left Partial = BeginsNot grammar bytes (length lines) × IsAtEnd left
StandsIn grammar bytes lines left Malformed = BeginsNever grammar bytes (length lines)

-- bytes came after those that were held, and all of them begin with that
pub record HeadIsFound {S : Type 0} (grammar : Grammar S) (had : List ℕ) (old new : Option (List ℕ)) (has : List ℕ)
    (lines : List HeaderSpan) (offered : Offered S) : Type 0 where
  pub came : List ℕ
  pub grew : has ≡ had ++ came
  pub taken : Consumes old new came
  pub stands : StandsIn grammar has lines new offered
