-- The field lines of a head (RFC 9110, 5).
use Rattle.std.specs.Prelude.{ℕ, List, [], ◌∷◌, length, take, drop, map, filter, Bool, ◌&&◌, ◌==◌}
use Rattle.std.specs.Prelude.{codes, if◌then◌else◌}
use Rattle.std.specs.List.{list_all, list_any, slice_split}
use Rattle.std.specs.Str.{str_eq_ignore_ascii_case}
use Rattle.httparse.specs.Grammar.{is_ows, skip_ows}
use Rattle.common_types.specs.Numbers.{is_between}

-- a field line: its name, and its value without the white space around it (RFC 9110, 5.5)
abbrev pub Line : Type 0
Line = List ℕ × List ℕ

-- the values of the lines of a name, whose letters may have any case (RFC 9110, 5.1)
abbrev pub values_of : List ℕ → List Line → List (List ℕ)
values_of name lines = map (λ line. line.1) (filter (λ line. str_eq_ignore_ascii_case line.0 name) lines)

-- a name is in no line, in one, or in more
pub data Occurrence : Type 0 where
  missing repeated : Occurrence
  once : List ℕ → Occurrence

-- the occurrence of a name with these values
abbrev pub occurrence_in : List (List ℕ) → Occurrence
occurrence_in [] = missing
occurrence_in (value ∷ []) = once value
occurrence_in (first ∷ second ∷ more) = repeated

-- the occurrence of a name in some lines
abbrev pub occurrence : List ℕ → List Line → Occurrence
occurrence name lines = occurrence_in (values_of name lines)

-- an element of a list is a word, in any case, with optional white space around it (RFC 9110, 5.6.1)
abbrev pub is_element : List ℕ → List ℕ → Bool
is_element word part =
    str_eq_ignore_ascii_case (take (length word) (skip_ows part)) word
    && list_all is_ows (drop (length word) (skip_ows part))

-- a value is a list that has the word (RFC 9110, 5.6.1)
abbrev pub has_element : List ℕ → List ℕ → Bool
has_element word value = list_any (is_element word) (slice_split (λ b. b == 44) value)

-- a body's coding is `chunked`, and no other beside it (RFC 9112, 7.1)
abbrev pub is_chunked : List ℕ → Bool
is_chunked coding = str_eq_ignore_ascii_case coding (codes "chunked")

-- a length that we read: 1 to 10 digits (RFC 9110, 8.6)
abbrev pub is_length : List ℕ → Bool
is_length text = is_between 1 10 (length text) && list_all (is_between 48 57) text

-- the bytes after the leading spaces
abbrev pub skip_spaces : List ℕ → List ℕ
skip_spaces [] = []
skip_spaces (b ∷ bytes) = if b == 32 then skip_spaces bytes else b ∷ bytes
