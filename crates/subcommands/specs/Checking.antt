-- What `check` says of a setup that is good.
use Rattle.std.specs.Prelude.{ℕ, ◌≡◌, List, [], ◌∷◌, ◌++◌, codes, string_bytes, Option}
use Rattle.std.specs.Io.KnownBytes.{Appends}
use Rattle.std.specs.List.{flat_map}
use Rattle.admin_text.specs.Ignored.{ignored_in}
use Rattle.admin_text.specs.IgnoredKeys.{seen}
use Rattle.admin_text.specs.Notes.{note_words, notes_in}
use Rattle.admin_text.specs.declared.ignored.IgnoredKey.{IgnoredKey}
use Rattle.admin_text.specs.declared.noted.Note.{Note}

-- the line of a key
abbrev pub key_line : IgnoredKey → List ℕ
key_line key = string_bytes key.words ++ 10 ∷ []

-- the line of a note
abbrev pub note_line : Note → List ℕ
note_line note = note_words note ++ 10 ∷ []

-- `good`, and a line for each of these keys and notes
abbrev pub good_text : List IgnoredKey → List Note → List ℕ
good_text keys notes = codes "good" ++ 10 ∷ [] ++ flat_map key_line keys ++ flat_map note_line notes

-- that was written, of exactly the keys that are ignored and of what may be wrong with the money
abbrev pub SaysGood : List ℕ → Option (List ℕ) → Option (List ℕ) → Type 0
SaysGood setup old new =
    (keys : List IgnoredKey) × (seen keys ≡ ignored_in setup) × Appends old new (good_text keys (notes_in setup))
