-- What a line of the log says.
use Rattle.std.specs.Prelude.{ℕ, List, [], ◌∷◌, codes, Option, Some, None, option_map, if◌then◌else◌}
use Rattle.std.specs.Str.{bytes_eq}
use Rattle.common_types.specs.OptionChain.{◌>>=◌}
use Rattle.common_types.specs.Token.{is_token}
use Rattle.common_types.specs.Words.{words_of}
use Rattle.ilp_addr.specs.Target.{target_in}
use Rattle.statements.specs.Reading.{ReadPart, entry_read, max_number, number_read, passed, read_part, word_read}
use Rattle.tenant_core.specs.declared.journal.Change.{Change as Changed}
use Rattle.tenant_core.specs.declared.journal.Change.TheVariants.{PeerAdded}
use Rattle.tenant_core.specs.declared.journal.Entry.{Entry}
use Rattle.tenant_core.specs.declared.journal.Entry.TheVariants.{Change}
use Rattle.book_log.specs.declared.line.LinePlace.{LinePlace}
use Rattle.book_log.specs.declared.line.Secrets.{Secrets}

-- the place of a record: the tenant's number, the period, and how many records of the period come before it
unfoldable pub place_read : List (List ℕ) → Option (ReadPart LinePlace)
place_read words = do
  tenant ← number_read 0 65_535 words
  period ← number_read 0 max_number tenant.rest
  number ← number_read 0 max_number period.rest
  Some (read_part (record { tenant = tenant.value; period = period.value; number = number.value }) number.rest)

-- the secrets of a peer: its token, its URL, and the token that its packets have
unfoldable pub secrets_read : List (List ℕ) → Option (ReadPart Secrets)
secrets_read words = do
  shown ← word_read words
  url ← word_read shown.rest
  other ← word_read url.rest
  token ← passed is_token shown.value
  target ← target_in url.value other.value
  Some (read_part (record { token = token; target = target }) other.rest)

-- a change that adds a peer, with these secrets
abbrev pub change_with : Secrets → Changed → Option Changed
change_with s (PeerAdded t) = Some (PeerAdded (record t { token = s.token; target = s.target }))
change_with s _ = None

-- an entry that adds a peer, with these secrets
abbrev pub entry_with : Secrets → Entry → Option Entry
entry_with s (Change c) = option_map (λ change. Change (record c { change = change })) (change_with s c.change)
entry_with s _ = None

-- the entry after the word `with`: secrets, and then the record of the peer that has them
unfoldable pub added_read : List (List ℕ) → Option Entry
added_read words = do
  secrets ← secrets_read words
  entry ← entry_read 0 secrets.rest
  entry_with secrets.value entry

-- the entry after the place
unfoldable pub entry_said : List (List ℕ) → Option Entry
entry_said [] = None
entry_said (word ∷ words) = if bytes_eq word (codes "with") then added_read words else entry_read 0 (word ∷ words)

-- the place and the entry that a line says; its outcome is not read, since the rules give it again
unfoldable pub line_said : List ℕ → Option (LinePlace × Entry)
line_said line = do
  place ← place_read (words_of line)
  entry ← entry_said place.rest
  Some (place.value, entry)
