-- The keys that were found to be ignored.
use Rattle.std.specs.Prelude.{List, map, string_bytes}
use Rattle.admin_text.specs.Ignored.{KeyAt}
use Rattle.admin_text.specs.declared.ignored.IgnoredKey.{IgnoredKey}

-- such a key, and the place of its table
abbrev pub ignored_key_at : IgnoredKey → KeyAt
ignored_key_at k = (k.place, string_bytes k.name)

-- such keys
abbrev pub seen : List IgnoredKey → List KeyAt
seen keys = map ignored_key_at keys
