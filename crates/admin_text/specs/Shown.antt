-- The value that is shown for a key.
use Rattle.std.specs.Prelude.{ℕ, List, if◌then◌else◌, Option, Some, None}
use Rattle.toml.specs.Data.{Data, string}
use Rattle.toml.specs.View.{view}
use Rattle.admin_text.specs.Secrets.{is_secret}
use Rattle.admin_text.specs.declared.secrets.ShownValue.{ShownValue}
use Rattle.admin_text.specs.declared.secrets.ShownValue.TheVariants.{Nothing, Plain, Hidden}

-- the value that is shown, if one is
abbrev pub value_shown : ShownValue → Option Data
value_shown Nothing = None
value_shown (Plain value) = Some (view value.now)
value_shown (Hidden hidden) = None

-- the value at a key, unless the key is a secret's
abbrev pub value_to_show : List ℕ → Option Data → Option Data
value_to_show key found = if is_secret key then None else found

-- the value at a key that nobody reads, unless it is a text, which may be a token whose key is misspelled
abbrev pub ignored_to_show : List ℕ → Data → Option Data
ignored_to_show key (string text) = None
ignored_to_show key value = value_to_show key (Some value)
