-- The text of a log: the lines of each commit, and a sum after them.
use Rattle.std.specs.Prelude.{ℕ, ◌≡◌, Bool, true, List, [], ◌∷◌, ◌++◌, take, codes, map, Option, Some, None, option_map, if◌then◌else◌}
use Rattle.std.specs.Str.{bytes_eq}
use Rattle.hex.specs.Hex.{encode_lower}
use Rattle.line_log.specs.Log.{all_of, lines}
use Rattle.sha2.specs.Sha256.{sha256}
use Rattle.statements.specs.Reading.{text_lines}
use Rattle.tenant_core.specs.State.{State}
use Rattle.book_log.specs.Lines.{AreTaken}

-- a sum on a line of its own
unfoldable pub sum_line : List ℕ → List ℕ
sum_line sum = codes "sum " ++ encode_lower sum ++ 10 ∷ []

-- texts, each with the SHA-256 of the sum before it and of itself
abbrev pub summed : List ℕ → List (List ℕ) → List ℕ
summed sum [] = []
summed sum (text ∷ texts) = text ++ sum_line (sha256 (sum ++ text)) ++ summed (sha256 (sum ++ text)) texts

-- the text is commits, the lines of each with their sum, and then lines whose sum is not there; all of them are taken up
pub record IsTextTaken (first text : List ℕ) (before after : List State) : Type 0 where
  pub commits : List (List (List ℕ))
  pub others : List (List ℕ)
  pub written : text ≡ summed first (map lines commits) ++ lines others
  pub taken : AreTaken (all_of commits ++ others) before after

-- ---- the first commit of a text

-- the line states a sum
unfoldable pub is_sum : List ℕ → Bool
is_sum line = bytes_eq (take 4 line) (codes "sum ")

-- the lines before the first sum, that sum, and the lines after it
pub record CommitRead : Type 0 where
  pub lines : List (List ℕ)
  pub sum : List ℕ
  pub rest : List (List ℕ)

abbrev pub with_line : List ℕ → CommitRead → CommitRead
with_line line c = record c { lines = line ∷ c.lines }

-- the commit that a line begins, from what the parts after it begin with; a part after which none follows is no line
abbrev pub commit_from : List ℕ → List (List ℕ) → Option CommitRead → Option CommitRead
commit_from line [] later = None
commit_from line (next ∷ others) later =
    if is_sum line then Some (record { lines = []; sum = line; rest = next ∷ others }) else option_map (with_line line) later

-- the first commit of the lines of a text, if a sum ends one
abbrev pub commit_read : List (List ℕ) → Option CommitRead
commit_read [] = None
commit_read (line ∷ parts) = commit_from line parts (commit_read parts)

-- the parts of a text that are its first commit
pub record IsCommit (parts : List (List ℕ)) (text stated rest : List ℕ) : Type 0 where
  pub each : List (List ℕ)
  pub sum : List ℕ
  pub read : commit_read parts ≡ Some (record { lines = each; sum = sum; rest = text_lines rest })
  pub are_lines : text ≡ lines each
  pub is_stated : stated ≡ sum ++ 10 ∷ []
  -- it is one line, whatever follows, and states a sum
  pub one_line : (text : List ℕ) → text_lines (sum ++ 10 ∷ text) ≡ sum ∷ text_lines text
  pub marked : is_sum sum ≡ true
