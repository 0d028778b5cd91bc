-- Rows of counts: four counts of each tenant, one for each kind.
use Rattle.std.specs.Prelude.{ℕ, ◌+◌, ◌*◌, List, [], ◌∷◌, slice_index, slice_set}
use Rattle.meters.specs.declared.kind.Kind.{Kind}
use Rattle.meters.specs.declared.kind.Kind.TheVariants.{Answered, ClientError, Unavailable, LinkFault}

-- the place of a kind among the four counts of a tenant
abbrev pub place_of : Kind → ℕ
place_of Answered = 0
place_of ClientError = 1
place_of Unavailable = 2
place_of LinkFault = 3

-- the place of the count of a tenant and a kind in a row
abbrev pub word_of : ℕ → Kind → ℕ
word_of tenant kind = 4 * tenant + place_of kind

-- the count of a tenant and a kind in a row
abbrev pub count_in : ℕ → Kind → List ℕ → ℕ
count_in tenant kind row = slice_index row (word_of tenant kind)

-- the row with one more of a tenant and a kind
abbrev pub one_more : ℕ → Kind → List ℕ → List ℕ
one_more tenant kind row = slice_set row (word_of tenant kind) (count_in tenant kind row + 1)

-- two rows added up, count by count
abbrev pub both_rows : List ℕ → List ℕ → List ℕ
both_rows [] ys = []
both_rows (x ∷ xs) [] = x ∷ xs
both_rows (x ∷ xs) (y ∷ ys) = (x + y) ∷ both_rows xs ys
