-- The numbers that a list of names has, name by name.
use Rattle.std.proofs.Common.{◌≡◌, ℕ, List, [], ◌∷◌, ◌++◌, refl, sym, ◌∙◌, ap, append_assoc, append-nil, Option}
use Rattle.std.proofs.Common.{map, None}
use Rattle.std.proofs.lemmas.Iterator.{YieldsList}
use Rattle.std.proofs.lemmas.Iterator.Consumers.{YieldsList-end}
use Rattle.std.specs.Iterator.{Yields}
use Rattle.std.specs.Option.{option_to_list}
use Rattle.log_folder.specs.Folder.{AreBases, IsNumbered}

-- one name more
pub bases_more : (names : List (List ℕ)) (numbers : List ℕ) (name : List ℕ) (found : Option ℕ)
    → AreBases names numbers → IsNumbered name found → AreBases (names ++ name ∷ []) (numbers ++ option_to_list found)
bases_more [] numbers name found none is =
    (found, [], is, ap (λ (l : List ℕ). l ++ option_to_list found) none ∙ sym (append-nil (option_to_list found)), refl)
bases_more (first ∷ names) numbers name found so_far is = (
  so_far.0,
  so_far.1 ++ option_to_list found,
  so_far.2,
  ap (λ (l : List ℕ). l ++ option_to_list found) so_far.3 ∙ append_assoc (option_to_list so_far.0) so_far.1 (option_to_list found),
  bases_more names so_far.1 name found so_far.4 is,
)

-- at the end of a loop: all that the iterator gives was taken
pub all_taken : {S A B : Type 0} {steps : S → Option A → S → Type 0} {v : A → B} {s : S} {all : List B} (xs : List A) (t : S)
    → Yields steps s xs t → (r : Option A) (u : S) → r ≡ None → steps t r u → YieldsList steps v s all → map v xs ≡ all
all_taken xs t taken r u is step gives = (YieldsList-end gives xs t taken r u is step).0
