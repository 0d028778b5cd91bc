-- A word is looked for at one place of a text after the other.
use Rattle.std.proofs.Common.{◌≡◌, ◌+◌, ◌<◌, ◌≤◌, ◌∙◌, ℕ, List, ◌∷◌, Bool, true, false, ◌||◌, length, drop, sym, ap}
use Rattle.std.proofs.lemmas.List.{drop_more, drop_all}
use Rattle.admin_text.specs.Secrets.{begins_with_word, has_word}

-- at the head of a text
pub word_ahead : (xs word : List ℕ) (b : ℕ) (bs : List ℕ) → xs ≡ b ∷ bs → begins_with_word xs word ≡ true → has_word xs word ≡ true
unfolding has_word
word_ahead xs word b bs is there =
    ap (λ (t : List ℕ). has_word t word) is
    ∙ ap (λ (found : Bool). found || has_word bs word) (sym (ap (λ (t : List ℕ). begins_with_word t word) is) ∙ there)

-- behind it
pub word_behind : (xs word : List ℕ) (b : ℕ) (bs : List ℕ) → xs ≡ b ∷ bs → begins_with_word xs word ≡ false → has_word xs word ≡ has_word bs word
unfolding has_word
word_behind xs word b bs is none =
    ap (λ (t : List ℕ). has_word t word) is
    ∙ ap (λ (found : Bool). found || has_word bs word) (sym (ap (λ (t : List ℕ). begins_with_word t word) is) ∙ none)

-- at a place of it
pub word_here : (text word all : List ℕ) (at : ℕ) → at < length text → begins_with_word (drop at text) word ≡ true → has_word (drop at text) word ≡ has_word all word → true ≡ has_word all word
word_here text word all at within there so_far = sym (word_ahead (drop at text) word _ _ (drop_more text at 0 within) there) ∙ so_far

-- not at a place of it
pub word_not_here : (text word all : List ℕ) (at : ℕ) → at < length text → begins_with_word (drop at text) word ≡ false → has_word (drop at text) word ≡ has_word all word → has_word (drop (at + 1) text) word ≡ has_word all word
word_not_here text word all at within none so_far = sym (word_behind (drop at text) word _ _ (drop_more text at 0 within) none) ∙ so_far

-- at no place of it
pub word_nowhere : (text word all : List ℕ) (at : ℕ) → length text ≤ at → has_word (drop at text) word ≡ has_word all word → false ≡ has_word all word
unfolding has_word
word_nowhere text word all at past so_far = sym (ap (λ (xs : List ℕ). has_word xs word) (drop_all at text past)) ∙ so_far
