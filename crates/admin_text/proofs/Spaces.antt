-- Words without a space, one more behind others.
use Rattle.std.proofs.Common.{◌≡◌, ◌<◌, ◌^◌, ◌∷◌, ◌++◌, [], ℕ, Bool, true, false, not, eqb, List, Result, Ok, Err, OnOk, length, inl, inr, refl, sym, ap, ◌∙◌, subst, append_assoc, arith}
use Rattle.std.specs.List.{list_all, onto_first}
use Rattle.std.specs.Fmt.{decimal}
use Rattle.std.proofs.lemmas.Bool.{and_parts, cases_Bool, eqb-true}
use Rattle.std.proofs.lemmas.List.Splits.{slice_split-cons_yes, slice_split-cons_no, length-slice_split}
use Rattle.common_types.specs.Names.{is_name, is_name_byte, is_asset_code, is_asset_byte}
use Rattle.common_types.specs.Numbers.{is_between}
use Rattle.common_types.specs.Numerals.{NumeralLaws, is_digit}
use Rattle.common_types.specs.Token.{is_token, is_token_byte}
use Rattle.common_types.specs.Words.{words_of}
use Rattle.ilp_addr.specs.Target.{Parts, IsTarget}
use Rattle.admin_text.specs.Spaces.{is_spaceless}

onto_first-append : (x : ℕ) (parts more : List (List ℕ)) → 0 < length parts → onto_first x (parts ++ more) ≡ onto_first x parts ++ more
onto_first-append x [] more some = absurd (omega arith)
onto_first-append x (part ∷ parts) more some = refl

-- a text without a space is one word
pub one_word : (word : List ℕ) → is_spaceless word ≡ true → words_of word ≡ word ∷ []
one_word [] h = refl
one_word (b ∷ bytes) h =
    let k = and_parts (not (eqb b 32)) (is_spaceless bytes) h in
    elim (cases_Bool (eqb b 32)) [
      | inl is ↦ absurd (let g : false ≡ true = rw is at k.0 in cc)
      | inr other ↦ rw (slice_split-cons_no (λ c. eqb c 32) b bytes other, one_word bytes k.1) refl
    ]

-- a word behind a space is one more
word_behind : (text word : List ℕ) → is_spaceless word ≡ true → words_of (text ++ 32 ∷ word) ≡ words_of text ++ word ∷ []
word_behind [] word h = rw (slice_split-cons_yes (λ c. eqb c 32) 32 word refl, one_word word h) refl
word_behind (b ∷ text) word h =
    elim (cases_Bool (eqb b 32)) [
      | inl is ↦ rw (slice_split-cons_yes (λ c. eqb c 32) b (text ++ 32 ∷ word) is, slice_split-cons_yes (λ c. eqb c 32) b text is, word_behind text word h) refl
      | inr other ↦
          let some : 0 < length (words_of text) = omega (arith, length-slice_split (λ c. eqb c 32) text) in
          rw (
            slice_split-cons_no (λ c. eqb c 32) b (text ++ 32 ∷ word) other,
            slice_split-cons_no (λ c. eqb c 32) b text other,
            word_behind text word h,
          ) (onto_first-append b (words_of text) (word ∷ []) some)
    ]

pub one_more : (old pushed new word : List ℕ) → is_spaceless word ≡ true → pushed ≡ old ++ 32 ∷ [] → new ≡ pushed ++ word → words_of new ≡ words_of old ++ word ∷ []
one_more old pushed new word h e f =
    let whole : new ≡ old ++ 32 ∷ word = f ∙ ap (λ (p : List ℕ). p ++ word) e ∙ append_assoc old (32 ∷ []) word in
    rw whole (word_behind old word h)

-- where no byte of a kind is a space
of_kind : (p : ℕ → Bool) → p 32 ≡ false → (bytes : List ℕ) → list_all p bytes ≡ true → is_spaceless bytes ≡ true
of_kind p none [] h = refl
of_kind p none (b ∷ bytes) h =
    let k = and_parts (p b) (list_all p bytes) h in
    elim (cases_Bool (eqb b 32)) [
      | inl is ↦ absurd (let g : false ≡ true = sym none ∙ subst (λ n. p n ≡ true) (eqb-true b 32 is) k.0 in cc)
      | inr other ↦ rw other (of_kind p none bytes k.1)
    ]

pub name_spaceless : (name : List ℕ) → is_name name ≡ true → is_spaceless name ≡ true
name_spaceless name h = of_kind is_name_byte refl name (and_parts (is_between 1 32 (length name)) (list_all is_name_byte name) h).1

pub token_spaceless : (token : List ℕ) → is_token token ≡ true → is_spaceless token ≡ true
token_spaceless token h = of_kind is_token_byte refl token (and_parts (is_between 1 64 (length token)) (list_all is_token_byte token) h).1

pub asset_spaceless : (asset : List ℕ) → is_asset_code asset ≡ true → is_spaceless asset ≡ true
asset_spaceless asset h = of_kind is_asset_byte refl asset (and_parts (is_between 1 16 (length asset)) (list_all is_asset_byte asset) h).1

pub url_spaceless : (t : Parts) → IsTarget t.url t.token t → is_spaceless t.url ≡ true
url_spaceless t is = of_kind (is_between 33 126) refl t.url is.names.visible

pub target_token_spaceless : (t : Parts) → IsTarget t.url t.token t → is_spaceless t.token ≡ true
target_token_spaceless t is = token_spaceless t.token is.is_token

pub number_spaceless : NumeralLaws → (n : ℕ) → n < 2 ^ 64 → is_spaceless (decimal n) ≡ true
number_spaceless laws n small = of_kind is_digit refl (decimal n) (laws.numeral_has_digits n small)

-- ---- words behind words

-- some words after a text's, and then others
pub also_after : {some all : List (List ℕ)} (text words others : List (List ℕ)) → some ≡ text ++ words → all ≡ some ++ others → all ≡ text ++ (words ++ others)
also_after {some} {all} text words others first second =
    second ∙ ap (λ (ws : List (List ℕ)). ws ++ others) first ∙ append_assoc text words others

-- a fact where nothing failed, and what follows from it
pub then_ok : {X E : Type 0} (r : Result X E) (P Q : Type 0) → OnOk r P → (P → Q) → OnOk r Q
then_ok (Ok x) P Q h so = so h
then_ok (Err e) P Q h so = tt
