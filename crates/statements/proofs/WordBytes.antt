-- No word of a statement has a space or a line feed.
use Rattle.std.proofs.Common.{◌≡◌, ℕ, suc, ◌<◌, ◌^◌, ◌/◌, ◌%◌, Bool, true, not, ◌||◌, eqb, leb, ltb, List, [], ◌∷◌, length, slice_index, refl, subst, sym, ◌∙◌, inl, inr, arith}
use Rattle.std.specs.Fmt.{decimal}
use Rattle.std.specs.List.{join_with_byte, list_all}
use Rattle.std.specs.Str.{bytes_eq}
use Rattle.std.proofs.lemmas.Bool.{and_parts, eqb-true, leb-true, lt-ltb, or_cases}
use Rattle.std.proofs.lemmas.List.Folds.{Any-from_list_any, list_all-append}
use Rattle.std.proofs.lemmas.List.Splits.{join_with_byte-slice_split}
use Rattle.std.proofs.lemmas.List.Sums.{AllPass-from_list_all}
use Rattle.std.proofs.lemmas.Slice.Eq.{bytes_eq-Decides}
use Rattle.common_types.specs.Names.{is_asset_byte, is_asset_code, is_name, is_name_byte}
use Rattle.common_types.specs.Numbers.{is_between}
use Rattle.common_types.specs.Numerals.{NumeralLaws, is_digit}
use Rattle.hex.specs.Hex.{encode_lower, encode_with, lower_digits}
use Rattle.ilp_addr.specs.Address.{AreAddressParts, ArePrefixParts, IsAddress, IsPrefix, is_scheme, is_segment, is_segment_byte, schemes, segments}
use Rattle.oer_core.specs.Length.{AreBytes}
use Rattle.statements.specs.ReadBack.{is_word}
use Rattle.statements.specs.Statement.{prefix_word}
use Rattle.statements.proofs.WordLaws.{list_all_by}

-- a byte above 32
abbrev shows : ℕ → Bool
shows b = ltb 32 b

shows_between : (low high b : ℕ) → 32 < low → is_between low high b ≡ true → shows b ≡ true
shows_between low high b far h =
    let k = and_parts (leb low b) (leb b high) h in lt-ltb 32 b (omega (arith, leb-true low b k.0))

shows_at : (at b : ℕ) → 32 < at → eqb b at ≡ true → shows b ≡ true
shows_at at b far h = lt-ltb 32 b (omega (arith, eqb-true b at h))

-- ---- numbers and names

pub numeral_is_word : NumeralLaws → (n : ℕ) → n < 2 ^ 64 → is_word (decimal n) ≡ true
numeral_is_word laws n small =
    list_all_by is_digit shows (λ b h. shows_between 48 57 b (omega arith) h) (decimal n) (laws.numeral_has_digits n small)

name_byte : (b : ℕ) → is_name_byte b ≡ true → shows b ≡ true
name_byte b h =
    elim (or_cases (is_between 97 122 b || is_between 48 57 b) (eqb b 45) h) [
      | inr dash ↦ shows_at 45 b (omega arith) dash
      | inl either ↦ elim (or_cases (is_between 97 122 b) (is_between 48 57 b) either) [
        | inl letter ↦ shows_between 97 122 b (omega arith) letter
        | inr digit ↦ shows_between 48 57 b (omega arith) digit
      ]
    ]

pub name_is_word : (name : List ℕ) → is_name name ≡ true → is_word name ≡ true
name_is_word name h =
    list_all_by is_name_byte shows name_byte name (and_parts (is_between 1 32 (length name)) (list_all is_name_byte name) h).1

asset_byte : (b : ℕ) → is_asset_byte b ≡ true → shows b ≡ true
asset_byte b h =
    elim (or_cases (is_between 65 90 b || is_between 97 122 b) (is_between 48 57 b) h) [
      | inr digit ↦ shows_between 48 57 b (omega arith) digit
      | inl either ↦ elim (or_cases (is_between 65 90 b) (is_between 97 122 b) either) [
        | inl capital ↦ shows_between 65 90 b (omega arith) capital
        | inr small ↦ shows_between 97 122 b (omega arith) small
      ]
    ]

pub asset_is_word : (asset : List ℕ) → is_asset_code asset ≡ true → is_word asset ≡ true
asset_is_word asset h =
    list_all_by is_asset_byte shows asset_byte asset (and_parts (is_between 1 16 (length asset)) (list_all is_asset_byte asset) h).1

-- ---- hexadecimal digits

digit_shows : (d : ℕ) → d < 16 → shows (slice_index lower_digits d) ≡ true
digit_shows d low = AllPass-from_list_all shows lower_digits refl d 0 low

behind_first : (b : ℕ) (bytes : List ℕ) → AreBytes (b ∷ bytes) → AreBytes bytes
behind_first b bytes h i = h (suc i)

pub hex_is_word : (bytes : List ℕ) → AreBytes bytes → is_word (encode_lower bytes) ≡ true
unfolding encode_with
hex_is_word [] h = refl
hex_is_word (b ∷ bytes) h =
    let small : b < 256 = h 0 in
    rw (digit_shows (b / 16) (omega (arith, small)), digit_shows (b % 16) (omega arith), hex_is_word bytes (behind_first b bytes h)) refl

-- ---- addresses

segment_byte : (b : ℕ) → is_segment_byte b ≡ true → shows b ≡ true
unfolding is_segment_byte
segment_byte b h =
    elim (or_cases (is_between 97 122 b || is_between 65 90 b || is_between 48 57 b || eqb b 95 || eqb b 126) (eqb b 45) h) [
      | inr dash ↦ shows_at 45 b (omega arith) dash
      | inl g ↦ elim (or_cases (is_between 97 122 b || is_between 65 90 b || is_between 48 57 b || eqb b 95) (eqb b 126) g) [
        | inr tilde ↦ shows_at 126 b (omega arith) tilde
        | inl k ↦ elim (or_cases (is_between 97 122 b || is_between 65 90 b || is_between 48 57 b) (eqb b 95) k) [
          | inr line ↦ shows_at 95 b (omega arith) line
          | inl m ↦ elim (or_cases (is_between 97 122 b || is_between 65 90 b) (is_between 48 57 b) m) [
            | inr digit ↦ shows_between 48 57 b (omega arith) digit
            | inl n ↦ elim (or_cases (is_between 97 122 b) (is_between 65 90 b) n) [
              | inl small ↦ shows_between 97 122 b (omega arith) small
              | inr capital ↦ shows_between 65 90 b (omega arith) capital
            ]
          ]
        ]
      ]
    ]

segment_is_word : (text : List ℕ) → is_segment text ≡ true → is_word text ≡ true
unfolding is_segment
segment_is_word text h =
    list_all_by is_segment_byte shows segment_byte text (and_parts (not (eqb (length text) 0)) (list_all is_segment_byte text) h).1

scheme_is_word : (text : List ℕ) → is_scheme text ≡ true → is_word text ≡ true
unfolding is_scheme
scheme_is_word text h =
    let one = Any-from_list_any (λ s. bytes_eq text s) schemes h in
    let same : text ≡ one.1 = (bytes_eq-Decides text one.1).0 one.4 in
    let word = AllPass-from_list_all is_word schemes refl one.0 one.1 one.2 in
    subst (λ (t : List ℕ). is_word t ≡ true) (one.3 ∙ sym same) word

joined_is_word : (parts : List (List ℕ)) → list_all is_word parts ≡ true → is_word (join_with_byte 46 parts) ≡ true
joined_is_word [] h = refl
joined_is_word (part ∷ []) h = (and_parts (is_word part) true h).0
joined_is_word (part ∷ next ∷ parts) h =
    let k = and_parts (is_word part) (list_all is_word (next ∷ parts)) h in
    list_all-append shows part (46 ∷ join_with_byte 46 (next ∷ parts)) ∙ rw (k.0, joined_is_word (next ∷ parts) k.1) refl

of_segments : (bytes : List ℕ) → list_all is_word (segments bytes) ≡ true → is_word bytes ≡ true
of_segments bytes h =
    subst (λ (t : List ℕ). is_word t ≡ true) (join_with_byte-slice_split 46 bytes) (joined_is_word (segments bytes) h)

prefix_parts : (parts : List (List ℕ)) → ArePrefixParts parts → list_all is_word parts ≡ true
prefix_parts [] h = refl
prefix_parts (scheme ∷ others) h =
    rw (scheme_is_word scheme h.0, list_all_by is_segment is_word segment_is_word others h.1) refl

pub prefix_is_word : (prefix : List ℕ) → IsPrefix prefix → is_word (prefix_word prefix) ≡ true
prefix_is_word [] h = refl
prefix_is_word (b ∷ bytes) h = of_segments (b ∷ bytes) (prefix_parts (segments (b ∷ bytes)) h.parts)

address_parts : (parts : List (List ℕ)) → AreAddressParts parts → list_all is_word parts ≡ true
address_parts [] h = absurd h
address_parts (scheme ∷ []) h = absurd h
address_parts (scheme ∷ first ∷ others) h =
    rw (scheme_is_word scheme h.0, segment_is_word first h.1, list_all_by is_segment is_word segment_is_word others h.2) refl

pub address_is_word : (bytes : List ℕ) → IsAddress bytes → is_word bytes ≡ true
address_is_word bytes h = of_segments bytes (address_parts (segments bytes) h.parts)
