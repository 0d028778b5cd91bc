-- The last word of a line's step, where it is looked at with all that stands behind it: a space makes it no number and
-- no bytes, and so there are more words than the step has.
use Rattle.std.proofs.Common.{ap, arith, refl, sym, subst, ◌≡◌, ◌+◌, ◌<◌, ◌&&◌, ℕ, List, [], ◌∷◌, Bool, true, false, not, cond, eqb, length, take, drop, is_some, Option, Some, None, Result, Ok, Err, ◌∙◌}
use Rattle.std.specs.Prelude.{codes, nat_lt, option_and_then, option_map, Decides}
use Rattle.std.specs.List.{AllPass, list_all, position, slice_split}
use Rattle.std.specs.Result.{result_ok}
use Rattle.std.specs.Str.{bytes_eq}
use Rattle.std.proofs.lemmas.Bool.{eqb-true, and_parts}
use Rattle.std.proofs.lemmas.Option.{cond_some}
use Rattle.std.proofs.lemmas.List.Quantifiers.{position-Some}
use Rattle.std.proofs.lemmas.List.Splits.{length-slice_split}
use Rattle.std.proofs.lemmas.List.Sums.{AllPass-from_list_all}
use Rattle.std.proofs.lemmas.Slice.Eq.{bytes_eq-Decides}
use Rattle.hex.specs.Hex.{decode_of, is_hex_digit}
use Rattle.hex.specs.declared.error.FromHexError.{FromHexError}
use Rattle.hex.proofs.HexLemmas.{decode_of-ok}
use Rattle.common_types.specs.OptionChain.{◌>>=◌}
use Rattle.common_types.specs.Numerals.{is_digit, is_numeral, value_of}
use Rattle.common_types.specs.Words.{words_of}
use Rattle.floor_core.specs.declared.step.PeerAnswer.{PeerAnswer}
use Rattle.floor_core.specs.declared.step.PeerAnswer.TheVariants.{Bytes}
use Rattle.floor_core.specs.declared.step.Step.{Step}
use Rattle.floor_core.specs.declared.step.Step.TheVariants.{Load, Decide, Answer, Tick}
use Rattle.ilp_addr.specs.Timestamp.{last_moment}
use Rattle.replay_text.specs.Script.{answer_of, decide_step, frame_word, given_of, is_empty, load_of, moment_spelled, number_below, tenant_named, tick_of, token_word}
use Rattle.replay_text.specs.Words.{two_of, three_of, four_of}
use Rattle.replay_text.proofs.Splits.{split_found, split_none}
use Rattle.replay_text.proofs.Values.{are_digits}

none_if_never : {A : Type 0} (o : Option A) → ((x : A) → o ≡ Some x → ⊥) → o ≡ None
none_if_never None never = refl
none_if_never (Some x) never = absurd (never x refl)

none_unless : (o : Option (List ℕ)) → (is_some o ≡ true → ⊥) → o ≡ None
none_unless None never = refl
none_unless (Some bytes) never = absurd (never refl)

none_either_way : (b : Bool) (o : Option (List ℕ)) → o ≡ None → cond b None o ≡ None
none_either_way true o h = refl
none_either_way false o h = h

not_both : false ≡ true → ⊥
not_both e = cc

-- what spells bytes is digits
spelled_digits : (word : List ℕ) → is_some (result_ok (decode_of word)) ≡ true → AllPass is_hex_digit word
spelled_digits word some = by (decode_of word) refl some
  where
    by : (read : Result (List ℕ) FromHexError) → decode_of word ≡ read → is_some (result_ok read) ≡ true → AllPass is_hex_digit word
    by (Ok bytes) e some = (decode_of-ok word bytes e).1
    by (Err fault) e some = absurd cc

-- ---- a word with a space

-- not all of its bytes pass a test that a space fails
spaced : (test : ℕ → Bool) (word : List ℕ) (i : ℕ) → test 32 ≡ false → position (λ b. eqb b 32) word ≡ Some i → AllPass test word → ⊥
spaced test word i failing e all =
    let found = position-Some (λ b. eqb b 32) word i 0 e in
    let space : test 32 ≡ true = subst (λ (b : ℕ). test b ≡ true) (eqb-true _ _ found.1) (all i 0 found.0) in
    not_both (sym failing ∙ space)

-- it is not a word that has none
other_word : (plain word : List ℕ) (i : ℕ) → list_all (λ b. not (eqb b 32)) plain ≡ true → position (λ b. eqb b 32) word ≡ Some i → bytes_eq word plain ≡ false
other_word plain word i none e = by (bytes_eq word plain) (bytes_eq-Decides word plain)
  where
    by : (b : Bool) → Decides b (word ≡ plain) → b ≡ false
    by true same = absurd (spaced (λ b. not (eqb b 32)) word i refl e (subst (AllPass (λ b. not (eqb b 32))) (sym (same.0 refl)) (AllPass-from_list_all (λ b. not (eqb b 32)) plain none)))
    by false other = refl

no_number : (bound : ℕ) (word : List ℕ) (i : ℕ) → position (λ b. eqb b 32) word ≡ Some i → number_below bound word ≡ None
no_number bound word i e = none_if_never (number_below bound word) (λ n is.
    let is_one = (cond_some (is_numeral word && nat_lt (value_of word) bound) (value_of word) n is).0 in
    spaced is_digit word i refl e (AllPass-from_list_all is_digit word (are_digits word (and_parts (is_numeral word) (nat_lt (value_of word) bound) is_one).0)))

no_frame : (word : List ℕ) (i : ℕ) → position (λ b. eqb b 32) word ≡ Some i → frame_word word ≡ None
no_frame word i e =
    let none : result_ok (decode_of word) ≡ None = none_unless (result_ok (decode_of word)) (λ some. spaced is_hex_digit word i refl e (spelled_digits word some)) in
    rw (other_word (codes "-") word i refl e) (none_either_way (is_empty word) (result_ok (decode_of word)) none)

no_given : (word : List ℕ) (i : ℕ) → position (λ b. eqb b 32) word ≡ Some i → given_of word ≡ None
no_given word i e =
    rw (other_word (codes "fault") word i refl e) (ap (option_map (λ bytes. Bytes bytes)) (no_frame word i e))

-- ---- steps whose last word has a space

no_load : (names : List (List ℕ)) (workers : ℕ) (a b c word : List ℕ) → frame_word word ≡ None → load_of names workers (a, b, c, word) ≡ None
no_load names workers a b c word none =
    subst (λ (o : Option (List ℕ)). (number_below workers a >>= (λ w. tenant_named names b >>= (λ t. token_word c >>= (λ k. o >>= (λ bytes. Some (Load w t k bytes)))))) ≡ None) (sym none)
    (by (number_below workers a) (tenant_named names b) (token_word c))
  where
    by : (o p : Option ℕ) (q : Option (List ℕ)) → (o >>= (λ w. p >>= (λ t. q >>= (λ k. ◌>>=◌ {A = List ℕ} None (λ bytes. Some (Load w t k bytes)))))) ≡ None
    by None p q = refl
    by (Some w) None q = refl
    by (Some w) (Some t) None = refl
    by (Some w) (Some t) (Some k) = refl

no_answer : (workers : ℕ) (a b word : List ℕ) → given_of word ≡ None → answer_of workers (a, b, word) ≡ None
no_answer workers a b word none =
    subst (λ (o : Option PeerAnswer). (number_below workers a >>= (λ w. moment_spelled b >>= (λ n. o >>= (λ g. Some (Answer w n g))))) ≡ None) (sym none)
    (by (number_below workers a) (moment_spelled b))
  where
    by : (o p : Option ℕ) → (o >>= (λ w. p >>= (λ n. ◌>>=◌ {A = PeerAnswer} None (λ g. Some (Answer w n g))))) ≡ None
    by None p = refl
    by (Some w) None = refl
    by (Some w) (Some n) = refl

no_decide : (workers : ℕ) (a word : List ℕ) → moment_spelled word ≡ None → decide_step workers (a, word) ≡ None
no_decide workers a word none =
    subst (λ (o : Option ℕ). (number_below workers a >>= (λ w. o >>= (λ n. Some (Decide w n)))) ≡ None) (sym none) (by (number_below workers a))
  where
    by : (o : Option ℕ) → (o >>= (λ w. ◌>>=◌ {A = ℕ} None (λ n. Some (Decide w n)))) ≡ None
    by None = refl
    by (Some w) = refl

no_tick : (names : List (List ℕ)) (a word : List ℕ) → moment_spelled word ≡ None → tick_of names (a, word) ≡ None
no_tick names a word none =
    subst (λ (o : Option ℕ). (tenant_named names a >>= (λ t. o >>= (λ n. Some (Tick t n)))) ≡ None) (sym none) (by (tenant_named names a))
  where
    by : (o : Option ℕ) → (o >>= (λ t. ◌>>=◌ {A = ℕ} None (λ n. Some (Tick t n)))) ≡ None
    by None = refl
    by (Some t) = refl

-- ---- more words than a step has

two_of-more : (a b : List ℕ) (others : List (List ℕ)) → 0 < length others → two_of (a ∷ b ∷ others) ≡ None
two_of-more a b [] h = absurd (omega arith)
two_of-more a b (c ∷ others) h = refl

three_of-more : (a b c : List ℕ) (others : List (List ℕ)) → 0 < length others → three_of (a ∷ b ∷ c ∷ others) ≡ None
three_of-more a b c [] h = absurd (omega arith)
three_of-more a b c (d ∷ others) h = refl

four_of-more : (a b c d : List ℕ) (others : List (List ℕ)) → 0 < length others → four_of (a ∷ b ∷ c ∷ d ∷ others) ≡ None
four_of-more a b c d [] h = absurd (omega arith)
four_of-more a b c d (e ∷ others) h = refl

-- ---- the last word with all that stands behind it

some_words : (text : List ℕ) → 0 < length (slice_split (λ b. eqb b 32) text)
some_words text = omega (arith, length-slice_split (λ b. eqb b 32) text)

-- what the last words say, where more than one say nothing, is what they say as one word, where a word with a space says nothing
behind : (many : List (List ℕ) → Option Step) (one : List ℕ → Option Step) (rest : List ℕ) → many (rest ∷ []) ≡ one rest
    → ((first : List ℕ) (others : List (List ℕ)) → 0 < length others → many (first ∷ others) ≡ None)
    → ((i : ℕ) → position (λ b. eqb b 32) rest ≡ Some i → one rest ≡ None) → many (words_of rest) ≡ one rest
behind many one rest alone more none = by (position (λ b. eqb b 32) rest) refl
  where
    by : (o : Option ℕ) → position (λ b. eqb b 32) rest ≡ o → many (words_of rest) ≡ one rest
    by None e = ap many (split_none (λ b. eqb b 32) rest e) ∙ alone
    by (Some i) e =
        ap many (split_found (λ b. eqb b 32) rest i e)
        ∙ more (take i rest) (words_of (drop (i + 1) rest)) (some_words (drop (i + 1) rest))
        ∙ sym (none i e)

pub load_said : (names : List (List ℕ)) (workers : ℕ) (ws : List (List ℕ)) (a b c rest : List ℕ) → ws ≡ a ∷ b ∷ c ∷ words_of rest
    → option_and_then (load_of names workers) (four_of ws) ≡ load_of names workers (a, b, c, rest)
load_said names workers ws a b c rest e =
    ap (λ (ws : List (List ℕ)). option_and_then (load_of names workers) (four_of ws)) e
    ∙ behind (λ ws. option_and_then (load_of names workers) (four_of (a ∷ b ∷ c ∷ ws))) (λ word. load_of names workers (a, b, c, word)) rest refl
    (λ d others some. ap (option_and_then (load_of names workers)) (four_of-more a b c d others some))
    (λ i space. no_load names workers a b c rest (no_frame rest i space))

pub answer_said : (workers : ℕ) (ws : List (List ℕ)) (a b rest : List ℕ) → ws ≡ a ∷ b ∷ words_of rest
    → option_and_then (answer_of workers) (three_of ws) ≡ answer_of workers (a, b, rest)
answer_said workers ws a b rest e =
    ap (λ (ws : List (List ℕ)). option_and_then (answer_of workers) (three_of ws)) e
    ∙ behind (λ ws. option_and_then (answer_of workers) (three_of (a ∷ b ∷ ws))) (λ word. answer_of workers (a, b, word)) rest refl
    (λ c others some. ap (option_and_then (answer_of workers)) (three_of-more a b c others some))
    (λ i space. no_answer workers a b rest (no_given rest i space))

pub decide_said : (workers : ℕ) (ws : List (List ℕ)) (a rest : List ℕ) → ws ≡ a ∷ words_of rest
    → option_and_then (decide_step workers) (two_of ws) ≡ decide_step workers (a, rest)
decide_said workers ws a rest e =
    ap (λ (ws : List (List ℕ)). option_and_then (decide_step workers) (two_of ws)) e
    ∙ behind (λ ws. option_and_then (decide_step workers) (two_of (a ∷ ws))) (λ word. decide_step workers (a, word)) rest refl
    (λ b others some. ap (option_and_then (decide_step workers)) (two_of-more a b others some))
    (λ i space. no_decide workers a rest (no_number (last_moment + 1) rest i space))

pub tick_said : (names : List (List ℕ)) (ws : List (List ℕ)) (a rest : List ℕ) → ws ≡ a ∷ words_of rest
    → option_and_then (tick_of names) (two_of ws) ≡ tick_of names (a, rest)
tick_said names ws a rest e =
    ap (λ (ws : List (List ℕ)). option_and_then (tick_of names) (two_of ws)) e
    ∙ behind (λ ws. option_and_then (tick_of names) (two_of (a ∷ ws))) (λ word. tick_of names (a, word)) rest refl
    (λ b others some. ap (option_and_then (tick_of names)) (two_of-more a b others some))
    (λ i space. no_tick names a rest (no_number (last_moment + 1) rest i space))
