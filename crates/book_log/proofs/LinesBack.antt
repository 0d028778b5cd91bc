-- The line of a record says its place and its entry.
use Rattle.std.proofs.Common.{◌≡◌, ℕ, ◌<◌, ◌≤◌, Bool, true, false, ◌||◌, eqb, leb, ltb, List, [], ◌∷◌, ◌++◌, length, append_assoc, refl, sym, ap, subst, ◌∙◌, inl, inr, arith}
use Rattle.std.specs.Fmt.{decimal}
use Rattle.std.specs.List.{list_all, list_any}
use Rattle.std.specs.Prelude.{◌==◌, Some, codes}
use Rattle.std.specs.Str.{bytes_eq}
use Rattle.std.proofs.lemmas.Bool.{and_parts, cases_Bool, eqb-true, le-leb, leb-true, lt-ltb, or_cases}
use Rattle.std.proofs.lemmas.List.{append_cancel_right}
use Rattle.std.proofs.lemmas.List.Elements.{All-append, All-cons, All-nil}
use Rattle.std.proofs.lemmas.List.Folds.{Any-from_list_any}
use Rattle.std.proofs.lemmas.List.Sums.{AllPass-from_list_all}
use Rattle.std.proofs.lemmas.Slice.Eq.{bytes_eq-Decides}
use Rattle.common_types.specs.Numbers.{is_between}
use Rattle.common_types.specs.Numerals.{NumeralLaws, is_digit, number_in}
use Rattle.common_types.specs.Token.{is_token, is_token_byte}
use Rattle.common_types.specs.Words.{words_of}
use Rattle.ilp_addr.specs.Laws.{TargetLaws}
use Rattle.ilp_addr.specs.Target.{are_visible}
use Rattle.statements.specs.ReadBack.{IsWritable, ReadBackLaws, hidden_change, hidden_entry, is_word}
use Rattle.statements.specs.Reading.{entry_read, max_number, number_read, read_part, text_lines}
use Rattle.statements.specs.Statement.{record_line, spaced}
use Rattle.tenant_core.specs.declared.journal.Change.{Change as Changed}
use Rattle.tenant_core.specs.declared.journal.Change.TheVariants.{PeerAdded, PeerRemoved, LimitsSet, BucketSet}
use Rattle.tenant_core.specs.declared.journal.Change.TheVariants.{RouteAdded, RouteRemoved, RateSet, Settled}
use Rattle.tenant_core.specs.declared.journal.Entry.{Entry}
use Rattle.tenant_core.specs.declared.journal.Entry.TheVariants.{Decide, Answer, Tick, Change, Roll}
use Rattle.tenant_core.specs.declared.journal.Record.{Record}
use Rattle.tenant_core.specs.declared.terms.PeerTerms.{PeerTerms}
use Rattle.book_log.specs.Lines.{change_secrets, entry_secrets, log_line, secrets_of}
use Rattle.book_log.specs.Reading.{added_read, entry_said, line_said, place_read, secrets_read}
use Rattle.book_log.specs.Written.{AreChangeSecrets, AreEntrySecrets, AreSecrets, IsLoggable, IsPlace}
use Rattle.book_log.specs.declared.line.LinePlace.{LinePlace}
use Rattle.book_log.proofs.Splits.{IsFree, first_of, in_front, line_read_is, spaced_is_free, word_is_free, words_more}

-- what the proofs cite of the crates below
pub record Laws : Type 0 where
  pub numerals : NumeralLaws
  pub targets : TargetLaws
  pub statements : ReadBackLaws

-- ---- which bytes the words have

abbrev shows : ℕ → Bool
shows b = ltb 32 b

shows_between : (low high b : ℕ) → 32 < low → is_between low high b ≡ true → shows b ≡ true
shows_between low high b far h =
    let k = and_parts (leb low b) (leb b high) h in lt-ltb 32 b (omega (arith, leb-true low b k.0))

list_all_by : (p q : ℕ → Bool) → ((b : ℕ) → p b ≡ true → q b ≡ true) → (xs : List ℕ) → list_all p xs ≡ true → list_all q xs ≡ true
list_all_by p q by [] h = refl
list_all_by p q by (x ∷ xs) h =
    let k = and_parts (p x) (list_all p xs) h in
    rw (by x k.0, list_all_by p q by xs k.1) refl

pub numeral_is_word : NumeralLaws → (n : ℕ) → n ≤ max_number → is_word (decimal n) ≡ true
numeral_is_word laws n small =
    list_all_by is_digit shows (λ b h. shows_between 48 57 b (omega arith) h) (decimal n) (laws.numeral_has_digits n (omega (arith, small)))

mark_shows : (b : ℕ) → list_any (λ c. c == b) (codes "-._~+/=") ≡ true → shows b ≡ true
mark_shows b h =
    let one = Any-from_list_any (λ c. c == b) (codes "-._~+/=") h in
    subst (λ (x : ℕ). shows x ≡ true) (one.3 ∙ eqb-true one.1 b one.4) (AllPass-from_list_all shows (codes "-._~+/=") refl one.0 one.1 one.2)

token_byte_shows : (b : ℕ) → is_token_byte b ≡ true → shows b ≡ true
token_byte_shows b h =
    elim (or_cases (is_between 65 90 b || is_between 97 122 b || is_between 48 57 b) (list_any (λ c. c == b) (codes "-._~+/=")) h) [
      | inr mark ↦ mark_shows b mark
      | inl g ↦ elim (or_cases (is_between 65 90 b || is_between 97 122 b) (is_between 48 57 b) g) [
        | inr digit ↦ shows_between 48 57 b (omega arith) digit
        | inl k ↦ elim (or_cases (is_between 65 90 b) (is_between 97 122 b) k) [
          | inl capital ↦ shows_between 65 90 b (omega arith) capital
          | inr small ↦ shows_between 97 122 b (omega arith) small
        ]
      ]
    ]

pub token_is_word : (token : List ℕ) → is_token token ≡ true → is_word token ≡ true
token_is_word token h =
    list_all_by is_token_byte shows token_byte_shows token (and_parts (is_between 1 64 (length token)) (list_all is_token_byte token) h).1

url_is_word : (url : List ℕ) → are_visible url ≡ true → is_word url ≡ true
url_is_word url h = list_all_by (is_between 33 126) shows (λ b h. shows_between 33 126 b (omega arith) h) url h

pub secrets_are_words : (t : PeerTerms) → AreSecrets t → list_all is_word (secrets_of t) ≡ true
secrets_are_words t h =
    rw (
      token_is_word t.token h.token,
      url_is_word t.target.url h.target.names.visible,
      token_is_word t.target.token h.target.is_token,
    ) refl

change_secrets_are_words : (c : Changed) → AreChangeSecrets c → list_all is_word (change_secrets c) ≡ true
change_secrets_are_words (PeerAdded t) h = rw (secrets_are_words t h) refl
change_secrets_are_words (PeerRemoved n) h = refl
change_secrets_are_words (LimitsSet n limits) h = refl
change_secrets_are_words (BucketSet n bucket) h = refl
change_secrets_are_words (RouteAdded prefix hop) h = refl
change_secrets_are_words (RouteRemoved prefix) h = refl
change_secrets_are_words (RateSet r) h = refl
change_secrets_are_words (Settled n side amount) h = refl

entry_secrets_are_words : (e : Entry) → AreEntrySecrets e → list_all is_word (entry_secrets e) ≡ true
entry_secrets_are_words (Decide d) h = refl
entry_secrets_are_words (Answer a) h = refl
entry_secrets_are_words (Tick t) h = refl
entry_secrets_are_words (Change c) h = change_secrets_are_words c.change h
entry_secrets_are_words (Roll r) h = refl

-- ---- what is after the place

no_moment : (words : List (List ℕ)) (e : Entry) → entry_read 0 (codes "with" ∷ words) ≡ Some e → ⊥
unfolding entry_read number_read number_in
no_moment words e is = absurd (cc is)

none_read : (e : Entry) → entry_read 0 [] ≡ Some e → ⊥
unfolding entry_read number_read
none_read e is = absurd (cc is)

plain_said : (words : List (List ℕ)) (e : Entry) → entry_read 0 words ≡ Some e → entry_said words ≡ Some e
unfolding entry_said
plain_said [] e is = absurd (none_read e is)
plain_said (w ∷ words) e is =
    elim (cases_Bool (bytes_eq w (codes "with"))) [
      | inl with_it ↦ absurd (no_moment words e (subst (λ (v : List ℕ). entry_read 0 (v ∷ words) ≡ Some e) ((bytes_eq-Decides w (codes "with")).0 with_it) is))
      | inr other ↦ rw other is
    ]

added_said : TargetLaws → (t : PeerTerms) (now : ℕ) (words : List (List ℕ)) → AreSecrets t
    → entry_read 0 words ≡ Some (Change (record { change = hidden_change 0 (PeerAdded t); now = now }))
    → entry_said (codes "with" ∷ secrets_of t ++ words) ≡ Some (Change (record { change = PeerAdded t; now = now }))
unfolding entry_said added_read secrets_read
added_said laws t now words h is =
    rw (h.token, laws.target_is_read t.target.url t.target.token t.target h.target, is) refl

change_said : TargetLaws → (c : Changed) (now : ℕ) (words : List (List ℕ)) → AreChangeSecrets c
    → entry_read 0 words ≡ Some (Change (record { change = hidden_change 0 c; now = now }))
    → entry_said (change_secrets c ++ words) ≡ Some (Change (record { change = c; now = now }))
change_said laws (PeerAdded t) now words h is = added_said laws t now words h is
change_said laws (PeerRemoved n) now words h is = plain_said words _ is
change_said laws (LimitsSet n limits) now words h is = plain_said words _ is
change_said laws (BucketSet n bucket) now words h is = plain_said words _ is
change_said laws (RouteAdded prefix hop) now words h is = plain_said words _ is
change_said laws (RouteRemoved prefix) now words h is = plain_said words _ is
change_said laws (RateSet r) now words h is = plain_said words _ is
change_said laws (Settled n side amount) now words h is = plain_said words _ is

said_back : TargetLaws → (e : Entry) (words : List (List ℕ)) → AreEntrySecrets e → entry_read 0 words ≡ Some (hidden_entry 0 e)
    → entry_said (entry_secrets e ++ words) ≡ Some e
said_back laws (Decide d) words h is = plain_said words _ is
said_back laws (Answer a) words h is = plain_said words _ is
said_back laws (Tick t) words h is = plain_said words _ is
said_back laws (Change c) words h is = change_said laws c.change c.now words h is
said_back laws (Roll r) words h is = plain_said words _ is

-- ---- the place

number_said : ReadBackLaws → (high n : ℕ) (rest : List (List ℕ)) → high ≤ max_number → n ≤ high
    → number_read 0 high (decimal n ∷ rest) ≡ Some (read_part n rest)
number_said laws high n rest small within =
    laws.number 0 high n rest (omega (arith, small)) (rw (le-leb 0 n (omega arith), le-leb n high within) refl)

place_said : ReadBackLaws → (p : LinePlace) (rest : List (List ℕ)) → IsPlace p
    → place_read (decimal p.tenant ∷ decimal p.period ∷ decimal p.number ∷ rest) ≡ Some (read_part p rest)
unfolding place_read
place_said laws p rest h =
    rw (
      number_said laws 65_535 p.tenant (decimal p.period ∷ decimal p.number ∷ rest) (omega arith) h.tenant,
      number_said laws max_number p.period (decimal p.number ∷ rest) (omega arith) h.period,
      number_said laws max_number p.number rest (omega arith) h.number,
    ) refl

-- ---- the line

-- the words before the record, but for the first
abbrev head_words : LinePlace → Record → List (List ℕ)
head_words p r = decimal p.period ∷ decimal p.number ∷ entry_secrets r.entry

head_are_words : Laws → (p : LinePlace) (r : Record) → IsPlace p → IsLoggable r → list_all is_word (head_words p r) ≡ true
head_are_words laws p r at is =
    rw (
      numeral_is_word laws.numerals p.period at.period,
      numeral_is_word laws.numerals p.number at.number,
      entry_secrets_are_words r.entry is.secrets,
    ) refl

log_line_is : (p : LinePlace) (r : Record) → log_line p r ≡ decimal p.tenant ++ spaced (head_words p r) ++ 32 ∷ record_line r
unfolding log_line
log_line_is p r = simp append_assoc

-- the record of a line: it is one line, in front of any text, and its words are read as its entry
record IsBody (r : Record) (body : List ℕ) : Type 0 where
  pub is_line : record_line r ≡ body ++ 10 ∷ []
  pub one : (text : List ℕ) → text_lines (record_line r ++ text) ≡ body ∷ text_lines text
  pub said : entry_read 0 (words_of body) ≡ Some (hidden_entry 0 r.entry)

body_of : Laws → (r : Record) → IsWritable r → (body : List ℕ) × IsBody r body
body_of laws r is =
    let nothing = laws.statements.record_line 0 r is [] in
    let body : List ℕ = nothing.0 in
    let whole : record_line r ≡ body ++ 10 ∷ [] =
    append_cancel_right (record_line r) (body ++ 10 ∷ []) []
    (first_of (record_line r ++ []) body [] (line_read_is (text_lines (record_line r ++ [])) (text_lines []) body nothing.1)
    ∙ sym (append_assoc body (10 ∷ []) [])) in (
      body,
      record {
        is_line = whole;
        one = λ text.
            let some = laws.statements.record_line 0 r is text in
            let parts : text_lines (record_line r ++ text) ≡ some.0 ∷ text_lines text = line_read_is (text_lines (record_line r ++ text)) (text_lines text) some.0 some.1 in
            let other : record_line r ≡ some.0 ++ 10 ∷ [] =
            append_cancel_right (record_line r) (some.0 ++ 10 ∷ []) text (first_of (record_line r ++ text) some.0 text parts ∙ sym (append_assoc some.0 (10 ∷ []) text)) in
            let same : some.0 ≡ body = append_cancel_right some.0 body (10 ∷ []) (sym other ∙ whole) in
            parts ∙ ap (λ (l : List ℕ). l ∷ text_lines text) same;
        said = nothing.2;
      },
    )

-- a line without its line feed: what is before the record, and the record
line_is : (p : LinePlace) (r : Record) (body line : List ℕ) → IsBody r body → line ++ 10 ∷ [] ≡ log_line p r
    → line ≡ decimal p.tenant ++ spaced (head_words p r) ++ 32 ∷ body
line_is p r body line b is =
    append_cancel_right line (decimal p.tenant ++ spaced (head_words p r) ++ 32 ∷ body) (10 ∷ [])
    (is ∙ log_line_is p r ∙ ap (λ (t : List ℕ). decimal p.tenant ++ spaced (head_words p r) ++ 32 ∷ t) b.is_line
    ∙ sym (append_assoc (decimal p.tenant ++ spaced (head_words p r)) (32 ∷ body) (10 ∷ [])))

pub line_back : Laws → (p : LinePlace) (r : Record) (line : List ℕ) → IsPlace p → IsLoggable r → line ++ 10 ∷ [] ≡ log_line p r
    → line_said line ≡ Some (p, r.entry)
unfolding line_said
line_back laws p r line at is written =
    let body = body_of laws r is.stated in
    let words : words_of line ≡ decimal p.tenant ∷ head_words p r ++ words_of body.0 =
    ap words_of (line_is p r body.0 line body.1 written)
    ∙ words_more (head_words p r) (decimal p.tenant) body.0 (numeral_is_word laws.numerals p.tenant (omega (arith, at.tenant))) (head_are_words laws p r at is) in
    rw (
      words,
      place_said laws.statements p (entry_secrets r.entry ++ words_of body.0) at,
      said_back laws.targets r.entry (words_of body.0) is.secrets body.1.said,
    ) refl

-- the line is one line
pub one_line : Laws → (p : LinePlace) (r : Record) (line : List ℕ) → IsPlace p → IsLoggable r → line ++ 10 ∷ [] ≡ log_line p r
    → (text : List ℕ) → text_lines (line ++ 10 ∷ text) ≡ line ∷ text_lines text
one_line laws p r line at is written text =
    let body = body_of laws r is.stated in
    let head = decimal p.tenant ++ spaced (head_words p r) ++ 32 ∷ [] in
    let free : IsFree 10 head =
    All-append (λ b. eqb b 10 ≡ false) (decimal p.tenant ++ spaced (head_words p r)) (32 ∷ [])
    (All-append (λ b. eqb b 10 ≡ false) (decimal p.tenant) (spaced (head_words p r))
    (word_is_free 10 (omega arith) (decimal p.tenant) (numeral_is_word laws.numerals p.tenant (omega (arith, at.tenant))))
    (spaced_is_free (head_words p r) (head_are_words laws p r at is)))
    (All-cons (λ b. eqb b 10 ≡ false) 32 [] refl (All-nil (λ b. eqb b 10 ≡ false))) in
    let whole : line ++ 10 ∷ text ≡ head ++ (record_line r ++ text) =
    sym (append_assoc line (10 ∷ []) text)
    ∙ ap (λ (t : List ℕ). t ++ text) (written ∙ log_line_is p r)
    ∙ append_assoc (decimal p.tenant ++ spaced (head_words p r)) (32 ∷ record_line r) text
    ∙ sym (append_assoc (decimal p.tenant ++ spaced (head_words p r)) (32 ∷ []) (record_line r ++ text)) in
    ap text_lines whole
    ∙ in_front head (record_line r ++ text) body.0 (text_lines text) free (body.1.one text)
    ∙ ap (λ (l : List ℕ). l ∷ text_lines text)
    (append_assoc (decimal p.tenant ++ spaced (head_words p r)) (32 ∷ []) body.0 ∙ sym (line_is p r body.0 line body.1 written))
