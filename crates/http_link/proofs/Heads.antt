-- Heads of which a front is known, by whichever grammar.
use Rattle.std.proofs.Common.{zero, suc, ◌≡◌, ◌==◌, ◌⊎◌, inl, inr, Bool, true, false, ◌&&◌, ◌||◌, eqb, ltb, ltb-true, ltb-false, ℕ, ◌<◌, ◌≤◌, List, [], ◌∷◌, ◌++◌, length, take, drop, ◌+◌, ◌-◌}
use Rattle.std.proofs.Common.{refl, sym, ap, subst, ◌∙◌, arith, append_assoc, append-nil, length-append, length-take, take-add, take-append-drop, take-take, take_all, Option, Some, None}
use Rattle.std.proofs.lemmas.Bool.Decides.{Decides-eqb}
use Rattle.std.proofs.lemmas.Grind.{common_steps}
use Rattle.std.proofs.lemmas.List.Folds.{list_all-append}
use Rattle.std.proofs.lemmas.Slice.Eq.{ends_is}
use Rattle.std.specs.Prelude.{slice_index}
use Rattle.std.specs.List.{ends_with, list_all}
use Rattle.std.specs.Io.KnownBytes.{Consumes}
use Rattle.httparse.specs.declared.spans.HeaderSpan.{HeaderSpan}
use Rattle.http_link.specs.Limits.{max_head}
use Rattle.http_link.specs.Grammars.{Grammar, IsGrammar, ends_empty_line, is_line_end}
use Rattle.http_link.specs.Reading.{BeginsNever, BeginsNone, BeginsNot, IsHeadBegun, Sees, StandsIn}
use Rattle.http_link.specs.declared.grammar.Offered.{Offered}
use Rattle.http_link.specs.declared.grammar.Offered.TheVariants.{Partial, Whole}

-- of two fronts of one list the longer one goes on
goes_on : (a m p r : List ℕ) → a ++ m ≡ p ++ r → length a ≤ length p → (q : List ℕ) × (p ≡ a ++ q) × (m ≡ q ++ r)
goes_on [] m p r e le = (p, refl, e)
goes_on (x ∷ a) m [] r e le = absurd (omega arith)
goes_on (x ∷ a) m (y ∷ p) r e le =
    let tail : a ++ m ≡ p ++ r = cc in
    let head : y ≡ x = cc in
    let more = goes_on a m p r tail (omega arith) in
    (more.0, cc (more.1, head), more.2)

-- one number is below another, or not
pub lt_or_ge : (a b : ℕ) → (a < b) ⊎ (b ≤ a)
lt_or_ge a b = by_test (ltb a b) refl
  where
    by_test : (t : Bool) → ltb a b ≡ t → (a < b) ⊎ (b ≤ a)
    by_test true e = inl (ltb-true a b e)
    by_test false e = inr (ltb-false a b e)

pub nothing_left : (xs : List ℕ) → length xs ≡ 0 → xs ≡ []
nothing_left [] e = refl
nothing_left (x ∷ xs) e = absurd (omega arith)

-- a list is what stands before its last, and that
pub last_behind : (text : List ℕ) → 0 < length text → text ≡ take (length text - 1) text ++ slice_index text (length text - 1) ∷ []
last_behind text some = grind (arith, common_steps)

-- a test is not both
pub not_both : (b : Bool) → b ≡ true → b ≡ false → ⊥
not_both true t f = absurd cc
not_both false t f = absurd cc

-- an empty line is a line
pub empty_line_is_line : (text : List ℕ) → ends_with eqb text (10 ∷ []) ≡ false → ends_empty_line text ≡ false
empty_line_is_line text none = neither (ends_with eqb text (10 ∷ 10 ∷ [])) (ends_with eqb text (10 ∷ 13 ∷ 10 ∷ [])) (behind (10 ∷ []) _ refl) (behind (10 ∷ 13 ∷ []) _ refl)
  where
    -- what ends with a line feed and something before it ends with a line feed
    behind : (before : List ℕ) (b : Bool) → b ≡ ends_with eqb text (before ++ 10 ∷ []) → b ≡ false
    behind before false e = refl
    behind before true e =
        let back : List ℕ = before ++ 10 ∷ [] in
        let parts = (ends_is Decides-eqb text back true e).0 refl in
        let front : List ℕ = take (length text - length back) text in
        let ends = (ends_is Decides-eqb text (10 ∷ []) (ends_with eqb text (10 ∷ [])) refl).1 (front ++ before) (parts ∙ sym (append_assoc front before (10 ∷ []))) in
        absurd (not_both (ends_with eqb text (10 ∷ [])) ends none)

    neither : (a b : Bool) → a ≡ false → b ≡ false → a || b ≡ false
    neither a b x y = ap (λ t. t || b) x ∙ y

-- lists that are the same have the same last
last_same : (xs ys : List ℕ) (a b : ℕ) → xs ++ a ∷ [] ≡ ys ++ b ∷ [] → a ≡ b
last_same [] [] a b e = cc
last_same [] (y ∷ ys) a b e = let long = ap length e in absurd (omega (arith, length-append ys (b ∷ [])))
last_same (x ∷ xs) [] a b e = let long = ap length e in absurd (omega (arith, length-append xs (a ∷ [])))
last_same (x ∷ xs) (y ∷ ys) a b e =
    let tail : xs ++ a ∷ [] ≡ ys ++ b ∷ [] = cc in
    last_same xs ys a b tail

-- among bytes of empty lines there is no space
no_space : (xs ys : List ℕ) (place : ℕ) → place < length xs → list_all is_line_end (xs ++ ys) ≡ true → slice_index xs place ≡ 32 → ⊥
no_space [] ys place within all is = absurd (omega arith)
no_space (x ∷ xs) ys zero within all is = not_line_end x is (and_left (is_line_end x) (list_all is_line_end (xs ++ ys)) all)
  where
    and_left : (a b : Bool) → a && b ≡ true → a ≡ true
    and_left true b e = refl
    and_left false b e = e

    not_line_end : (x : ℕ) → x ≡ 32 → is_line_end x ≡ true → ⊥
    not_line_end x same e = not_both (is_line_end 32) (ap is_line_end (sym same) ∙ e) refl
no_space (x ∷ xs) ys (suc place) within all is = no_space xs ys place (omega arith) (and_right (is_line_end x) (list_all is_line_end (xs ++ ys)) all) is
  where
    and_right : (a b : Bool) → a && b ≡ true → b ≡ true
    and_right true b e = e
    and_right false b e = absurd (not_both false e refl)

-- empty lines and one more
pub lines_join : (text : List ℕ) (seen n : ℕ) → list_all is_line_end (take seen text) ≡ true → list_all is_line_end (take n (drop seen text)) ≡ true → list_all is_line_end (take (seen + n) text) ≡ true
lines_join text seen n front line =
    ap (list_all is_line_end) (take-add seen n text) ∙ list_all-append is_line_end (take seen text) (take n (drop seen text))
    ∙ ap (λ b. b && list_all is_line_end (take n (drop seen text))) front ∙ line

-- a byte that is no line feed ends no line
ends_no_line : (front both : List ℕ) (b : ℕ) → both ≡ front ++ b ∷ [] → (b == 10) ≡ false → ends_with eqb both (10 ∷ []) ≡ false
ends_no_line front both b grows other = by_test (ends_with eqb both (10 ∷ [])) refl
  where
    by_test : (t : Bool) → t ≡ ends_with eqb both (10 ∷ []) → t ≡ false
    by_test false e = refl
    by_test true e =
        let parts = (ends_is Decides-eqb both (10 ∷ []) true e).0 refl in
        let same : b ≡ 10 = last_same front (take (length both - 1) both) b 10 (sym grows ∙ parts) in
        let is : (b == 10) ≡ true = ap (λ x. x == 10) same in
        absurd (not_both (b == 10) is other)

-- the known bytes begin with what was taken
pub begins_with_taken : (old new : Option (List ℕ)) (text stream : List ℕ) → Consumes old new text → old ≡ Some stream
    → (rest : List ℕ) × (new ≡ Some rest) × (stream ≡ text ++ rest)
begins_with_taken None new text stream c e = cc
begins_with_taken (Some zs) None text stream c e = absurd c
begins_with_taken (Some zs) (Some ys) text stream c e = (ys, refl, cc)

-- all is what was looked at, and what follows
pub looked_at : (room : List ℕ) (had end seen : ℕ) → end ≤ had → seen ≤ length (take end room) → take had room ≡ take seen (take end room) ++ drop seen (take had room)
looked_at room had end seen le inside =
    let most : seen ≤ end = omega (arith, length-take end room) in
    let front : take seen (take end room) ≡ take seen (take had room) = take-take seen end room most ∙ sym (take-take seen had room (omega arith)) in
    sym (ap (λ (w : List ℕ). w ++ drop seen (take had room)) front ∙ take-append-drop seen (take had room))

module _ {S : Type 0} (grammar : Grammar S) where
  -- ---- fronts

  -- what goes on goes on behind a byte that ends no empty line
  pub goes_on_inside : IsGrammar grammar → (text both : List ℕ) (b room : ℕ) → both ≡ text ++ b ∷ [] → ends_empty_line both ≡ false → IsHeadBegun grammar text room → IsHeadBegun grammar both room
  goes_on_inside laws text both b room grows inside on head more rest is parts = by_length (lt_or_ge (length both) (length head))
    where
      by_length : (length both < length head) ⊎ (length head ≤ length both) → length both < length head
      by_length (inl lt) = lt
      by_length (inr le) =
          let whole = goes_on head rest both more (sym parts) le in
          let joined : text ++ (b ∷ more) ≡ head ++ rest = sym (append_assoc text (b ∷ []) more) ∙ ap (λ (w : List ℕ). w ++ more) (sym grows) ∙ parts in
          let lt = on head (b ∷ more) rest is joined in
          let long = ap length grows in
          let longer = ap length whole.1 in
          let none : whole.0 ≡ [] = nothing_left whole.0 (omega (arith, length-append text (b ∷ []), length-append head whole.0)) in
          let same : both ≡ head = whole.1 ∙ ap (λ (w : List ℕ). head ++ w) none ∙ append-nil head in
          absurd (not_both (ends_empty_line both) (ap ends_empty_line same ∙ laws.ended head room is) inside)

  -- empty lines go on in each head
  pub blank_goes_on : IsGrammar grammar → (text : List ℕ) (room : ℕ) → list_all is_line_end text ≡ true → IsHeadBegun grammar text room
  blank_goes_on laws text room blank head more rest is parts = by_length (lt_or_ge (length text) (length head))
    where
      by_length : (length text < length head) ⊎ (length head ≤ length text) → length text < length head
      by_length (inl lt) = lt
      by_length (inr le) =
          let whole = goes_on head rest text more (sym parts) le in
          let space = laws.spaced head room is in
          let all : list_all is_line_end (head ++ whole.0) ≡ true = ap (list_all is_line_end) (sym whole.1) ∙ blank in
          absurd (no_space head whole.0 space.0 space.1 all space.2)

  -- what goes on goes on behind bytes none of which is a line feed
  goes_on_along : IsGrammar grammar → (text : List ℕ) (n from room : ℕ) → from + n ≤ length text
      → ((k : ℕ) → from ≤ k → k < from + n → (slice_index text k == 10) ≡ false) → IsHeadBegun grammar (take from text) room → IsHeadBegun grammar (take (from + n) text) room
  goes_on_along laws text zero from room inside none on =
      let here : from ≡ from + zero = omega arith in
      subst (λ (k : ℕ). IsHeadBegun grammar (take k text) room) here on
  goes_on_along laws text (suc n) from room inside none on =
      let more : from < length text = omega arith in
      let grows : take (from + 1) text ≡ take from text ++ slice_index text from ∷ [] = grind (arith, common_steps) in
      let other = none from (omega arith) (omega arith) in
      let feed = ends_no_line (take from text) (take (from + 1) text) (slice_index text from) grows other in
      let next = goes_on_inside laws (take from text) (take (from + 1) text) (slice_index text from) room grows (empty_line_is_line (take (from + 1) text) feed) on in
      let there : from + 1 + n ≡ from + suc n = omega arith in
      subst (λ (k : ℕ). IsHeadBegun grammar (take k text) room) there
      (goes_on_along laws text n (from + 1) room (omega arith) (λ k low high. none k (omega arith) (omega arith)) next)

  -- what goes on goes on up to the last byte of the line that follows
  pub goes_on_line : IsGrammar grammar → (text : List ℕ) (seen n room : ℕ) → 0 < n → n ≤ length (take (length text - seen) (drop seen text)) → seen ≤ length text
      → ((place : ℕ) → place + 1 < n → (slice_index (take (length text - seen) (drop seen text)) place == 10) ≡ false) → IsHeadBegun grammar (take seen text) room
      → IsHeadBegun grammar (take (seen + (n - 1)) text) room
  goes_on_line laws text seen n room some within inside none on =
      let fits : seen + (n - 1) ≤ length text = omega (arith, length-take (length text - seen) (drop seen text)) in
      let other : (k : ℕ) → seen ≤ k → k < seen + (n - 1) → (slice_index text k == 10) ≡ false =
      λ k low high.
      let same : slice_index (take (length text - seen) (drop seen text)) (k - seen) ≡ slice_index text k = grind (arith, common_steps) in
      subst (λ (b : ℕ). (b == 10) ≡ false) same (none (k - seen) (omega arith)) in
      goes_on_along laws text (n - 1) seen room fits other on

  -- where no head begins a front, none begins the text
  pub none_begins_on : (text : List ℕ) (k room : ℕ) → BeginsNone grammar (take k text) room → BeginsNone grammar text room
  none_begins_on text k room none head more rest is parts =
      none head (drop k text ++ more) rest is
      (sym (append_assoc (take k text) (drop k text) more) ∙ ap (λ (w : List ℕ). w ++ more) (take-append-drop k text) ∙ parts)

  -- a text that begins with no whole head goes on in each
  pub partial_goes_on : (text : List ℕ) (room : ℕ) → ((head rest : List ℕ) → grammar.IsHead head room → text ≡ head ++ rest → ⊥) → IsHeadBegun grammar text room
  partial_goes_on text room none head more rest is parts = by_length (lt_or_ge (length text) (length head))
    where
      by_length : (length text < length head) ⊎ (length head ≤ length text) → length text < length head
      by_length (inl lt) = lt
      by_length (inr le) = let whole = goes_on head rest text more (sym parts) le in absurd (none head whole.0 is whole.1)

  -- nothing is no whole head
  pub nothing_goes_on : IsGrammar grammar → (room : ℕ) → IsHeadBegun grammar [] room
  nothing_goes_on laws room [] more rest is parts = absurd (not_both false (laws.ended [] room is) refl)
  nothing_goes_on laws room (b ∷ head) more rest is parts = omega arith

  -- a head that ends with the text, and not before
  whole_at : IsGrammar grammar → (front text : List ℕ) (b room : ℕ) (lines : List HeaderSpan) (spans : S) → text ≡ front ++ b ∷ [] → room ≡ length lines → IsHeadBegun grammar front room
      → grammar.Covers text lines spans → grammar.len spans ≡ length text
  whole_at laws front text b room lines spans grows wide on covers =
      let len = grammar.len spans in
      let le = laws.within text lines spans covers in
      let is : grammar.IsHead (take len text) room = subst (λ n. grammar.IsHead (take len text) n) (sym wide) (laws.covered text lines spans covers) in
      let lt = on (take len text) (b ∷ []) (drop len text) is (sym grows ∙ sym (take-append-drop len text)) in
      let long = ap length grows in
      omega (arith, length-append front (b ∷ []), length-take len text)

  -- of a text that goes on up to a byte, and has a head with it, the head ends there
  pub ends_there : IsGrammar grammar → (text : List ℕ) (k room : ℕ) (lines : List HeaderSpan) (spans : S) → k < length text → room ≡ length lines → IsHeadBegun grammar (take k text) room
      → grammar.Covers (take (k + 1) text) lines spans → grammar.len spans ≡ k + 1
  ends_there laws text k room lines spans some wide on covers =
      let grows : take (k + 1) text ≡ take k text ++ slice_index text k ∷ [] = grind (arith, common_steps) in
      let len = whole_at laws (take k text) (take (k + 1) text) (slice_index text k) room lines spans grows wide on covers in
      omega (arith, length-take (k + 1) text)

  -- ---- heads in what has come

  -- a head that was seen in a front stands at the front of all
  pub stands_whole : (room : List ℕ) (had end seen : ℕ) (lines : List HeaderSpan) (spans : S) (left : Option (List ℕ)) → end ≤ had → end ≤ max_head → had ≤ length room
      → seen ≤ length (take end room) → grammar.Covers (take seen (take end room)) lines spans → grammar.len spans ≡ seen → StandsIn grammar (take had room) lines left (Whole spans)
  stands_whole room had end seen lines spans left le small there inside covers len =
      let most : seen ≤ end = omega (arith, length-take end room) in
      let same : take seen (take end room) ≡ take (grammar.len spans) (take had room) =
      take-take seen end room most ∙ sym (take-take seen had room (omega arith)) ∙ ap (λ n. take n (take had room)) (sym len) in (
        omega (arith, length-take had room),
        omega arith,
        subst (λ (text : List ℕ). grammar.Covers text lines spans) same covers,
      )

  -- where no head begins what was looked at, whatever follows, none begins all and what follows
  pub none_begins_all : (room : List ℕ) (had end seen lines other : ℕ) → lines ≡ other → end ≤ had → seen ≤ length (take end room)
      → BeginsNone grammar (take seen (take end room)) lines → BeginsNever grammar (take had room) other
  none_begins_all room had end seen lines other same le inside none more head rest is parts short =
      let front = looked_at room had end seen le inside in
      none head (drop seen (take had room) ++ more) rest (subst (λ n. grammar.IsHead head n) (sym same) is)
      (sym (append_assoc (take seen (take end room)) (drop seen (take had room)) more) ∙ ap (λ (w : List ℕ). w ++ more) (sym front) ∙ parts)

  -- where a front goes on that is as long as a head may be, no head begins all and what follows
  pub too_long : (bytes front back : List ℕ) (lines other : ℕ) → lines ≡ other → bytes ≡ front ++ back → IsHeadBegun grammar front lines → max_head ≤ length front
      → BeginsNever grammar bytes other
  too_long bytes front back lines other same parts on most more head rest is reads short =
      let lt = on head (back ++ more) rest (subst (λ n. grammar.IsHead head n) (sym same) is) (sym (append_assoc front back more) ∙ ap (λ (w : List ℕ). w ++ more) (sym parts) ∙ reads) in
      absurd (omega arith)

  -- where a front goes on that is all there is, no head begins it
  pub all_goes_on : (bytes front back : List ℕ) (lines other : ℕ) → lines ≡ other → bytes ≡ front ++ back → IsHeadBegun grammar front lines → length bytes ≤ length front
      → BeginsNot grammar bytes other
  all_goes_on bytes front back lines other same parts on all head rest is reads short =
      let lt = on head back rest (subst (λ n. grammar.IsHead head n) (sym same) is) (sym parts ∙ reads) in
      let long = ap length reads in
      absurd (omega (arith, length-append head rest))

  -- where all that there is was seen to go on, no head begins what there was, unless more had come
  pub none_yet : {D : Type 0} (old now : D) (room had : List ℕ) (there end seen lines before after : ℕ) (spans : List HeaderSpan) (offered : Offered S)
      → lines ≡ before → before ≡ after → end ≡ there → offered ≡ Partial → Sees grammar (take end room) seen lines spans offered
      → ((now ≡ old) × (take there room ≡ had)) ⊎ BeginsNot grammar had before → BeginsNot grammar had after
  none_yet old now room had there end seen lines before after spans offered same other whole partial sees (inr none) =
      subst (λ n. BeginsNot grammar had n) other none
  none_yet old now room had there end seen lines before after spans offered same other whole partial sees (inl is) =
      let on : IsHeadBegun grammar (take seen (take end room)) lines × (seen ≡ length (take end room)) =
      subst (λ (o : Offered S). Sees grammar (take end room) seen lines spans o) partial sees in
      let front : take seen (take end room) ≡ take end room = take_all seen (take end room) (omega (arith, on.1)) in
      let parts : take there room ≡ take seen (take end room) ++ [] =
      ap (λ n. take n room) (sym whole) ∙ sym front ∙ sym (append-nil (take seen (take end room))) in
      let long = ap length parts in
      subst (λ (w : List ℕ). BeginsNot grammar w after) is.1
      (all_goes_on (take there room) (take seen (take end room)) [] lines after (same ∙ other) parts on.0 (omega (arith, length-append (take seen (take end room)) [])))
