-- Lines that are taken up, one more at a time.
use Rattle.std.proofs.Common.{◌≡◌, ◌≢◌, ℕ, Bool, true, false, length, take, drop, List, [], ◌∷◌, ◌++◌, map, refl, sym, ◌∙◌, ap, subst, Option, arith}
use Rattle.std.specs.Prelude.{◌==◌, IsSome, MatchOption, None, Some}
use Rattle.std.proofs.lemmas.Bool.{eqb-true}
use Rattle.std.proofs.lemmas.List.{append-nil, append_assoc, take-append-drop}
use Rattle.line_log.specs.Log.{all_of, lines}
use Rattle.line_log.specs.Sums.{sum_after}
use Rattle.sha2.specs.Sha256.{sha256}
use Rattle.tenant_core.specs.State.{State}
use Rattle.book_log.specs.Lines.{AreLinesTaken, AreTaken, IsTaken}
use Rattle.book_log.specs.Sums.{sum_line, summed}

-- one line more
pub taken_more : (ls : List (List ℕ)) (l : List ℕ) (a b c : List State) → AreTaken ls a b → IsTaken l b c → AreTaken (ls ++ l ∷ []) a c
taken_more [] l a b c so_far more = (c, subst (λ (x : List State). IsTaken l x c) (sym so_far) more, refl)
taken_more (x ∷ ls) l a b c so_far more = (so_far.0, so_far.1, taken_more ls l so_far.0 b c so_far.2 more)

-- one list of lines after another
pub taken_both : (xs ys : List (List ℕ)) (a b c : List State) → AreTaken xs a b → AreTaken ys b c → AreTaken (xs ++ ys) a c
taken_both [] ys a b c one other = subst (λ (x : List State). AreTaken ys x c) (sym one) other
taken_both (x ∷ xs) ys a b c one other = (one.0, one.1, taken_both xs ys one.0 b c one.2 other)

-- the text of one line more
pub lines_more : (ls : List (List ℕ)) (l rest : List ℕ) → lines (ls ++ l ∷ []) ++ rest ≡ lines ls ++ (l ++ 10 ∷ rest)
lines_more [] l rest = append_assoc l (10 ∷ []) rest
lines_more (x ∷ ls) l rest =
    append_assoc x (10 ∷ lines (ls ++ l ∷ [])) rest
    ∙ ap (λ (t : List ℕ). x ++ 10 ∷ t) (lines_more ls l rest)
    ∙ sym (append_assoc x (10 ∷ lines ls) (l ++ 10 ∷ rest))

-- the text of one commit more
pub summed_more : (ts : List (List ℕ)) (sum t rest : List ℕ) → summed sum (ts ++ t ∷ []) ++ rest
    ≡ summed sum ts ++ (t ++ sum_line (sha256 (sum_after sum ts ++ t)) ++ rest)
summed_more [] sum t rest = ap (λ (u : List ℕ). u ++ rest) (append-nil (t ++ sum_line (sha256 (sum ++ t))))
summed_more (x ∷ ts) sum t rest =
    let next = sha256 (sum ++ x) in
    append_assoc (x ++ sum_line next) (summed next (ts ++ t ∷ [])) rest
    ∙ ap (λ (u : List ℕ). x ++ sum_line next ++ u) (summed_more ts next t rest)
    ∙ sym (append_assoc (x ++ sum_line next) (summed next ts) (t ++ sum_line (sha256 (sum_after next ts ++ t)) ++ rest))

pub sum_after_more : (ts : List (List ℕ)) (sum t : List ℕ) → sum_after sum (ts ++ t ∷ []) ≡ sha256 (sum_after sum ts ++ t)
sum_after_more [] sum t = refl
sum_after_more (x ∷ ts) sum t = sum_after_more ts (sha256 (sum ++ x)) t

pub all_more : (cs : List (List (List ℕ))) (c : List (List ℕ)) → all_of (cs ++ c ∷ []) ≡ all_of cs ++ c
all_more [] c = append-nil c
all_more (x ∷ cs) c = ap (λ (l : List (List ℕ)). x ++ l) (all_more cs c) ∙ sym (append_assoc x (all_of cs) c)

pub texts_more : (cs : List (List (List ℕ))) (c : List (List ℕ)) → map lines (cs ++ c ∷ []) ≡ map lines cs ++ lines c ∷ []
texts_more [] c = refl
texts_more (x ∷ cs) c = ap (λ (l : List (List ℕ)). lines x ∷ l) (texts_more cs c)

-- what was taken up of a text: its lines, whose rest is left
pub record AreLinesSoFar (text rest : List ℕ) (before now : List State) : Type 0 where
  pub each : List (List ℕ)
  pub parts : text ≡ lines each ++ rest
  pub taken : AreTaken each before now

-- what was taken up of a log: its commits, whose rest is left
pub record AreCommitsSoFar (first text rest sum : List ℕ) (before now : List State) : Type 0 where
  pub commits : List (List (List ℕ))
  pub parts : text ≡ summed first (map lines commits) ++ rest
  pub taken : AreTaken (all_of commits) before now
  pub sum_is : sum ≡ sum_after first (map lines commits)

-- a text is what comes before a place, so much of what follows, and the rest
pub three_parts : (text : List ℕ) (begin some : ℕ) → text ≡ take begin text ++ take some (drop begin text) ++ drop some (drop begin text)
three_parts text begin some = sym (
    append_assoc (take begin text) (take some (drop begin text)) (drop some (drop begin text))
    ∙ ap (λ (rest : List ℕ). take begin text ++ rest) (take-append-drop some (drop begin text))
    ∙ take-append-drop begin text)

-- one commit more: its lines were taken up, and the text states their sum after them
pub commits_more : (first text rest sum : List ℕ) (before now : List State) (so_far : AreCommitsSoFar first text rest sum before now)
    (ls stated others next : List ℕ) (after : List State) → rest ≡ ls ++ stated ++ others → AreLinesTaken ls now after
    → next ≡ sha256 (sum ++ ls) → stated ≡ sum_line next → AreCommitsSoFar first text others next before after
commits_more first text rest sum before now so_far ls stated others next after parts took is stated_is =
    let cs = so_far.commits in
    let ts = map lines cs in
    let l = lines took.each in
    let next_is : next ≡ sha256 (sum_after first ts ++ l) =
    is ∙ ap (λ (u : List ℕ). sha256 (u ++ ls)) so_far.sum_is ∙ ap (λ (u : List ℕ). sha256 (sum_after first ts ++ u)) took.written in
    let rest_is : rest ≡ l ++ sum_line (sha256 (sum_after first ts ++ l)) ++ others =
    parts ∙ ap (λ (u : List ℕ). u ++ stated ++ others) took.written
    ∙ ap (λ (u : List ℕ). l ++ u ++ others) (stated_is ∙ ap (λ (u : List ℕ). sum_line u) next_is) in
    record {
      commits = cs ++ took.each ∷ [];
      parts = so_far.parts ∙ ap (λ (u : List ℕ). summed first ts ++ u) rest_is ∙ sym (summed_more ts first l others)
          ∙ ap (λ (us : List (List ℕ)). summed first us ++ others) (sym (texts_more cs took.each));
      taken = subst (λ (xs : List (List ℕ)). AreTaken xs before after) (sym (all_more cs took.each))
          (taken_both (all_of cs) took.each before now after so_far.taken took.taken);
      sum_is = next_is ∙ sym (sum_after_more ts first l) ∙ ap (λ (us : List (List ℕ)). sum_after first us) (sym (texts_more cs took.each));
    }

-- nothing, where it is not something
pub none_of : {A : Type 0} (o : Option A) → ((x : A) → o ≡ Some x → ⊥) → o ≡ None
none_of None not_some = refl
none_of (Some x) not_some = absurd (not_some x refl)

-- what a clause says of nothing
pub none_match : {A : Type 0} (o : Option A) (P : Type 0) (Q : A → Type 0) → ((x : A) → o ≡ Some x → ⊥) → MatchOption o P Q → P
none_match None P Q not_some is = is
none_match (Some x) P Q not_some is = absurd (not_some x refl)

-- a text is empty, or not
pub some_text : (text : List ℕ) (b : Bool) → b ≡ (length text == 0) → b ≡ false → text ≢ []
some_text [] b is apart = absurd (cc (sym apart ∙ is))
some_text (x ∷ text) b is apart = λ none. absurd (cc none)

pub no_text : (text : List ℕ) (b : Bool) → b ≡ (length text == 0) → b ≡ true → text ≡ []
no_text [] b is empty = refl
no_text (x ∷ text) b is empty = absurd (omega (arith, eqb-true (length (x ∷ text)) 0 (sym is ∙ empty)))

pub some_is : {A : Type 0} (o : Option A) → IsSome o → o ≡ None → ⊥
some_is None some none = absurd (cc some)
some_is (Some x) some none = absurd (cc none)
