-- A text that is written, line by line and commit by commit.
use Rattle.std.proofs.Common.{◌≡◌, ◌≢◌, ℕ, ◌<◌, length, List, [], ◌∷◌, ◌++◌, map, append_assoc, refl, sym, ap, subst, ◌∙◌, arith, Option}
use Rattle.std.specs.List.{AllByRecursion}
use Rattle.std.specs.Prelude.{None, Some}
use Rattle.std.proofs.lemmas.Option.{same_Some, some_pair_parts}
use Rattle.line_log.specs.Log.{all_of, lines}
use Rattle.sha2.specs.Sha256.{sha256}
use Rattle.statements.specs.Reading.{text_lines}
use Rattle.tenant_core.specs.State.{State}
use Rattle.tenant_core.specs.declared.journal.Entry.{Entry}
use Rattle.book_log.specs.Laws.{LineLaws}
use Rattle.book_log.specs.Lines.{place_of}
use Rattle.book_log.specs.Reading.{line_said}
use Rattle.book_log.specs.Sums.{CommitRead, IsCommit, commit_read, sum_line, summed}
use Rattle.book_log.specs.Written.{AreWritten, IsTextWritten, IsWritten}
use Rattle.book_log.specs.declared.line.LinePlace.{LinePlace}
use Rattle.book_log.proofs.Commits.{AreNoSums, commit_of_lines, none_of_lines, sum_text}
use Rattle.book_log.proofs.Splits.{IsLine, one_text, some_line}

-- ---- lines

-- what a line that is written says is its record's
pub said_of : LineLaws → (line : List ℕ) (before after : List State) (w : IsWritten line before after) (p : LinePlace) (e : Entry)
    → line_said line ≡ Some (p, e) → (p ≡ place_of w.state) × (e ≡ w.next.entry) × (p.tenant ≡ w.tenant)
said_of laws line before after w p e is =
    let both = some_pair_parts p (place_of w.state) e w.next.entry
    (sym is ∙ laws.read_back (place_of w.state) w.next line w.place w.loggable w.is_line) in
    (both.0, both.1, ap (λ (q : LinePlace). q.tenant) both.0 ∙ w.number)

pub something_said : LineLaws → (line : List ℕ) (before after : List State) → IsWritten line before after → line_said line ≡ None → ⊥
something_said laws line before after w none =
    absurd (cc (sym none ∙ laws.read_back (place_of w.state) w.next line w.place w.loggable w.is_line))

-- what is left of each text of lines that are written
abbrev pub AreLeft : (text rest : List ℕ) → (first now : List State) → Type 0
AreLeft text rest first now = (each : List (List ℕ)) (after : List State) → text ≡ lines each → AreWritten each first after
    → (left : List (List ℕ)) × (rest ≡ lines left) × AreWritten left now after

-- the next line of lines that are written, and the others
pub record IsNextLine (left : List (List ℕ)) (line others : List ℕ) (now after : List State) : Type 0 where
  pub between : List State
  pub rest : List (List ℕ)
  pub is_written : IsWritten line now between
  pub others_are : others ≡ lines rest
  pub are_written : AreWritten rest between after

first_part : (l line : List ℕ) (ls others : List (List ℕ)) → ◌≡◌ {A = List (List ℕ)} (l ∷ ls) (line ∷ others) → (l ≡ line) × (ls ≡ others)
first_part l line ls others same = (cc same, cc same)

pub next_line : LineLaws → (left : List (List ℕ)) (rest line others : List ℕ) (now after : List State) → rest ≡ lines left
    → text_lines rest ≡ line ∷ text_lines others → length others < length rest → AreWritten left now after
    → IsNextLine left line others now after
next_line laws [] rest line others now after is first shorter w = absurd (omega (arith, shorter, ap length is))
next_line laws (l ∷ ls) rest line others now after is first shorter w =
    let parts = first_part l line (text_lines (lines ls)) (text_lines others)
    (sym (laws.one_line l now w.0 w.1 (lines ls)) ∙ ap text_lines (sym is) ∙ first) in
    record {
      between = w.0;
      rest = ls;
      is_written = subst (λ (x : List ℕ). IsWritten x now w.0) parts.0 w.1;
      others_are = one_text others (lines ls) (sym parts.1);
      are_written = w.2;
    }

-- where there is no line, none is left
pub no_next_line : LineLaws → (left : List (List ℕ)) (rest : List ℕ) (now after : List State) → rest ≡ lines left
    → text_lines rest ≡ rest ∷ [] → rest ≢ [] → AreWritten left now after → ⊥
no_next_line laws [] rest now after is none some w = some is
no_next_line laws (l ∷ ls) rest now after is none some w =
    some_line (lines ls) (first_part l rest (text_lines (lines ls)) [] (sym (laws.one_line l now w.0 w.1 (lines ls)) ∙ ap text_lines (sym is) ∙ none)).1

-- lines that are written were gone through: none is refused, and they leave the books so
abbrev pub AreFollowed : Option ℕ → List ℕ → List State → List State → Type 0
AreFollowed breaks text before now =
    (each : List (List ℕ)) (after : List State) → text ≡ lines each → AreWritten each before after → (breaks ≡ None) × (now ≡ after)

-- at the end of the text
pub none_left : (left : List (List ℕ)) (rest : List ℕ) (now after : List State) → rest ≡ lines left → rest ≡ []
    → AreWritten left now after → now ≡ after
none_left [] rest now after is none w = w
none_left (l ∷ ls) rest now after is none w = absurd (no_text l (lines ls) (sym is ∙ none))
  where
    no_text : (l text : List ℕ) → l ++ 10 ∷ text ≡ [] → ⊥
    no_text [] text e = absurd (cc e)
    no_text (b ∷ bytes) text e = absurd (cc e)

-- ---- commits

pub are_lines : LineLaws → (ls : List (List ℕ)) (before after : List State) → AreWritten ls before after → AllByRecursion IsLine ls
are_lines laws [] before after w = tt
are_lines laws (l ∷ ls) before after w = (laws.one_line l before w.0 w.1, are_lines laws ls w.0 after w.2)

pub are_no_sums : LineLaws → (ls : List (List ℕ)) (before after : List State) → AreWritten ls before after → AreNoSums ls
are_no_sums laws [] before after w = tt
are_no_sums laws (l ∷ ls) before after w = (laws.no_sum l before w.0 w.1, are_no_sums laws ls w.0 after w.2)

-- some lines, and then others
both_written : (xs ys : List (List ℕ)) (before after : List State) → AreWritten (xs ++ ys) before after
    → (between : List State) × AreWritten xs before between × AreWritten ys between after
both_written [] ys before after w = (before, refl, w)
both_written (x ∷ xs) ys before after w =
    let rest = both_written xs ys w.0 after w.2 in
    (rest.0, (w.0, w.1, rest.1), rest.2)

-- what is left of each text that is written
abbrev pub IsLeft : (first text sum rest : List ℕ) → (before now : List State) → Type 0
IsLeft first text sum rest before now = (after : List State) → IsTextWritten first text before after → IsTextWritten sum rest now after

-- the first commit of a text that is written, and what is after it
pub record IsFirstWritten (sum text now_lines stated others : List ℕ) (now after : List State) : Type 0 where
  pub each : List (List ℕ)
  pub between : List State
  pub are_lines : now_lines ≡ lines each
  pub are_written : AreWritten each now between
  pub is_stated : stated ≡ sum_line (sha256 (sum ++ now_lines))
  pub rest : IsTextWritten (sha256 (sum ++ now_lines)) others between after

-- what was read twice is the same
same_read : (ls each : List (List ℕ)) (s sum : List ℕ) (rest others : List (List ℕ))
    → ◌≡◌ {A = Option CommitRead} (Some (record { lines = ls; sum = s; rest = rest })) (Some (record { lines = each; sum = sum; rest = others }))
    → (ls ≡ each) × (s ≡ sum) × (rest ≡ others)
same_read ls each s sum rest others same =
    let is = same_Some {A = CommitRead} (record { lines = ls; sum = s; rest = rest }) (record { lines = each; sum = sum; rest = others }) same in
    (ap (λ (c : CommitRead). c.lines) is, ap (λ (c : CommitRead). c.sum) is, ap (λ (c : CommitRead). c.rest) is)

-- a text that is written, in parts
first_by : LineLaws → (sum text now_lines stated others : List ℕ) (now after : List State) (commits : List (List (List ℕ))) (left : List (List ℕ))
    → text ≡ summed sum (map lines commits) ++ lines left → AreWritten (all_of commits ++ left) now after
    → IsCommit (text_lines text) now_lines stated others → IsFirstWritten sum text now_lines stated others now after
unfolding sum_line
first_by laws sum text now_lines stated others now after [] left is w c =
    absurd (cc (sym (none_of_lines left (are_lines laws left now after w) (are_no_sums laws left now after w)) ∙ ap (λ (t : List ℕ). commit_read (text_lines t)) (sym is) ∙ c.read))
first_by laws sum text now_lines stated others now after (commit ∷ commits) left is w c =
    let next = sha256 (sum ++ lines commit) in
    let rest = summed next (map lines commits) ++ lines left in
    let two = both_written commit (all_of commits ++ left) now after (subst (λ (ls : List (List ℕ)). AreWritten ls now after) (append_assoc commit (all_of commits) left) w) in
    let parts : text ≡ lines commit ++ sum_line next ++ rest = is ∙ append_assoc (lines commit ++ sum_line next) (summed next (map lines commits)) (lines left) in
    let read = same_read commit c.each (sum_text next) c.sum (text_lines rest) (text_lines others)
    (sym (commit_of_lines commit next rest (are_lines laws commit now two.0 two.1) (are_no_sums laws commit now two.0 two.1))
    ∙ ap (λ (t : List ℕ). commit_read (text_lines t)) (sym parts) ∙ c.read) in
    let same : now_lines ≡ lines commit = c.are_lines ∙ ap lines (sym read.0) in
    let sums : next ≡ sha256 (sum ++ now_lines) = ap (λ (t : List ℕ). sha256 (sum ++ t)) (sym same) in
    record {
      each = commit;
      between = two.0;
      are_lines = same;
      are_written = two.1;
      is_stated = c.is_stated ∙ ap (λ (t : List ℕ). t ++ 10 ∷ []) (sym read.1) ∙ ap sum_line sums;
      rest = record {
        commits = commits;
        others = left;
        is = one_text others rest (sym read.2) ∙ ap (λ (s : List ℕ). summed s (map lines commits) ++ lines left) sums;
        written = two.2;
      };
    }

pub first_written : LineLaws → (sum text now_lines stated others : List ℕ) (now after : List State) → IsTextWritten sum text now after
    → IsCommit (text_lines text) now_lines stated others → IsFirstWritten sum text now_lines stated others now after
first_written laws sum text now_lines stated others now after w c =
    first_by laws sum text now_lines stated others now after w.commits w.others w.is w.written c

-- without a commit, the text is lines that are written
last_by : LineLaws → (sum text : List ℕ) (now after : List State) (commits : List (List (List ℕ))) (left : List (List ℕ))
    → text ≡ summed sum (map lines commits) ++ lines left → AreWritten (all_of commits ++ left) now after
    → commit_read (text_lines text) ≡ None → (each : List (List ℕ)) × (text ≡ lines each) × AreWritten each now after
last_by laws sum text now after [] left is w none = (left, is, w)
last_by laws sum text now after (commit ∷ commits) left is w none =
    let next = sha256 (sum ++ lines commit) in
    let rest = summed next (map lines commits) ++ lines left in
    let two = both_written commit (all_of commits ++ left) now after (subst (λ (ls : List (List ℕ)). AreWritten ls now after) (append_assoc commit (all_of commits) left) w) in
    let parts : text ≡ lines commit ++ sum_line next ++ rest = is ∙ append_assoc (lines commit ++ sum_line next) (summed next (map lines commits)) (lines left) in
    absurd (cc (sym (commit_of_lines commit next rest (are_lines laws commit now two.0 two.1) (are_no_sums laws commit now two.0 two.1))
    ∙ ap (λ (t : List ℕ). commit_read (text_lines t)) (sym parts) ∙ none))

pub last_written : LineLaws → (sum text : List ℕ) (now after : List State) → IsTextWritten sum text now after
    → commit_read (text_lines text) ≡ None → (each : List (List ℕ)) × (text ≡ lines each) × AreWritten each now after
last_written laws sum text now after w none = last_by laws sum text now after w.commits w.others w.is w.written none

-- once the lines of a commit were gone through, what is after it is left
pub after_commit : LineLaws → (first text sum rest : List ℕ) (before now : List State) → IsLeft first text sum rest before now
    → (now_lines stated others : List ℕ) → IsCommit (text_lines rest) now_lines stated others
    → (after : List State) → IsTextWritten first text before after → (breaks : Option ℕ) (next : List State)
    → AreFollowed breaks now_lines now next → IsTextWritten (sha256 (sum ++ now_lines)) others next after
after_commit laws first text sum rest before now left now_lines stated others c after written breaks next followed =
    let one = first_written laws sum rest now_lines stated others now after (left after written) c in
    let same = (followed one.each one.between one.are_lines one.are_written).1 in
    subst (λ (s : List State). IsTextWritten (sha256 (sum ++ now_lines)) others s after) (sym same) one.rest
