-- Where the lines of a log stop, and the number of that line.
use Rattle.std.proofs.Common.{◌≡◌, ◌≢◌, ℕ, ◌+◌, eqb, cond, List, [], ◌∷◌, ◌++◌, length, map, append_assoc, append-nil, refl, sym, ap, subst, ◌∙◌, arith}
use Rattle.std.proofs.lemmas.List.Sums.{sum_by-append, sum_by-cons}
use Rattle.std.proofs.lemmas.List.Splits.{length-slice_split}
use Rattle.std.specs.Prelude.{Err}
use Rattle.common_types.specs.declared.read_error.ReadError.{ReadError}
use Rattle.common_types.specs.declared.read_error.ReadError.TheVariants.{Memory, Fault}
use Rattle.line_log.specs.Log.{all_of, lines}
use Rattle.sha2.specs.Sha256.{sha256}
use Rattle.statements.specs.Reading.{text_lines}
use Rattle.tenant_core.specs.State.{State}
use Rattle.book_log.specs.Base.{states_of}
use Rattle.book_log.specs.Faults.{IsBegun, IsFaultAt, IsFaultOf, IsLogFault, IsNoNext, OnFault, StopsAt, feeds}
use Rattle.book_log.specs.Laws.{LineLaws}
use Rattle.book_log.specs.Lines.{AreLinesTaken}
use Rattle.book_log.specs.Sums.{IsCommit, sum_line, summed}
use Rattle.book_log.specs.Written.{IsWritten}
use Rattle.book_log.specs.declared.base.TenantStart.{TenantStart}
use Rattle.book_log.specs.declared.reopening.JournalFault.{JournalFault}
use Rattle.book_log.specs.declared.reopening.JournalFault.TheVariants.{Base, Limit, Log}
use Rattle.book_log.specs.declared.taking.LineFault.TheVariants.{Record, Sum}
use Rattle.book_log.proofs.Commits.{sum_is_line, sum_text}
use Rattle.book_log.proofs.Splits.{IsLine, some_line}
use Rattle.book_log.proofs.Taken.{AreCommitsSoFar, taken_both}

-- ---- line feeds

pub feeds_both : (xs ys : List ℕ) → feeds (xs ++ ys) ≡ feeds xs + feeds ys
feeds_both xs ys = sum_by-append (λ b. cond (eqb b 10) 1 0) xs ys

-- a text has one more than what follows its first line
pub fewer : (text others line : List ℕ) → text_lines text ≡ line ∷ text_lines others → feeds text ≡ feeds others + 1
unfolding text_lines
fewer text others line is = omega (arith, length-slice_split (λ b. eqb b 10) text, length-slice_split (λ b. eqb b 10) others, ap length is)

pub none_fed : (text : List ℕ) → text_lines text ≡ text ∷ [] → feeds text ≡ 0
unfolding text_lines
none_fed text is = omega (arith, length-slice_split (λ b. eqb b 10) text, ap length is)

-- the line of a sum has one
pub sum_fed : (sum : List ℕ) → feeds (sum_line sum) ≡ 1
unfolding sum_line
sum_fed sum =
    ap feeds (sym (append_assoc (sum_text sum) (10 ∷ []) []) ∙ append-nil (sum_text sum ++ 10 ∷ []))
    ∙ fewer (sum_text sum ++ 10 ∷ []) [] (sum_text sum) (sum_is_line sum [])

-- ---- texts that end with a line feed, and the empty one

abbrev pub IsEnded : List ℕ → Type 0
IsEnded [] = Unit {0}
IsEnded (x ∷ []) = x ≡ 10
IsEnded (x ∷ y ∷ more) = IsEnded (y ∷ more)

after_feed : (rest : List ℕ) → IsEnded rest → IsEnded (10 ∷ rest)
after_feed [] ended = refl
after_feed (y ∷ more) ended = ended

line_before : (line rest : List ℕ) → IsEnded rest → IsEnded (line ++ 10 ∷ rest)
line_before [] rest ended = after_feed rest ended
line_before (x ∷ []) rest ended = after_feed rest ended
line_before (x ∷ y ∷ line) rest ended = line_before (y ∷ line) rest ended

pub lines_end : (ls : List (List ℕ)) → IsEnded (lines ls)
lines_end [] = tt
lines_end (l ∷ ls) = line_before l (lines ls) (lines_end ls)

one_less : (x : ℕ) (more : List ℕ) → IsEnded (x ∷ more) → IsEnded more
one_less x [] ended = tt
one_less x (y ∷ more) ended = ended

pub end_of : (front rest : List ℕ) → IsEnded (front ++ rest) → IsEnded rest
end_of [] rest ended = ended
end_of (x ∷ front) rest ended = end_of front rest (one_less x (front ++ rest) ended)

pub ended_is_fed : (rest : List ℕ) → IsEnded rest → feeds rest ≡ 0 → rest ≡ []
ended_is_fed [] ended none = refl
ended_is_fed (x ∷ []) ended none = absurd (cc (sym (ap (λ (b : ℕ). feeds (b ∷ [])) ended) ∙ none))
ended_is_fed (x ∷ y ∷ more) ended none =
    absurd (cc (ended_is_fed (y ∷ more) ended (omega (arith, none, sum_by-cons (λ b. cond (eqb b 10) 1 0) x (y ∷ more)))))

-- ---- the next line

some_front : (rest more : List ℕ) → rest ≢ [] → rest ++ more ≢ []
some_front [] more some = absurd (some refl)
some_front (x ∷ rest) more some = λ none. absurd (cc none)

heads : (l line : List ℕ) (ls others : List (List ℕ)) → ◌≡◌ {A = List (List ℕ)} (l ∷ ls) (line ∷ others) → (l ≡ line) × (ls ≡ others)
heads l line ls others same = (cc same, cc same)

-- the first line is none that is written next
pub other_next : LineLaws → (rest line others : List ℕ) (now : List State) → rest ≢ [] → rest ≡ line ++ 10 ∷ others → IsLine line
    → ((after : List State) → IsWritten line now after → ⊥) → (more : List ℕ) → IsNoNext (rest ++ more) now
other_next laws rest line others now some parts is not more =
    record {
      some = some_front rest more some;
      other = λ l later after same w.
          let whole : line ++ 10 ∷ (others ++ more) ≡ l ++ 10 ∷ later = sym (append_assoc line (10 ∷ others) more) ∙ ap (λ (t : List ℕ). t ++ more) (sym parts) ∙ same in
          let parts = heads l line (text_lines later) (text_lines (others ++ more)) (sym (laws.one_line l now after w later) ∙ ap text_lines (sym whole) ∙ is (others ++ more)) in
          not after (subst (λ (x : List ℕ). IsWritten x now after) parts.0 w);
    }

-- there is no line
pub none_next : LineLaws → (rest : List ℕ) (now : List State) → rest ≢ [] → text_lines rest ≡ rest ∷ []
    → (more : List ℕ) → (feeds rest ≡ 0 → more ≡ []) → IsNoNext (rest ++ more) now
none_next laws rest now some none more last =
    let ends : rest ++ more ≡ rest = ap (λ (t : List ℕ). rest ++ t) (last (none_fed rest none)) ∙ append-nil rest in
    record {
      some = some_front rest more some;
      other = λ l later after same w.
          let parts = heads l rest (text_lines later) [] (sym (laws.one_line l now after w later) ∙ ap text_lines (sym same ∙ ends) ∙ none) in
          some_line later parts.1;
    }

-- ---- faults

-- among lines, and what may follow them
pub record_wrong : (first text rest sum : List ℕ) (before now : List State) → AreCommitsSoFar first text rest sum before now
    → (ls more : List ℕ) → rest ≡ ls ++ more → (at : ℕ) (stop : StopsAt ls now at) → (feeds stop.rest ≡ 0 → more ≡ [])
    → (number : ℕ) → number + feeds rest ≡ feeds text + 1 + at → IsFaultOf first text before (Record number)
record_wrong first text rest sum before now so_far ls more parts at stop last number is =
    let front = summed first (map lines so_far.commits) in
    record {
      commits = so_far.commits;
      others = stop.each;
      rest = stop.rest ++ more;
      now = stop.now;
      parts = so_far.parts ∙ ap (λ (t : List ℕ). front ++ t) (parts ∙ ap (λ (t : List ℕ). t ++ more) stop.parts ∙ append_assoc (lines stop.each) stop.rest more)
          ∙ sym (append_assoc front (lines stop.each) (stop.rest ++ more));
      taken = taken_both (all_of so_far.commits) stop.each before now stop.now so_far.taken stop.taken;
      wrong = (
        omega (arith, is, ap feeds so_far.parts, feeds_both front rest, feeds_both front (lines stop.each), stop.number_is),
        stop.stops more last,
      );
    }

-- lines of a commit do not stop within a line
pub stops_at_line : (ls : List ℕ) (now : List State) (at : ℕ) (stop : StopsAt ls now at) (each : List (List ℕ)) → ls ≡ lines each
    → feeds stop.rest ≡ 0 → ⊥
stops_at_line ls now at stop each are none =
    stop.some (ended_is_fed stop.rest (end_of (lines stop.each) stop.rest (subst IsEnded (sym are ∙ stop.parts) (lines_end each))) none)

-- at the sum of a commit
pub sum_wrong : (first text rest sum : List ℕ) (before now : List State) → AreCommitsSoFar first text rest sum before now
    → (ls stated others : List ℕ) → rest ≡ ls ++ stated ++ others → IsCommit (text_lines rest) ls stated others
    → (after : List State) → AreLinesTaken ls now after → (stated ≡ sum_line (sha256 (sum ++ ls)) → ⊥)
    → (number : ℕ) → number + feeds rest ≡ feeds text + 1 + feeds ls → IsFaultOf first text before (Sum number)
sum_wrong first text rest sum before now so_far ls stated others parts commit after took differs number is =
    let front = summed first (map lines so_far.commits) in
    let line_is : stated ++ others ≡ commit.sum ++ 10 ∷ others = ap (λ (t : List ℕ). t ++ others) commit.is_stated ∙ append_assoc commit.sum (10 ∷ []) others in
    record {
      commits = so_far.commits;
      others = took.each;
      rest = stated ++ others;
      now = after;
      parts = so_far.parts ∙ ap (λ (t : List ℕ). front ++ t) (parts ∙ append_assoc ls stated others ∙ ap (λ (t : List ℕ). t ++ (stated ++ others)) took.written)
          ∙ sym (append_assoc front (lines took.each) (stated ++ others));
      taken = taken_both (all_of so_far.commits) took.each before now after so_far.taken took.taken;
      wrong = (
        omega (arith, is, ap feeds so_far.parts, feeds_both front rest, feeds_both front (lines took.each), ap feeds took.written),
        record {
          line = commit.sum;
          later = others;
          next = ap text_lines line_is ∙ commit.one_line others;
          marked = commit.marked;
          differs = λ same. differs (commit.is_stated ∙ same ∙ (λ i. sum_line (sha256 (sym so_far.sum_is i ++ sym took.written i))));
        },
      );
    }

-- a fault of the log, in a journal
pub log_wrong : (V W : Type 0) (e : ReadError JournalFault) (base log : List ℕ) (starts : List TenantStart) (first : List ℕ)
    → IsBegun base starts first → (books : List State) → books ≡ states_of starts
    → OnFault {V = V} (Err e) (IsLogFault first log books) → OnFault {V = W} (Err e) (IsFaultAt base log)
log_wrong V W Memory base log starts first begun books began wrong = tt
log_wrong V W (Fault (Base fault)) base log starts first begun books began wrong = tt
log_wrong V W (Fault (Limit tenant fault)) base log starts first begun books began wrong = tt
log_wrong V W (Fault (Log fault)) base log starts first begun books began wrong =
    (starts, first, begun, subst (λ (s : List State). IsFaultOf first log s fault) began wrong)
