use Rattle.std.proofs.Common.{◌≡◌, ℕ, List, [], ◌∷◌, ◌++◌, append_assoc, append-nil, ap, sym, ◌∙◌, true, false}
use Rattle.std.specs.Prelude.{Some, option_map}
use Rattle.line_log.specs.Log.{lines}
use Rattle.statements.specs.Reading.{text_lines}
use Rattle.book_log.specs.Sums.{CommitRead, commit_read, is_sum}
use Rattle.book_log.proofs.Commits.{line_read_on, sum_read, with_lines, with_more}
use Rattle.book_log.proofs.Splits.{some_line}
use Rattle.book_log.proofs.Taken.{lines_more}
use Rattle.book_log.proofs.sums.first_commit.Goals as goal

pub returns-then-is_sum-clause-parts : goal.returns-then-is_sum-clause-parts
returns-then-is_sum-clause-parts c =
    let so_far = c.loop-line.invariant in
    let line = c.in-Some.line.now in
    let others = c.in-Some.others.now in
    let rest_is : c.loop-line.rest.now ≡ (line ++ 10 ∷ []) ++ others = c.in-Some.ensures.parts ∙ sym (append_assoc line (10 ∷ []) others) in
    let are_lines = c.before-then-is_sum.ensures (lines so_far.each) so_far.parts in
    let is_stated = c.before-then-is_sum-2.ensures (line ++ 10 ∷ []) rest_is in
    so_far.parts ∙ ap (λ (t : List ℕ). lines so_far.each ++ t) rest_is ∙ sym (append_assoc (lines so_far.each) (line ++ 10 ∷ []) others)
    ∙ ap (λ (t : List ℕ). t ++ (line ++ 10 ∷ []) ++ others) (sym are_lines)
    ∙ ap (λ (t : List ℕ). c.before-then-is_sum.result.now ++ t ++ others) (sym is_stated)

pub returns-then-is_sum-clause-first : goal.returns-then-is_sum-clause-first
returns-then-is_sum-clause-first c =
    let so_far = c.loop-line.invariant in
    let line = c.in-Some.line.now in
    let others = c.in-Some.others.now in
    let is : is_sum line ≡ true = sym c.is_sum.ensures ∙ c.if-is_sum.true in
    record {
      each = so_far.each;
      sum = line;
      read = so_far.read
          ∙ ap (λ (ps : List (List ℕ)). option_map (with_lines so_far.each) (commit_read ps)) c.in-Some.ensures.first
          ∙ ap (option_map (with_lines so_far.each)) (sum_read line (text_lines others) (some_line others) is)
          ∙ ap (λ (ls : List (List ℕ)). let read : CommitRead = record { lines = ls; sum = line; rest = text_lines others } in Some read) (append-nil so_far.each);
      are_lines = c.before-then-is_sum.ensures (lines so_far.each) so_far.parts;
      is_stated = c.before-then-is_sum-2.ensures (line ++ 10 ∷ []) (c.in-Some.ensures.parts ∙ sym (append_assoc line (10 ∷ []) others));
      one_line = c.in-Some.ensures.line;
      marked = is;
    }

pub loop-line-preserved : goal.loop-line-preserved
loop-line-preserved c =
    let so_far = c.loop-line.invariant in
    let line = c.in-Some.line.now in
    let others = c.in-Some.others.now in
    let other : is_sum line ≡ false = sym c.is_sum.ensures ∙ c.if-is_sum.false in
    record {
      each = so_far.each ++ line ∷ [];
      parts = so_far.parts ∙ ap (λ (t : List ℕ). lines so_far.each ++ t) c.in-Some.ensures.parts ∙ sym (lines_more so_far.each line others);
      read = so_far.read
          ∙ ap (λ (ps : List (List ℕ)). option_map (with_lines so_far.each) (commit_read ps)) c.in-Some.ensures.first
          ∙ ap (option_map (with_lines so_far.each)) (line_read_on line (text_lines others) (some_line others) other)
          ∙ with_more so_far.each line (commit_read (text_lines others));
    }
