use Rattle.std.proofs.Common.{◌≡◌, List, ℕ, ◌++◌, map, ◌∙◌, ap, sym, subst, Option, arith, [], append-nil, append_assoc, refl}
use Rattle.std.specs.Prelude.{IfSome}
use Rattle.std.proofs.lemmas.Grind.{common_steps}
use Rattle.line_log.specs.Log.{all_of, lines}
use Rattle.sha2.specs.Sha256.{sha256}
use Rattle.book_log.specs.Faults.{StopsAt, feeds}
use Rattle.book_log.specs.Sums.{sum_line, summed}
use Rattle.book_log.specs.Written.{IsTextWritten}
use Rattle.book_log.proofs.Stops.{feeds_both, record_wrong, stops_at_line, sum_fed, sum_wrong}
use Rattle.book_log.proofs.Taken.{commits_more, none_of, some_is, taken_both}
use Rattle.book_log.proofs.WrittenTexts.{after_commit, first_written, last_written}
use Rattle.book_log.proofs.taking.take_text.Goals as goal

pub loop-commit-preserved : goal.loop-commit-preserved
loop-commit-preserved c =
    let took = c.in_ok-at.ensures.taken (none_of c.in_ok-at.field-0 c.in_default-2.not-Some) in
    let now = c.in-Some.commit in
    let stated = subst (λ (o : Option (List ℕ)). IfSome o (λ s. (s ≡ sha256 (c.loop-commit.sum ++ now.lines.now)) × (now.stated.now ≡ sum_line s))) c.in-Some-3.is c.in_ok-next.ensures.stated in (
      commits_more c.args.first.now c.args.text.now c.loop-commit.rest.now c.loop-commit.sum c.args.books.now c.loop-commit.books c.loop-commit.invariant.0
          now.lines.now now.stated.now now.rest.now c.in-Some-3.next c.take_lines.new.books c.in-Some.ensures.parts took stated.0 stated.1,
      (
        c.in_ok-at.ensures.as_many ∙ c.loop-commit.invariant.1.0,
        grind (
          arith,
          common_steps,
          c.loop-commit.invariant.1.1,
          c.count_lines-lines.ensures,
          ap feeds c.in-Some.ensures.parts,
          feeds_both (now.lines.now ++ now.stated.now) now.rest.now,
          feeds_both now.lines.now now.stated.now,
          ap feeds stated.1,
          sum_fed c.in-Some-3.next,
        ),
      ),
      λ after written. subst (λ (s : List ℕ). IsTextWritten s now.rest.now c.take_lines.new.books after) (sym stated.0)
          (after_commit c.lines_are_read_back.ensures c.args.first.now c.args.text.now c.loop-commit.sum c.loop-commit.rest.now
          c.args.books.now c.loop-commit.books c.loop-commit.invariant.2 now.lines.now now.stated.now now.rest.now c.in-Some.ensures.first
          after written c.in_ok-at.field-0 c.take_lines.new.books c.in_ok-at.ensures.written),
    )

pub returns-clause-taken : goal.returns-clause-taken
returns-clause-taken c =
    let so_far = c.loop-commit.invariant.0 in
    let took = c.in_ok-at-2.ensures.taken c.in-None.is in
    record {
      commits = so_far.commits;
      others = took.each;
      written = so_far.parts ∙ ap (λ (t : List ℕ). summed c.args.first.now (map lines so_far.commits) ++ t) took.written;
      taken = taken_both (all_of so_far.commits) took.each c.args.books.now c.loop-commit.books c.take_lines-2.new.books so_far.taken took.taken;
    }

pub returns-in-Some-2-clause-refused : goal.returns-in-Some-2-clause-refused
returns-in-Some-2-clause-refused c u after written =
    let now = c.in-Some.commit in
    let one = first_written c.lines_are_read_back.ensures c.loop-commit.sum c.loop-commit.rest.now now.lines.now now.stated.now now.rest.now c.loop-commit.books after
    (c.loop-commit.invariant.2 after written) c.in-Some.ensures.first in
    absurd (cc (sym c.in-Some-2.is ∙ (c.in_ok-at.ensures.written one.each one.between one.are_lines one.are_written).0))

pub returns-in_default-3-clause-refused : goal.returns-in_default-3-clause-refused
returns-in_default-3-clause-refused c u after written =
    let now = c.in-Some.commit in
    let one = first_written c.lines_are_read_back.ensures c.loop-commit.sum c.loop-commit.rest.now now.lines.now now.stated.now now.rest.now c.loop-commit.books after
    (c.loop-commit.invariant.2 after written) c.in-Some.ensures.first in
    some_is c.in_ok-next.field-0 (c.in_ok-next.ensures.other one.is_stated) c.in_default-3.is

pub returns-in-Some-4-clause-refused : goal.returns-in-Some-4-clause-refused
returns-in-Some-4-clause-refused c u after written =
    let last = last_written c.lines_are_read_back.ensures c.loop-commit.sum c.loop-commit.rest.now c.loop-commit.books after
    (c.loop-commit.invariant.2 after written) c.in_default.ensures.first in
    absurd (cc (sym c.in-Some-4.is ∙ (c.in_ok-at-2.ensures.written last.0 after last.1 last.2).0))

pub returns-clause-written : goal.returns-clause-written
returns-clause-written c after written =
    let last = last_written c.lines_are_read_back.ensures c.loop-commit.sum c.loop-commit.rest.now c.loop-commit.books after
    (c.loop-commit.invariant.2 after written) c.in_default.ensures.first in
    (c.in_ok-at-2.ensures.written last.0 after last.1 last.2).1

pub returns-in-Some-2-clause-fault : goal.returns-in-Some-2-clause-fault
returns-in-Some-2-clause-fault c =
    let now = c.in-Some.commit in
    let at = c.in-Some-2.at in
    let stop : StopsAt now.lines.now c.loop-commit.books at =
    subst (λ (o : Option ℕ). IfSome o (StopsAt now.lines.now c.loop-commit.books)) c.in-Some-2.is c.in_ok-at.ensures.stops in
    record_wrong c.args.first.now c.args.text.now c.loop-commit.rest.now c.loop-commit.sum c.args.books.now c.loop-commit.books c.loop-commit.invariant.0
    now.lines.now (now.stated.now ++ now.rest.now) (c.in-Some.ensures.parts ∙ append_assoc now.lines.now now.stated.now now.rest.now) at stop
    (λ none. absurd (stops_at_line now.lines.now c.loop-commit.books at stop c.in-Some.ensures.first.each c.in-Some.ensures.first.are_lines none))
    _ (grind (arith, common_steps, c.loop-commit.invariant.1.1))

pub returns-in_default-3-clause-fault : goal.returns-in_default-3-clause-fault
returns-in_default-3-clause-fault c =
    let now = c.in-Some.commit in
    let took = c.in_ok-at.ensures.taken (none_of c.in_ok-at.field-0 c.in_default-2.not-Some) in
    sum_wrong c.args.first.now c.args.text.now c.loop-commit.rest.now c.loop-commit.sum c.args.books.now c.loop-commit.books c.loop-commit.invariant.0
    now.lines.now now.stated.now now.rest.now c.in-Some.ensures.parts c.in-Some.ensures.first c.take_lines.new.books took
    (λ same. some_is c.in_ok-next.field-0 (c.in_ok-next.ensures.other same) c.in_default-3.is)
    _ (grind (arith, common_steps, c.loop-commit.invariant.1.1, c.count_lines-lines.ensures))

pub returns-in-Some-4-clause-fault : goal.returns-in-Some-4-clause-fault
returns-in-Some-4-clause-fault c =
    let rest = c.loop-commit.rest.now in
    let at = c.in-Some-4.at in
    let stop : StopsAt rest c.loop-commit.books at =
    subst (λ (o : Option ℕ). IfSome o (StopsAt rest c.loop-commit.books)) c.in-Some-4.is c.in_ok-at-2.ensures.stops in
    record_wrong c.args.first.now c.args.text.now rest c.loop-commit.sum c.args.books.now c.loop-commit.books c.loop-commit.invariant.0
    rest [] (sym (append-nil rest)) at stop (λ none. refl) _ (grind (arith, common_steps, c.loop-commit.invariant.1.1))
