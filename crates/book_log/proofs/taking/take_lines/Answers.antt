use Rattle.std.proofs.Common.{List, ℕ, [], ◌∷◌, ◌++◌, ◌∙◌, ap, refl, subst, sym, arith}
use Rattle.std.proofs.lemmas.Grind.{common_steps}
use Rattle.line_log.specs.Log.{lines}
use Rattle.tenant_core.specs.State.{State}
use Rattle.book_log.specs.Faults.{feeds}
use Rattle.book_log.specs.Written.{AreWritten}
use Rattle.book_log.proofs.Stops.{feeds_both, fewer, none_next, other_next}
use Rattle.book_log.proofs.Taken.{lines_more, no_text, none_match, some_text, taken_more}
use Rattle.book_log.proofs.WrittenTexts.{next_line, no_next_line, none_left}
use Rattle.book_log.proofs.taking.take_lines.Goals as goal

pub loop-rest-preserved : goal.loop-rest-preserved
loop-rest-preserved c =
    let so_far = c.loop-rest.invariant.0 in
    let line = c.in-Some.line.now in (
      record {
        each = so_far.each ++ line ∷ [];
        parts = so_far.parts
            ∙ ap (λ (t : List ℕ). lines so_far.each ++ t) c.in-Some.ensures.parts
            ∙ sym (lines_more so_far.each line c.in-Some.others.now);
        taken = taken_more so_far.each line c.args.books.now c.loop-rest.books c.take_line.new.books so_far.taken (c.in_ok-take_line.ensures.taken c.if-not-branch.false);
      },
      (
        c.in_ok-take_line.ensures.as_many ∙ c.loop-rest.invariant.1.0,
        grind (arith, common_steps, c.loop-rest.invariant.1.1, fewer c.loop-rest.rest.now c.in-Some.others.now line c.in-Some.ensures.first),
      ),
      λ each after is written.
          let left = c.loop-rest.invariant.2 each after is written in
          let next = next_line c.lines_are_read_back.ensures left.0 c.loop-rest.rest.now line c.in-Some.others.now c.loop-rest.books after left.1
          c.in-Some.ensures.first c.in-Some.ensures.shorter left.2 in
          let same = (c.in_ok-take_line.ensures.written next.between next.is_written).1 in
          (next.rest, next.others_are, subst (λ (s : List State). AreWritten next.rest s after) (sym same) next.are_written),
    )

pub returns-in_default-clause-written : goal.returns-in_default-clause-written
returns-in_default-clause-written c each after is written =
    let left = c.loop-rest.invariant.2 each after is written in
    let none = none_match c.first_line.result _ _ c.in_default.not-Some c.first_line.ensures.first in
    absurd (no_next_line c.lines_are_read_back.ensures left.0 c.loop-rest.rest.now c.loop-rest.books after left.1 none
    (some_text c.loop-rest.rest.now c.is_empty.result c.is_empty.ensures c.loop-rest-test.true) left.2)

pub returns-then-not-branch-clause-written : goal.returns-then-not-branch-clause-written
returns-then-not-branch-clause-written c each after is written =
    let left = c.loop-rest.invariant.2 each after is written in
    let next = next_line c.lines_are_read_back.ensures left.0 c.loop-rest.rest.now c.in-Some.line.now c.in-Some.others.now c.loop-rest.books after left.1
    c.in-Some.ensures.first c.in-Some.ensures.shorter left.2 in
    let taken = (c.in_ok-take_line.ensures.written next.between next.is_written).0 in
    absurd (cc (taken, c.if-not-branch.true))

pub returns-clause-written : goal.returns-clause-written
returns-clause-written c each after is written =
    let left = c.loop-rest.invariant.2 each after is written in
    let none = no_text c.loop-rest.rest.now c.is_empty.result c.is_empty.ensures c.loop-rest-test.false in
    (refl, none_left left.0 c.loop-rest.rest.now c.loop-rest.books after left.1 none left.2)

pub returns-in_default-clause-stops : goal.returns-in_default-clause-stops
returns-in_default-clause-stops c =
    let so_far = c.loop-rest.invariant.0 in
    let rest = c.loop-rest.rest.now in
    let none = none_match c.first_line.result _ _ c.in_default.not-Some c.first_line.ensures.first in
    let some = some_text rest c.is_empty.result c.is_empty.ensures c.loop-rest-test.true in
    record {
      each = so_far.each;
      rest = rest;
      now = c.loop-rest.books;
      parts = so_far.parts;
      taken = so_far.taken;
      number_is = omega (arith, c.loop-rest.invariant.1.1, ap feeds so_far.parts, feeds_both (lines so_far.each) rest);
      some = some;
      stops = none_next c.lines_are_read_back.ensures rest c.loop-rest.books some none;
    }

pub returns-then-not-branch-clause-stops : goal.returns-then-not-branch-clause-stops
returns-then-not-branch-clause-stops c =
    let so_far = c.loop-rest.invariant.0 in
    let rest = c.loop-rest.rest.now in
    let line = c.in-Some.line.now in
    let some = some_text rest c.is_empty.result c.is_empty.ensures c.loop-rest-test.true in
    record {
      each = so_far.each;
      rest = rest;
      now = c.loop-rest.books;
      parts = so_far.parts;
      taken = so_far.taken;
      number_is = omega (arith, c.loop-rest.invariant.1.1, ap feeds so_far.parts, feeds_both (lines so_far.each) rest);
      some = some;
      stops = λ more last. other_next c.lines_are_read_back.ensures rest line c.in-Some.others.now c.loop-rest.books some
          c.in-Some.ensures.parts c.in-Some.ensures.line
          (λ after written. absurd (cc ((c.in_ok-take_line.ensures.written after written).0, c.if-not-branch.true))) more;
    }
