use Rattle.std.proofs.Common.{sym, ap, ◌∙◌, arith}
use Rattle.std.specs.Prelude.{option_map}
use Rattle.tenant_core.specs.Views.{record_of}
use Rattle.book_journal.proofs.Putting.{is_there, one_more}
use Rattle.book_journal.proofs.lines.put_lines.Goals.{in-Some+in_ok-put_line, in_default}
use Rattle.book_journal.proofs.lines.put_lines.Goals as goal

pub loop-place-preserved : goal.loop-place-preserved
loop-place-preserved c = elim c.match-get.branch [
  | in-Some+in_ok-put_line w ↦ record {
    end = c.loop-place.invariant.end;
    put = one_more _ c.loop-place.out.items c.match-get.out.items c.loop-place.place c.args.journal.now.records (record_of w.in-Some.view)
        (sym c.get.ensures.value ∙ ap (option_map record_of) w.in-Some.is) c.loop-place.invariant.put
        (ap (λ v. v.items) w.out-is ∙ w.in_ok-put_line.ensures);
  }
  | in_default w ↦ absurd (is_there c.args.journal.now.records c.loop-place.place.number (omega (arith, c.loop-place-test.true, c.loop-place.invariant.end))
      (sym (ap (option_map record_of) w.in_default.is) ∙ c.get.ensures.value))
]
