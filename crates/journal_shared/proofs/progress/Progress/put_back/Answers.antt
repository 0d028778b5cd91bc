use Rattle.std.proofs.Common.{List, ◌∙◌, ap, ◌++◌}
use Rattle.book_log.specs.declared.line.LinePlace.{LinePlace}
use Rattle.journal_shared.proofs.progress.Progress.put_back.Goals as goal

pub invariant_of-self : goal.invariant_of-self
invariant_of-self g c = record {
  ready = c.requires.ready;
  on_disk = λ sound. (
    c.requires.ready.fronts,
    (c.args.pen.writer, c.requires.ready.written),
    c.in-Ok.ensures.items ∙ (ap (λ (before : List LinePlace). before ++ c.deref.result.now) c.clear.ensures.items ∙ (c.deref.ensures.value ∙ c.requires.ready.places)),
  );
}

pub invariant_of-self-in-Ok-2 : goal.invariant_of-self-in-Ok-2
invariant_of-self-in-Ok-2 g c = record {
  ready = c.requires.ready;
  on_disk = λ sound. (
    c.requires.ready.fronts,
    (c.args.pen.writer, c.requires.ready.written),
    c.in-Ok.ensures.items ∙ (ap (λ (before : List LinePlace). before ++ c.deref.result.now) c.clear.ensures.items ∙ (c.deref.ensures.value ∙ c.requires.ready.places)),
  );
}
