use Rattle.std.proofs.Common.{rules, ◌+◌, arith}
use Rattle.http_link.specs.Limits.{max_turns}
use Rattle.http_link.proofs.Known.{Appends-more}
use Rattle.http_link.proofs.Counting.{spent_all}
use Rattle.http_link.proofs.streams.write_all.Goals as goal

pub returns-in_err-done-clause-front : goal.returns-in_err-done-clause-front
returns-in_err-done-clause-front g c =
    let front = rw c.split_at.ensures.back at c.write_some.ensures.front in
    (c.loop-done.done + front.0, Appends-more _ _ _ c.args.bytes.now c.loop-done.done front.0 c.loop-done.invariant.written front.1)

pub loop-done-preserved : goal.loop-done-preserved
loop-done-preserved g c =
    let taken = rw c.split_at.ensures.back at c.in_ok-done.ensures.taken in
    record {
      written = Appends-more _ _ _ c.args.bytes.now c.loop-done.done c.in_ok-done.field-0 c.loop-done.invariant.written taken.1;
      bound = search rules;
      unfailed = search rules;
      kept = search rules;
      made = search rules;
    }

pub returns-then-turns-eq0-clause-told : goal.returns-then-turns-eq0-clause-told
returns-then-turns-eq0-clause-told g c = record {
  write = search rules;
  read = search rules;
  turns = λ told. spent_all g.W.Sink.was_written c.args.w.now c.loop-done.w max_turns c.loop-done.turns c.loop-done.invariant.made (omega arith);
}
