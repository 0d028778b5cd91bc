use Rattle.std.proofs.Common.{rules, ◌+◌}
use Rattle.replay_text.proofs.Known.{Appends-more}
use Rattle.replay_text.proofs.streams.write_text.Goals as goal

pub returns-in_err-done-clause-front : goal.returns-in_err-done-clause-front
returns-in_err-done-clause-front g c =
    let front = rw c.split_at.ensures.back at c.write_some.ensures.front in
    (c.loop-done.done + front.0, Appends-more _ _ _ c.args.text.now c.loop-done.done front.0 c.loop-done.invariant.written front.1)

pub loop-done-preserved : goal.loop-done-preserved
loop-done-preserved g c =
    record {
      written = Appends-more _ _ _ c.args.text.now c.loop-done.done c.in_ok-done.field-0 c.loop-done.invariant.written (rw c.split_at.ensures.back at c.in_ok-done.ensures.taken);
      bound = search rules;
      unfailed = search rules;
    }
