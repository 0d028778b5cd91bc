use Rattle.std.proofs.Common.{◌≡◌, ◌++◌, take, subst, arith, rules}
use Rattle.http_link.proofs.Known.{more_came}
use Rattle.http_link.proofs.stream.Stream.read_on.Goals as goal

pub returns-then-n-eq0-clause-filled : goal.returns-then-n-eq0-clause-filled
returns-then-n-eq0-clause-filled g c =
    let read = c.in_ok-n.ensures.came in
    let before = c.loop-there.invariant.came in
    let fits = c.loop-there.invariant.bound in
    let came = more_came _ _ _ _ _ _ read.2.0 c.args.needed c.loop-there.there c.in_ok-n.n before read.2.1 read.2.2 read.0 (omega arith) in
    record {
      came = came.0;
      grew = subst (λ m. take m c.fetch.new.self.room.now ≡ take c.args.had c.args.self.now.room.now ++ came.0) (omega arith) came.1;
      taken = came.2;
      missing = came.3;
      bound = omega arith;
      ended = λ lt. read.1 (omega arith);
    }

pub loop-there-preserved : goal.loop-there-preserved
loop-there-preserved g c =
    let read = c.in_ok-n.ensures.came in
    let fits = c.loop-there.invariant.bound in
    record {
      came = more_came _ _ _ _ _ _ read.2.0 c.args.needed c.loop-there.there c.in_ok-n.n c.loop-there.invariant.came read.2.1 read.2.2 read.0 (omega arith);
      from = omega arith;
      at_once = λ enough. absurd (omega arith);
      bound = omega arith;
      done = search rules;
      held = search rules;
      failures = search rules;
      continues = search rules;
    }
