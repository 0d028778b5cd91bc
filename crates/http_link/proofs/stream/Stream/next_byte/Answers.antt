use Rattle.std.proofs.Common.{rules, [], sym, subst, arith}
use Rattle.http_link.specs.BodyReading.{TakesEveryByte}
use Rattle.http_link.specs.Running.{held_in}
use Rattle.http_link.specs.StreamCalls.{held_of, to_come}
use Rattle.http_link.specs.declared.held.Held.{Held}
use Rattle.http_link.proofs.Takes.{front_kept, over_now, refilled, took_held}
use Rattle.http_link.proofs.stream.Stream.next_byte.Goals as goal

pub returns-then-from-to-clause-taken : goal.returns-then-from-to-clause-taken
returns-then-from-to-clause-taken g c = took_held _ c.args.self.now.room.now c.args.self.now.held c.if-from-to.true c.args.self.now.lies.2

pub returns-then-n-eq0-clause-kept : goal.returns-then-n-eq0-clause-kept
returns-then-n-eq0-clause-kept g c = let lies = c.args.self.now.lies in (search rules, front_kept _ _ _ _ _ _ c.in_ok-n.n c.in_ok-n.ensures.came (omega arith))

pub returns-then-n-eq0-clause-taken : goal.returns-then-n-eq0-clause-taken
returns-then-n-eq0-clause-taken g c =
    let lies = c.args.self.now.lies in
    subst (λ (h : Held). TakesEveryByte (held_of c.args.self.now) (to_come c.args.self.now) (to_come c.fetch.new.self) [] (held_in c.fetch.new.self.room.now h)) (sym c.fetch.ensures.same.1)
    (over_now _ _ c.args.self.now.done c.limit.result c.args.self.now.room.now c.fetch.new.self.room.now c.args.self.now.held c.in_ok-n.n (omega arith) (omega arith) c.in_ok-n.ensures.came (omega arith))

pub returns-clause-kept : goal.returns-clause-kept
returns-clause-kept g c = let lies = c.args.self.now.lies in (search rules, front_kept _ _ _ _ _ _ c.in_ok-n.n c.in_ok-n.ensures.came (omega arith))

pub returns-clause-taken : goal.returns-clause-taken
returns-clause-taken g c =
    let lies = c.args.self.now.lies in
    refilled _ _ c.args.self.now.done c.limit.result c.args.self.now.room.now c.fetch.new.self.room.now c.args.self.now.held c.in_ok-n.n (omega arith) (omega arith) c.in_ok-n.ensures.came (omega arith) (omega arith)
