use Rattle.std.proofs.Common.{◌≡◌, true, nat_lt, refl, ap, subst, ℕ, Option, rules, tests}
use Rattle.std.specs.Prelude.{Ok}
use Rattle.http_link.specs.OperatorDoor.{operator_asking, operator_wanted_at}
use Rattle.workers.specs.declared.reply.Status.TheVariants.{Malformed}
use Rattle.service.specs.Operating.{IsCommanded}
use Rattle.service.specs.Served.{told_text}
use Rattle.service.proofs.Commanded.{commanded_so, reported_fault, reported_told}
use Rattle.service.proofs.operators.answering.Operators.command.Goals as goal

pub returns-in-Ok-clause-done : goal.returns-in-Ok-clause-done
returns-in-Ok-clause-done g c =
    let gives = g.C.Clock.gives c.args.self.now.clock.now in
    let office = c.args.self.now.office.now in
    let asked = operator_asking (operator_wanted_at c.args.wanted.now) c.args.body.now c.code.result in
    let after = c.ordered.new.self.desk in
    let there : nat_lt c.in-Some.tenant office.books.tenants ≡ true = search (rules, tests) in
    subst (λ (named : Option ℕ). IsCommanded gives office named c.args.self.now.desk asked (told_text after.told after.slot.reply after.printed.items) after) c.in-Some.ensures.value (
      commanded_so gives office _ c.args.self.now.desk after refl refl refl refl asked c.in-Some.tenant c.in-Ok.status there c.code.ensures c.in-Ok.ensures.told
          (c.in-Ok.ensures.ordered c.code.result),
      reported_told asked after c.in-Ok.status c.in-Ok.ensures.told c.code.ensures (λ is. c.in-Ok.ensures.well (ap Ok is)),
    )

pub returns-in-Err-clause-done : goal.returns-in-Err-clause-done
returns-in-Err-clause-done g c =
    let gives = g.C.Clock.gives c.args.self.now.clock.now in
    let office = c.args.self.now.office.now in
    let asked = operator_asking (operator_wanted_at c.args.wanted.now) c.args.body.now c.code-in-Err.result in
    let after = c.ordered.new.self.desk in
    let there : nat_lt c.in-Some.tenant office.books.tenants ≡ true = search (rules, tests) in
    subst (λ (named : Option ℕ). IsCommanded gives office named c.args.self.now.desk asked c.command_fault_line.result.now after) c.in-Some.ensures.value (
      commanded_so gives office _ c.args.self.now.desk after refl refl refl refl asked c.in-Some.tenant Malformed there c.code-in-Err.ensures c.in-Err.ensures.told
          (c.in-Err.ensures.ordered c.code-in-Err.result),
      reported_fault asked after c.in-Err.fault c.command_fault_line.result.now c.code-in-Err.ensures c.in-Err.ensures.fault c.command_fault_line.ensures,
    )
