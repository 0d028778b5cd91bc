use Rattle.std.proofs.Common.{◌≡◌, nat_lt, true, refl, rules, tests}
use Rattle.service.specs.Answering.{WasCarried}
use Rattle.service.proofs.Asked.{packet_answered}
use Rattle.service.proofs.worker.WorkerService.ilp.Goals as goal

pub returns : goal.returns
returns g c =
    let there : nat_lt c.args.tenant c.args.self.now.office.now.books.tenants ≡ true = search (rules, tests) in
    let h = c.carry.ensures.carried in
    let carried : WasCarried (g.C.Clock.gives c.system-system.result.clock.now) c.args.self.now.office.now c.args.self.now.desk c.args.tenant c.args.token.now c.args.body.now c.carry.result c.carry.new.self = record {
      reply = h.reply;
      status = h.status;
      nameless = h.nameless;
      malformed = h.malformed;
      spent = h.spent;
      memory = h.memory;
      sure = h.sure;
      sent = h.sent;
      carried = h.carried;
      metered = h.metered;
    } in (
      refl,
      refl,
      packet_answered g.C.Clock.gives c.system-system.result.clock.now c.args.self.now.clock.now c.args.self.now.office.now c.args.self.now.desk c.carry.new.self c.tidy.new.self
          c.args.tenant c.args.token.now c.args.body.now c.code-self-2.result c.carry.result c.system-system.ensures c.code-self-2.ensures there carried c.carry.ensures.told c.tidy.ensures.tidied c.tidy.ensures.told,
    )
