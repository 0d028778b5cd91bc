use Rattle.std.proofs.Common.{rules, arith, refl, inr}
use Rattle.http_link.proofs.Connections.{cut_there, found_asks, found_next, none_found, none_there, partial_found}
use Rattle.std.proofs.KnownBytes.{Appends-nil}
use Rattle.http_link.proofs.inbox.serve_held.Goals as goal

pub returns-in-Whole-clause-serves : goal.returns-in-Whole-clause-serves
returns-in-Whole-clause-serves g c =
    found_next c.serve_found.result (g.S.Service.tenant_of c.args.service.now) _ _ _ _ c.find_head.new.stream.room.now c.find_head.new.stream.held.to c.find_head.new.lines c.in-Whole.spans _ (omega arith) (rw c.in-Whole.is at c.in_ok-find_head.ensures.found) c.serve_found.ensures.runs

pub returns-in-Malformed-clause-serves : goal.returns-in-Malformed-clause-serves
returns-in-Malformed-clause-serves g c =
    none_found c.refuse.result (g.S.Service.tenant_of c.args.service.now) _ _ _ _ c.find_head.new.lines _ (omega arith) (rw c.in-Malformed.is at c.in_ok-find_head.ensures.found) refl c.refuse.ensures.refused

pub returns-in-Whole-clause-asks : goal.returns-in-Whole-clause-asks
returns-in-Whole-clause-asks g c =
    found_asks (g.S.Service.tenant_of c.args.service.now) _ _ _ _ c.find_head.new.stream.room.now c.find_head.new.stream.held.to c.find_head.new.lines c.in-Whole.spans _ _ (omega arith) (rw c.in-Whole.is at c.in_ok-find_head.ensures.found) c.serve_found.ensures.asks

pub returns-in-Partial-clause-serves : goal.returns-in-Partial-clause-serves
returns-in-Partial-clause-serves g c =
    partial_found (g.S.Service.tenant_of c.args.service.now) _ _ _ _ c.find_head.new.lines _ (omega arith) (rw c.in-Partial.is at c.in_ok-find_head.ensures.found) refl (Appends-nil (g.W.Write.contents c.args.w.now))

pub returns-in-Malformed-clause-reports : goal.returns-in-Malformed-clause-reports
returns-in-Malformed-clause-reports g c = record {
  continues = search rules;
  read = search rules;
  write = search rules;
  turns = λ fault. inr (c.refuse.ensures.told.turns fault);
}

pub returns-in_err-find_head-clause-at_once : goal.returns-in_err-find_head-clause-at_once
returns-in_err-find_head-clause-at_once g c = none_there _ _ (g.S.Service.tenant_of c.args.service.now) _ _ _ (omega arith) c.find_head.ensures.at_once

pub returns-in-Partial-clause-at_once : goal.returns-in-Partial-clause-at_once
returns-in-Partial-clause-at_once g c = none_there _ _ (g.S.Service.tenant_of c.args.service.now) _ _ _ (omega arith) c.find_head.ensures.at_once

pub returns-in-Malformed-clause-at_once : goal.returns-in-Malformed-clause-at_once
returns-in-Malformed-clause-at_once g c = none_there _ _ (g.S.Service.tenant_of c.args.service.now) _ _ _ (omega arith) c.find_head.ensures.at_once

pub returns-in-Whole-clause-at_once : goal.returns-in-Whole-clause-at_once
returns-in-Whole-clause-at_once g c =
    cut_there c.args.stream.now.reader.now c.find_head.new.stream.reader.now c.serve_found.new.stream.reader.now (g.S.Service.tenant_of c.args.service.now) _ _ _ c.find_head.new.stream.room.now c.find_head.new.stream.held.to c.find_head.new.lines c.in-Whole.spans (omega arith) (rw c.in-Whole.is at c.in_ok-find_head.ensures.found) c.find_head.ensures.at_once
    c.serve_found.ensures.at_once
