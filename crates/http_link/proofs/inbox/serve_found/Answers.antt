use Rattle.std.proofs.Common.{rules, ◌≡◌, ◌+◌, List, ℕ, take, drop, Some, IfOk, ap, sym, subst}
use Rattle.http_link.specs.Lines.{head_in}
use Rattle.std.specs.Io.KnownBytes.{Appends}
use Rattle.http_link.specs.Heads.{Head}
use Rattle.http_link.specs.Requests.{wanted_of}
use Rattle.http_link.specs.Running.{RunsOnHead}
use Rattle.http_link.specs.StreamCalls.{to_come}
use Rattle.http_link.proofs.Rooms.{held_behind, left_in_back}
use Rattle.http_link.proofs.Serving.{told_asks, told_cut, told_runs}
use Rattle.http_link.proofs.inbox.serve_found.Goals as goal

pub returns-clause-runs : goal.returns-clause-runs
returns-clause-runs g c =
    let len = c.args.parsed.spans.len in
    let head : Head = head_in (take len c.args.stream.now.room.now) c.args.parsed.lines.now c.args.parsed.spans in
    let from = c.serve_head-result.new.stream.held.from in
    let to = c.serve_head-result.new.stream.held.to in
    subst
    (λ (room : List ℕ). IfOk c.serve_head-result.result (RunsOnHead (wanted_of (g.S.Service.tenant_of c.args.service.now) head) head
    (drop len (take c.args.stream.now.held.to c.args.stream.now.room.now)) (to_come c.args.stream.now) (to_come c.serve_head-result.new.stream) (record {
      Unasked = c.serve_head-result.new.service ≡ c.args.service.now;
      Asks = λ question. g.S.Service.asks c.args.service.now question c.serve_head-result.new.service;
      answer = g.S.Service.answer c.serve_head-result.new.service;
      left = Some (drop (len + from) (take (len + to) room));
      Writes = λ text. Appends (g.W.Write.contents c.args.w.now) (g.W.Write.contents c.serve_head-result.new.w) text;
    })))
    (search rules)
    (told_runs c.serve_head-result.result (g.S.Service.tenant_of c.args.service.now) _ _ _ _ _ _ _ _ _ _ _ _ (ap (λ (t : List ℕ). head_in t c.args.parsed.lines.now c.args.parsed.spans) c.split_at_mut-text.ensures.front)
    (left_in_back c.args.stream.now.room.now c.split_at_mut-text.result.1.now c.args.parsed.spans.len c.args.stream.now.held.to c.requires.there c.split_at_mut-text.ensures.back)
    (sym (held_behind c.split_at_mut-text.result.0.now c.serve_head-result.new.stream.room.now c.args.parsed.spans.len c.serve_head-result.new.stream.held.from c.serve_head-result.new.stream.held.to c.split_at_mut-text.ensures.front_len))
    c.serve_head-result.ensures.runs)

pub returns-clause-asks : goal.returns-clause-asks
returns-clause-asks g c =
    told_asks (g.S.Service.tenant_of c.args.service.now) _ _ _ _ _ _ _ _ (ap (λ (t : List ℕ). head_in t c.args.parsed.lines.now c.args.parsed.spans) c.split_at_mut-text.ensures.front)
    (left_in_back c.args.stream.now.room.now c.split_at_mut-text.result.1.now c.args.parsed.spans.len c.args.stream.now.held.to c.requires.there c.split_at_mut-text.ensures.back) c.serve_head-result.ensures.asks

pub returns-clause-at_once : goal.returns-clause-at_once
returns-clause-at_once g c =
    told_cut _ _ (g.S.Service.tenant_of c.args.service.now) _ _ _ _ (ap (λ (t : List ℕ). head_in t c.args.parsed.lines.now c.args.parsed.spans) c.split_at_mut-text.ensures.front)
    (left_in_back c.args.stream.now.room.now c.split_at_mut-text.result.1.now c.args.parsed.spans.len c.args.stream.now.held.to c.requires.there c.split_at_mut-text.ensures.back) c.serve_head-result.ensures.at_once
