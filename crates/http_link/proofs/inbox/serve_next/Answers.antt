use Rattle.std.proofs.Common.{rules, ◌≡◌, ◌⊎◌, ◌∙◌, List, ℕ, ap, subst, take}
use Rattle.http_link.specs.Connections.{AreTooFew}
use Rattle.http_link.specs.Counts.{MadeAll, MadeMore}
use Rattle.http_link.specs.Limits.{max_turns}
use Rattle.http_link.proofs.Counting.{spent_whole}
use Rattle.http_link.proofs.inbox.serve_next.Goals as goal

pub returns-clause-at_once : goal.returns-clause-at_once
returns-clause-at_once g c =
    let tenant_of = g.S.Service.tenant_of c.args.service.now in
    let to = c.move_to_front.new.held.to in
    let bytes : take to c.new-stream.result.room.now ≡ c.args.inbox.now =
    ap (take to) c.new-stream.ensures.room.1 ∙ c.move_to_front.ensures.same ∙ c.inbox.view_is in
    let once : (c.serve_held-result.new.stream.reader.now ≡ c.args.r.now) ⊎ AreTooFew tenant_of c.args.inbox.now =
    subst (λ (w : List ℕ). (c.serve_held-result.new.stream.reader.now ≡ c.args.r.now) ⊎ AreTooFew tenant_of w) bytes
    (subst (λ r. (c.serve_held-result.new.stream.reader.now ≡ r) ⊎ AreTooFew tenant_of (take to c.new-stream.result.room.now)) c.new-stream.ensures.reader.1 c.serve_held-result.ensures.at_once) in
    subst (λ r. (r ≡ c.args.r.now) ⊎ AreTooFew tenant_of c.args.inbox.now) (search rules) once

pub returns-clause-turns : goal.returns-clause-turns
returns-clause-turns g c told =
    let made : MadeMore g.R.Source.was_read c.args.r.now c.serve_held-result.new.stream.reader.now max_turns ⊎ MadeAll g.W.Sink.was_written c.args.w.now c.serve_held-result.new.w =
    spent_whole g.R.Source.was_read c.args.r.now c.serve_held-result.new.stream.reader.now max_turns c.serve_held-result.new.stream.turns (search rules) (c.serve_held-result.ensures.reports.turns told) in
    subst (λ r. MadeMore g.R.Source.was_read c.args.r.now r max_turns ⊎ MadeAll g.W.Sink.was_written c.args.w.now c.serve_held-result.new.w) (search rules) made
