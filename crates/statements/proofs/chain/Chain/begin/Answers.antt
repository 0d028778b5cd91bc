use Rattle.std.proofs.Common.{List, map, ap, ◌∙◌}
use Rattle.tenant_core.specs.declared.peer.Peer.{Peer}
use Rattle.statements.specs.Chain.{due_behind}
use Rattle.statements.specs.Due.{due_after, opening_due, peers_of, start_at}
use Rattle.statements.specs.Line.{line_anew}
use Rattle.statements.specs.Summary.{chain_lines}
use Rattle.statements.specs.declared.chain.Chain.{Chain}
use Rattle.statements.specs.declared.due.Due.{Due}
use Rattle.statements.specs.declared.due.Due.TheVariants.{Anything, Setup}
use Rattle.statements.specs.declared.line.Line.{Line}
use Rattle.statements.proofs.ChainSteps.{chain_begun}
use Rattle.statements.proofs.SummarySteps.{lines_are}
use Rattle.statements.proofs.chain.Chain.begin.Goals as goal

pub returns-in-Ok-clause-chain : goal.returns-in-Ok-clause-chain
returns-in-Ok-clause-chain c = λ links chain.
    let before : Chain = c.args.self.now in
    let others : List Peer = c.args.setup.now.network.peers in
    let past = c.in-Ok.ensures.past in
    chain_begun links before _ (start_at c.args.place c.args.setup.now c.args.start)
    (c.in_ok-is_continued.ensures.is c.args.place c.args.start c.if-not-branch.false)
    (ap Setup c.in_ok-opening.ensures) past.0 past.1
    (λ is. past.2
    ∙ (ap (λ (d : Due). map (line_anew (peers_of (opening_due d)) others) (chain_lines before)) is.due
    ∙ ap (λ (ls : List Line). map (line_anew (peers_of (opening_due (due_after (due_behind Anything is.done) is.periods))) others) ls) (lines_are links before is)))
    c.new.ensures chain
