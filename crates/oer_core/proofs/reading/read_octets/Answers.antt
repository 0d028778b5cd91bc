use Rattle.std.proofs.Common.{◌∙◌, ap, List, ℕ}
use Rattle.oer_core.specs.Length.{octets_at}
use Rattle.oer_core.proofs.Results.{if_ok_seen, ok_and_seen}
use Rattle.oer_core.proofs.Octets.{octets_take, octets_again}
use Rattle.oer_core.proofs.reading.read_octets.Goals as goal

pub returns-clause-found : goal.returns-clause-found
returns-clause-found c = if_ok_seen {Y = List ℕ × List ℕ} (λ r. (r.0.now, r.1.now)) c.octets_of.result (octets_at c.args.limit c.args.bytes.now) _ c.octets_of.ensures
    (λ r e. octets_take c.args.limit c.args.bytes.now r.0.now r.1.now e)

pub returns-clause-only : goal.returns-clause-only
returns-clause-only c = λ front text rest s l e. ok_and_seen {Y = List ℕ × List ℕ} (λ r. (r.0.now, r.1.now)) c.octets_of.result (octets_at c.args.limit c.args.bytes.now)
    (text, rest) _ c.octets_of.ensures (ap (octets_at c.args.limit) e ∙ octets_again c.args.limit front text rest s l)
    (λ r is. (ap (λ (p : List ℕ × List ℕ). p.0) is, ap (λ (p : List ℕ × List ℕ). p.1) is))
