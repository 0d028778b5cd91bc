use Rattle.std.proofs.Common.{◌∙◌, ap, arith, List, ℕ}
use Rattle.oer_core.specs.Length.{number_at}
use Rattle.oer_core.proofs.Results.{if_ok_seen, ok_and_seen}
use Rattle.oer_core.proofs.Numbers.{number_takes, number_again}
use Rattle.oer_core.proofs.reading.read_u64.Goals as goal

pub returns-clause-found : goal.returns-clause-found
returns-clause-found c = if_ok_seen {Y = ℕ × List ℕ} (λ r. (r.0, r.1.now)) c.u64_of.result (number_at c.args.bytes.now) _ c.u64_of.ensures
    (λ r e. number_takes c.args.bytes.now r.0 r.1.now (λ i. omega (arith, c.type_inv.bytes i)) e)

pub returns-clause-only : goal.returns-clause-only
returns-clause-only c = λ n rest lt e. ok_and_seen {Y = ℕ × List ℕ} (λ r. (r.0, r.1.now)) c.u64_of.result (number_at c.args.bytes.now) (n, rest) _ c.u64_of.ensures
    (ap number_at e ∙ number_again n rest lt) (λ r is. (ap (λ (p : ℕ × List ℕ). p.0) is, ap (λ (p : ℕ × List ℕ). p.1) is))
