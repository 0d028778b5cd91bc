use Rattle.std.proofs.Common.{◌≡◌, ◌≤◌, ◌-◌, rules, ap, subst, ◌∙◌}
use Rattle.rate_bucket.specs.Bucket.{packet}
use Rattle.rate_bucket.specs.Running.{Level, IsLevelOf, credit_by, with_packet}
use Rattle.rate_bucket.proofs.Running.{admits}
use Rattle.rate_bucket.proofs.bucket.Bucket.admit.Goals as goal

pub returns-clause-stretch : goal.returns-clause-stretch
returns-clause-stretch c b is =
    let old = c.args.self.now in
    let credit : c.credit-credit.result ≡ credit_by old c.args.now
    = c.credit-credit.ensures.level ∙ ap (λ l. credit_by l c.args.now) c.self.view_is in
    let both = admits b old c.args.now is c.requires (subst (λ n. packet ≤ n) credit c.if-credit-lt-PACKET.false) in
    let shown : Level = record {
      burst = c.self.inside.burst;
      per_second = c.self.inside.per_second;
      clock = c.args.now;
      credit = c.credit-credit.result - packet;
    } in
    let same : record { burst = old.burst; per_second = old.per_second; clock = c.args.now; credit = credit_by old c.args.now - packet } ≡ shown
    = search (rules, credit) in
    (both.0, subst (λ v. IsLevelOf (with_packet c.args.now b) v) same both.1)
