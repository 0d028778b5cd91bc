use Rattle.std.proofs.Common.{ℕ, ◌≡◌, ◌<◌, ◌+◌, ◌-◌, ◌++◌, List, length, get_or, set, ap, rules, subst, sym}
use Rattle.one_list.specs.Steps.{WorkerView}
use Rattle.one_list.specs.declared.step.Done.{Done}
use Rattle.books_shared.specs.ShareKept.{AreTallied, IsLedgerOf}
use Rattle.books_shared.specs.Tracing.{steps_appended}
use Rattle.books_shared.proofs.Counted.{known_more}
use Rattle.books_shared.proofs.Keeping.{kept_more, tally_more}
use Rattle.books_shared.proofs.share.Share.add.Goals as goal

pub invariant_of-self : goal.invariant_of-self
invariant_of-self g c =
    let counts : List ℕ = c.self.inside.counts in
    let inside : c.args.tenant.now.number < length counts = search rules in
    let told : List Done = steps_appended c.args.rise.entries c.self.inside.part.number c.args.tenant.now.number c.args.period c.args.journal.now.records in
    let steps_after : c.self.inside.part.steps ++ told ≡ c.tell.new.worker.steps = sym (ap (λ (p : WorkerView). p.steps) c.tell.ensures.worker) in
    record {
      roomy = search rules;
      known = known_more c.self.inside.counts c.self.inside.strangers c.self.inside.full c.number-number.result c.args.rise.entries c.args.rise.strangers
          c.args.rise.full c.self.inside.spent c.has_full.result (search rules) (search rules) (search rules) c.self.invariant.known c.has_full.ensures;
      tallied = subst (λ (n : ℕ). AreTallied (set counts n (get_or counts n 0 + c.args.rise.entries)) c.tell.new.worker.steps)
          (sym c.number-number.ensures.value)
          (subst (λ (steps : List Done). AreTallied (set counts c.args.tenant.now.number (get_or counts c.args.tenant.now.number 0 + c.args.rise.entries)) steps)
          steps_after
          (tally_more counts c.self.inside.part.steps c.args.rise.entries c.self.inside.part.number c.args.tenant.now.number c.args.period c.args.journal.now.records
          c.self.invariant.tallied inside c.requires.small.entries c.requires.appended));
      kept = subst (λ (steps : List Done). IsLedgerOf c.tell.new.ledger steps (c.self.inside.room - 1)) steps_after
          (kept_more c.self.inside.ledger c.tell.new.ledger c.self.inside.part.steps told c.self.inside.room c.self.invariant.kept
          c.tell.ensures.ledger);
    }
