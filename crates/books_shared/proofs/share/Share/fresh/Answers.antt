use Rattle.std.proofs.Common.{◌≡◌, ◌==◌, ap, arith, refl, subst, sym}
use Rattle.std.specs.Prelude.{count_by}
use Rattle.one_list.specs.Steps.{WorkerView}
use Rattle.books_shared.specs.ShareKept.{IsLedgerOf}
use Rattle.books_shared.proofs.Counted.{get_or-zeros}
use Rattle.books_shared.proofs.share.Share.fresh.Goals as goal

pub invariant_of-result : goal.invariant_of-result
invariant_of-result g c = record {
  roomy = record {
    counts = λ t. omega (arith, get_or-zeros 64 t);
    strangers = λ t. omega (arith, get_or-zeros 64 t);
    full = λ t. omega (arith, get_or-zeros 64 t);
  };
  known = refl;
  tallied = λ t lt. (
      let none : count_by (λ e. e.tenant == t) c.args.part.steps ≡ 0 =
      ap (λ (p : WorkerView). count_by (λ e. e.tenant == t) p.steps) c.requires in
      omega (arith, get_or-zeros 64 t, none));
  kept = subst (λ (p : WorkerView). IsLedgerOf c.new_ledger.result p.steps 0) (sym c.requires) c.new_ledger.ensures.none;
}
