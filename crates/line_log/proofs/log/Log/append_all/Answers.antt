use Rattle.std.proofs.Common.{◌≡◌, ◌++◌, inr, List, ℕ, length, take, get_or, sym, ◌∙◌, ap, subst, arith, rules, append_assoc}
use Rattle.std.proofs.lemmas.Option.{slice_get-get_or}
use Rattle.std.specs.Prelude.{IsErrOf}
use Rattle.line_log.specs.Log.{all_of, recovered, lines, IsFullAt, IsWithSome, LogState}
use Rattle.line_log.specs.declared.log.LogError.TheVariants.{Full}
use Rattle.line_log.proofs.Runs.{then, all_more, some_of_all}
use Rattle.line_log.proofs.log.Log.append_all.Goals as goal

pub returns-in_err-append-clause-any_moment : goal.returns-in_err-append-clause-any_moment
returns-in_err-append-clause-any_moment g c sound =
    let before = recovered (g.D.LogFile.seen c.args.self.now.file) in
    let batches = c.args.batches.now in
    let batch : recovered c.as_bytes.result.now ≡ get_or batches c.loop-batch.batch-index c.batch-item.result = c.as_bytes.ensures.records ∙ c.batch-item.is in
    then g.D.LogFile.moment g.D.LogFile.left_since c.args.self.now.file c.loop-batch.self.file c.append.new.self.file (IsWithSome before (all_of batches))
    (IsWithSome (recovered (g.D.LogFile.seen c.loop-batch.self.file)) (recovered c.as_bytes.result.now))
    c.loop-batch.invariant.moments (c.append.ensures.any_moment c.loop-batch.invariant.sound)
    (λ f some. some_of_all before batches c.loop-batch.batch-index c.batch-item.result f (omega (arith, c.loop-batch-test.true))
    (subst (λ (rs : List (List ℕ)). IsWithSome rs (get_or batches c.loop-batch.batch-index c.batch-item.result) f) c.loop-batch.invariant.done
    (subst (λ (rs : List (List ℕ)). IsWithSome (recovered (g.D.LogFile.seen c.loop-batch.self.file)) rs f) batch some)))

pub returns-in_err-append-clause-full : goal.returns-in_err-append-clause-full
returns-in_err-append-clause-full g c full =
    let batches = c.args.batches.now in
    let index = c.loop-batch.batch-index in
    let item = c.batch-item.result in
    let is : IsErrOf c.append.result Full = search rules in
    let same : c.append.new.self ≡ c.loop-batch.self = c.append.ensures.untouched (inr is) in
    let batch : recovered c.as_bytes.result.now ≡ get_or batches index item = c.as_bytes.ensures.records ∙ c.batch-item.is in
    let size : length c.as_bytes.result.now ≡ length (lines (get_or batches index item)) =
    ap length c.as_bytes.ensures.whole ∙ ap (λ (rs : List (List ℕ)). length (lines rs)) batch in
    subst (λ (s : LogState g.row.D.Denot). IsFullAt g.D.LogFile.seen g.D.LogFile.may_leave c.args.self.now s batches) (sym same)
    (record {
      place = index;
      batch = get_or batches index item;
      at = slice_get-get_or batches index item (omega (arith, c.loop-batch-test.true));
      sound = c.loop-batch.invariant.sound;
      settled = c.loop-batch.invariant.settled;
      acknowledged = c.loop-batch.invariant.done;
      no_room = omega (arith, (c.append.ensures.full.0 is).1, size);
    })

pub loop-batch-preserved : goal.loop-batch-preserved
loop-batch-preserved g c =
    let before = recovered (g.D.LogFile.seen c.args.self.now.file) in
    let batches = c.args.batches.now in
    let batch : recovered c.as_bytes.result.now ≡ get_or batches c.loop-batch.batch-index c.batch-item.result = c.as_bytes.ensures.records ∙ c.batch-item.is in
    record {
      sound = c.in_ok-append.ensures.room.1;
      size = c.append.ensures.size ∙ c.loop-batch.invariant.size;
      settled = c.in_ok-append.ensures.acknowledged.0;
      done = c.in_ok-append.ensures.acknowledged.1
          ∙ ap (λ (l : List (List ℕ)). l ++ recovered c.as_bytes.result.now) c.loop-batch.invariant.done
          ∙ ap (λ (l : List (List ℕ)). (before ++ all_of (take c.loop-batch.batch-index batches)) ++ l) batch
          ∙ append_assoc before (all_of (take c.loop-batch.batch-index batches)) (get_or batches c.loop-batch.batch-index c.batch-item.result)
          ∙ ap (λ (l : List (List ℕ)). before ++ l) (sym (all_more batches c.loop-batch.batch-index c.batch-item.result (omega (arith, c.loop-batch-test.true))));
      moments = then g.D.LogFile.moment g.D.LogFile.left_since c.args.self.now.file c.loop-batch.self.file c.append.new.self.file (IsWithSome before (all_of batches))
          (IsWithSome (recovered (g.D.LogFile.seen c.loop-batch.self.file)) (recovered c.as_bytes.result.now))
          c.loop-batch.invariant.moments (c.append.ensures.any_moment c.loop-batch.invariant.sound)
          (λ f some. some_of_all before batches c.loop-batch.batch-index c.batch-item.result f (omega (arith, c.loop-batch-test.true))
          (subst (λ (rs : List (List ℕ)). IsWithSome rs (get_or batches c.loop-batch.batch-index c.batch-item.result) f) c.loop-batch.invariant.done
          (subst (λ (rs : List (List ℕ)). IsWithSome (recovered (g.D.LogFile.seen c.loop-batch.self.file)) rs f) batch some)));
    }
