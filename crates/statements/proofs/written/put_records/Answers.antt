use Rattle.std.proofs.Common.{◌++◌, ℕ, List, take, inl, inr, sym, ap, ◌∙◌, arith}
use Rattle.std.specs.List.{flat_map}
use Rattle.std.proofs.lemmas.List.{append_assoc}
use Rattle.std.proofs.lemmas.Option.{slice_get_cases}
use Rattle.tenant_core.specs.declared.journal.Record.{Record}
use Rattle.statements.specs.Statement.{record_line}
use Rattle.statements.proofs.RecordLines.{one_more}
use Rattle.statements.proofs.written.put_records.Goals as goal

pub loop-place-preserved : goal.loop-place-preserved
loop-place-preserved c =
    let rs : List Record = c.args.records.now in
    let front : List ℕ = flat_map record_line (take c.loop-place.place rs) in
    elim (slice_get_cases rs c.loop-place.place).1 [
      | inl i ↦
          let line : List ℕ = record_line i.0 in
          c.in_ok-put_record_at.ensures i.0 i.2
          ∙ (ap (λ (xs : List ℕ). xs ++ line) c.loop-place.invariant
          ∙ (append_assoc c.args.out.now.items front line
          ∙ ap (λ (xs : List ℕ). c.args.out.now.items ++ xs) (sym (one_more rs c.loop-place.place i.0 i.2))))
      | inr p ↦ absurd (let past = p.0 in omega arith)
    ]
