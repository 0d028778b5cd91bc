use Rattle.std.proofs.Common.{◌≡◌, List, length, drop, ap, sym, subst, ◌∙◌, arith}
use Rattle.std.proofs.lemmas.List.{take_at}
use Rattle.tenant_core.specs.State.{State}
use Rattle.book_log.specs.Written.{IsTextWritten}
use Rattle.book_log.proofs.reopening.take_log.Goals as goal

pub returns-in-Ok-clause-written : goal.returns-in-Ok-clause-written
returns-in-Ok-clause-written c after written =
    let new = c.take_text.new.books in
    let old = c.args.books.now in
    let same = ap length c.deref_mut.ensures.value in
    let size : length new ≡ old.len = omega (arith, c.in-Ok.ensures.as_many, same, old.ok) in
    take_at new (drop (length new) old.items) old.len size
    ∙ c.in-Ok.ensures.written after
    (subst (λ (s : List State). IsTextWritten c.args.first.now c.args.log.now s after) (sym c.deref_mut.ensures.value) written)

pub returns-in-Err-Fault-clause-refused : goal.returns-in-Err-Fault-clause-refused
returns-in-Err-Fault-clause-refused c fault after written =
    let refused = rw c.in-Err-Fault.field-0-is at c.in-Err-Fault.ensures.refused in
    refused fault after
    (subst (λ (s : List State). IsTextWritten c.args.first.now c.args.log.now s after) (sym c.deref_mut.ensures.value) written)
