use Rattle.std.proofs.Common.{◌≤◌, ◌+◌, ◌^◌, ◌++◌, ℕ, List, take, inl, inr, sym, ap, subst, ◌∙◌, arith, rules}
use Rattle.std.proofs.lemmas.List.{append_assoc}
use Rattle.std.proofs.lemmas.Option.{slice_get_cases}
use Rattle.statements.specs.Seen.{seen_among, seen_added}
use Rattle.statements.specs.declared.seen.PeerSeen.{PeerSeen}
use Rattle.tenant_core.specs.Peers.{next_by}
use Rattle.tenant_core.specs.declared.journal.Record.{Record}
use Rattle.statements.proofs.OverSteps.{on_long}
use Rattle.statements.proofs.SeenSteps.{next_more, seen_more}
use Rattle.statements.proofs.seen.put_all_added.Goals as goal

pub loop-place-preserved : goal.loop-place-preserved
loop-place-preserved c =
    let rs : List Record = c.args.records.now in
    let k : ℕ = c.loop-place.place in
    let n : ℕ = c.args.first in
    elim (slice_get_cases rs k).1 [
      | inl i ↦
          let r : Record = i.0 in
          let is = c.in_ok-next.ensures.after r i.2 in
          let was = c.loop-place.invariant.next in
          record {
            put = is.0 ∙ (ap (λ (xs : List PeerSeen). xs ++ seen_added c.loop-place.next r.entry) c.loop-place.invariant.put
                ∙ (append_assoc c.args.out.now.items (seen_among n (take k rs)) (seen_added c.loop-place.next r.entry)
                ∙ (ap (λ (m : ℕ). c.args.out.now.items ++ (seen_among n (take k rs) ++ seen_added m r.entry)) was
                ∙ ap (λ (xs : List PeerSeen). c.args.out.now.items ++ xs) (sym (seen_more n rs k r i.2)))));
            next = is.1 ∙ (ap (λ (m : ℕ). next_by m r.entry) was ∙ sym (next_more n rs k r i.2));
          }
      | inr p ↦ absurd (let past = p.0 in omega arith)
    ]

pub returns-in_err-next-clause-long : goal.returns-in_err-next-clause-long
returns-in_err-next-clause-long c =
    let rs : List Record = c.args.records.now in
    let k : ℕ = c.loop-place.place in
    elim (slice_get_cases rs k).1 [
      | inl i ↦
          on_long _ _ _ c.in_err-next.field-0.0 c.from_residual.result (search rules)
          (λ over.
          let was = c.loop-place.invariant.next in
          let more = next_more c.args.first rs k i.0 i.2 in
          let is : 2 ^ 16 ≤ next_by c.loop-place.next i.0.entry = over i.0 i.2 in
          (k + 1, subst (λ (m : ℕ). 2 ^ 16 ≤ m) (ap (λ (m : ℕ). next_by m i.0.entry) was ∙ sym more) is))
          c.in_err-next.ensures.long
      | inr p ↦ absurd (let past = p.0 in omega arith)
    ]
