-- The counts of what became of packets, once a step more is counted.
use Rattle.std.proofs.Common.{◌≡◌, ◌<◌, ◌++◌, ◌+◌, ◌∙◌, ℕ, cond, List, [], ◌∷◌, length, get_or, refl, inl, inr, sym, ap, subst, append-nil, arith}
use Rattle.std.specs.Prelude.{Option, Some, None, count_by, min}
use Rattle.std.proofs.lemmas.Bool.Decides.{eqb_tells}
use Rattle.std.proofs.lemmas.Grind.{get_or-set_at}
use Rattle.std.proofs.lemmas.List.{get_or-set_other}
use Rattle.std.proofs.lemmas.List.Sums.{sum_by_push}
use Rattle.tenant_core.specs.declared.journal.Record.{Record}
use Rattle.one_list.specs.Steps.{Place, done, done_by}
use Rattle.one_list.specs.declared.step.Done.{Done}
use Rattle.books_shared.specs.Outcomes.{AreCounted, count_at, counted, is_of, most_counted, outcome_count, outcome_in, place_of, record_counted}
use Rattle.books_shared.specs.declared.outcomes.PacketCounts.{PacketCounts}
use Rattle.books_shared.specs.declared.outcomes.PacketOutcome.{PacketOutcome}

-- nothing is counted of no steps
pub none_counted : (packets : PacketCounts) → ((o : PacketOutcome) → count_at o packets ≡ 0) → AreCounted packets []
none_counted packets zero o = zero o

-- what is counted of steps with one more
with_one : (o : PacketOutcome) (steps : List Done) (d : Done) (q : Option PacketOutcome) → outcome_in d.made ≡ q
    → outcome_count o (steps ++ d ∷ []) ≡ min most_counted (count_by (λ (e : Done). is_of o (outcome_in e.made)) steps + cond (is_of o q) 1 0)
with_one o steps d q e =
    ap (λ n. min most_counted n) (sum_by_push (λ (e : Done). cond (is_of o (outcome_in e.made)) 1 0) steps d
    ∙ ap (λ z. count_by (λ (e : Done). is_of o (outcome_in e.made)) steps + cond (is_of o z) 1 0) e)

min_more : (most n : ℕ) → min most (min most n + 1) ≡ min most (n + 1)
min_more most n = omega arith

min_same : (most n : ℕ) → min most n ≡ min most (n + 0)
min_same most n = omega arith

step_counted : (packets : PacketCounts) (steps : List Done) (d : Done) (q : Option PacketOutcome) → outcome_in d.made ≡ q
    → ((o : PacketOutcome) → place_of o < length packets.counts) → AreCounted packets steps → AreCounted (counted q packets) (steps ++ d ∷ [])
step_counted packets steps d None e inside are o =
    are o ∙ min_same most_counted _ ∙ sym (with_one o steps d None e)
step_counted packets steps d (Some p) e inside are o =
    let total : ℕ = count_by (λ (e : Done). is_of o (outcome_in e.made)) steps in
    let more = with_one o steps d (Some p) e in
    let raised : ℕ = min most_counted (count_at p packets + 1) in
    elim (eqb_tells (place_of p) (place_of o)) [
      | inl same ↦
          get_or-set_at packets.counts (place_of p) (place_of o) raised 0 (sym same.1) (inside p)
          ∙ ap (λ i. min most_counted (get_or packets.counts i 0 + 1)) same.1
          ∙ ap (λ n. min most_counted (n + 1)) (are o)
          ∙ min_more most_counted total
          ∙ sym (more ∙ ap (λ b. min most_counted (total + cond b 1 0)) same.0)
      | inr other ↦
          get_or-set_other packets.counts (place_of p) (place_of o) raised 0 (λ is. other.1 (sym is))
          ∙ are o ∙ min_same most_counted total
          ∙ sym (more ∙ ap (λ b. min most_counted (total + cond b 1 0)) other.0)
    ]

-- the counts, once the step of a record is counted, if there is one
pub record_steps_counted : (packets : PacketCounts) (steps : List Done) (worker : ℕ) (at : Place) (o : Option Record)
    → ((o : PacketOutcome) → place_of o < length packets.counts) → AreCounted packets steps
    → AreCounted (record_counted o packets) (steps ++ done_by worker at o)
record_steps_counted packets steps worker at None inside are = subst (λ (s : List Done). AreCounted packets s) (sym (append-nil steps)) are
record_steps_counted packets steps worker at (Some r) inside are = step_counted packets steps (done worker at r) (outcome_in r) refl inside are
