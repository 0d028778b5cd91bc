-- The last record of a replay is what its entry led to, and a roll's is what a roll leads to.
use Rattle.std.proofs.Common.{◌≡◌, ◌≤◌, ℕ, List, [], ◌∷◌, map, refl, sym, ap, subst, ◌∙◌}
use Rattle.std.specs.Prelude.{Option, Some, None, option_map, option_and_then, fold}
use Rattle.std.proofs.lemmas.Bool.{le-leb}
use Rattle.std.proofs.lemmas.List.{map-append, same_from_push}
use Rattle.std.proofs.lemmas.List.Sums.{fold_push}
use Rattle.ilp_addr.specs.Timestamp.{last_moment}
use Rattle.tenant_core.specs.Made.{IsMade, MadeLaws}
use Rattle.tenant_core.specs.Periods.{roll_refusal, roll_record}
use Rattle.tenant_core.specs.Replay.{IsReplay, replay, outcome_of, appended}
use Rattle.tenant_core.specs.State.{State, opened, recorded}
use Rattle.tenant_core.specs.declared.journal.Entry.{Entry}
use Rattle.tenant_core.specs.declared.journal.Outcome.{Outcome}
use Rattle.tenant_core.specs.declared.journal.Record.{Record}

-- a state with a record more is one state and one record
made_here : (s t : State) (r q : Record) → recorded t (Some q) ≡ recorded s (Some r) → outcome_of t q.entry ≡ Some q.outcome → IsMade s r
made_here s t r q same e =
    let parts = same_from_push t.records s.records q r (ap (λ (x : State). x.records) same) in
    let states : t ≡ s = ap (λ o. record { opening = o; records = t.records }) (ap (λ (x : State). x.opening) same)
    ∙ ap (λ rs. record { opening = s.opening; records = rs }) parts.0 in
    subst (λ (x : State). outcome_of x r.entry ≡ Some r.outcome) states
    (subst (λ (x : Record). outcome_of t x.entry ≡ Some x.outcome) parts.1 e)

-- the state, or else the other
abbrev state_or : State → Option State → State
state_or s None = s
state_or s (Some t) = t

made_by : (s t : State) (r : Record) (x : Option Outcome) → outcome_of t r.entry ≡ x
    → option_map (λ o. recorded t (Some (record { entry = r.entry; outcome = o }))) x ≡ Some (recorded s (Some r)) → IsMade s r
made_by s t r None q e = absurd cc
made_by s t r (Some o) q e =
    made_here s t r (record { entry = r.entry; outcome = o })
    (ap (state_or s) e) q

made_in : (s : State) (r : Record) (o : Option State) → option_and_then (λ t. appended t r.entry) o ≡ Some (recorded s (Some r)) → IsMade s r
made_in s r None e = absurd cc
made_in s r (Some t) e = made_by s t r (outcome_of t r.entry) refl e

made_last : (s : State) (r : Record) → IsReplay (recorded s (Some r)) → IsMade s r
unfolding replay
made_last s r h =
    let step : Option State → Entry → Option State = λ o x. option_and_then (λ t. appended t x) o in
    let first : Option State = Some (opened s.opening) in
    let split = map-append (λ (x : Record). x.entry) s.records (r ∷ []) in
    let more = fold_push step first (map (λ (x : Record). x.entry) s.records) r.entry in
    made_in s r (fold step first (map (λ (x : Record). x.entry) s.records))
    (sym more ∙ (sym (ap (λ (es : List Entry). fold step first es) split) ∙ h))

made_roll : (s : State) (now : ℕ) → roll_refusal s ≡ None → now ≤ last_moment → IsMade s (roll_record now)
made_roll s now free early = rw (le-leb now last_moment early, free) refl

pub made_laws : MadeLaws
made_laws = record { last = made_last; roll = made_roll }
