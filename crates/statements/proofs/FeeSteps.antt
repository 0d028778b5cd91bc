-- Fees of one record more, and the state that a roll closed.
use Rattle.std.proofs.Common.{◌≡◌, ℕ, ◌-◌, List, [], ◌∷◌, ◌++◌, take, length, refl, ap, subst, sym, ◌∙◌, arith, true, false}
use Rattle.std.specs.Prelude.{Option, Some, None, Result, Ok}
use Rattle.std.proofs.lemmas.List.{append-nil, append_assoc, length-append}
use Rattle.std.proofs.Math.Seq.{take-append_seam}
use Rattle.statements.specs.Fees.{fee_kept, fees_kept, fees_of, goes_on, route_fee}
use Rattle.tenant_core.specs.Closing.{state_before_roll}
use Rattle.tenant_core.specs.Governed.{IsGoverned, roll_answer}
use Rattle.tenant_core.specs.Periods.{closed, roll_record, roll_refusal}
use Rattle.tenant_core.specs.Reopening.{IsFollowed, followed}
use Rattle.tenant_core.specs.State.{State, opened, recorded}
use Rattle.tenant_core.specs.declared.command.Answered.{Answered}
use Rattle.tenant_core.specs.declared.command.Answered.TheVariants.{Rolled}
use Rattle.tenant_core.specs.declared.command.Command.TheVariants.{Roll}
use Rattle.tenant_core.specs.declared.faults.CommandFault.{CommandFault}
use Rattle.tenant_core.specs.declared.journal.Entry.{Entry}
use Rattle.tenant_core.specs.declared.journal.Outcome.{Outcome}
use Rattle.tenant_core.specs.declared.journal.Record.{Record}
use Rattle.tenant_core.specs.declared.period.PeriodParts.{PeriodParts}

-- the state with some records more
abbrev with_records : State → List Record → State
with_records s rs = record s { records = s.records ++ rs }

kept_more : (s : State) (rs : List Record) (r : Record)
    → fees_kept s (rs ++ r ∷ []) ≡ fees_kept s rs ++ fee_kept (with_records s rs) r
kept_more s [] r =
    append-nil (fee_kept s r)
    ∙ ap (λ (xs : List Record). fee_kept (record s { records = xs }) r) (sym (append-nil s.records))
kept_more s (q ∷ rs) r =
    let next : State = recorded s (Some q) in
    let one : fees_kept next (rs ++ r ∷ []) ≡ fees_kept next rs ++ fee_kept (with_records next rs) r = kept_more next rs r in
    ap (λ (xs : List ℕ). fee_kept s q ++ xs) one
    ∙ (sym (append_assoc (fee_kept s q) (fees_kept next rs) (fee_kept (with_records next rs) r))
    ∙ ap (λ (xs : List Record). (fee_kept s q ++ fees_kept next rs) ++ fee_kept (record s { records = xs }) r)
    (append_assoc s.records (q ∷ []) rs))

pub fees_more : (s : State) (r : Record) → fees_of (recorded s (Some r)) ≡ fees_of s ++ fee_kept s r
unfolding fees_of
fees_more s r = kept_more (opened s.opening) s.records r

-- the state that followed a packet that goes on, and one that followed another entry
pub charged_then : (s after : State) (e : Entry) (x : Option Outcome) (o : Outcome) (fees : List ℕ) → IsFollowed s after e x → x ≡ Some o
    → goes_on o ≡ true → fees ≡ fees_of s → fees ++ route_fee s e ∷ [] ≡ fees_of after
charged_then s after e x o fees is some goes charged =
    let r : Record = record { entry = e; outcome = o } in
    let here : after ≡ recorded s (Some r) = is.1 ∙ ap (followed s e) some in
    let kept : fee_kept s r ≡ route_fee s e ∷ [] = rw goes refl in
    ap (λ (xs : List ℕ). xs ++ route_fee s e ∷ []) charged ∙ (ap (λ (xs : List ℕ). fees_of s ++ xs) (sym kept)
    ∙ (sym (fees_more s r) ∙ ap fees_of (sym here)))

pub charged_else : (s after : State) (e : Entry) (x : Option Outcome) (o : Outcome) (fees : List ℕ) → IsFollowed s after e x → x ≡ Some o
    → goes_on o ≡ false → fees ≡ fees_of s → fees ≡ fees_of after
charged_else s after e x o fees is some stays charged =
    let r : Record = record { entry = e; outcome = o } in
    let here : after ≡ recorded s (Some r) = is.1 ∙ ap (followed s e) some in
    let kept : fee_kept s r ≡ [] = rw stays refl in
    charged ∙ (sym (append-nil (fees_of s)) ∙ (ap (λ (xs : List ℕ). fees_of s ++ xs) (sym kept)
    ∙ (sym (fees_more s r) ∙ ap fees_of (sym here))))

-- a roll closed the state
pub rolled_closed : (s : State) (refusal : Option CommandFault) (p : PeriodParts) (now : ℕ)
    → Ok (Rolled p) ≡ roll_answer s refusal now → p ≡ closed s now
rolled_closed s None p now e = cc
rolled_closed s (Some fault) p now e = cc

pub before_closed : (s : State) (now : ℕ) → state_before_roll (closed s now) ≡ s
before_closed s now =
    let r : Record = roll_record now in
    let long : length (s.records ++ r ∷ []) - 1 ≡ length s.records = omega (arith, length-append s.records (r ∷ [])) in
    ap (λ (n : ℕ). record s { records = take n (s.records ++ r ∷ []) }) long
    ∙ ap (λ (xs : List Record). record s { records = xs }) (take-append_seam s.records (r ∷ []))

-- what a command gave that rolled
pub governed_closed : (s after : State) (r : Result Answered CommandFault) (p : PeriodParts) (now : ℕ)
    → IsGoverned r Roll s after now → r ≡ Ok (Rolled p) → state_before_roll p ≡ s
governed_closed s after r p now is rolled =
    let g : IsGoverned (Ok (Rolled p)) Roll s after now = subst (λ (x : Result Answered CommandFault). IsGoverned x Roll s after now) rolled is in
    ap state_before_roll (rolled_closed s (roll_refusal s) p now g.0) ∙ before_closed s now
