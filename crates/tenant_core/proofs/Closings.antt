-- What a roll closes is a period.
use Rattle.std.proofs.Common.{◌≡◌, ◌≤◌, ◌<◌, ◌-◌, ℕ, List, [], ◌∷◌, ◌++◌, length, false, arith, refl, sym, ap, subst, ◌∙◌}
use Rattle.std.specs.Prelude.{None, take, nat_lt, nat_le}
use Rattle.std.proofs.lemmas.Bool.{le-ltb}
use Rattle.std.proofs.lemmas.Bool.Decides.{nat_tests}
use Rattle.std.proofs.lemmas.List.{length_push, take_at}
use Rattle.std.proofs.lemmas.List.Sums.{fold_push}
use Rattle.ilp_addr.specs.Timestamp.{last_moment}
use Rattle.tenant_core.specs.Closing.{IsPeriod, moment_of_last, state_before_roll}
use Rattle.tenant_core.specs.Holds.{open_holds}
use Rattle.tenant_core.specs.Limits.{max_period}
use Rattle.tenant_core.specs.Periods.{closed, roll_record, roll_refusal}
use Rattle.tenant_core.specs.Reopening.{opening_fault}
use Rattle.tenant_core.specs.Sound.{IsSound}
use Rattle.tenant_core.specs.State.{State, entered_at}
use Rattle.tenant_core.specs.declared.journal.Record.{Record}
use Rattle.tenant_core.specs.declared.period.PeriodParts.{PeriodParts}
use Rattle.tenant_core.proofs.Making.{made_laws}
use Rattle.tenant_core.proofs.Replays.{replayed}

-- of records with one more, the others
others : (rs : List Record) (r : Record) → take (length (rs ++ r ∷ []) - 1) (rs ++ r ∷ []) ≡ rs
others rs r =
    let longer = length_push rs r in
    take_at rs (r ∷ []) (length (rs ++ r ∷ []) - 1) (omega arith)

-- the state before the roll, and its moment, are those of what it closed
before_roll : (s : State) (now : ℕ) → state_before_roll (closed s now) ≡ s
before_roll s now =
    ap (λ (rs : List Record). record { opening = s.opening; records = rs }) (others s.records (roll_record now))

moment_of_roll : (s : State) (now : ℕ) → moment_of_last (closed s now).records ≡ now
moment_of_roll s now = fold_push (λ (n : ℕ) (r : Record). entered_at r.entry) 0 s.records (roll_record now)

pub closed_is : (s : State) (now : ℕ) → opening_fault s.opening ≡ None → IsSound s → roll_refusal s ≡ None → now ≤ last_moment → IsPeriod (closed s now)
closed_is s now begins sound free early =
    let before : state_before_roll (closed s now) ≡ s = before_roll s now in
    let at : moment_of_last (closed s now).records ≡ now = moment_of_roll s now in
    let longer = length_push s.records (roll_record now) in
    let room = sound.room in
    let journal = sound.journal in
    record {
      begins = begins;
      sound = subst IsSound (sym before) sound;
      free = ap roll_refusal before ∙ free;
      early = subst (λ n. n ≤ last_moment) (sym at) early;
      closed = ap (λ (t : State). closed t now) (sym before) ∙ ap (closed (state_before_roll (closed s now))) (sym at);
      replay = replayed s (roll_record now) sound.replay (made_laws.roll s now free early);
      few = omega arith;
    }

-- nothing refuses a roll where no packet awaits its answer, and the period is not the last one
pub free_roll : (s : State) (count : ℕ) → count ≡ open_holds s → count ≤ 0 → s.opening.period < max_period → roll_refusal s ≡ None
free_roll s count is none before =
    let free : nat_lt 0 (open_holds s) ≡ false = le-ltb 0 (open_holds s) (subst (λ n. n ≤ 0) is none) in
    let early : nat_le max_period s.opening.period ≡ false = grind (arith, nat_tests) in
    rw (free, early) refl

-- the same of parts that are what it closes
pub period_is : (p : PeriodParts) (s : State) (now : ℕ) → p ≡ closed s now → opening_fault s.opening ≡ None → IsSound s → roll_refusal s ≡ None → now ≤ last_moment
    → IsPeriod p
period_is p s now same begins sound free early = subst IsPeriod (sym same) (closed_is s now begins sound free early)
