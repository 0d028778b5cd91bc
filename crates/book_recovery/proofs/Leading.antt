-- How records lead on, and holds are given up.
use Rattle.std.proofs.Common.{◌≡◌, ℕ, zero, suc, ◌+◌, ◌<◌, false, List, [], ◌∷◌, ◌++◌, length, take, get_or, refl, sym, ◌∙◌, ap, subst, arith, Option}
use Rattle.std.specs.Prelude.{None, Some, Ok}
use Rattle.std.specs.List.{slice_get}
use Rattle.tenant_core.specs.Replay.{outcome_of}
use Rattle.tenant_core.specs.Reopening.{is_roll, opened_unless, opening_fault, reopened}
use Rattle.tenant_core.specs.State.{State, opened, recorded}
use Rattle.tenant_core.specs.declared.faults.OpeningFault.{OpeningFault}
use Rattle.tenant_core.specs.declared.opening.Opening.{Opening}
use Rattle.tenant_core.specs.declared.journal.Entry.{Entry}
use Rattle.tenant_core.specs.declared.journal.Entry.TheVariants.{Decide, Answer, Tick, Change, Roll}
use Rattle.tenant_core.specs.declared.journal.Record.{Record}
use Rattle.book_recovery.specs.Recovery.{LeadTo, BreaksAt, FrontLaw, NoBreakLaw, OneEndLaw, after_entry, after_record}

-- an entry that ends no period
pub kept : (e : Entry) (s : State) (r : Record) → is_roll e ≡ false → after_entry e s r ≡ recorded s (Some r)
kept (Decide d) s r plain = refl
kept (Answer a) s r plain = refl
kept (Tick t) s r plain = refl
kept (Change c) s r plain = refl
kept (Roll x) s r plain = absurd (cc plain)

-- one record more
pub leads_more : (rs : List Record) (s t : State) (r : Record) → LeadTo s rs t → outcome_of t r.entry ≡ Some r.outcome → LeadTo s (rs ++ r ∷ []) (after_record t r)
leads_more [] s t r so_far is = (subst (λ (u : State). outcome_of u r.entry ≡ Some r.outcome) (sym so_far) is, ap (λ (u : State). after_record u r) so_far)
leads_more (x ∷ rs) s t r so_far is = (so_far.0, leads_more rs (after_record s x) t r so_far.1 is)

pub take_next : (rs : List Record) (i : ℕ) (r : Record) → i < length rs → r ≡ get_or rs i r → take (i + 1) rs ≡ take i rs ++ r ∷ []
take_next [] i r within is = absurd (omega (arith, within))
take_next (x ∷ rs) zero r within is = ap (λ (y : Record). y ∷ []) (sym is)
take_next (x ∷ rs) (suc i) r within is =
    let same : suc i + 1 ≡ suc (i + 1) = omega arith in
    ap (λ (k : ℕ). take k (x ∷ rs)) same ∙ ap (λ (l : List Record). x ∷ l) (take_next rs i r (omega (arith, within)) is)

opened_by : (f : Option OpeningFault) (o : Opening) (s : State) → opened_unless o f ≡ Ok s → s ≡ opened o
opened_by None o s is = cc is
opened_by (Some fault) o s is = absurd (cc is)

pub opened_so : (o : Opening) (s : State) → reopened o ≡ Ok s → s ≡ opened o
opened_so o s is = opened_by (opening_fault o) o s is

begun_by : (f : Option OpeningFault) (o : Opening) (s : State) → opened_unless o f ≡ Ok s → f ≡ None
begun_by None o s is = refl
begun_by (Some fault) o s is = absurd (cc is)

pub begins_so : (o : Opening) (s : State) → reopened o ≡ Ok s → opening_fault o ≡ None
begins_so o s is = begun_by (opening_fault o) o s is

pub fronts : FrontLaw
fronts s t records zero leads = (s, refl)
fronts s t [] (suc n) leads = (s, refl)
fronts s t (r ∷ rs) (suc n) leads = let later = fronts (after_record s r) t rs n leads.1 in (later.0, (leads.0, later.1))

pub one_end : OneEndLaw
one_end s t u [] one other = sym one ∙ other
one_end s t u (r ∷ rs) one other = one_end (after_record s r) t u rs one.1 other.1

-- a record that leads on is what its entry leads to, wherever the records before it led
leads_here : (s t : State) (r next : Record) → s ≡ t → Some r ≡ Some next → outcome_of s r.entry ≡ Some r.outcome → outcome_of t next.entry ≡ Some next.outcome
leads_here s t r next same is led = cc (same, is, led)

pub no_break : NoBreakLaw
no_break s t [] place leads b = absurd (cc b.is_next)
no_break s t (r ∷ rs) zero leads b = b.differs (leads_here s b.state r b.next b.leads b.is_next leads.0)
no_break s t (r ∷ rs) (suc n) leads b =
    no_break (after_record s r) t rs n leads.1 (record {
      state = b.state;
      leads = b.leads.1;
      next = b.next;
      is_next = b.is_next;
      differs = b.differs;
    })

-- nothing, where it is not something
pub none_of : {A : Type 0} (o : Option A) → ((x : A) → o ≡ Some x → ⊥) → o ≡ None
none_of None not_some = refl
none_of (Some x) not_some = absurd (not_some x refl)
