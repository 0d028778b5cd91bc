-- Histories.
use Rattle.std.proofs.Common.{◌≡◌, List, [], ◌∷◌, ◌++◌, refl, sym, ap, subst}
use Rattle.std.specs.Prelude.{Some, None}
use Rattle.std.proofs.lemmas.List.Sums.{fold-append}
use Rattle.tenant_core.specs.Journals.{last_of}
use Rattle.tenant_core.specs.State.{State, opened}
use Rattle.tenant_core.specs.declared.journal.Record.{Record}
use Rattle.one_list.specs.declared.step.Done.{Done}
use Rattle.one_list.specs.History.{HistoryLaws, IsNextStep, LeadTo, after_record}

-- steps lead on by one step more
pub lead_on : (from s : State) (steps : List Done) (e : Done) → LeadTo from steps s → IsNextStep s e → LeadTo from (steps ++ e ∷ []) (after_record s e.made)
lead_on from s [] e is step = (subst (λ z. IsNextStep z e) (sym is) step, ap (λ z. after_record z e.made) is)
lead_on from s (x ∷ xs) e led step = (led.0, lead_on (after_record from x.made) s xs e led.1 step)

-- the last record of a list that ends with it
pub last_pushed : (records : List Record) (r : Record) → last_of (records ++ r ∷ []) ≡ Some r
last_pushed records r = fold-append (λ o x. Some x) None records (r ∷ [])

pub laws : HistoryLaws
laws =
    record {
      begins = λ o. refl;
      goes_on = λ o steps s e led step. lead_on (opened o) s steps e led step;
      last = last_pushed;
    }
