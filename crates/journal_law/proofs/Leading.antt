-- A replay leads on from each front of its records.
use Rattle.std.proofs.Common.{◌≡◌, List, [], ◌∷◌, ◌++◌, map, Option, append_assoc, append-nil, refl, sym, ap, subst, ◌∙◌}
use Rattle.std.specs.Prelude.{Some, None, fold, option_and_then, option_map}
use Rattle.std.proofs.lemmas.List.Folds.{fold_stays}
use Rattle.std.proofs.lemmas.Option.{same_Some}
use Rattle.tenant_core.specs.Replay.{IsReplay, appended, outcome_of, replay}
use Rattle.tenant_core.specs.State.{State, opened, recorded}
use Rattle.tenant_core.specs.declared.journal.Entry.{Entry}
use Rattle.tenant_core.specs.declared.journal.Outcome.{Outcome}
use Rattle.tenant_core.specs.declared.journal.Record.{Record}

-- each record is what its entry leads to, in the state that the records before it lead to, within one period
abbrev pub LeadWithin : State → List Record → State → Type 0
LeadWithin s [] t = s ≡ t
LeadWithin s (r ∷ rs) t = (outcome_of s r.entry ≡ Some r.outcome) × LeadWithin (recorded s (Some r)) rs t

-- a state with an entry more
abbrev step : Option State → Entry → Option State
step o e = option_and_then (λ t. appended t e) o

none_left : (es : List Entry) → fold step None es ≡ None
none_left es = fold_stays step None (λ e. refl) es

-- records of these entries that lead from one state to the other
record AreLeading (s : State) (es : List Entry) (t : State) : Type 0 where
  records : List Record
  same : map (λ r. r.entry) records ≡ es
  leads : LeadWithin s records t

one_leads : (s : State) (e : Entry) (es : List Entry) (t : State) (o : Option Outcome) → outcome_of s e ≡ o
    → ((u : State) → fold step (Some u) es ≡ Some t → AreLeading u es t)
    → fold step (option_map (λ x. recorded s (Some (record { entry = e; outcome = x }))) o) es ≡ Some t → AreLeading s (e ∷ es) t
one_leads s e es t None out more is = absurd (cc (sym (none_left es) ∙ is))
one_leads s e es t (Some x) out more is =
    let r : Record = record { entry = e; outcome = x } in
    let rest = more (recorded s (Some r)) is in
    record { records = r ∷ rest.records; same = ap (λ (xs : List Entry). e ∷ xs) rest.same; leads = (out, rest.leads) }

all_lead : (es : List Entry) (s t : State) → fold step (Some s) es ≡ Some t → AreLeading s es t
all_lead [] s t is = record { records = []; same = refl; leads = same_Some s t is }
all_lead (e ∷ es) s t is = one_leads s e es t (outcome_of s e) refl (λ u h. all_lead es u t h) is

pub state_led : (rs : List Record) (s t : State) → LeadWithin s rs t → (t.opening ≡ s.opening) × (t.records ≡ s.records ++ rs)
state_led [] s t same =
    (ap (λ (x : State). x.opening) (sym same), ap (λ (x : State). x.records) (sym same) ∙ sym (append-nil s.records))
state_led (r ∷ rs) s t leads =
    let rest = state_led rs (recorded s (Some r)) t leads.1 in
    (rest.0, rest.1 ∙ append_assoc s.records (r ∷ []) rs)

pub led_in_two : (xs ys : List Record) (s t : State) → LeadWithin s (xs ++ ys) t → (u : State) × LeadWithin s xs u × LeadWithin u ys t
led_in_two [] ys s t leads = (s, refl, leads)
led_in_two (x ∷ xs) ys s t leads =
    let rest = led_in_two xs ys (recorded s (Some x)) t leads.1 in
    (rest.0, (leads.0, rest.1), rest.2)

pub same_state : (s t : State) → s.opening ≡ t.opening → s.records ≡ t.records → s ≡ t
same_state s t o r = λ i. record { opening = o i; records = r i }

pub led_on : (s t : State) (more : List Record) → IsReplay t → t.opening ≡ s.opening → t.records ≡ s.records ++ more → LeadWithin s more t
unfolding replay
led_on s t more is same longer =
    let from : State = opened t.opening in
    let led = all_lead (map (λ (r : Record). r.entry) t.records) from t is in
    let there = state_led led.records from t led.leads in
    let all : LeadWithin from (s.records ++ more) t =
    subst (λ (rs : List Record). LeadWithin from rs t) (sym there.1 ∙ longer) led.leads in
    let two = led_in_two s.records more from t all in
    let middle = state_led s.records from two.0 two.1 in
    subst (λ (u : State). LeadWithin u more t) (same_state two.0 s (middle.0 ∙ same) middle.1) two.2
