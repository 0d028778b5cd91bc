-- The records of a replay: the destination of each Prepare is an address.
use Rattle.std.proofs.Common.{◌≡◌, Bool, true, false, List, [], ◌∷◌, map, Option, sym, refl, ◌∙◌}
use Rattle.std.specs.List.{All, AllByRecursion}
use Rattle.std.specs.Prelude.{Result, Ok, Err, Some, None, fold, if◌then◌else◌, is_ok, nat_le, not, option_and_then, option_map, ◌||◌}
use Rattle.std.proofs.lemmas.Bool.{and_parts}
use Rattle.std.proofs.lemmas.List.Elements.{All-from_recursion}
use Rattle.std.proofs.lemmas.List.Folds.{fold_stays}
use Rattle.ilp_addr.specs.Address.{IsAddress, address_at}
use Rattle.ilp_addr.specs.Laws.{AddressLaws}
use Rattle.ilp_addr.specs.Timestamp.{last_moment}
use Rattle.tenant_core.specs.Judge.{is_full}
use Rattle.tenant_core.specs.Key.{Key}
use Rattle.tenant_core.specs.Replay.{IsReplay, appended, entry_outcome, is_sayable, key_entered, outcome_of, replay}
use Rattle.tenant_core.specs.State.{State, entered_at, opened, recorded}
use Rattle.tenant_core.specs.declared.journal.Entry.{Entry}
use Rattle.tenant_core.specs.declared.journal.Entry.TheVariants.{Decide, Answer, Tick, Change, Roll}
use Rattle.tenant_core.specs.declared.journal.Outcome.{Outcome}
use Rattle.tenant_core.specs.declared.journal.Record.{Record}
use Rattle.book_journal.specs.Loggable.{HasAddress}

-- what was read, where something was
value_of : {A E : Type 0} (r : Result A E) → is_ok r ≡ true → (x : A) × (r ≡ Ok x)
value_of (Ok x) e = (x, refl)
value_of (Err f) e = absurd cc

-- the destination of what a Prepare can say is an address
said_address : AddressLaws → (key : Key) → is_sayable key ≡ true → IsAddress key.destination
said_address laws key e =
    let last = and_parts _ _ e in
    let address = value_of (address_at key.destination) last.1 in
    (laws.read_is_address key.destination address.0 address.1).0

-- where a test leads to something, it was passed
passed : {X : Type 0} (b : Bool) (o : Option X) (x : X) → (if b then o else None) ≡ Some x → o ≡ Some x
passed true o x is = is
passed false o x is = absurd (cc is)

-- where two tests and no other lead to nothing, the second was passed
both_passed : {X : Type 0} (full said : Bool) (o : Option X) (x : X) → (if full || not said then None else o) ≡ Some x → said ≡ true
both_passed true said o x is = absurd (cc is)
both_passed false true o x is = refl
both_passed false false o x is = absurd (cc is)

-- an entry that leads to something
entry_has : AddressLaws → (s : State) (e : Entry) (x : Outcome) → entry_outcome s e ≡ Some x → HasAddress e
entry_has laws s (Decide d) x is = said_address laws (key_entered d) (both_passed (is_full s) (is_sayable (key_entered d)) _ x is)
entry_has laws s (Answer a) x is = tt
entry_has laws s (Tick t) x is = tt
entry_has laws s (Change c) x is = tt
entry_has laws s (Roll r) x is = tt

has_address : AddressLaws → (s : State) (e : Entry) (x : Outcome) → outcome_of s e ≡ Some x → HasAddress e
has_address laws s e x is = entry_has laws s e x (passed (nat_le (entered_at e) last_moment) (entry_outcome s e) x is)

-- a state with an entry more
abbrev step : Option State → Entry → Option State
step o e = option_and_then (λ t. appended t e) o

none_left : (es : List Entry) → fold step None es ≡ None
none_left es = fold_stays step None (λ e. refl) es

one_has : AddressLaws → (s : State) (e : Entry) (es : List Entry) (t : State) (o : Option Outcome) → outcome_of s e ≡ o
    → ((u : State) → fold step (Some u) es ≡ Some t → AllByRecursion HasAddress es)
    → fold step (option_map (λ x. recorded s (Some (record { entry = e; outcome = x }))) o) es ≡ Some t → AllByRecursion HasAddress (e ∷ es)
one_has laws s e es t None out more is = absurd (cc (sym (none_left es) ∙ is))
one_has laws s e es t (Some x) out more is = (has_address laws s e x out, more _ is)

-- each entry of a replay
all_have : AddressLaws → (es : List Entry) (s t : State) → fold step (Some s) es ≡ Some t → AllByRecursion HasAddress es
all_have laws [] s t is = tt
all_have laws (e ∷ es) s t is = one_has laws s e es t (outcome_of s e) refl (λ u h. all_have laws es u t h) is

of_records : (rs : List Record) → AllByRecursion HasAddress (map (λ (r : Record). r.entry) rs) → AllByRecursion (λ (r : Record). HasAddress r.entry) rs
of_records [] all = tt
of_records (r ∷ rs) all = (all.0, of_records rs all.1)

-- each record of a state that is the replay of its entries
pub replay_has : AddressLaws → (s : State) → IsReplay s → All (λ (r : Record). HasAddress r.entry) s.records
unfolding replay
replay_has laws s is =
    All-from_recursion (λ (r : Record). HasAddress r.entry) s.records
    (of_records s.records (all_have laws (map (λ (r : Record). r.entry) s.records) (opened s.opening) s is))
