-- The network of a state, one record more.
use Rattle.std.proofs.Common.{◌≡◌, ℕ, List, [], ◌∷◌, ◌++◌, refl, sym, ap, ◌∙◌}
use Rattle.std.specs.Prelude.{Some, None, Option, Result, Ok, Err, Bool, true, false, cond, fold, max, option_map}
use Rattle.std.proofs.lemmas.List.Sums.{fold_push}
use Rattle.tenant_core.specs.declared.journal.AnswerKey.{AnswerKey}
use Rattle.tenant_core.specs.declared.journal.Record.{Record}
use Rattle.tenant_core.specs.declared.verdict.Verdict.{Verdict}
use Rattle.tenant_core.specs.Answer.{answer_record, tick_record, answered, ticked, settle_answer, has_no_place, tick_count}
use Rattle.tenant_core.specs.Holds.{open_hold}
use Rattle.tenant_core.specs.Judge.{decide_record, decided, is_recorded, judge, record_left}
use Rattle.tenant_core.specs.Network.{peer_with_token}
use Rattle.tenant_core.specs.Governed.{command_answer, commanded, order_answer, order_left, roll_answer, roll_left}
use Rattle.tenant_core.specs.Orders.{ordered}
use Rattle.tenant_core.specs.Periods.{roll_refusal}
use Rattle.tenant_core.specs.Staying.{StayingLaws}
use Rattle.tenant_core.specs.declared.command.Command.{Command}
use Rattle.tenant_core.specs.declared.command.Command.TheVariants as command
use Rattle.tenant_core.specs.declared.faults.CommandFault.{CommandFault}
use Rattle.tenant_core.specs.declared.journal.Change.{Change}
use Rattle.tenant_core.specs.declared.hold.Hold.{Hold}
use Rattle.tenant_core.specs.declared.peer.Peer.{Peer}
use Rattle.tenant_core.specs.Key.{Key}
use Rattle.tenant_core.specs.Present.{Told, told_after, net_after, network_of}
use Rattle.tenant_core.specs.State.{State, opened, clock_of, later, recorded}

append-nil : (rs : List Record) → rs ++ [] ≡ rs
append-nil [] = refl
append-nil (r ∷ rs) = ap (λ (xs : List Record). r ∷ xs) (append-nil rs)

append-push : (xs : List Record) (r : Record) (rs : List Record) → (xs ++ r ∷ []) ++ rs ≡ xs ++ r ∷ rs
append-push [] r rs = refl
append-push (x ∷ xs) r rs = ap (λ (ys : List Record). x ∷ ys) (append-push xs r rs)

told_state : (t : Told) (rs : List Record) → (fold told_after t rs).state ≡ record t.state { records = t.state.records ++ rs }
told_state t [] = ap (λ (rs : List Record). record t.state { records = rs }) (sym (append-nil t.state.records))
told_state t (r ∷ rs) = told_state (told_after t r) rs ∙ ap (λ (xs : List Record). record t.state { records = xs }) (append-push t.state.records r rs)

pub network_of-recorded : (s : State) (r : Record) → network_of (recorded s (Some r)) ≡ net_after s (network_of s) (later (clock_of s) r) r.entry
unfolding network_of
network_of-recorded s r =
    let first : Told = record { state = opened s.opening; net = s.opening.network } in
    let before : Told = fold told_after first s.records in
    ap (λ (t : Told). t.net) (fold_push told_after first s.records r)
    ∙ ap (λ (u : State). net_after u before.net (later (clock_of u) r) r.entry) (told_state first s.records)

pub network_of-decide : (s : State) (peer : ℕ) (key : Key) (now : ℕ) (v : Verdict) → network_of (recorded s (Some (decide_record peer key now v))) ≡ network_of s
network_of-decide s peer key now v = network_of-recorded s (decide_record peer key now v)

pub network_of-answer : (s : State) (n now : ℕ) (key : AnswerKey) (v : Verdict) → network_of (recorded s (Some (answer_record n now key v))) ≡ network_of s
network_of-answer s n now key v = network_of-recorded s (answer_record n now key v)

pub network_of-tick : (s : State) (now count : ℕ) → network_of (recorded s (Some (tick_record now count))) ≡ network_of s
network_of-tick s now count = network_of-recorded s (tick_record now count)

pub network_of-opened : (s : State) → s.records ≡ [] → network_of s ≡ s.opening.network
unfolding network_of
network_of-opened s none = rw none refl

network_of-decided : (s : State) (token : List ℕ) (key : Key) (now : ℕ) → network_of (decided s token key now) ≡ network_of s
network_of-decided s token key now = by (peer_with_token token (network_of s).peers) (judge s token key now)
  where
    if_recorded : (b : Bool) (peer : ℕ) (v : Verdict) → network_of (recorded s (cond b (Some (decide_record peer key now v)) None)) ≡ network_of s
    if_recorded true peer v = network_of-decide s peer key now v
    if_recorded false peer v = refl

    by : (o : Option Peer) (v : Verdict) → network_of (recorded s (record_left o key now v)) ≡ network_of s
    by None v = refl
    by (Some from) v = if_recorded (is_recorded v) from.number v

network_of-answered : (s : State) (hold now : ℕ) (key : AnswerKey) → network_of (answered s hold now key) ≡ network_of s
network_of-answered s hold now key = by (open_hold s hold)
  where
    by : (o : Option Hold) → network_of (recorded s (option_map (λ h. answer_record hold now key (settle_answer h (max (clock_of s) now) key)) o)) ≡ network_of s
    by None = refl
    by (Some h) = network_of-answer s hold now key (settle_answer h (max (clock_of s) now) key)

network_of-ticked : (s : State) (now : ℕ) → network_of (ticked s now) ≡ network_of s
network_of-ticked s now = by (has_no_place s)
  where
    by : (b : Bool) → network_of (recorded s (cond b None (Some (tick_record now (tick_count s (max (clock_of s) now)))))) ≡ network_of s
    by true = refl
    by false = network_of-tick s now (tick_count s (max (clock_of s) now))

tenant-commanded : (s : State) (c : Command) (now : ℕ) → (commanded s c now).opening.tenant ≡ s.opening.tenant
tenant-commanded s (command.Order order) now = by (ordered s order)
  where
    by : (r : Result Change CommandFault) → (order_left s r now).opening.tenant ≡ s.opening.tenant
    by (Ok change) = refl
    by (Err fault) = refl
tenant-commanded s command.Balances now = refl
tenant-commanded s command.Roll now = by (roll_refusal s)
  where
    by : (o : Option CommandFault) → (roll_left s o now).opening.tenant ≡ s.opening.tenant
    by None = refl
    by (Some fault) = refl

refused-stays : (s : State) (c : Command) (now : ℕ) (fault : CommandFault) → command_answer s c now ≡ Err fault → commanded s c now ≡ s
refused-stays s (command.Order order) now fault = by (ordered s order)
  where
    by : (r : Result Change CommandFault) → order_answer r ≡ Err fault → order_left s r now ≡ s
    by (Ok change) e = absurd cc
    by (Err other) e = refl
refused-stays s command.Balances now fault = λ e. absurd cc
refused-stays s command.Roll now fault = by (roll_refusal s)
  where
    by : (o : Option CommandFault) → roll_answer s o now ≡ Err fault → roll_left s o now ≡ s
    by None e = absurd cc
    by (Some other) e = refl

pub staying_laws : StayingLaws
staying_laws =
    record {
      net_decided = network_of-decided;
      net_answered = network_of-answered;
      net_ticked = network_of-ticked;
      tenant_commanded = tenant-commanded;
      state_refused = refused-stays;
    }
