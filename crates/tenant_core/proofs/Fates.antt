-- The holds of a state, told record by record, are those that its records begin, each with what became of it.
use Rattle.std.proofs.Common.{◌≡◌, ℕ, Bool, true, false, cond, eqb, List, [], ◌∷◌, ◌++◌, map, fold, refl, sym, ap, ◌∙◌, append_assoc, append-nil}
use Rattle.std.specs.Prelude.{Option, Some, None, IfSome, find, nat_le, ◌&&◌, ◌||◌}
use Rattle.std.proofs.lemmas.List.{map-append}
use Rattle.tenant_core.specs.declared.hold.Fate.{Fate}
use Rattle.tenant_core.specs.declared.hold.Fate.TheVariants.{Held, Marked, Ended}
use Rattle.tenant_core.specs.declared.hold.Hold.{Hold}
use Rattle.tenant_core.specs.declared.journal.Entry.{Entry}
use Rattle.tenant_core.specs.declared.journal.Entry.TheVariants.{Decide, Answer, Tick, Change, Roll}
use Rattle.tenant_core.specs.declared.journal.Outcome.{Outcome}
use Rattle.tenant_core.specs.declared.journal.Outcome.TheVariants.{Packet, Ticked, Done, Rolled}
use Rattle.tenant_core.specs.declared.journal.Record.{Record}
use Rattle.tenant_core.specs.declared.verdict.Verdict.{Verdict}
use Rattle.tenant_core.specs.declared.verdict.Verdict.TheVariants.{Unknown, NoRoom, Refuse, Fulfil, Forward, Relay}
use Rattle.tenant_core.specs.Fates.{FateLaw, fate_by, fate_of, fulfills, holds_told, is_answer_to, is_tick_past, is_ticked_past, with_what_became}
use Rattle.tenant_core.specs.Holds.{Course, course_after, holds_of, hold_after, hold_begun, begun_by, awaits_answer, holds_amounts, is_fulfill, is_relayed, with_fate}
use Rattle.tenant_core.specs.State.{extended, later}

-- what becomes of a hold that has a fate already
abbrev later_fate : Fate → Option Record → Bool → Fate
later_fate Held answer ticked = fate_by answer ticked
later_fate Marked answer ticked = fate_by answer true
later_fate (Ended fulfilled) answer ticked = Ended fulfilled

-- so of a hold, by records that follow that clock
abbrev ended_so : (clock : ℕ) → List Record → Hold → Hold
ended_so clock rs h =
    with_fate h (later_fate h.fate (find (λ r. is_answer_to h.number r.entry) rs) (is_ticked_past h.expiry clock rs))

-- ---- one record more in front

by_answer : (here : Bool) (f : Fate) (r : Record) (fulfilled : Bool) (answer : Option Record) (ticked : Bool) → fulfills r.entry r.outcome ≡ fulfilled
    → later_fate f (cond here (Some r) answer) ticked ≡ later_fate (cond (here && awaits_answer f) (Ended fulfilled) f) answer ticked
by_answer true Held r fulfilled answer ticked is = ap (λ b. Ended b) is
by_answer true Marked r fulfilled answer ticked is = ap (λ b. Ended b) is
by_answer true (Ended b) r fulfilled answer ticked is = refl
by_answer false Held r fulfilled answer ticked is = refl
by_answer false Marked r fulfilled answer ticked is = refl
by_answer false (Ended b) r fulfilled answer ticked is = refl

by_tick : (past : Bool) (f : Fate) (answer : Option Record) (ticked : Bool)
    → later_fate f answer (past || ticked) ≡ later_fate (cond (holds_amounts f && past) Marked f) answer ticked
by_tick true Held answer ticked = refl
by_tick true Marked answer ticked = refl
by_tick true (Ended b) answer ticked = refl
by_tick false Held answer ticked = refl
by_tick false Marked answer ticked = refl
by_tick false (Ended b) answer ticked = refl

-- what becomes of a hold by records is what becomes by those behind the first one of what that one leaves
step : (k : ℕ) (e : Entry) (o : Outcome) (h : Hold) (rs : List Record)
    → with_fate h (later_fate h.fate (cond (is_answer_to h.number e) (Some (record { entry = e; outcome = o })) (find (λ r. is_answer_to h.number r.entry) rs))
    (is_tick_past h.expiry k e || is_ticked_past h.expiry k rs))
    ≡ ended_so k rs (hold_after k e o h)
step k (Decide d) o h rs = refl
step k (Answer a) o h rs =
    ap (with_fate h) (by_answer (eqb h.number a.hold) h.fate (record { entry = Answer a; outcome = o }) (is_fulfill a.key && is_relayed o)
    (find (λ r. is_answer_to h.number r.entry) rs) (is_ticked_past h.expiry k rs) refl)
step k (Tick t) o h rs =
    ap (with_fate h) (by_tick (nat_le h.expiry k) h.fate (find (λ r. is_answer_to h.number r.entry) rs) (is_ticked_past h.expiry k rs))
step k (Change c) o h rs = refl
step k (Roll r) o h rs = refl

stepped : (clock : ℕ) (r : Record) (rs : List Record) (hs : List Hold)
    → map (ended_so (later clock r) rs) (map (hold_after (later clock r) r.entry r.outcome) hs) ≡ map (ended_so clock (r ∷ rs)) hs
stepped clock r rs [] = refl
stepped clock r rs (h ∷ hs) =
    let first : ended_so clock (r ∷ rs) h ≡ ended_so (later clock r) rs (hold_after (later clock r) r.entry r.outcome h) = step (later clock r) r.entry r.outcome h rs in
    let others = stepped clock r rs hs in
    cc

-- ---- the holds of records

same_fate : (f : Fate) → later_fate f None false ≡ f
same_fate Held = refl
same_fate Marked = refl
same_fate (Ended b) = refl

none_behind : (clock : ℕ) (hs : List Hold) → map (ended_so clock []) hs ≡ hs
none_behind clock [] = refl
none_behind clock (h ∷ hs) =
    let first : ended_so clock [] h ≡ h = ap (with_fate h) (same_fate h.fate) in
    let others = none_behind clock hs in
    cc

begun_held : (e : Entry) (o : Outcome) → IfSome (hold_begun e o) (λ h. h.fate ≡ Held)
begun_held (Decide d) (Packet v) = of v
  where
    of : (v : Verdict) → IfSome (begun_by d v) (λ h. h.fate ≡ Held)
    of Unknown = tt
    of NoRoom = tt
    of (Refuse code amounts) = tt
    of Fulfil = tt
    of (Forward hold peer amount expiry) = refl
    of Relay = tt
begun_held (Decide d) (Ticked n) = tt
begun_held (Decide d) Done = tt
begun_held (Decide d) Rolled = tt
begun_held (Answer a) o = tt
begun_held (Tick t) o = tt
begun_held (Change c) o = tt
begun_held (Roll r) o = tt

joined : (k : ℕ) (rs : List Record) (ys : List Hold) (o : Option Hold) (told : List Hold) → IfSome o (λ h. h.fate ≡ Held)
    → map (ended_so k rs) (extended ys o) ++ told ≡ map (ended_so k rs) ys ++ (with_what_became o k rs ++ told)
joined k rs ys None told held = refl
joined k rs ys (Some h) told held =
    let became : ended_so k rs h ≡ with_fate h (fate_of h k rs) =
    ap (λ (f : Fate). with_fate h (later_fate f (find (λ r. is_answer_to h.number r.entry) rs) (is_ticked_past h.expiry k rs))) held in
    ap (λ (xs : List Hold). xs ++ told) (map-append (ended_so k rs) ys (h ∷ []))
    ∙ (append_assoc (map (ended_so k rs) ys) (ended_so k rs h ∷ []) told
    ∙ ap (λ (x : Hold). map (ended_so k rs) ys ++ (x ∷ told)) became)

told_from : (rs : List Record) (c : Course) → (fold course_after c rs).holds ≡ map (ended_so c.clock rs) c.holds ++ holds_told c.clock rs
told_from [] c = sym (append-nil (map (ended_so c.clock []) c.holds) ∙ none_behind c.clock c.holds)
told_from (r ∷ rs) c =
    let k : ℕ = later c.clock r in
    let after : List Hold = map (hold_after k r.entry r.outcome) c.holds in
    told_from rs (course_after c r)
    ∙ (joined k rs after (hold_begun r.entry r.outcome) (holds_told k rs) (begun_held r.entry r.outcome)
    ∙ ap (λ (xs : List Hold). xs ++ (with_what_became (hold_begun r.entry r.outcome) k rs ++ holds_told k rs)) (stepped c.clock r rs c.holds))

pub fate_law : FateLaw
unfolding holds_of
fate_law s = told_from s.records (record { clock = s.opening.clock; holds = [] })
