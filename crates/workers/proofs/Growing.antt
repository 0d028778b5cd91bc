-- What a worker's share grows by: what a call under a lock has counted, with room made before.
use Rattle.std.proofs.Common.{◌≡◌, ℕ, false, true, List, Option, None, Result, add-zero, append-nil, get_or, refl, sym, ap, subst, ◌∙◌}
use Rattle.std.proofs.lemmas.List.{set-get_or}
use Rattle.tenant_core.specs.Governed.{IsGoverned, made_by}
use Rattle.tenant_core.specs.Sound.{IsSound}
use Rattle.tenant_core.specs.State.{State, recorded}
use Rattle.tenant_core.specs.declared.command.Answered.{Answered}
use Rattle.tenant_core.specs.declared.command.Command.{Command}
use Rattle.tenant_core.specs.declared.command.Command.TheVariants.{Roll}
use Rattle.tenant_core.specs.declared.faults.CommandFault.{CommandFault}
use Rattle.tenant_core.specs.declared.journal.Record.{Record}
use Rattle.floor_core.specs.Work.{Called, Work}
use Rattle.floor_core.specs.declared.parts.Turn.{Turn}
use Rattle.one_list.specs.Steps.{Place, next_place, of_tenant, of_worker}
use Rattle.books_shared.specs.Kept.{LockedBook}
use Rattle.books_shared.specs.Rises.{command_rise, nothing, rise_of}
use Rattle.books_shared.specs.Shares.{ShareView, added, share_met}
use Rattle.books_shared.specs.Traced.{IsLedTo, share_counted}
use Rattle.books_shared.specs.declared.rise.CallCounts.{CallCounts}
use Rattle.workers.specs.Carrying.{AreAlike, Circumstances, Found, Growth, HasGrown, HasMet, WasCalled, WasCommanded, WasDone, WasDoneUntold, growth, meeting}
use Rattle.workers.specs.Keeping.{place_after}
use Rattle.workers.specs.declared.keeping.JournalPlace.{JournalPlace}
use Rattle.workers.specs.Rolling.{WasRipe, WasRolled, WasRolledUntold, WasUnripe, is_ripe}

-- ---- a call

-- what a guard has counted
pub counted_grows : {under : Circumstances} (found : Found under) (rise : CallCounts) (made : Option Record) (t : ℕ) (before after : ShareView)
    → after ≡ share_counted rise (next_place found.book) made (meeting found before) → HasGrown found rise made (growth t before after)
counted_grows found rise made t before after e = rw e refl

-- a call under a lock: the book was found so, and stayed so when it met the share
pub was_called : {under : Circumstances} (call : State → ℕ → Called) (t : ℕ) (k met : LockedBook) (now : ℕ) (told : Turn) (left : Work) (place : JournalPlace) (before roomy after : ShareView)
    → met ≡ k → roomy ≡ share_met k.state.opening.tenant k.steps before → IsSound k.state → IsLedTo under.openings k.state k.steps → under.Gives now → k.state.opening.tenant ≡ t
    → of_worker before.worker k.steps ≡ of_tenant k.state.opening.tenant before.steps → told ≡ (call met.state now).turn → left ≡ (call met.state now).work
    → after ≡ share_counted (rise_of (call met.state now)) (next_place met.state) (call met.state now).made roomy → place ≡ place_after (recorded met.state (call met.state now).made)
    → WasCalled under (growth t before after) call told left place
was_called {under} call t k met now told left place before roomy after same alike sound led gave own mine turned worked grew behind =
    let found : Found under = record { book = k.state; steps = k.steps; now = now; sound = sound; led = led; gave = gave } in record {
      found = found;
      own = own;
      mine = mine ∙ ap (λ n. of_tenant n before.steps) own;
      told = sym (turned ∙ ap (λ (z : LockedBook). (call z.state now).turn) same);
      left = worked ∙ ap (λ (z : LockedBook). (call z.state now).work) same;
      grew = counted_grows found (rise_of (call k.state now)) (call k.state now).made t before after
          (grew ∙ (λ i. share_counted (rise_of (call (same i).state now)) (next_place (same i).state) (call (same i).state now).made (alike i)));
      at = behind ∙ ap (λ (z : LockedBook). place_after (recorded z.state (call z.state now).made)) same;
    }

-- ---- nothing

added_zero : (counts : List ℕ) (t : ℕ) → added counts t 0 ≡ counts
added_zero counts t = rw (add-zero (get_or counts t 0)) (set-get_or counts t 0)

counted_nothing : (at : Place) (s : ShareView) → AreAlike s (share_counted nothing at None s)
counted_nothing at s = (λ k. record {
  worker = s.worker;
  counts = added_zero s.counts at.tenant k;
  strangers = added_zero s.strangers at.tenant k;
  full = added_zero s.full at.tenant k;
  room = (share_counted nothing at None s).room;
  steps = append-nil s.steps k;
  met = s.met;
  audited = s.audited;
})

-- a call that counts nothing
pub grew_nothing : {under : Circumstances} (found : Found under) (g : Growth) → HasGrown found nothing None g → HasMet found g
grew_nothing found g grew =
    grew ∙ ap (λ (s : ShareView). record s { room = g.after.room }) (counted_nothing (next_place found.book) (meeting found g.before))

-- ---- room

-- what has grown from where room was made has grown from before that
pub grew_roomy : {under : Circumstances} (found : Found under) (rise : CallCounts) (made : Option Record) (t : ℕ) (s roomy after : ShareView) → roomy ≡ record s { room = 2 }
    → HasGrown found rise made (growth t roomy after) → HasGrown found rise made (growth t s after)
grew_roomy found rise made t s roomy after is grew = subst (λ (r : ShareView). HasGrown found rise made (growth t r after)) is grew

pub called_roomy : {under : Circumstances} (call : State → ℕ → Called) (t : ℕ) (told : Turn) (left : Work) (place : JournalPlace) (s roomy after : ShareView) → roomy ≡ record s { room = 2 }
    → WasCalled under (growth t roomy after) call told left place → WasCalled under (growth t s after) call told left place
called_roomy call t told left place s roomy after is h = record {
  found = h.found;
  own = h.own;
  mine = subst (λ (r : ShareView). of_worker r.worker h.found.steps ≡ of_tenant t r.steps) is h.mine;
  told = h.told;
  left = h.left;
  grew = grew_roomy h.found _ _ t s roomy after is h.grew;
  at = h.at;
}

-- a command under a lock, after which that is the place after the book's records
pub was_commanded : {under : Circumstances} (t : ℕ) (k met : LockedBook) (now : ℕ) (given : Command) (answer : Result Answered CommandFault) (left : State) (place : JournalPlace) (s ready after : ShareView)
    → met ≡ k → ready ≡ share_met k.state.opening.tenant k.steps s → IsSound k.state → IsLedTo under.openings k.state k.steps → under.Gives now → k.state.opening.tenant ≡ t
    → of_worker s.worker k.steps ≡ of_tenant k.state.opening.tenant s.steps → IsGoverned answer given met.state left now
    → after ≡ share_counted (command_rise answer) (next_place met.state) (made_by answer met.state given now) ready → place ≡ place_after left
    → (commanded : WasCommanded under (growth t s after) given answer) × (place ≡ place_after commanded.after)
was_commanded {under} t k met now given answer left place s ready after same alike sound led gave own mine governed grew at =
    let found : Found under = record { book = k.state; steps = k.steps; now = now; sound = sound; led = led; gave = gave } in
    let commanded : WasCommanded under (growth t s after) given answer = record {
      found = found;
      own = own;
      mine = mine ∙ ap (λ n. of_tenant n s.steps) own;
      after = left;
      governed = subst (λ (z : LockedBook). IsGoverned answer given z.state left now) same governed;
      grew = counted_grows found (command_rise answer) (made_by answer k.state given now) t s after
          (grew ∙ (λ i. share_counted (command_rise answer) (next_place (same i).state) (made_by answer (same i).state given now) (alike i)));
    } in
    (commanded, at)

-- a command, once room was made
pub commanded_roomy : {under : Circumstances} (t : ℕ) (given : Command) (answer : Result Answered CommandFault) (place : JournalPlace) (s roomy after : ShareView) → roomy ≡ record s { room = 2 }
    → (h : WasCommanded under (growth t roomy after) given answer) → place ≡ place_after h.after → (commanded : WasCommanded under (growth t s after) given answer) × (place ≡ place_after commanded.after)
commanded_roomy {under} t given answer place s roomy after is h at =
    let commanded : WasCommanded under (growth t s after) given answer = record {
      found = h.found;
      own = h.own;
      mine = subst (λ (r : ShareView). of_worker r.worker h.found.steps ≡ of_tenant t r.steps) is h.mine;
      after = h.after;
      governed = h.governed;
      grew = grew_roomy h.found _ _ t s roomy after is h.grew;
    } in
    (commanded, at)

-- a command that is kept, once room was made
pub done_roomy : {under : Circumstances} (t : ℕ) (given : Command) (came answer : Result Answered CommandFault) (place : JournalPlace) (s roomy after : ShareView) → came ≡ answer → roomy ≡ record s { room = 2 }
    → (h : WasCommanded under (growth t roomy after) given came) → place ≡ place_after h.after → under.Keeps place → WasDone under (growth t s after) given answer
done_roomy {under} t given came answer place s roomy after same is h at kept =
    let k : (commanded : WasCommanded under (growth t s after) given came) × (place ≡ place_after commanded.after) = commanded_roomy t given came place s roomy after is h at in
    subst (λ (a : Result Answered CommandFault). WasDone under (growth t s after) given a) same (record { commanded = k.0; kept = subst under.Keeps k.1 kept })

-- a command that is not known to be kept, once room was made
pub untold_roomy : {under : Circumstances} (t : ℕ) (given : Command) (came : Result Answered CommandFault) (place : JournalPlace) (s roomy after : ShareView) → roomy ≡ record s { room = 2 }
    → (h : WasCommanded under (growth t roomy after) given came) → place ≡ place_after h.after → under.Fails → WasDoneUntold under (growth t s after) given
untold_roomy {under} t given came place s roomy after is h at failed =
    let k : (commanded : WasCommanded under (growth t s after) given came) × (place ≡ place_after commanded.after) = commanded_roomy t given came place s roomy after is h at in
    record { answer = came; commanded = k.0; failed = failed }

-- a book that was looked at under a lock, and left alone
pub was_unripe : {under : Circumstances} (t percent : ℕ) (k met : LockedBook) (now : ℕ) (s ready : ShareView) → met ≡ k
    → ready ≡ share_met k.state.opening.tenant k.steps s → IsSound k.state → IsLedTo under.openings k.state k.steps → under.Gives now → k.state.opening.tenant ≡ t
    → of_worker s.worker k.steps ≡ of_tenant k.state.opening.tenant s.steps → is_ripe percent met.state ≡ false → WasUnripe under percent (growth t s ready)
was_unripe {under} t percent k met now s ready same alike sound led gave own mine unripe = record {
  found = record { book = k.state; steps = k.steps; now = now; sound = sound; led = led; gave = gave };
  own = own;
  mine = mine ∙ ap (λ n. of_tenant n s.steps) own;
  unripe = ap (λ (z : LockedBook). is_ripe percent z.state) (sym same) ∙ unripe;
  none = subst (λ (r : ShareView). r ≡ record (share_met k.state.opening.tenant k.steps s) { room = r.room }) (sym alike) refl;
}

-- such a book, once room was made
pub unripe_roomy : {under : Circumstances} (t percent : ℕ) (s roomy after : ShareView) → roomy ≡ record s { room = 2 } → WasUnripe under percent (growth t roomy after) → WasUnripe under percent (growth t s after)
unripe_roomy {under} t percent s roomy after is h = record {
  found = h.found;
  own = h.own;
  mine = subst (λ (r : ShareView). of_worker r.worker h.found.steps ≡ of_tenant t r.steps) is h.mine;
  unripe = h.unripe;
  none = subst (λ (r : ShareView). HasMet h.found (growth t r after)) is h.none;
}

-- a book that was found ripe under a lock got the command to roll, and answered so
pub was_ripe : {under : Circumstances} (t percent : ℕ) (k met : LockedBook) (now : ℕ) (answer : Result Answered CommandFault) (left : State) (place : JournalPlace) (s ready after : ShareView)
    → met ≡ k → ready ≡ share_met k.state.opening.tenant k.steps s → IsSound k.state → IsLedTo under.openings k.state k.steps → under.Gives now
    → k.state.opening.tenant ≡ t → of_worker s.worker k.steps ≡ of_tenant k.state.opening.tenant s.steps → IsGoverned answer Roll met.state left now
    → after ≡ share_counted (command_rise answer) (next_place met.state) (made_by answer met.state Roll now) ready → is_ripe percent met.state ≡ true → place ≡ place_after left
    → (ripe : WasRipe under percent (growth t s after) answer) × (place ≡ place_after ripe.rolled.after)
was_ripe {under} t percent k met now answer left place s ready after same alike sound led gave own mine governed grew ripe at =
    let found : Found under = record { book = k.state; steps = k.steps; now = now; sound = sound; led = led; gave = gave } in
    let commanded : WasCommanded under (growth t s after) Roll answer = record {
      found = found;
      own = own;
      mine = mine ∙ ap (λ n. of_tenant n s.steps) own;
      after = left;
      governed = subst (λ (z : LockedBook). IsGoverned answer Roll z.state left now) same governed;
      grew = counted_grows found (command_rise answer) (made_by answer k.state Roll now) t s after
          (grew ∙ (λ i. share_counted (command_rise answer) (next_place (same i).state) (made_by answer (same i).state Roll now) (alike i)));
    } in
    (record { rolled = commanded; ripe = ap (λ (z : LockedBook). is_ripe percent z.state) (sym same) ∙ ripe }, at)

-- such a roll, once room was made
pub ripe_roomy : {under : Circumstances} (t percent : ℕ) (answer : Result Answered CommandFault) (place : JournalPlace) (s roomy after : ShareView) → roomy ≡ record s { room = 2 }
    → (h : WasRipe under percent (growth t roomy after) answer) → place ≡ place_after h.rolled.after → (ripe : WasRipe under percent (growth t s after) answer) × (place ≡ place_after ripe.rolled.after)
ripe_roomy {under} t percent answer place s roomy after is h at =
    let h' : WasCommanded under (growth t roomy after) Roll answer = h.rolled in
    let commanded : WasCommanded under (growth t s after) Roll answer = record {
      found = h'.found;
      own = h'.own;
      mine = subst (λ (r : ShareView). of_worker r.worker h'.found.steps ≡ of_tenant t r.steps) is h'.mine;
      after = h'.after;
      governed = h'.governed;
      grew = grew_roomy h'.found _ _ t s roomy after is h'.grew;
    } in
    (record { rolled = commanded; ripe = h.ripe }, at)

-- a roll that is kept, once room was made
pub rolled_roomy : {under : Circumstances} (t percent : ℕ) (came answer : Result Answered CommandFault) (place : JournalPlace) (s roomy after : ShareView) → came ≡ answer → roomy ≡ record s { room = 2 }
    → (h : WasRipe under percent (growth t roomy after) came) → place ≡ place_after h.rolled.after → under.Keeps place → WasRolled under percent (growth t s after) answer
rolled_roomy {under} t percent came answer place s roomy after same is h at kept =
    let k : (ripe : WasRipe under percent (growth t s after) came) × (place ≡ place_after ripe.rolled.after) = ripe_roomy t percent came place s roomy after is h at in
    subst (λ (a : Result Answered CommandFault). WasRolled under percent (growth t s after) a) same (record { ripe = k.0; kept = subst under.Keeps k.1 kept })

-- a roll that is not known to be kept, once room was made
pub rolled_untold : {under : Circumstances} (t percent : ℕ) (came : Result Answered CommandFault) (place : JournalPlace) (s roomy after : ShareView) → roomy ≡ record s { room = 2 }
    → (h : WasRipe under percent (growth t roomy after) came) → place ≡ place_after h.rolled.after → under.Fails → WasRolledUntold under percent (growth t s after)
rolled_untold {under} t percent came place s roomy after is h at failed =
    let k : (ripe : WasRipe under percent (growth t s after) came) × (place ≡ place_after ripe.rolled.after) = ripe_roomy t percent came place s roomy after is h at in
    record { answer = came; ripe = k.0; failed = failed }
