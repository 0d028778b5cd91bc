use Rattle.std.proofs.Common.{rules, arith, ◌≡◌, ◌<◌, ◌≤◌, ◌∙◌, [], ◌∷◌, ◌++◌, map, Result, Err, None, refl, sym, ap, subst}
use Rattle.std.specs.Prelude.{count_by, max}
use Rattle.ilp_addr.specs.Timestamp.{last_moment}
use Rattle.tenant_core.specs.declared.book.Book.TheInside.{Inside}
use Rattle.tenant_core.specs.declared.faults.CommandFault.{CommandFault}
use Rattle.tenant_core.specs.declared.faults.CommandFault.TheVariants.{Memory}
use Rattle.tenant_core.specs.declared.period.PeriodParts.{PeriodParts}
use Rattle.tenant_core.specs.Holds.{is_open, open_holds}
use Rattle.tenant_core.specs.Kept.{state_of}
use Rattle.tenant_core.specs.Present.{network_of}
use Rattle.tenant_core.specs.Purse.{row_of}
use Rattle.tenant_core.specs.Reopening.{opening_fault}
use Rattle.tenant_core.specs.Sound.{IsSound}
use Rattle.tenant_core.specs.State.{State, clock_of}
use Rattle.tenant_core.specs.Limits.{max_period}
use Rattle.tenant_core.specs.Network.{IsNetwork}
use Rattle.tenant_core.specs.Periods.{next_opening, roll_record, roll_refusal, IsRolled}
use Rattle.tenant_core.proofs.Closings.{free_roll, period_is}
use Rattle.tenant_core.proofs.Rolls.{IsEmpty, rolled_kept}
use Rattle.tenant_core.proofs.book.Book.roll.Goals as goal

pub invariant_of-self : goal.invariant_of-self
invariant_of-self c =
    let b : Inside = c.self.inside in
    let d : Inside =
    record {
      opening = c.swap.new.x;
      network = c.in_ok-next.next.fresh.network;
      journal = c.replace-journal.new.dest;
      clock = c.max-clock.result;
      holds = c.in_ok-next.next.fresh.holds;
      purses = c.in_ok-next.next.fresh.purses;
      buckets = c.in_ok-next.next.fresh.buckets;
    } in
    let opening : d.opening ≡ next_opening (state_of b) d.clock = search rules in
    let period : b.opening.period < max_period = search rules in
    let clock : d.clock ≤ last_moment = search rules in
    let network : IsNetwork d.opening.network = search rules in
    let is = c.in_ok-next.ensures.fresh in
    let empty : IsEmpty d =
    record {
      room = search rules;
      holds_room = search rules;
      records = search rules;
      holds = search rules;
      network = search rules;
      clock = search rules;
      purses = search rules;
      buckets = search rules;
    } in
    rolled_kept c.running.ensures b d d.clock c.self.invariant opening period clock network empty

pub new-requires-2 : goal.new-requires-2
new-requires-2 c =
    let s : State = c.args.self.now in
    let count : c.awaited.result ≡ open_holds s = c.awaited.ensures.count ∙ (ap (count_by is_open) c.self.invariant.holds ∙ ap open_holds c.self.view_is) in
    let before : s.opening.period < max_period = subst (λ (t : State). t.opening.period < max_period) c.self.view_is (omega (arith, c.if-self-ge-MAX_PERIOD.false)) in
    let early : c.args.now ≤ last_moment = search rules in
    let opening : c.swap.new.y ≡ s.opening = search rules in
    let records : c.new.result ≡ s.records ++ roll_record c.args.now ∷ [] = search rules in
    let rows : c.get_mut-parts.result.now.rows ≡ map (row_of s) (network_of s).peers = search rules in
    let next : c.get_mut-parts.result.now.ending ≡ c.next_opening-opening.result = search rules in
    let is : c.next_opening-opening.result ≡ next_opening (state_of c.self.inside) c.max-clock.result = search rules in
    let clock : c.max-clock.result ≡ max (clock_of (state_of c.self.inside)) c.args.now = search rules in
    let ending : c.get_mut-parts.result.now.ending ≡ next_opening s (max (clock_of s) c.args.now) =
    next ∙ is ∙ ap (next_opening (state_of c.self.inside)) clock ∙ ap (λ (t : State). next_opening t (max (clock_of t) c.args.now)) c.self.view_is in
    let begins : opening_fault s.opening ≡ None = subst (λ (t : State). opening_fault t.opening ≡ None) c.self.view_is c.self.invariant.begins in
    let sound : IsSound s = subst IsSound c.self.view_is c.self.invariant.sound in
    period_is _ s c.args.now (λ i. record { opening = opening i; records = records i; rows = rows i; ending = ending i })
    begins sound (free_roll s c.awaited.result count c.if-awaited-gt0.false before) early

pub returns-in_err-closed : goal.returns-in_err-closed
returns-in_err-closed c =
    let s : State = c.args.self.now in
    let count : c.awaited.result ≡ open_holds s = c.awaited.ensures.count ∙ (ap (count_by is_open) c.self.invariant.holds ∙ ap open_holds c.self.view_is) in
    let before : s.opening.period < max_period = subst (λ (t : State). t.opening.period < max_period) c.self.view_is (omega (arith, c.if-self-ge-MAX_PERIOD.false)) in
    let none : roll_refusal s ≡ None = free_roll s c.awaited.result count c.if-awaited-gt0.false before in
    let memory : c.from_residual-in_err-closed.result ≡ Err Memory = search rules in
    subst (λ (r : Result PeriodParts CommandFault). IsRolled r c.args.self.now c.args.self.now c.args.now) (sym memory) (none, refl)
