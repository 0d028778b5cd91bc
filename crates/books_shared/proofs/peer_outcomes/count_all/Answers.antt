use Rattle.std.proofs.Common.{rules, ◌≡◌, ◌∙◌, List, Some, None, ap, option_map, slice_get, subst, sym}
use Rattle.tenant_core.specs.Views.{record_of}
use Rattle.tenant_core.specs.declared.journal.Record.{Record}
use Rattle.books_shared.specs.PeerOutcomes.{AreCountedByPeer}
use Rattle.books_shared.proofs.PeerOutcomes.{next_counted, take_past}
use Rattle.books_shared.proofs.peer_outcomes.count_all.Goals as goal
use Rattle.books_shared.proofs.peer_outcomes.count_all.Goals.{in-Some+in_ok-count_record, in_default}

pub loop-place-preserved : goal.loop-place-preserved
loop-place-preserved c = elim c.match-get.branch [
  | in-Some+in_ok-count_record w ↦
      let at : slice_get c.args.journal.now.records c.loop-place.place ≡ Some (record_of w.in-Some.made) =
      sym c.get.ensures.value ∙ ap (option_map record_of) w.in-Some.is in (
        rw w.rows-is (next_counted c.loop-place.rows.items w.count_record.new.rows.items c.args.holds.now c.args.journal.now.records c.loop-place.place
            (record_of w.in-Some.made) c.loop-place.invariant.0 at w.in_ok-count_record.ensures.raised),
        search rules,
      )
  | in_default w ↦
      let past : slice_get c.args.journal.now.records c.loop-place.place ≡ None =
      sym c.get.ensures.value ∙ ap (option_map record_of) w.in_default.is in (
        rw w.rows-is (subst (λ (done : List Record). AreCountedByPeer c.loop-place.rows.items c.args.holds.now done)
            (sym (take_past c.args.journal.now.records c.loop-place.place past)) c.loop-place.invariant.0),
        search rules,
      )
]
