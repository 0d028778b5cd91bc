use Rattle.std.proofs.Common.{rules, arith, ◌≡◌, ◌<◌, ◌+◌, ◌++◌, ◌∷◌, [], length, List, subst, sym, ap, ◌∙◌}
use Rattle.std.proofs.Math.ListN.{get_or}
use Rattle.std.proofs.lemmas.List.{get_or-map, length-map}
use Rattle.std.proofs.lemmas.List.Elements.{All-get_or}
use Rattle.floor_core.specs.World.{no_book}
use Rattle.book_log.specs.declared.line.LinePlace.{LinePlace}
use Rattle.book_journal.specs.Writer.{WriterState}
use Rattle.journal_shared.specs.Fronts.{Front, IsFront, IsMet, end_of}
use Rattle.journal_shared.specs.Kept.{IsWritten, ends_of}
use Rattle.journal_shared.proofs.AllTenants.{goes_all, goes_next}
use Rattle.journal_shared.proofs.keeper.Keeper.note_all.Goals as goal

pub loop-tenant-preserved : goal.loop-tenant-preserved
loop-tenant-preserved g c =
    let pushed : c.push.new.self.items ≡ c.loop-tenant.pen.next.items ++ c.in_ok-to.to ∷ [] = search rules in
    record {
      end = search rules;
      goes = λ ready.
          let d : Front = record { steps = []; state = no_book } in
          let so_far = c.loop-tenant.invariant.goes ready in
          let places : c.loop-tenant.pen.places.items ≡ ends_of ready.fronts
          = ap (λ (ps : _). ps.items) c.loop-tenant.invariant.places ∙ ready.places in
          let many : length c.loop-tenant.pen.places.items ≡ length ready.fronts = ap length places ∙ length-map ready.fronts (λ (f : Front). end_of f) in
          let below : c.loop-tenant.tenant < length c.loop-tenant.pen.places.items = search rules in
          let within : c.loop-tenant.tenant < length ready.fronts = omega (arith, below, many) in
          let own : Front = get_or ready.fronts c.loop-tenant.tenant d in
          let at : c.index-from.result.now ≡ get_or c.loop-tenant.pen.places.items c.loop-tenant.tenant c.index-from.result.now = search rules in
          let from : c.index-from.result.now ≡ end_of own
          = at ∙ (ap (λ (ps : List LinePlace). get_or ps c.loop-tenant.tenant c.index-from.result.now) places
          ∙ get_or-map (λ (f : Front). end_of f) ready.fronts c.loop-tenant.tenant d c.index-from.result.now within) in
          goes_next g.J.Run.openings ready.fronts c.loop-tenant.tenant (c.loop-tenant.tenant + 1) d c.loop-tenant.pen.lines.items c.note.new.lines.items
          c.loop-tenant.pen.next.items c.push.new.self.items c.in_ok-to.to c.loop-tenant.pen.watcher c.note.new.watcher within (omega arith) pushed so_far
          (c.in_ok-to.ensures.lines own (All-get_or (IsFront g.J.Run.openings) ready.fronts c.loop-tenant.tenant d within ready.are)
          (All-get_or (IsMet c.loop-tenant.pen.watcher) ready.fronts c.loop-tenant.tenant d within so_far.met_before) from)
          c.note.ensures.met;
      writer = search rules;
      places = search rules;
    }

pub returns : goal.returns
returns g c =
    let ready = c.requires.ready in
    let so_far = c.loop-tenant.invariant.goes ready in
    let places : c.loop-tenant.pen.places.items ≡ ends_of ready.fronts
    = ap (λ (ps : _). ps.items) c.loop-tenant.invariant.places ∙ ready.places in
    let many : length c.loop-tenant.pen.places.items ≡ length ready.fronts = ap length places ∙ length-map ready.fronts (λ (f : Front). end_of f) in
    let all : c.loop-tenant.tenant ≡ length c.loop-tenant.pen.places.items = search rules in
    record {
      next = record {
        before = ready.fronts;
        written = subst (λ (w : WriterState g.row.D.Denot). IsWritten g.D.LogFile.seen g.D.LogFile.may_leave g.J.Run.openings w ready.fronts)
            (sym c.loop-tenant.invariant.writer) ready.written;
        after = so_far.after;
        are = so_far.are;
        lines = goes_all g.J.Run.openings ready.fronts c.loop-tenant.tenant c.loop-tenant.pen.lines.items c.loop-tenant.pen.next.items
            c.loop-tenant.pen.watcher (all ∙ many) so_far;
        places = so_far.ends_are;
        met = so_far.met_after;
      };
    }
