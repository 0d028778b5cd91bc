use Rattle.std.proofs.Common.{rules, ◌≡◌, ◌<◌, ◌≤◌, List, Some, None, length, ap, sym, ◌∙◌}
use Rattle.std.specs.List.{slice_get}
use Rattle.std.proofs.lemmas.Bool.{ltb-false, ltb-true}
use Rattle.std.proofs.lemmas.Option.{slice_get-get_or, slice_get_past}
use Rattle.book_log.specs.declared.line.LinePlace.{LinePlace}
use Rattle.journal_shared.specs.Progress.{ProgressState, covers_in}
use Rattle.journal_shared.proofs.Commits.{kept_by}
use Rattle.journal_shared.proofs.progress.Progress.has.Goals as goal

pub returns-in-Some-clause-kept : goal.returns-in-Some-clause-kept
returns-in-Some-clause-kept g c = λ sound covered.
    let said = c.self.invariant.on_disk (search rules) in
    let found = c.in-Some.ensures.lookup in
    let within : c.args.place.tenant < length c.deref.result.now = ltb-true c.args.place.tenant (length c.deref.result.now) (sym found.0) in
    let at : slice_get c.self.inside.kept.items c.args.place.tenant ≡ Some c.in-Some.kept.now
    = ap (λ (ps : List LinePlace). slice_get ps c.args.place.tenant) (sym c.deref.ensures.value)
    ∙ (slice_get-get_or c.deref.result.now c.args.place.tenant c.in-Some.kept.now within ∙ ap (λ (p : LinePlace). Some p) (sym found.1)) in
    kept_by g.D.LogFile.seen g.D.LogFile.may_leave g.J.Run.openings c.self.inside.kept.items c.args.place c.in-Some.kept.now said at (search rules)

pub returns-in-None-clause-exact : goal.returns-in-None-clause-exact
returns-in-None-clause-exact g c =
    let found = c.in-None.ensures.lookup in
    let past : length c.deref.result.now ≤ c.args.place.tenant = ltb-false c.args.place.tenant (length c.deref.result.now) (sym found.0) in
    let none : slice_get c.args.self.now.kept c.args.place.tenant ≡ None
    = ap (λ (p : ProgressState). slice_get p.kept c.args.place.tenant) (sym c.self.view_is)
    ∙ (ap (λ (ps : List LinePlace). slice_get ps c.args.place.tenant) (sym c.deref.ensures.value) ∙ slice_get_past c.deref.result.now c.args.place.tenant past) in
    sym (ap (λ found. covers_in found c.args.place) none)
