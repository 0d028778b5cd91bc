use Rattle.std.proofs.Common.{◌++◌, sym, ◌∙◌, ap, subst}
use Rattle.line_log.specs.File.{Only}
use Rattle.line_log.specs.Log.{recovered, IsWithSome}
use Rattle.line_log.proofs.Moments.{started, goes_on}
use Rattle.line_log.proofs.Recovering.{all_more, parts}
use Rattle.line_log.proofs.Steps.{nothing_yet, write_crash, write_done, settled, length_lines}
use Rattle.line_log.proofs.writing.put.Goals as goal

pub returns-in_err-write_at-clause-any_moment : goal.returns-in_err-write_at-clause-any_moment
returns-in_err-write_at-clause-any_moment g c =
    let s = c.requires.settled in
    let file = g.D.LogFile.seen c.args.file.now in
    let P = IsWithSome (recovered file) (recovered c.args.records.now) in
    let first = write_crash file c.args.records.now c.args.size c.args.end _ _ s.file s.end c.requires.records c.requires.room s.durable c.write_at.ensures.crash in
    let at_start = started g.D.LogFile.moment g.D.LogFile.left_since c.args.file.now P (λ f left. nothing_yet (recovered file) (recovered c.args.records.now) f (ap recovered (s.durable f (g.met.D.LogFile.only_now c.args.file.now f left)))) in
    goes_on g.D.LogFile.moment g.D.LogFile.left_since c.args.file.now c.args.file.now c.write_at.new.self P _ at_start c.write_at.ensures.time (λ f now. first f now)

pub returns-in_err-sync-clause-any_moment : goal.returns-in_err-sync-clause-any_moment
returns-in_err-sync-clause-any_moment g c =
    let s = c.requires.settled in
    let file = g.D.LogFile.seen c.args.file.now in
    let P = IsWithSome (recovered file) (recovered c.args.records.now) in
    let first = write_crash file c.args.records.now c.args.size c.args.end _ _ s.file s.end c.requires.records c.requires.room s.durable c.write_at.ensures.crash in
    let at_start = started g.D.LogFile.moment g.D.LogFile.left_since c.args.file.now P (λ f left. nothing_yet (recovered file) (recovered c.args.records.now) f (ap recovered (s.durable f (g.met.D.LogFile.only_now c.args.file.now f left)))) in
    let written = goes_on g.D.LogFile.moment g.D.LogFile.left_since c.args.file.now c.args.file.now c.write_at.new.self P _ at_start c.write_at.ensures.time (λ f now. first f now) in
    goes_on g.D.LogFile.moment g.D.LogFile.left_since c.args.file.now c.write_at.new.self c.sync.new.self P _ written c.sync.ensures.time (λ f now. first f (c.sync.ensures.crash f now))

pub returns-clause-any_moment : goal.returns-clause-any_moment
returns-clause-any_moment g c =
    let s = c.requires.settled in
    let file = g.D.LogFile.seen c.args.file.now in
    let P = IsWithSome (recovered file) (recovered c.args.records.now) in
    let first = write_crash file c.args.records.now c.args.size c.args.end _ _ s.file s.end c.requires.records c.requires.room s.durable c.write_at.ensures.crash in
    let at_start = started g.D.LogFile.moment g.D.LogFile.left_since c.args.file.now P (λ f left. nothing_yet (recovered file) (recovered c.args.records.now) f (ap recovered (s.durable f (g.met.D.LogFile.only_now c.args.file.now f left)))) in
    let written = goes_on g.D.LogFile.moment g.D.LogFile.left_since c.args.file.now c.args.file.now c.write_at.new.self P _ at_start c.write_at.ensures.time (λ f now. first f now) in
    goes_on g.D.LogFile.moment g.D.LogFile.left_since c.args.file.now c.write_at.new.self c.sync.new.self P _ written c.sync.ensures.time (λ f now. first f (c.sync.ensures.crash f now))

pub returns-clause-acknowledged : goal.returns-clause-acknowledged
returns-clause-acknowledged g c =
    let s = c.requires.settled in
    let file = g.D.LogFile.seen c.args.file.now in
    let rs = recovered file in
    let more = recovered c.args.records.now in
    let after = write_done file c.args.records.now _ c.args.size c.args.end s.file s.end c.requires.records c.requires.room c.in_ok-write_at.ensures.written in
    let durable = subst (λ f. Only f (g.D.LogFile.may_leave c.sync.new.self)) (sym c.sync.ensures.seen) c.in_ok-sync.ensures.durable in
    settled g.D.LogFile.seen g.D.LogFile.may_leave _ (rs ++ more) (c.sync.ensures.seen ∙ after) (all_more rs more (parts file).each (parts c.args.records.now).each)
    (length_lines rs c.args.records.now c.args.end s.end c.requires.records) c.requires.room durable
