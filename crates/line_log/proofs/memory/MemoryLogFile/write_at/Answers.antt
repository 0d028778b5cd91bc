use Rattle.std.proofs.Common.{◌∙◌}
use Rattle.line_log.proofs.Kept.{elapses_to}
use Rattle.line_log.proofs.Steps.{none_of_it, all_of_it}
use Rattle.line_log.proofs.memory.MemoryLogFile.write_at.Goals as goal

pub returns-then-self-eq0-clause-crash : goal.returns-then-self-eq0-clause-crash
returns-then-self-eq0-clause-crash c = none_of_it c.args.self.now.bytes.items c.args.bytes.now c.args.at c.requires.within

pub returns-in-Ok-clause-crash : goal.returns-in-Ok-clause-crash
returns-in-Ok-clause-crash c f is = all_of_it c.args.self.now.bytes.items c.args.bytes.now c.args.at c.requires.within f (is ∙ c.in-Ok.ensures.ok)

pub returns-in-Ok-clause-time : goal.returns-in-Ok-clause-time
returns-in-Ok-clause-time c =
    let past = c.in-Ok.ensures.past in
    elapses_to c.args.self.now.past.items c.place.new.past.items past.0 c.args.self.now.bytes.items c.place.new.file.items past.1 past.2

pub returns-in-Err-clause-crash : goal.returns-in-Err-clause-crash
returns-in-Err-clause-crash c f is = none_of_it c.args.self.now.bytes.items c.args.bytes.now c.args.at c.requires.within f (is ∙ c.in-Err.ensures.err)
