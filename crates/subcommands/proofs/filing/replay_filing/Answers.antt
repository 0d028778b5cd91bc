use Rattle.subcommands.proofs.AllKept.{closed_kept}
use Rattle.subcommands.proofs.filing.replay_filing.Goals as goal

pub returns-then-filer : goal.returns-then-filer
returns-then-filer g c = record {
  filed = closed_kept g.S.StatementStore.tells g.S.StatementStore.keeps c.args.setup.now c.args.workers _ c.args.filer.now c.replay_keeping.new.keeper
      c.in_ok-replay_keeping.ensures.closed c.if-filer.true;
}
