use Rattle.std.proofs.Common.{◌≡◌, rules, refl, sym, subst}
use Rattle.book_journal.specs.Writer.{WriterState}
use Rattle.log_folder.specs.Disk.{disk_may_leave, disk_seen}
use Rattle.journal_shared.specs.Kept.{IsNewLog}
use Rattle.subcommands.proofs.beginning.write_pair.Goals as goal

pub returns : goal.returns
returns g c =
    subst (λ (w : WriterState _). IsNewLog disk_seen disk_may_leave c.args.starts.now w) (sym c.new.ensures) (record {
      base = c.in_ok-base.base.items;
      based = search rules;
      none = c.blank_log.ensures.records;
      durable = c.blank_log.ensures.durable;
      sound = refl;
    })
