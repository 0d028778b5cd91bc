use Rattle.std.proofs.Common.{◌≡◌, rules, refl, sym, subst}
use Rattle.book_journal.specs.Written.{Written}
use Rattle.log_folder.specs.Disk.{disk_may_leave, disk_seen}
use Rattle.subcommands.specs.Journalling.{IsJournalOf}
use Rattle.subcommands.proofs.journalling.begin_journal.Goals as goal

pub returns : goal.returns
returns g c =
    subst (λ (j : Written _). IsJournalOf disk_seen disk_may_leave c.args.setup.now j) (sym c.in_ok-new.ensures) (record {
      starts = c.in_ok-starts.starts.items;
      are = c.in_ok-starts.ensures;
      base = c.in_ok-base.base.items;
      sum = c.in_ok-base.sum;
      based = search rules;
      new = record {
        log = c.blank_log-log.ensures.records;
        sum_is = refl;
        pending = refl;
        places = search rules;
        sound = refl;
      };
      durable = c.blank_log-log.ensures.durable;
    })
