use Rattle.std.proofs.Common.{rules, ◌≡◌, refl}
use Rattle.subcommands.proofs.LogKept.{adds}
use Rattle.subcommands.proofs.journalling.JournalistRecorder.keep.Goals as goal

pub returns-in-Ok : goal.returns-in-Ok
returns-in-Ok g c = record {
  kept = record {
    books = c.books.result.now;
    are = search rules;
    all = c.in-Ok.ensures.tenants;
    sound = c.in-Ok.ensures.sound;
    records = c.in-Ok.ensures.loggable;
    committed = c.in-Ok.ensures.kept;
    whole = c.in-Ok.ensures.kept.whole;
  };
  added = adds g.D.LogFile.seen g.D.LogFile.moment g.D.LogFile.left_since c.books.result.now c.args.self.now.journal c.keep.new.self
      c.in-Ok.ensures.kept c.in-Ok.ensures.unbroken c.in-Ok.ensures.any_moment;
  same = refl;
}
