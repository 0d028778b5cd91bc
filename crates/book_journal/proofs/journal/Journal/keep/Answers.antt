use Rattle.std.proofs.Common.{sym, ap, ◌∙◌}
use Rattle.book_journal.specs.Written.{Written}
use Rattle.book_journal.proofs.SpoiltStays.{noted_spoilt}
use Rattle.book_journal.proofs.journal.Journal.keep.Goals as goal

pub returns-clause-was_spoilt : goal.returns-clause-was_spoilt
returns-clause-was_spoilt g c is =
    sym (noted_spoilt c.args.books.now c.args.self.now) ∙ ap (λ (j : Written _). j.spoilt) (sym c.in_ok-note_all.ensures.noted)
    ∙ c.commit.ensures.was_spoilt.0 is
