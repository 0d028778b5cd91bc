use Rattle.http_link.proofs.Known.{Appends-both}
use Rattle.http_link.proofs.streams.write_all_of_both.Goals as goal

pub returns-clause-whole : goal.returns-clause-whole
returns-clause-whole g c =
    let first = rw c.split_at.ensures.back at c.in_ok-write_all.ensures.whole in
    let second = rw c.split_at-2.ensures.back at c.write_all-2.ensures.whole in
    Appends-both _ _ _ _ _ _ _ c.in_ok-taken.taken c.min-of_first.result c.min-of_first.ensures c.in_ok-taken.ensures.taken.1 first second
