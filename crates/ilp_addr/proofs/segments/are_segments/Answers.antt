use Rattle.std.proofs.Common.{◌==◌, ◌∙◌, ◌&&◌, sym, ap}
use Rattle.std.proofs.lemmas.List.{drop_all, at_drop_more}
use Rattle.ilp_addr.proofs.Marks.{is_fine, kinds, on}
use Rattle.ilp_addr.proofs.Runs.{runs, runs_are_segments}
use Rattle.ilp_addr.proofs.segments.are_segments.Goals as goal

pub loop-byte-preserved : goal.loop-byte-preserved
loop-byte-preserved c =
    let before = c.loop-byte.before in
    let more = at_drop_more (runs (before == 49)) c.args.bytes.now c.loop-byte.byte-index 0 c.loop-byte-test.true in
    let (is_kind, so_far) = c.loop-byte.invariant in
    rw c.kind_of-kind.ensures (kinds _, on c.loop-byte.wrong before _ _ is_kind ∙ ap (λ r. is_fine c.loop-byte.wrong && r) (sym more) ∙ so_far)

pub returns : goal.returns
returns c =
    let (is_kind, so_far) = c.loop-byte.invariant in
    let left = rw (drop_all c.loop-byte.byte-index c.args.bytes.now c.loop-byte-test.false) at so_far in
    left ∙ runs_are_segments c.args.bytes.now
