use Rattle.std.proofs.Common.{rules, arith, ◌≡◌, ◌-◌, ◌≤◌, take, length}
use Rattle.std.proofs.lemmas.Slice.{take-put_mid_below}
use Rattle.http_link.proofs.Known.{take-into}
use Rattle.http_link.proofs.streams.read_some.Goals as goal

pub returns-in-Ok-clause-some : goal.returns-in-Ok-clause-some
returns-in-Ok-clause-some g c =
    let part = c.read_once-read.new.buf in
    let len : length part ≡ c.args.limit - c.args.at = search rules in
    let bound : c.in-Ok.n ≤ length part = search rules in
    let within : c.args.at ≤ length c.args.out.now = omega arith in
    let bytes = c.in-Ok.ensures.bytes in (
      omega arith,
      λ none. bytes.1 none (omega arith),
      (take c.in-Ok.n part, take-into c.args.at (c.args.limit - c.args.at) c.in-Ok.n c.args.out.now part within bound, bytes.0),
    )

pub returns-in-Err-clause-some : goal.returns-in-Err-clause-some
returns-in-Err-clause-some g c =
    let part = c.read_once-read.new.buf in (
      c.in-Err.ensures.bytes,
      take-put_mid_below c.args.at (c.args.limit - c.args.at) c.args.out.now part c.args.at (omega arith) (omega arith),
    )
