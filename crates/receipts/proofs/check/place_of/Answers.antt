use Rattle.std.proofs.Common.{arith}
use Rattle.receipts.proofs.Naming.{placed}
use Rattle.receipts.proofs.check.place_of.Goals as goal

pub overflow_add-result : goal.overflow_add-result
overflow_add-result c =
    let at = placed c.args.laid.now.index.now c.args.laid.now.periods.now c.args.laid.now.offsets.now c.args.holders.now c.args.receipt.now c.in-Ok.k
    c.requires.index c.requires.rows c.in-Ok.ensures.named.0 c.in-Ok.ensures.named.1 in
    let is = at.0 in
    let room = at.2 in
    let entries = c.entries.ensures in
    let fits = c.entries.type_inv in
    omega arith

pub returns-in-Ok-clause-place : goal.returns-in-Ok-clause-place
returns-in-Ok-clause-place c =
    let at = placed c.args.laid.now.index.now c.args.laid.now.periods.now c.args.laid.now.offsets.now c.args.holders.now c.args.receipt.now c.in-Ok.k
    c.requires.index c.requires.rows c.in-Ok.ensures.named.0 c.in-Ok.ensures.named.1 in
    let is = at.0 in
    let room = at.2 in
    record {
      right = c.in-Ok.ensures.named.1;
      is = at.0;
      tenant = at.1;
      room = omega arith;
    }

pub returns-in-Err-clause-refused : goal.returns-in-Err-clause-refused
returns-in-Err-clause-refused c = c.in-Err.ensures.refused c.args.holders.now
