use Rattle.std.proofs.Common.{◌≡◌, ◌<◌, false, true, length, arith}
use Rattle.statements.specs.Known.{known}
use Rattle.statements.proofs.KnownSteps.{alike_at}
use Rattle.statements.proofs.known.are_known_as.Goals as goal

pub returns-then-not-is_known_as : goal.returns-then-not-is_known_as
returns-then-not-is_known_as c = (
  λ no. absurd (let not : false ≡ true = no in cc),
  λ same.
      let inside : c.loop-place.place < length c.args.peers.now = omega arith in
      let long = c.loop-place.invariant.long in
      let within : c.loop-place.place < length c.args.others.now = omega arith in
      let yes : c.is_known_as.result ≡ true =
      c.is_known_as.ensures.1 (alike_at known c.args.peers.now c.args.others.now c.loop-place.place _ _ same inside within c.index-peers-place.is c.index-others-place.is) in
      let no = c.if-not-is_known_as.true in
      cc,
)
