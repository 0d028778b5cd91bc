use Rattle.std.proofs.Common.{◌≡◌, ◌<◌, false, true, length, arith}
use Rattle.statements.specs.Known.{anew_or, rated}
use Rattle.statements.proofs.KnownSteps.{told_at}
use Rattle.statements.proofs.known.are_rated.Goals as goal

pub returns-then-not-is_rated : goal.returns-then-not-is_rated
returns-then-not-is_rated c = (
  λ no. absurd (let not : false ≡ true = no in cc),
  λ same.
      let inside : c.loop-place.place < length c.args.rates.now = omega arith in
      let long = c.loop-place.invariant.long in
      let within : c.loop-place.place < length c.args.others.now = omega arith in
      let yes : c.is_rated.result ≡ true =
      c.is_rated.ensures.1 (told_at (rated (anew_or c.args.before.now.peers c.args.after.now.peers)) c.args.rates.now c.args.others.now c.loop-place.place _ _ same inside within c.index-rates-place.is c.index-others-place.is) in
      let no = c.if-not-is_rated.true in
      cc,
)
