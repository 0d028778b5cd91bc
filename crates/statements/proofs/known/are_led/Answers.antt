use Rattle.std.proofs.Common.{◌≡◌, ◌<◌, false, true, length, arith}
use Rattle.statements.specs.Known.{anew_or, led}
use Rattle.statements.proofs.KnownSteps.{told_at}
use Rattle.statements.proofs.known.are_led.Goals as goal

pub returns-then-not-is_led : goal.returns-then-not-is_led
returns-then-not-is_led c = (
  λ no. absurd (let not : false ≡ true = no in cc),
  λ same.
      let inside : c.loop-place.place < length c.args.routes.now = omega arith in
      let long = c.loop-place.invariant.long in
      let within : c.loop-place.place < length c.args.others.now = omega arith in
      let yes : c.is_led.result ≡ true =
      c.is_led.ensures.1 (told_at (led (anew_or c.args.before.now.peers c.args.after.now.peers)) c.args.routes.now c.args.others.now c.loop-place.place _ _ same inside within c.index-routes-place.is c.index-others-place.is) in
      let no = c.if-not-is_led.true in
      cc,
)
