use Rattle.std.proofs.Common.{◌∙◌, ◌≡◌, ◌≤◌, ℕ, min, refl, arith}
use Rattle.http_link.proofs.Rooms.{sized_cut, sized_whole}
use Rattle.http_link.proofs.bodies.read_sized.Goals as goal

least : (size there : ℕ) → size ≤ there → min size there ≡ size
least size there le = omega arith

pub returns-then-there-size-clause-reads : goal.returns-then-there-size-clause-reads
returns-then-there-size-clause-reads g c =
    sized_cut _ _ _ _ c.read_on.new.self.room.now c.used-stream.result c.args.size c.in_ok-there.there c.move_to_front.ensures.same c.in_ok-there.ensures.filled c.if-there-size.true
    (rw c.used-stream.ensures (omega arith))

pub returns-clause-reads : goal.returns-clause-reads
returns-clause-reads g c =
    sized_whole _ _ _ _ c.read_on.new.self.room.now c.used-stream.result c.args.size c.in_ok-there.there c.move_to_front.ensures.same c.in_ok-there.ensures.filled c.if-there-size.false
    (c.used-stream.ensures ∙ rw (least c.args.size c.in_ok-there.there c.if-there-size.false) refl)
