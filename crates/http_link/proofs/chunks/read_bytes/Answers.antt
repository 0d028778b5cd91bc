use Rattle.std.proofs.Common.{rules, ◌+◌, ◌<◌, ◌≤◌, inl, refl, subst, true, List, ℕ, Ok, length, arith, length-drop, length-take, take}
use Rattle.http_link.specs.BodyReading.{ReadsOnlyFor, TakesBytes, no_more}
use Rattle.http_link.specs.Running.{held_in}
use Rattle.http_link.specs.StreamCalls.{held_of}
use Rattle.http_link.specs.declared.streams.LinkFault.{LinkFault}
use Rattle.http_link.proofs.ChunkedBodies.{bytes_cut, bytes_held, bytes_whole, not_past, reached}
use Rattle.http_link.proofs.chunks.read_bytes.Goals as goal

pub returns-then-there-end-clause-taken : goal.returns-then-there-end-clause-taken
returns-then-there-end-clause-taken g c =
    let h = c.args.stream.now.held in
    let inside = c.args.stream.now.lies in
    let moved = c.move_bytes-moved.result in
    let count = c.move_bytes-moved.ensures.count in
    let other = c.if-moved-size.false in
    let wide = c.requires.wide in
    let all : length (held_in c.args.stream.now.room.now h) ≤ moved = omega (arith, length-drop h.from (take h.to c.args.stream.now.room.now), length-take h.to c.args.stream.now.room.now) in
    bytes_cut _ _ c.args.stream.now.room.now c.move_bytes-moved.new.room c.read_on.new.self.room.now h _ c.args.stream.now.done moved c.args.size c.in_ok-there.there c.move_bytes-moved.ensures.moved all (omega arith)
    c.in_ok-there.ensures.filled c.if-there-end.true (omega arith)

pub returns-clause-taken : goal.returns-clause-taken
returns-clause-taken g c =
    let h = c.args.stream.now.held in
    let inside = c.args.stream.now.lies in
    let moved = c.move_bytes-moved.result in
    let count = c.move_bytes-moved.ensures.count in
    let lies = c.move_bytes-moved.ensures.lies in
    let within = lies.within in
    let ordered = lies.ordered in
    let behind = lies.behind in
    let other = c.if-moved-size.false in
    let filled = c.in_ok-there.ensures.filled in
    let all : length (held_in c.args.stream.now.room.now h) ≤ moved = omega (arith, length-drop h.from (take h.to c.args.stream.now.room.now), length-take h.to c.args.stream.now.room.now) in
    let le = not_past _ _ c.move_bytes-moved.new.room c.read_on.new.self.room.now (c.args.stream.now.done + moved) (c.args.stream.now.done + c.args.size) c.in_ok-there.there (omega arith) (omega arith) filled in
    bytes_whole _ _ c.args.stream.now.room.now c.move_bytes-moved.new.room c.read_on.new.self.room.now h _ c.args.stream.now.done moved c.args.size c.in_ok-there.there c.move_bytes-moved.ensures.moved all (omega arith)
    filled c.if-there-end.false le (omega arith)

pub returns-then-moved-size-clause-at_once : goal.returns-then-moved-size-clause-at_once
returns-then-moved-size-clause-at_once g c =
    let had : List ℕ = held_of c.args.stream.now in
    let before : List ℕ = c.args.stream.now.room.now in
    let done = c.args.stream.now.done in
    let h = c.args.stream.now.held in
    let moved = c.move_bytes-moved.result in
    let count = c.move_bytes-moved.ensures.count in
    let inside = c.args.stream.now.lies in
    let enough : c.args.size ≤ length had = omega (arith, length-drop h.from (take h.to before), length-take h.to before) in
    subst
    (λ (room : List ℕ). ReadsOnlyFor {E = LinkFault} c.args.stream.now.reader.now c.args.stream.now.reader.now (Ok true)
    (TakesBytes had no_more no_more (held_in room c.move_bytes-moved.new.held) c.args.size done before room) (length had < c.args.size))
    (search rules)
    (inl (refl, bytes_held no_more before c.move_bytes-moved.new.room had (held_in c.move_bytes-moved.new.room c.move_bytes-moved.new.held) done c.args.size moved (omega arith) enough c.move_bytes-moved.ensures.moved c.move_bytes-moved.ensures.rest))

pub invariant_of-stream-2 : goal.invariant_of-stream-2
invariant_of-stream-2 g c =
    let moved = c.move_bytes-moved.result in
    let lies = c.move_bytes-moved.ensures.lies in
    let same = c.read_on.ensures.same.0 in
    let fills = c.in_ok-there.ensures.filled in
    let bound = fills.bound in
    let inside = c.args.stream.now.lies in
    let ge = reached _ _ _ _ (c.args.stream.now.done + moved) (c.args.stream.now.done + c.args.size) c.in_ok-there.there (omega arith) fills in
    record { lies = (omega arith, omega arith, omega arith); unfailed = c.read_on.new.self.unfailed }
