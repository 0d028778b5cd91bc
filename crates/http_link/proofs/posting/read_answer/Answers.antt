use Rattle.std.proofs.Common.{rules, ◌≡◌, ◌++◌, ℕ, List, take, drop, length-take, take-take, refl, sym, subst, arith, Err, Result}
use Rattle.http_link.specs.declared.grammar.Offered.TheVariants.{Whole}
use Rattle.http_link.specs.declared.posting.AnswerFraming.{AnswerFraming}
use Rattle.http_link.specs.declared.posting.PostFault.{PostFault}
use Rattle.http_link.specs.declared.posting.PostFault.TheVariants.{Head, Cut}
use Rattle.http_link.specs.Lines.{lines_at}
use Rattle.http_link.specs.Grammars.{answer_heads}
use Rattle.http_link.specs.Reading.{HeadIsFound}
use Rattle.http_link.specs.Client.{Means, MeansAs, given}
use Rattle.http_link.specs.StreamCalls.{held_of, to_come}
use Rattle.http_link.proofs.Client.{final_read, interim_read, malformed_read, partial_read}
use Rattle.http_link.proofs.posting.read_answer.Goals as goal

pub returns-in-Partial-clause-means : goal.returns-in-Partial-clause-means
returns-in-Partial-clause-means g c stream e not_read not_turns =
    let so_far = c.loop-heads.invariant.means stream e in
    so_far.2 (Err Cut)
    (partial_read c.loop-heads.heads _ _ _ _ _ so_far.0 c.find_head.new.lines (omega arith) (omega arith) c.move_to_front.ensures.same (rw c.in-Partial.is at c.in_ok-find_head.ensures.found) so_far.1)

pub returns-in-Malformed-clause-means : goal.returns-in-Malformed-clause-means
returns-in-Malformed-clause-means g c stream e not_read not_turns =
    let so_far = c.loop-heads.invariant.means stream e in
    so_far.2 (Err Head)
    (malformed_read c.loop-heads.heads _ _ _ _ _ so_far.0 c.find_head.new.lines (omega arith) (omega arith) c.move_to_front.ensures.same (rw c.in-Malformed.is at c.in_ok-find_head.ensures.found) so_far.1)

pub returns-in-Ok-clause-means : goal.returns-in-Ok-clause-means
returns-in-Ok-clause-means g c stream e not_read not_turns =
    let room : List ℕ = c.find_head.new.stream.room.now in
    let there = c.find_head.new.stream.held.to in
    let spans = c.in-Whole.spans in
    let so_far = c.loop-heads.invariant.means stream e in
    let told : Result (List ℕ) PostFault = given c.read_framed.result c.read_framed.new.stream.room.now in
    so_far.2 told
    (final_read c.loop-heads.heads _ _ _ _ (take there room) so_far.0 (take spans.len room) c.find_head.new.lines spans (lines_at c.lines_in-fields.result) told (omega arith) (omega arith)
    c.move_to_front.ensures.same (rw c.in-Whole.is at c.in_ok-find_head.ensures.found) so_far.1
    (λ bound. sym (take-take spans.len there room (omega (arith, length-take there room)))) (rw c.front.ensures at c.lines_in-fields.ensures) (sym c.if-not-is_interim.ensures)
    (λ left is. subst (λ (f : Result AnswerFraming PostFault). MeansAs f (drop spans.len (take there room) ++ left) told) c.in-Ok.ensures.value (c.read_framed.ensures.gives left is not_read not_turns)))

pub returns-in-Err-clause-means : goal.returns-in-Err-clause-means
returns-in-Err-clause-means g c stream e not_read not_turns =
    let room : List ℕ = c.find_head.new.stream.room.now in
    let there = c.find_head.new.stream.held.to in
    let spans = c.in-Whole.spans in
    let so_far = c.loop-heads.invariant.means stream e in
    let told : Result (List ℕ) PostFault = Err c.in-Err.fault in
    so_far.2 told
    (final_read c.loop-heads.heads _ _ _ _ (take there room) so_far.0 (take spans.len room) c.find_head.new.lines spans (lines_at c.lines_in-fields.result) told (omega arith) (omega arith)
    c.move_to_front.ensures.same (rw c.in-Whole.is at c.in_ok-find_head.ensures.found) so_far.1
    (λ bound. sym (take-take spans.len there room (omega (arith, length-take there room)))) (rw c.front.ensures at c.lines_in-fields.ensures) (sym c.if-not-is_interim.ensures)
    (λ left is. subst (λ (f : Result AnswerFraming PostFault). MeansAs f (drop spans.len (take there room) ++ left) told) c.in-Err.ensures.value refl))

pub loop-heads-preserved : goal.loop-heads-preserved
loop-heads-preserved g c =
    let had = held_of c.loop-heads.stream in
    let room : List ℕ = c.find_head.new.stream.room.now in
    let there = c.find_head.new.stream.held.to in
    let lines = c.find_head.new.lines in
    let spans = c.in-Whole.spans in
    let found : HeadIsFound answer_heads had (to_come c.loop-heads.stream) (to_come c.find_head.new.stream) (take there room) lines (Whole spans) =
    subst (λ (h : List ℕ). HeadIsFound answer_heads h (to_come c.loop-heads.stream) (to_come c.find_head.new.stream) (take there room) lines (Whole spans)) c.move_to_front.ensures.same (rw c.in-Whole.is at c.in_ok-find_head.ensures.found) in
    let bound = found.stands.0 in
    record {
      means = λ stream e.
          let so_far = c.loop-heads.invariant.means stream e in
          let next = interim_read c.loop-heads.heads _ _ had (take there room) so_far.0 lines spans (omega arith) (omega arith) found so_far.1 (sym c.if-not-is_interim.ensures) in
          (next.0, next.1, λ meaning means. so_far.2 meaning (next.2 meaning means));
      none = let lies = c.find_head.new.stream.lies in let front = c.in_ok-find_head.ensures.front in omega arith;
      lines = omega arith;
      failures = search rules;
      continues = search rules;
    }

pub returns-clause-means : goal.returns-clause-means
returns-clause-means g c stream e not_read not_turns =
    let so_far = c.loop-heads.invariant.means stream e in
    let none : c.loop-heads.heads ≡ 0 = omega arith in
    so_far.2 (Err Head) (subst (λ (n : ℕ). Means n (held_of c.loop-heads.stream ++ so_far.0) (Err Head)) (sym none) refl)

pub invariant_of-stream-in-Whole : goal.invariant_of-stream-in-Whole
invariant_of-stream-in-Whole g c =
    let found : HeadIsFound answer_heads (take c.move_to_front.new.held.to c.move_to_front.new.room) (to_come c.loop-heads.stream) (to_come c.find_head.new.stream) (take c.find_head.new.stream.held.to c.find_head.new.stream.room.now) c.find_head.new.lines (Whole c.in-Whole.spans) =
    rw c.in-Whole.is at c.in_ok-find_head.ensures.found in
    let bound = found.stands.0 in
    let lies = c.find_head.new.stream.lies in
    let front = c.find_head.ensures.front in
    record { lies = (omega arith, omega (arith, length-take c.find_head.new.stream.held.to c.find_head.new.stream.room.now), omega arith); unfailed = c.find_head.new.stream.unfailed }
