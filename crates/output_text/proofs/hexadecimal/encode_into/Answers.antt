use Rattle.std.proofs.Common.{arith, ◌≡◌, ◌*◌, ◌+◌, ◌-◌, ◌/◌, ◌∙◌, subst, ℕ, [], length, slice_index_or}
use Rattle.output_text.proofs.Chunks.{AreEncoded, all_encoded, at_chunk, at_end, sixteen_more_digits}
use Rattle.output_text.proofs.hexadecimal.encode_into.Goals as goal

pub loop-i-init : goal.loop-i-init
loop-i-init c = (omega arith, λ k lt. absurd (omega arith))

pub loop-i-preserved : goal.loop-i-preserved
loop-i-preserved c =
    let bytes = c.args.bytes.now in
    let i = c.loop-i.i in
    let next : 16 * i + 16 ≡ 16 * (i + 1) = omega arith in
    let twice : 32 * i ≡ 2 * (16 * i) = omega arith in
    let high = rw twice at c.put_digits_of.ensures.high in
    let low = rw twice at c.put_digits_of.ensures.low in
    let before = rw twice at c.put_digits_of.ensures.before in
    let more = sixteen_more_digits bytes c.loop-i.out c.put_digits_of.new.out (slice_index_or c.as_chunks.result.0.now i []) (16 * i) (16 * i) (omega arith)
    (λ m lt. rw c.as_chunks.ensures.front (at_chunk 16 (length bytes / 16) bytes i m (omega arith) lt))
    c.loop-i.invariant.1 high low before in
    (c.put_digits_of.ensures.size ∙ c.loop-i.invariant.0, subst (λ n. AreEncoded n bytes c.put_digits_of.new.out) next more)

pub returns : goal.returns
returns c =
    let bytes = c.args.bytes.now in
    let out = c.put_digits_of-2.new.out in
    let long = c.in-Some.ensures.cases.0 in
    let at : ℕ = length bytes - 16 in
    let begin : length c.loop-i.out - 32 ≡ 2 * at = omega arith in
    let whole : at + 16 ≡ length bytes = omega arith in
    let high = rw begin at c.put_digits_of-2.ensures.high in
    let low = rw begin at c.put_digits_of-2.ensures.low in
    let before = rw begin at c.put_digits_of-2.ensures.before in
    let more = sixteen_more_digits bytes c.loop-i.out out c.in-Some.last.now at (16 * c.loop-i.i) (omega arith)
    (λ m lt. at_end bytes c.in-Some.last.now (length bytes - 16) c.in-Some.ensures.cases.1.same m)
    c.loop-i.invariant.1 high low before in
    all_encoded bytes out (omega arith) (subst (λ n. AreEncoded n bytes out) whole more)
