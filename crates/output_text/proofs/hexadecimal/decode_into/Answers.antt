use Rattle.std.proofs.Common.{arith, ◌≡◌, ◌*◌, ◌+◌, ◌-◌, ◌/◌, ◌%◌, ◌∙◌, ◌↔◌, refl, subst, ℕ, true, length, slice_index, slice_index_or, [], ◌<◌}
use Rattle.std.proofs.lemmas.Simd.{get_or-replicate}
use Rattle.hex.proofs.HexLemmas.{decode_of-even}
use Rattle.output_text.proofs.Chunks.{AreDecoded, AreDigits, AreZeros, all_decoded, at_chunk, at_end, sixteen_more, digits_more, tests_digits}
use Rattle.output_text.proofs.hexadecimal.decode_into.Goals as goal

pub loop-i-init : goal.loop-i-init
loop-i-init c = record {
  size = refl;
  digits = (λ zeros k lt. absurd (omega arith), λ digits i lt. get_or-replicate 32 i 0 0 lt);
  bytes = λ k lt high low i. absurd (omega arith);
}

pub loop-i-preserved : goal.loop-i-preserved
loop-i-preserved c =
    let text = c.args.text.now in
    let i = c.loop-i.i in
    let next : 16 * i + 16 ≡ 16 * (i + 1) = omega arith in
    let further : 32 * i + 32 ≡ 32 * (i + 1) = omega arith in
    let twice : 2 * (16 * i) ≡ 32 * i = omega arith in
    let chunk = slice_index_or c.as_chunks.result.0.now i [] in
    let same : (m : ℕ) → m < 32 → slice_index chunk m ≡ slice_index text (32 * i + m) =
    λ m lt. rw c.as_chunks.ensures.front (at_chunk 32 (length text / 32) text i m (omega arith) lt) in
    let more = sixteen_more text c.loop-i.out c.put_bytes_of.new.out chunk (16 * i) (16 * i) (omega arith)
    (λ m lt. rw twice (same m lt)) c.loop-i.invariant.bytes c.put_bytes_of.ensures.bytes c.put_bytes_of.ensures.before in
    let tested = digits_more text chunk c.loop-i.others c.non_digits.result c.zero_in_both-others.result (32 * i) (32 * i) (omega arith) (omega arith)
    same c.loop-i.invariant.digits c.non_digits.ensures c.zero_in_both-others.ensures in
    record {
      size = c.put_bytes_of.ensures.size ∙ c.loop-i.invariant.size;
      digits = subst (λ n. AreZeros c.zero_in_both-others.result ↔ AreDigits n text) further tested;
      bytes = subst (λ n. AreDecoded n text c.put_bytes_of.new.out) next more;
    }

all_tested : (c : goal.After-are_zeros) → (c.are_zeros.result ≡ true) ↔ AreDigits (length c.args.text.now) c.args.text.now
all_tested c =
    let text = c.args.text.now in
    let long = c.requires.long in
    let whole : length text - 32 + 32 ≡ length text = omega arith in
    let tested = digits_more text c.args.last.now c.loop-i.others c.non_digits-2.result c.zero_in_both.result (length text - 32) (32 * c.loop-i.i) (omega arith) (omega arith)
    (λ m lt. at_end text c.args.last.now (length text - 32) c.requires.last m) c.loop-i.invariant.digits c.non_digits-2.ensures c.zero_in_both.ensures in
    let all = subst (λ n. AreZeros c.zero_in_both.result ↔ AreDigits n text) whole tested in
    (λ e. all.0 (c.are_zeros.ensures.0 e), λ h. c.are_zeros.ensures.1 (all.1 h))

pub returns-clause-digits : goal.returns-clause-digits
returns-clause-digits c = tests_digits c.args.text.now c.are_zeros.result (all_tested c)

pub returns-clause-bytes : goal.returns-clause-bytes
returns-clause-bytes c passed =
    let text = c.args.text.now in
    let out = c.put_bytes_of-2.new.out in
    let long = c.requires.long in
    let at : ℕ = length c.loop-i.out - 16 in
    let begin : 2 * at ≡ length text - 32 = omega arith in
    let whole : at + 16 ≡ length out = omega arith in
    let even : length text % 2 ≡ 0 = omega arith in
    let more = sixteen_more text c.loop-i.out out c.args.last.now at (16 * c.loop-i.i) (omega arith)
    (λ m lt. rw begin (at_end text c.args.last.now (length text - 32) c.requires.last m))
    c.loop-i.invariant.bytes c.put_bytes_of-2.ensures.bytes c.put_bytes_of-2.ensures.before in
    decode_of-even text even ∙ all_decoded text out 0 (omega arith) ((all_tested c).0 passed) (subst (λ n. AreDecoded n text out) whole more)
