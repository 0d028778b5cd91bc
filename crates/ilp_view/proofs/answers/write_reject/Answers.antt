use Rattle.std.proofs.Common.{◌≡◌, ◌+◌, ℕ, ◌∷◌, ◌++◌, length, refl, ap, ◌∙◌, arith}
use Rattle.oer_core.specs.Length.{shortest_length, octet_string}
use Rattle.oer_core.specs.Writing.{overwritten}
use Rattle.ilp_view.proofs.Writes.{length-contents, reject_holds, reject_size, reject_within, reject_written}
use Rattle.ilp_view.proofs.answers.write_reject.Goals as goal

pub octets_size-requires : goal.octets_size-requires
octets_size-requires c = omega (arith, reject_holds c.args.code.now c.args.triggered_by.now c.args.message.now c.args.payload.now)

pub octets_size-requires-2 : goal.octets_size-requires-2
octets_size-requires-2 c = omega (arith, reject_holds c.args.code.now c.args.triggered_by.now c.args.message.now c.args.payload.now)

pub returns-then-out-length_size-clause-within : goal.returns-then-out-length_size-clause-within
returns-then-out-length_size-clause-within c =
    let holds = reject_holds c.args.code.now c.args.triggered_by.now c.args.message.now c.args.payload.now in
    reject_within c.laws_below.ensures.lengths c.args.code.now c.args.triggered_by.now c.args.message.now c.args.payload.now (omega arith) (omega arith)

pub returns-clause-within : goal.returns-clause-within
returns-clause-within c =
    let holds = reject_holds c.args.code.now c.args.triggered_by.now c.args.message.now c.args.payload.now in
    reject_within c.laws_below.ensures.lengths c.args.code.now c.args.triggered_by.now c.args.message.now c.args.payload.now (omega arith) (omega arith)

pub returns-then-out-length_size-clause-fits : goal.returns-then-out-length_size-clause-fits
returns-then-out-length_size-clause-fits c =
    let whole = reject_size (3 + c.octets_size.result + c.octets_size-2.result + c.octets_size-3.result) c.args.code.now c.args.triggered_by.now c.args.message.now c.args.payload.now
    (omega (arith, length-contents c.args.code.now (octet_string c.args.triggered_by.now) (octet_string c.args.message.now) (octet_string c.args.payload.now) (omega arith))) in
    (λ none. absurd cc, λ fits. absurd (omega arith))

pub returns-clause-fits : goal.returns-clause-fits
returns-clause-fits c =
    let whole = reject_size (3 + c.octets_size.result + c.octets_size-2.result + c.octets_size-3.result) c.args.code.now c.args.triggered_by.now c.args.message.now c.args.payload.now
    (omega (arith, length-contents c.args.code.now (octet_string c.args.triggered_by.now) (octet_string c.args.message.now) (octet_string c.args.payload.now) (omega arith))) in
    (λ _. omega arith, λ _. refl)

pub returns-clause-ok : goal.returns-clause-ok
returns-clause-ok c =
    let old = c.args.out.now in
    let code = c.args.code.now in
    let t = octet_string c.args.triggered_by.now in
    let m = octet_string c.args.message.now in
    let p = octet_string c.args.payload.now in
    let contents = code ++ (t ++ (m ++ p)) in
    let size = 3 + c.octets_size.result + c.octets_size-2.result + c.octets_size-3.result in
    let len : length code ≡ 3 = omega arith in
    let is : size ≡ length contents = omega (arith, length-contents code t m p len) in
    let whole = reject_size size c.args.code.now c.args.triggered_by.now c.args.message.now c.args.payload.now is in
    let written = reject_written c.laws_below.ensures.writings old c.put_bytes.new.out c.put_length-at.new.out c.put_bytes-2.new.out c.put_octets-at.new.out c.put_octets-at-2.new.out c.put_octets.new.out (shortest_length size) code t m p c.put_length-at.result c.put_octets-at.result c.put_octets-at-2.result 14 c.put_bytes.ensures c.put_length-at.ensures.end c.put_length-at.ensures.written len c.put_bytes-2.ensures c.put_octets-at.ensures.end c.put_octets-at.ensures.written c.put_octets-at-2.ensures.end c.put_octets-at-2.ensures.written c.put_octets.ensures.written (omega arith) in
    (omega arith, written ∙ ap (λ (k : ℕ). overwritten old 0 (14 ∷ (shortest_length k ++ contents))) is)
