use Rattle.std.proofs.Common.{◌≡◌, ◌+◌, ℕ, ◌∷◌, ◌++◌, length, refl, ap, ◌∙◌, arith}
use Rattle.std.proofs.lemmas.List.{length-append}
use Rattle.oer_core.specs.Length.{shortest_length, octet_string}
use Rattle.oer_core.specs.Writing.{overwritten}
use Rattle.ilp_view.proofs.Writes.{fulfill_size, fulfill_within, fulfill_written}
use Rattle.ilp_view.proofs.answers.write_fulfill.Goals as goal

pub returns-then-out-length_size-clause-within : goal.returns-then-out-length_size-clause-within
returns-then-out-length_size-clause-within c = fulfill_within c.laws_below.ensures.lengths c.args.fulfillment.now c.args.payload.now (omega arith) c.requires

pub returns-clause-within : goal.returns-clause-within
returns-clause-within c = fulfill_within c.laws_below.ensures.lengths c.args.fulfillment.now c.args.payload.now (omega arith) c.requires

pub returns-clause-fits : goal.returns-clause-fits
returns-clause-fits c =
    let whole = fulfill_size (32 + c.octets_size-size.result) c.args.fulfillment.now c.args.payload.now
    (omega (arith, length-append c.args.fulfillment.now (octet_string c.args.payload.now))) in
    (λ _. omega arith, λ _. refl)

pub returns-clause-ok : goal.returns-clause-ok
returns-clause-ok c =
    let old = c.args.out.now in
    let fulfillment = c.args.fulfillment.now in
    let p = octet_string c.args.payload.now in
    let contents = fulfillment ++ p in
    let size = 32 + c.octets_size-size.result in
    let len : length fulfillment ≡ 32 = omega arith in
    let is : size ≡ length contents = omega (arith, length-append fulfillment p) in
    let whole = fulfill_size size c.args.fulfillment.now c.args.payload.now is in
    let written = fulfill_written c.laws_below.ensures.writings old c.put_bytes.new.out c.put_length-at.new.out c.put_bytes-2.new.out c.put_octets.new.out
    (shortest_length size) fulfillment p c.put_length-at.result 13 c.put_bytes.ensures c.put_length-at.ensures.end c.put_length-at.ensures.written len c.put_bytes-2.ensures c.put_octets.ensures.written (omega arith) in
    (omega arith, written ∙ ap (λ (k : ℕ). overwritten old 0 (13 ∷ (shortest_length k ++ contents))) is)
