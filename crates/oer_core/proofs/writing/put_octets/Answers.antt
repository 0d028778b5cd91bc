use Rattle.std.proofs.Common.{◌≡◌, ◌≤◌, ◌+◌, length, ap, ◌∙◌, arith}
use Rattle.std.proofs.lemmas.List.{length-append}
use Rattle.oer_core.specs.Length.{shortest_length}
use Rattle.oer_core.specs.Writing.{overwritten}
use Rattle.oer_core.proofs.Overwriting.{overwritten_twice}
use Rattle.oer_core.proofs.writing.put_octets.Goals as goal

pub returns-clause-written : goal.returns-clause-written
returns-clause-written c =
    let out = c.args.out.now in
    let at = c.args.at in
    let text = c.args.bytes.now in
    let spelling = shortest_length (length text) in
    let fits : at + length spelling ≤ length out = omega (arith, length-append spelling text, c.requires) in
    let end : c.put_length-text_at.result ≡ at + length spelling = c.put_length-text_at.ensures.end in
    c.put_bytes.ensures ∙ ap (λ old. overwritten old c.put_length-text_at.result text) c.put_length-text_at.ensures.written ∙ ap
    (λ k. overwritten (overwritten out at spelling) k text) end ∙ overwritten_twice out at spelling text fits
