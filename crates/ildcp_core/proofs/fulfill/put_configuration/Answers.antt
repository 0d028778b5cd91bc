use Rattle.std.proofs.Common.{◌≡◌, ◌≤◌, ◌+◌, ℕ, List, ◌∷◌, ◌++◌, length, ap, subst, ◌∙◌, arith}
use Rattle.std.proofs.lemmas.List.{length-append}
use Rattle.oer_core.specs.Length.{octet_string}
use Rattle.oer_core.specs.Writing.{overwritten}
use Rattle.ildcp_core.specs.Client.{Client, address_below}
use Rattle.ildcp_core.specs.Answer.{configuration}
use Rattle.ildcp_core.proofs.Writes.{configuration_written}
use Rattle.ildcp_core.proofs.fulfill.put_configuration.Goals as goal

pub put_octets-requires : goal.put_octets-requires
put_octets-requires c =
    let p = c.parts-parts.result.now in
    let below : address_below c.as_bytes.result.now c.as_bytes-2.result.now ≡ address_below p.tenant.now p.name.now =
    ap (λ (t : List ℕ). address_below t c.as_bytes-2.result.now) c.as_bytes.ensures.value ∙ ap (address_below p.tenant.now) c.as_bytes-2.ensures.value in
    let first : List ℕ = octet_string (address_below p.tenant.now p.name.now) in
    let place : c.put_address-at.result ≡ length first = c.put_address-at.ensures.end ∙ ap (λ (t : List ℕ). length (octet_string t)) below in
    let code : length (octet_string c.as_bytes-3.result.now) ≡ length (octet_string p.code.now) = ap (λ (t : List ℕ). length (octet_string t)) c.as_bytes-3.ensures.value in
    let short : length (configuration c.args.child.now) ≤ 954 = c.configurations.ensures.short c.args.child.now c.parts-parts.ensures.limits in
    let same : length (first ++ p.scale ∷ octet_string p.code.now) ≡ length (configuration c.args.child.now) = ap (λ (k : Client). length (configuration k)) c.parts-parts.ensures.same in
    omega (arith, length-append first (p.scale ∷ octet_string p.code.now))

pub returns-clause-written : goal.returns-clause-written
returns-clause-written c =
    let p = c.parts-parts.result.now in
    let old = c.args.room.now in
    let below : address_below c.as_bytes.result.now c.as_bytes-2.result.now ≡ address_below p.tenant.now p.name.now =
    ap (λ (t : List ℕ). address_below t c.as_bytes-2.result.now) c.as_bytes.ensures.value ∙ ap (address_below p.tenant.now) c.as_bytes-2.ensures.value in
    let first : List ℕ = octet_string (address_below p.tenant.now p.name.now) in
    let last : List ℕ = octet_string p.code.now in
    let place : c.put_address-at.result ≡ length first = c.put_address-at.ensures.end ∙ ap (λ (t : List ℕ). length (octet_string t)) below in
    let front : c.put_address-at.new.room ≡ overwritten old 0 first = c.put_address-at.ensures.written ∙ ap (λ (t : List ℕ). overwritten old 0 (octet_string t)) below in
    let at : ℕ = c.put_address-at.result + 1 in
    let end : c.put_octets.result ≡ at + length last = c.put_octets.ensures.end ∙ ap (λ (t : List ℕ). at + length (octet_string t)) c.as_bytes-3.ensures.value in
    let behind : c.put_octets.new.out ≡ overwritten c.put_bytes.new.out at last =
    c.put_octets.ensures.written ∙ ap (λ (t : List ℕ). overwritten c.put_bytes.new.out at (octet_string t)) c.as_bytes-3.ensures.value in
    let short : length (configuration c.args.child.now) ≤ 954 = c.configurations.ensures.short c.args.child.now c.parts-parts.ensures.limits in
    let same : length (first ++ p.scale ∷ last) ≡ length (configuration c.args.child.now) = ap (λ (k : Client). length (configuration k)) c.parts-parts.ensures.same in
    let written = configuration_written c.laws_below.ensures.writings old c.put_address-at.new.room c.put_bytes.new.out c.put_octets.new.out first last p.scale
    c.put_address-at.result c.put_octets.result place front c.put_bytes.ensures end behind
    (omega (arith, length-append first (p.scale ∷ last))) in
    subst (λ (k : Client). (c.put_octets.result ≡ 0 + length (configuration k)) × (c.put_octets.new.out ≡ overwritten old 0 (configuration k))) c.parts-parts.ensures.same written
