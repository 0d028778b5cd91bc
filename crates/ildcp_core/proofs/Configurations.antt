-- Configurations say their fields, and how long they are.
use Rattle.std.proofs.Common.{◌≡◌, ◌≤◌, ◌<◌, ◌+◌, ◌^◌, ℕ, List, [], ◌∷◌, ◌++◌, length, take, drop, refl, sym, ap, ◌∙◌, append_assoc, arith}
use Rattle.std.proofs.lemmas.Bool.{lt-ltb}
use Rattle.std.proofs.lemmas.List.{append_cancel_left, length-append, length-replicate}
use Rattle.std.proofs.Math.Seq.{take-append_seam, drop-append_seam}
use Rattle.std.specs.Prelude.{replicate}
use Rattle.oer_core.specs.Length.{IsLength, shortest_length, octet_string}
use Rattle.oer_core.specs.Laws.{LengthLaws}
use Rattle.ildcp_core.specs.Client.{Client, IsClient, client_address}
use Rattle.ildcp_core.specs.Answer.{IsConfiguration, configuration, config_answer}
use Rattle.ildcp_core.proofs.Addresses.{Limits, limits_of}

-- octet strings at the front of the same bytes hold the same text, and the same follows
same_parts : LengthLaws → (s a r t b q : List ℕ) → IsLength s (length a) → IsLength t (length b) → (s ++ a) ++ r ≡ (t ++ b) ++ q → (a ≡ b) × (r ≡ q)
same_parts laws s a r t b q f g e =
    let whole : s ++ (a ++ r) ≡ t ++ (b ++ q) = sym (append_assoc s a r) ∙ e ∙ append_assoc t b q in
    let spelled = laws.none_begins_another s t (a ++ r) (b ++ q) (length a) (length b) f g whole in
    let behind : a ++ r ≡ b ++ q = append_cancel_left s (a ++ r) (b ++ q) (whole ∙ ap (λ (x : List ℕ). x ++ (b ++ q)) (sym spelled.0)) in (
      sym (take-append_seam a r) ∙ ap (take (length a)) behind ∙ ap (λ (n : ℕ). take n (b ++ q)) spelled.1 ∙ take-append_seam b q,
      sym (drop-append_seam a r) ∙ ap (drop (length a)) behind ∙ ap (λ (n : ℕ). drop n (b ++ q)) spelled.1 ∙ drop-append_seam b q,
    )

pub only_fields : LengthLaws → (bytes address other : List ℕ) (scale step : ℕ) (code sign : List ℕ) → IsConfiguration bytes address scale code
    → IsConfiguration bytes other step sign → (address ≡ other) × (scale ≡ step) × (code ≡ sign)
only_fields laws bytes address other scale step code sign x y =
    let whole : (x.2.0 ++ address) ++ scale ∷ x.1 ≡ (y.2.0 ++ other) ++ step ∷ y.1 =
    ap (λ (z : List ℕ). z ++ scale ∷ x.1) (sym x.2.2) ∙ sym x.5 ∙ y.5 ∙ ap (λ (z : List ℕ). z ++ step ∷ y.1) y.2.2 in
    let first = same_parts laws x.2.0 address (scale ∷ x.1) y.2.0 other (step ∷ y.1) x.2.1 y.2.1 whole in
    let rest : x.1 ≡ y.1 = ap (drop 1) first.1 in
    let last : (x.4.0 ++ code) ++ [] ≡ (y.4.0 ++ sign) ++ [] = ap (λ (z : List ℕ). z ++ []) (sym x.4.2 ∙ rest ∙ y.4.2) in
    let second = same_parts laws x.4.0 code [] y.4.0 sign [] x.4.1 y.4.1 last in
    (first.0, cc first.1, second.0)

one_byte : (n : ℕ) → n < 128 → length (shortest_length n) ≡ 1
unfolding shortest_length
one_byte n small = rw (lt-ltb n 128 small) refl

octets_within : LengthLaws → (text : List ℕ) → length text < 65536 → length (octet_string text) ≤ length text + 3
octets_within laws text small = omega (arith, laws.three_bytes (length text) small, length-append (shortest_length (length text)) text)

pub has_fields : LengthLaws → (c : Client) → IsClient c → IsConfiguration (configuration c) (client_address c) c.scale c.code
has_fields laws c h =
    let l : Limits c = limits_of c h in
    let address = client_address c in
    let n : length address < 2 ^ 64 = omega (arith, l.tenant, l.name, length-append c.tenant (46 ∷ c.name)) in
    let m : length c.code < 2 ^ 64 = omega (arith, l.code) in (
      octet_string address,
      octet_string c.code,
      (shortest_length (length address), laws.shortest_spells (length address) n, refl),
      h.scale,
      (shortest_length (length c.code), laws.shortest_spells (length c.code) m, refl),
      refl,
    )

pub configuration_within : LengthLaws → (c : Client) → IsClient c → length (configuration c) ≤ 954
configuration_within laws c h =
    let l : Limits c = limits_of c h in
    let address = client_address c in
    let n : length address ≤ 933 = omega (arith, l.tenant, l.name, length-append c.tenant (46 ∷ c.name)) in
    let first : length (octet_string address) ≤ length address + 3 = octets_within laws address (omega arith) in
    let byte : length (shortest_length (length c.code)) ≡ 1 = one_byte (length c.code) (omega (arith, l.code)) in
    let last : length (octet_string c.code) ≡ 1 + length c.code = omega (arith, length-append (shortest_length (length c.code)) c.code) in
    omega (arith, l.code, length-append (octet_string address) (c.scale ∷ octet_string c.code))

pub answer_within : LengthLaws → (c : Client) → IsClient c → length (config_answer c) ≤ 993
answer_within laws c h =
    let payload = configuration c in
    let contents : List ℕ = replicate 32 0 ++ octet_string payload in
    let most : length payload ≤ 954 = configuration_within laws c h in
    let one : length (octet_string payload) ≤ length payload + 3 = octets_within laws payload (omega arith) in
    let n : length contents ≡ 32 + length (octet_string payload) = omega (arith, length-append (replicate 32 0) (octet_string payload), length-replicate {A = ℕ} 32 0) in
    let whole : length (octet_string contents) ≤ length contents + 3 = octets_within laws contents (omega arith) in
    omega arith
