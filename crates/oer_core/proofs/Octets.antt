-- The function that reads an octet string and the relation, joined.
use Rattle.std.proofs.Common.{◌≡◌, ◌≤◌, ℕ, List, ◌++◌, length, take, drop, ltb, cond, false, Ok, Err, refl, sym, ap, ◌∙◌, subst, append_assoc, arith}
use Rattle.std.proofs.lemmas.Bool.{ltb-false, le-ltb}
use Rattle.std.proofs.lemmas.List.{take_at, drop_at, take-append-drop, length-append, length-take-le}
use Rattle.oer_core.specs.declared.fault.OerFault.TheVariants.{Short}
use Rattle.oer_core.specs.Length.{IsLength, IsOctetString, BeginsWithString, length_at, octets_at}
use Rattle.oer_core.proofs.Results.{bind_ok, guard_ok}
use Rattle.oer_core.proofs.Lengths.{length_takes, length_again}

pub octets_take : (limit : ℕ) (bytes text rest : List ℕ) → octets_at limit bytes ≡ Ok (text, rest) → BeginsWithString bytes text rest × (length text ≤ limit)
unfolding octets_at
octets_take limit bytes text rest e =
    let b = bind_ok (length_at limit bytes) (λ r. cond (ltb (length (drop r.1 bytes)) r.0) (Err Short) (Ok (take r.0 (drop r.1 bytes), drop r.0 (drop r.1 bytes)))) (text, rest) e in
    let n = b.0.0 in
    let k = b.0.1 in
    let t = length_takes limit bytes b.0 b.1 in
    let g = guard_ok (ltb (length (drop k bytes)) n) Short (take n (drop k bytes), drop n (drop k bytes)) (text, rest) b.2 in
    let text-is : take n (drop k bytes) ≡ text = ap (λ (p : List ℕ × List ℕ). p.0) g.1 in
    let rest-is : drop n (drop k bytes) ≡ rest = ap (λ (p : List ℕ × List ℕ). p.1) g.1 in
    let len : length text ≡ n = sym (ap length text-is) ∙ length-take-le n (drop k bytes) (ltb-false _ _ g.0) in
    let spelled : IsLength (take k bytes) (length text) = subst (λ (m : ℕ). IsLength (take k bytes) m) (sym len) t.1 in
    let after : drop k bytes ≡ text ++ rest = sym (take-append-drop n (drop k bytes)) ∙ ap (λ (x : List ℕ). x ++ drop n (drop k bytes)) text-is ∙ ap (λ (x : List ℕ). text ++ x) rest-is in
    let whole : bytes ≡ (take k bytes ++ text) ++ rest = sym (take-append-drop k bytes) ∙ ap (λ (x : List ℕ). take k bytes ++ x) after ∙ sym (append_assoc (take k bytes) text rest) in
    ((take k bytes ++ text, (take k bytes, spelled, refl), whole), omega (arith, t.2))

pub octets_again : (limit : ℕ) (front text rest : List ℕ) → IsOctetString front text → length text ≤ limit → octets_at limit (front ++ rest) ≡ Ok (text, rest)
unfolding octets_at
octets_again limit front text rest s l =
    let spelling = s.0 in
    let regrouped : front ++ rest ≡ spelling ++ (text ++ rest) = ap (λ (x : List ℕ). x ++ rest) s.2 ∙ append_assoc spelling text rest in
    let dropped : drop (length spelling) (spelling ++ (text ++ rest)) ≡ text ++ rest = drop_at spelling (text ++ rest) (length spelling) refl in
    let long : ltb (length (text ++ rest)) (length text) ≡ false = le-ltb _ _ (omega (arith, length-append text rest)) in
    ap (octets_at limit) regrouped ∙ rw (length_again limit (length text) spelling (text ++ rest) s.1 l, dropped, long, take_at text rest (length text) refl, drop_at text rest (length text) refl) refl
