-- Peers of two names have two numbers.
use Rattle.std.proofs.Common.{◌≡◌, ℕ, List, true, false, not, sym, ap, ◌∙◌, eqb, refl}
use Rattle.std.specs.Prelude.{Bool, Option, Some, None, is_some}
use Rattle.std.specs.Str.{bytes_eq}
use Rattle.std.proofs.lemmas.Bool.{eqb-true}
use Rattle.std.proofs.lemmas.Slice.Eq.{bytes_eq-Decides}
use Rattle.tenant_core.specs.Network.{peer_named, peer_numbered}
use Rattle.tenant_core.specs.declared.peer.Peer.{Peer}
use Rattle.tenant_core.proofs.Courses.{find_passes}

-- one peer has one name
one_name : (a b : List ℕ) (peers : List Peer) (o : Option Peer) → o ≡ peer_named a peers → o ≡ peer_named b peers → is_some o ≡ true
    → bytes_eq a b ≡ true
one_name a b peers None first second there = absurd cc
one_name a b peers (Some p) first second there =
    let named : bytes_eq p.terms.name a ≡ true = find_passes (λ q. bytes_eq q.terms.name a) peers p (sym first) in
    let too : bytes_eq p.terms.name b ≡ true = find_passes (λ q. bytes_eq q.terms.name b) peers p (sym second) in
    (bytes_eq-Decides a b).1 (sym ((bytes_eq-Decides p.terms.name a).0 named) ∙ (bytes_eq-Decides p.terms.name b).0 too)

pub numbers_apart : (a b : List ℕ) (peers : List Peer) (n m : ℕ) → peer_numbered n peers ≡ peer_named a peers → peer_numbered m peers ≡ peer_named b peers
    → is_some (peer_numbered n peers) ≡ true → bytes_eq a b ≡ false → not (eqb n m) ≡ true
numbers_apart a b peers n m first second there other = by (eqb n m) refl
  where
    clash : (c : Bool) → c ≡ true → c ≡ false → ⊥
    clash c e f = absurd cc

    by : (c : Bool) → eqb n m ≡ c → not c ≡ true
    by true same =
        let too : peer_numbered n peers ≡ peer_named b peers = ap (λ (k : ℕ). peer_numbered k peers) (eqb-true n m same) ∙ second in
        absurd (clash (bytes_eq a b) (one_name a b peers (peer_numbered n peers) first too there) other)
    by false same = refl
