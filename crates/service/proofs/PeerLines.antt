-- The lines of peers, one after another.
use Rattle.std.proofs.Common.{◌≡◌, ◌+◌, ◌++◌, ◌∙◌, ℕ, suc, List, append_assoc, ap, arith}
use Rattle.tenant_core.specs.State.{State}
use Rattle.service.specs.PeerMetrics.{peer_lines, peers_upto}

-- a text with the lines of the peers below a number, and then those of the peer of that number
pub next_peer_lines : (tenant : List ℕ) (s : State) (n : ℕ) (old now new : List ℕ) → now ≡ old ++ peers_upto tenant s n
    → new ≡ now ++ peer_lines tenant s n → new ≡ old ++ peers_upto tenant s (n + 1)
next_peer_lines tenant s n old now new below more =
    let next : suc n ≡ n + 1 = omega arith in
    more ∙ ap (λ (text : List ℕ). text ++ peer_lines tenant s n) below
    ∙ append_assoc old (peers_upto tenant s n) (peer_lines tenant s n)
    ∙ ap (λ m. old ++ peers_upto tenant s m) next
