-- What spells no host.
use Rattle.std.proofs.Common.{◌≡◌, ◌≢◌, ◌≤◌, ℕ, Bool, true, false, not, cond, ltb, ltb-false, List, [], ◌∷◌, ◌++◌, length, Some, None, subst, sym, refl, ◌∙◌, arith}
use Rattle.std.specs.Prelude.{unwrap_or}
use Rattle.std.specs.List.{position, position_or_len}
use Rattle.std.specs.Prelude.{codes}
use Rattle.std.proofs.lemmas.List.{append_cancel_left, append_cancel_right}
use Rattle.std.proofs.lemmas.List.Sums.{prefix_len-le-length}
use Rattle.std.specs.Net.Grammar.{IsIpv4Text, IsIpv6Text}
use Rattle.std.specs.declared.net.ipv4_addr.Ipv4Addr.{Ipv4Addr}
use Rattle.std.specs.declared.net.ipv6_addr.Ipv6Addr.{Ipv6Addr}
use Rattle.ilp_addr.specs.declared.target.Host.{Host}
use Rattle.ilp_addr.specs.declared.target.Host.TheVariants.{Localhost, V4, V6}
use Rattle.ilp_addr.specs.Target.{IsHost}

-- one text stands between the brackets
inside_brackets : (a b : List ℕ) → 91 ∷ a ++ 93 ∷ [] ≡ 91 ∷ b ++ 93 ∷ [] → a ≡ b
inside_brackets a b e = append_cancel_right a b (93 ∷ []) (append_cancel_left (91 ∷ []) (a ++ 93 ∷ []) (b ++ 93 ∷ []) e)

-- brackets with no IPv6 literal inside spell no host
pub no_host : (text literal : List ℕ) → text ≡ 91 ∷ literal ++ 93 ∷ [] → text ≢ codes "localhost"
    → ((a : Ipv4Addr) → IsIpv4Text text a → ⊥) → ((a : Ipv6Addr) → IsIpv6Text literal a → ⊥)
    → (host : Host) → IsHost text host → ⊥
no_host text literal e not_local not_v4 not_v6 Localhost is = not_local is
no_host text literal e not_local not_v4 not_v6 (V4 a) is = not_v4 a is
no_host text literal e not_local not_v4 not_v6 (V6 a) is =
    let same = inside_brackets is.0 literal (sym is.1 ∙ e) in
    not_v6 a (subst (λ (t : List ℕ). IsIpv6Text t a) same is.2)

-- the place of the first, or the length where there is none
pub place_or_all : {X : Type 0} (p : X → Bool) (xs : List X) → unwrap_or (position p xs) (length xs) ≡ position_or_len p xs
place_or_all p xs = at_most (position_or_len p xs) (length xs) (prefix_len-le-length (λ x. not (p x)) xs) (ltb (position_or_len p xs) (length xs)) refl
  where
    at_most : (k n : ℕ) → k ≤ n → (b : Bool) → ltb k n ≡ b → unwrap_or (cond b (Some k) None) n ≡ k
    at_most k n le true e = refl
    at_most k n le false e = omega (arith, ltb-false k n e)
