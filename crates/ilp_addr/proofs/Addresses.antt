-- Texts of IP addresses, read by std's functions.
use Rattle.std.proofs.Common.{◌≡◌, ◌∷◌, ◌++◌, [], ℕ, List, length, Option, Some, None, refl, sym, ◌∙◌, subst, append-nil, lit≤, ne_eqb, arith}
use Rattle.std.specs.Prelude.{option_map}
use Rattle.std.specs.Net.Grammar.{IsIpv4Text, IsIpv6Text}
use Rattle.std.specs.Net.Reader.{read_ipv4, read_ipv6, whole_value}
use Rattle.std.specs.declared.net.ipv4_addr.Ipv4Addr.{Ipv4Addr}
use Rattle.std.specs.declared.net.ipv6_addr.Ipv6Addr.{Ipv6Addr}
use Rattle.std.proofs.NetLemmas.Ipv4.{read_ipv4_sound, read_ipv4_complete}
use Rattle.std.proofs.NetLemmas.Ipv6.{read_ipv6_sound, read_ipv6_complete, EndsGroups-nil}
use Rattle.ilp_addr.specs.Target.{v4_in, v4_of, v6_in, v6_of}

pub v4_is : (text : List ℕ) (a : Ipv4Addr) → IsIpv4Text text a → v4_in text ≡ Some a
unfolding v4_in
v4_is text a h = let e = rw append-nil at (read_ipv4_complete text _ [] h (lit≤ tt)) in rw e refl

pub v6_is : (text : List ℕ) (a : Ipv6Addr) → IsIpv6Text text a → v6_in text ≡ Some a
unfolding v6_in
v6_is text a h = let e = rw append-nil at (read_ipv6_complete text _ [] h EndsGroups-nil) in rw e refl

-- a reader whose readings are sound took all of a text
read_whole : {A : Type 0} (of : List ℕ → A) (Is : List ℕ → A → Type 0) (text : List ℕ) (r : Option (List ℕ × List ℕ)) (a : A)
    → ((value rest : List ℕ) → r ≡ Some (value, rest) → (front : List ℕ) × (text ≡ front ++ rest) × Is front (of value)) → option_map of (whole_value r) ≡ Some a → Is text a
read_whole of Is text None a sound is = absurd cc
read_whole of Is text (Some (value, [])) a sound is =
    let s = sound value [] refl in
    let same : of value ≡ a = cc in
    subst (Is text) same (subst (λ (t : List ℕ). Is t (of value)) (sym (s.1 ∙ append-nil s.0)) s.2)
read_whole of Is text (Some (value, c ∷ rest)) a sound is = absurd (let no = rw (ne_eqb (length (c ∷ rest)) 0 (omega arith)) at is in cc)

-- nothing was found where nothing can be
none_there : {A : Type 0} (o : Option A) → ((a : A) → o ≡ Some a → ⊥) → o ≡ None
none_there None none = refl
none_there (Some a) none = absurd (none a refl)

pub v4_found : (text : List ℕ) (a : Ipv4Addr) → v4_in text ≡ Some a → IsIpv4Text text a
unfolding v4_in
v4_found text a e = read_whole v4_of IsIpv4Text text (read_ipv4 text) a (read_ipv4_sound text) e

pub v4_none : (text : List ℕ) → ((a : Ipv4Addr) → IsIpv4Text text a → ⊥) → v4_in text ≡ None
v4_none text none = none_there (v4_in text) (λ a e. none a (v4_found text a e))

pub v6_found : (text : List ℕ) (a : Ipv6Addr) → v6_in text ≡ Some a → IsIpv6Text text a
unfolding v6_in
v6_found text a e = read_whole v6_of IsIpv6Text text (read_ipv6 text) a (read_ipv6_sound text) e

pub v6_none : (text : List ℕ) → ((a : Ipv6Addr) → IsIpv6Text text a → ⊥) → v6_in text ≡ None
v6_none text none = none_there (v6_in text) (λ a e. none a (v6_found text a e))
