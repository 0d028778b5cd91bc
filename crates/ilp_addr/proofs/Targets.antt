-- What is read as a target is the target of these words, and each target is read.
use Rattle.std.proofs.Common.{◌≡◌, ◌≤◌, ◌<◌, ◌==◌, ◌∷◌, ◌++◌, ◌-◌, [], ℕ, Bool, true, false, cond, suc, List, length, take, get_or, Option, Some, None, refl, sym, ap, ◌∙◌, subst, append_assoc, length-append, arith}
use Rattle.std.specs.Prelude.{codes, slice_index, option_map, nat_le, ◌&&◌}
use Rattle.std.specs.Str.{bytes_eq}
use Rattle.std.proofs.lemmas.Bool.{and_parts, eqb-true, leb-true, le-leb}
use Rattle.std.proofs.lemmas.Option.{cond_some, option_and_then_some}
use Rattle.std.proofs.lemmas.Slice.Eq.{bytes_eq-Decides}
use Rattle.std.proofs.Math.Seq.{take-append_seam, get_or-append_seam}
use Rattle.std.specs.Fmt.{decimal}
use Rattle.std.specs.Str.Parse.{AllDigits}
use Rattle.std.proofs.lemmas.Fmt.{decimal_is_IsNumeral}
use Rattle.std.proofs.lemmas.Str.Parse.{digit_from_value}
use Rattle.std.specs.Net.Grammar.{IsIpv4Text}
use Rattle.std.specs.declared.net.ipv4_addr.Ipv4Addr.{Ipv4Addr}
use Rattle.std.specs.declared.net.ipv6_addr.Ipv6Addr.{Ipv6Addr}
use Rattle.ilp_addr.specs.declared.target.Host.{Host}
use Rattle.ilp_addr.specs.declared.target.Host.TheVariants.{Localhost, V4, V6}
use Rattle.common_types.specs.OptionChain.{◌>>=◌}
use Rattle.common_types.specs.Token.{is_token}
use Rattle.ilp_addr.specs.Target.{Parts, IsTarget, Names, IsHost, target_in, endpoint_in, host_in, host_or, literal_in, v4_in, v6_in, host_text, port_text, port_behind, authority_of, path_of, are_visible}
use Rattle.ilp_addr.proofs.Addresses.{v4_is, v4_found, v4_none, v6_is, v6_found}

chosen : {A : Type 0} (b : Bool) (x : Option A) (y : A) → cond b x None ≡ Some y → (b ≡ true) × (x ≡ Some y)
chosen true x y e = (refl, e)
chosen false x y e = absurd cc

mapped : {A B : Type 0} (f : A → B) (o : Option A) (y : B) → option_map f o ≡ Some y → (x : A) × (o ≡ Some x) × (f x ≡ y)
mapped f None y e = absurd cc
mapped f (Some x) y e = (x, refl, cc)

-- ---- the text between brackets

literal_is : (literal : List ℕ) → literal_in (91 ∷ literal ++ 93 ∷ []) ≡ Some literal
literal_is literal =
    let n = length-append literal (93 ∷ []) in
    let last : length (91 ∷ literal ++ 93 ∷ []) - 1 ≡ suc (length literal) = omega arith in
    let inner : length (91 ∷ literal ++ 93 ∷ []) - 2 ≡ length literal = omega arith in
    let two : nat_le 2 (length (91 ∷ literal ++ 93 ∷ [])) ≡ true = le-leb 2 (length (91 ∷ literal ++ 93 ∷ [])) (omega arith) in
    rw (last, inner, two, get_or-append_seam literal 93 [] 0, take-append_seam literal (93 ∷ [])) refl

-- all bytes but the last, and the last
last_apart : (xs : List ℕ) → 0 < length xs → xs ≡ take (length xs - 1) xs ++ slice_index xs (length xs - 1) ∷ []
last_apart [] some = absurd (omega arith)
last_apart (x ∷ []) some = refl
last_apart (x ∷ y ∷ ys) some =
    let e : length (x ∷ y ∷ ys) - 1 ≡ suc (length (y ∷ ys) - 1) = omega arith in
    rw e (ap (λ (zs : List ℕ). x ∷ zs) (last_apart (y ∷ ys) (omega arith)))

literal_found : (text literal : List ℕ) → literal_in text ≡ Some literal → text ≡ 91 ∷ literal ++ 93 ∷ []
literal_found [] literal e = absurd cc
literal_found (b ∷ rest) literal e =
    let c = cond_some ((b == 91) && (slice_index (b ∷ rest) (length (b ∷ rest) - 1) == 93) && nat_le 2 (length (b ∷ rest))) (take (length (b ∷ rest) - 2) rest) literal e in
    let k = and_parts ((b == 91) && (slice_index (b ∷ rest) (length (b ∷ rest) - 1) == 93)) (nat_le 2 (length (b ∷ rest))) c.0 in
    let m = and_parts (b == 91) (slice_index (b ∷ rest) (length (b ∷ rest) - 1) == 93) k.0 in
    let two = leb-true 2 (length (b ∷ rest)) k.1 in
    let last : length (b ∷ rest) - 1 ≡ suc (length rest - 1) = omega arith in
    let inner : length (b ∷ rest) - 2 ≡ length rest - 1 = omega arith in
    let end : slice_index rest (length rest - 1) ≡ 93 = rw last at (eqb-true (slice_index (b ∷ rest) (length (b ∷ rest) - 1)) 93 m.1) in
    let front : take (length rest - 1) rest ≡ literal = rw inner at c.1 in
    let first = eqb-true b 91 m.0 in
    let apart : rest ≡ literal ++ 93 ∷ [] = last_apart rest (omega arith) ∙ (λ i. front i ++ end i ∷ []) in
    λ i. first i ∷ apart i

-- ---- hosts

-- digits come first
first_is_digit : (ds rest : List ℕ) → 0 < length ds → AllDigits 10 ds → get_or (ds ++ rest) 0 0 ≤ 57
first_is_digit [] rest some d = absurd (omega arith)
first_is_digit (c ∷ cs) rest some d = (digit_from_value c d.0).1

v4_first : (text : List ℕ) (a : Ipv4Addr) → IsIpv4Text text a → get_or text 0 0 ≤ 57
v4_first text a is =
    let k = decimal_is_IsNumeral is.a (omega (arith, is.fit.0)) in
    let rest : List ℕ = codes "." ++ (decimal is.b ++ (codes "." ++ (decimal is.c ++ (codes "." ++ decimal is.d)))) in
    let e : text ≡ decimal is.a ++ rest = is.spelled ∙ simp append_assoc in
    subst (λ (t : List ℕ). get_or t 0 0 ≤ 57) (sym e) (first_is_digit (decimal is.a) rest k.0.0 k.0.1)

-- no address is spelled as the name is
localhost_no_v4 : (a : Ipv4Addr) → IsIpv4Text (codes "localhost") a → ⊥
localhost_no_v4 a is = omega (arith, v4_first (codes "localhost") a is)

v4_no_v6 : (literal : List ℕ) (a : Ipv4Addr) → IsIpv4Text (91 ∷ literal ++ 93 ∷ []) a → ⊥
v4_no_v6 literal a is = omega (arith, v4_first (91 ∷ literal ++ 93 ∷ []) a is)

host_is : (text : List ℕ) (host : Host) → IsHost text host → host_in text ≡ Some host
unfolding host_in
host_is text Localhost is = rw is refl
host_is text (V4 a) is = by (bytes_eq text (codes "localhost")) refl
  where
    by : (b : Bool) → bytes_eq text (codes "localhost") ≡ b → cond b (Some Localhost) (host_or (v4_in text) (literal_in text >>= v6_in)) ≡ Some (V4 a)
    by true e = absurd (localhost_no_v4 a (subst (λ (t : List ℕ). IsIpv4Text t a) ((bytes_eq-Decides text (codes "localhost")).0 e) is))
    by false e = rw (v4_is text a is) refl
host_is text (V6 a) is = rw (is.1, v4_none (91 ∷ is.0 ++ 93 ∷ []) (v4_no_v6 is.0), literal_is is.0, v6_is is.0 a is.2) refl

host_found : (text : List ℕ) (host : Host) → host_in text ≡ Some host → IsHost text host
unfolding host_in
host_found text host e = by (bytes_eq text (codes "localhost")) (v4_in text) (literal_in text) refl refl refl e
  where
    last : (o : Option Ipv6Addr) (literal : List ℕ) → text ≡ 91 ∷ literal ++ 93 ∷ [] → v6_in literal ≡ o → host_or None o ≡ Some host → IsHost text host
    last None literal is f k = absurd cc
    last (Some a) literal is f k = let h : V6 a ≡ host = cc in subst (IsHost text) h (literal, is, v6_found literal a f)

    by : (b : Bool) (o : Option Ipv4Addr) (l : Option (List ℕ)) → bytes_eq text (codes "localhost") ≡ b → v4_in text ≡ o → literal_in text ≡ l
        → cond b (Some Localhost) (host_or o (l >>= v6_in)) ≡ Some host → IsHost text host
    by true o l e f g k = let h : Localhost ≡ host = cc in subst (IsHost text) h ((bytes_eq-Decides text (codes "localhost")).0 e)
    by false (Some a) l e f g k = let h : V4 a ≡ host = cc in subst (IsHost text) h (v4_found text a f)
    by false None None e f g k = absurd cc
    by false None (Some literal) e f g k = last (v6_in literal) literal (literal_found text literal g) refl k

-- ---- URLs and targets

endpoint_is : (url : List ℕ) (host : Host) (port : ℕ) → Names url host port → endpoint_in url ≡ Some (host, port)
unfolding endpoint_in
endpoint_is url host port is = rw (is.scheme, is.visible, is.is_path, host_is (host_text (authority_of url)) host is.is_host, is.is_port) refl

endpoint_found : (url : List ℕ) (host : Host) (port : ℕ) → endpoint_in url ≡ Some (host, port) → Names url host port
unfolding endpoint_in
endpoint_found url host port e =
    let tests : Bool = bytes_eq (take 7 url) (codes "http://") && are_visible url && (slice_index (path_of url) 0 == 47) in
    let c = chosen tests _ (host, port) e in
    let k = and_parts (bytes_eq (take 7 url) (codes "http://") && are_visible url) (slice_index (path_of url) 0 == 47) c.0 in
    let m = and_parts (bytes_eq (take 7 url) (codes "http://")) (are_visible url) k.0 in
    option_and_then_some _ (host_in (host_text (authority_of url))) (host, port) c.1 (λ h h_is rest.
    let p = mapped (λ (port : ℕ). (h, port)) (port_behind (port_text (authority_of url))) (host, port) rest in
    let same : h ≡ host = ap (λ (q : Host × ℕ). q.0) p.2 in
    let port_is : p.0 ≡ port = ap (λ (q : Host × ℕ). q.1) p.2 in
    record {
      scheme = (bytes_eq-Decides (take 7 url) (codes "http://")).0 m.0;
      is_host = host_found (host_text (authority_of url)) host (h_is ∙ ap (λ (x : Host). Some x) same);
      is_port = p.1 ∙ ap (λ (x : ℕ). Some x) port_is;
      is_path = eqb-true (slice_index (path_of url) 0) 47 k.1;
      visible = m.1;
    })

pub target_is_read : (url token : List ℕ) (t : Parts) → IsTarget url token t → target_in url token ≡ Some t
unfolding target_in
target_is_read url token t is =
    let short = le-leb (length url) 255 is.short in
    rw (is.is_token, short, endpoint_is url t.host t.port is.names) (let u = sym is.url_is in let v = sym is.token_is in λ i. Some (record { url = u i; token = v i; host = t.host; port = t.port }))

pub read_is_target : (url token : List ℕ) (t : Parts) → target_in url token ≡ Some t → IsTarget url token t
unfolding target_in
read_is_target url token t e =
    let c = chosen (is_token token && nat_le (length url) 255) _ t e in
    let k = and_parts (is_token token) (nat_le (length url) 255) c.0 in
    let m = mapped (λ (e : Host × ℕ). record { url = url; token = token; host = e.0; port = e.1 }) (endpoint_in url) t c.1 in
    let made : IsTarget url token (record { url = url; token = token; host = m.0.0; port = m.0.1 }) = record {
      url_is = refl;
      token_is = refl;
      short = leb-true (length url) 255 k.1;
      names = endpoint_found url m.0.0 m.0.1 m.1;
      is_token = k.0;
    } in
    subst (IsTarget url token) m.2 made

pub one_target : (url token : List ℕ) (a b : Parts) → IsTarget url token a → IsTarget url token b → a ≡ b
one_target url token a b x y = same (sym (target_is_read url token a x) ∙ target_is_read url token b y)
  where
    same : {s t : Parts} → Some s ≡ Some t → s ≡ t
    same e = cc
