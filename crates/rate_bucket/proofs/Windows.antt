-- A bucket admits a packet where each window has room for it.
use Rattle.std.proofs.Common.{◌≡◌, ◌≤◌, ℕ, ◌+◌, ◌*◌, List, [], ◌∷◌, ◌++◌, length, arith, refl, ap, subst}
use Rattle.std.specs.Prelude.{IsTrue, ◌↔◌}
use Rattle.std.proofs.lemmas.Bool.{leb-true, le-leb}
use Rattle.rate_bucket.specs.Bucket.{Stretch, IsAdmitted, packet, full_bucket, gained, windows_left, is_admitted}

-- ---- the least that a window leaves, and each window

-- one packet more fits into the window of each of these
abbrev HaveRoom : ℕ → ℕ → ℕ → List ℕ → Type 0
HaveRoom burst per_second now ats =
    (before after : List ℕ) (at : ℕ) → ats ≡ before ++ at ∷ after → packet * (length after + 2) ≤ full_bucket burst + gained per_second at now

none_before : (before after : List ℕ) (at : ℕ) → [] ≡ before ++ at ∷ after → ⊥
none_before [] after at e = absurd cc
none_before (x ∷ before) after at e = absurd cc

each_room : (burst per_second now : ℕ) (ats : List ℕ) → packet ≤ windows_left burst per_second now ats → (1 ≤ burst) × HaveRoom burst per_second now ats
each_room burst per_second now [] h = (omega arith, λ before after at e. absurd (none_before before after at e))
each_room burst per_second now (a ∷ xs) h = by (each_room burst per_second now xs (omega arith))
  where
    here : (at : ℕ) (after : List ℕ) → a ∷ xs ≡ at ∷ after → packet * (length after + 2) ≤ full_bucket burst + gained per_second at now
    here at after e =
        let first : a ≡ at = cc in
        let others : xs ≡ after = cc in
        let fits : packet * (length xs + 2) ≤ full_bucket burst + gained per_second a now = omega arith in
        subst (λ x. packet * (length after + 2) ≤ full_bucket burst + gained per_second x now) first
        (subst (λ ys. packet * (length ys + 2) ≤ full_bucket burst + gained per_second a now) others fits)

    by : (1 ≤ burst) × HaveRoom burst per_second now xs → (1 ≤ burst) × HaveRoom burst per_second now (a ∷ xs)
    by rest = (rest.0, room)
      where
        room : HaveRoom burst per_second now (a ∷ xs)
        room [] after at e = here at after e
        room (x ∷ before) after at e = let others : xs ≡ before ++ at ∷ after = cc in rest.1 before after at others

least_room : (burst per_second now : ℕ) (ats : List ℕ) → 1 ≤ burst → HaveRoom burst per_second now ats → packet ≤ windows_left burst per_second now ats
least_room burst per_second now [] some room = omega arith
least_room burst per_second now (a ∷ xs) some room =
    let here = room [] xs a refl in
    let rest = least_room burst per_second now xs some (λ before after at e. room (a ∷ before) after at (ap (λ (l : List ℕ). a ∷ l) e)) in
    omega arith

pub admitted_by_windows : (b : Stretch) (now : ℕ) → IsTrue (is_admitted b now) ↔ IsAdmitted b now
admitted_by_windows b now = (to, from)
  where
    to : IsTrue (is_admitted b now) → IsAdmitted b now
    to t =
        let h = leb-true _ _ t in
        let rest = each_room b.burst b.per_second now b.admitted (omega arith) in
        record { some = rest.0; whole = omega arith; windows = rest.1 }

    from : IsAdmitted b now → IsTrue (is_admitted b now)
    from is =
        let whole = is.whole in
        let rest = least_room b.burst b.per_second now b.admitted is.some is.windows in
        le-leb _ _ (omega arith)
