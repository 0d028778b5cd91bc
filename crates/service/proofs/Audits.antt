-- Rolls one after another, and the lists of one share more.
use Rattle.std.proofs.Common.{◌≡◌, ℕ, zero, suc, ◌+◌, List, [], ◌∷◌, ◌++◌, Some, slice_get, take, true, All, ap, sym, subst, ◌∙◌, add-one}
use Rattle.std.proofs.lemmas.List.{map-append}
use Rattle.std.proofs.lemmas.List.Elements.{All-push}
use Rattle.books_shared.specs.Shares.{ShareView, receipts_told}
use Rattle.workers.specs.Carrying.{Circumstances}
use Rattle.service.specs.Auditing.{HaveRolled, Rolling, WasRolled, lists_of}

pub rolled_next : (under : Circumstances) (n : ℕ) (before between after : Rolling) → HaveRolled under n before between
    → WasRolled under n between after → HaveRolled under (n + 1) before after
rolled_next under n before between after rolled was = rw add-one (between, rolled, was)

-- the first so many, and one more
pub taken_next : {X : Type 0} (xs : List X) (i : ℕ) (x : X) → slice_get xs i ≡ Some x → take (suc i) xs ≡ take i xs ++ x ∷ []
taken_next [] i x at = absurd cc
taken_next (y ∷ ys) zero x at = let same : y ≡ x = cc in ap (λ z. z ∷ []) same
taken_next (y ∷ ys) (suc i) x at = ap (λ zs. y ∷ zs) (taken_next ys i x at)

pub lists_next : (shares : List ShareView) (i : ℕ) (s : ShareView) → slice_get shares i ≡ Some s
    → lists_of (take (i + 1) shares) ≡ lists_of (take i shares) ++ receipts_told s.steps ∷ []
lists_next shares i s at =
    rw add-one (ap lists_of (taken_next shares i s at) ∙ map-append (λ (z : ShareView). receipts_told z.steps) (take i shares) (s ∷ []))

pub kept_next : (shares : List ShareView) (i : ℕ) (s : ShareView) → slice_get shares i ≡ Some s
    → All (λ z. z.audited ≡ true) (take i shares) → s.audited ≡ true → All (λ z. z.audited ≡ true) (take (i + 1) shares)
kept_next shares i s at before here =
    rw add-one (subst (All (λ z. z.audited ≡ true)) (sym (taken_next shares i s at)) (All-push (λ z. z.audited ≡ true) (take i shares) s before here))
