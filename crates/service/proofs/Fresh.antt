-- What shares are at first.
use Rattle.std.proofs.Common.{ℕ, zero, suc, Bool, ◌≡◌, ◌∷◌, [], length, refl, arith, All}
use Rattle.std.proofs.lemmas.List.{length-append}
use Rattle.std.proofs.lemmas.List.Elements.{All-nil, All-push}
use Rattle.books_shared.specs.Shares.{fresh, fresh_shares}
use Rattle.service.specs.Answering.{IsUncounted}

pub count_fresh : (audited : Bool) (n : ℕ) → length (fresh_shares audited n) ≡ n
count_fresh audited zero = refl
count_fresh audited (suc n) =
    let shorter = count_fresh audited n in omega (arith, length-append (fresh_shares audited n) (fresh audited n ∷ []))

pub all_fresh : (audited : Bool) (n : ℕ) → All IsUncounted (fresh_shares audited n)
all_fresh audited zero = All-nil IsUncounted
all_fresh audited (suc n) = All-push IsUncounted (fresh_shares audited n) (fresh audited n) (all_fresh audited n) (audited, n, refl)
