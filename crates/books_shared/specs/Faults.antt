-- Why books are not gathered.
use Rattle.std.specs.Prelude.{◌≡◌, true, false, List, length}
use Rattle.books_shared.specs.Gathers.{BooksView, agree, are_all_there}
use Rattle.books_shared.specs.Shares.{ShareView}
use Rattle.books_shared.specs.declared.gather.GatherFault.{GatherFault}
use Rattle.books_shared.specs.declared.gather.GatherFault.TheVariants.{Missing, Differs, Memory}

-- the fault is there, and books and shares are handed back
abbrev pub IsGatherFault : {J : Type 0} → GatherFault J → BooksView → List ShareView → Type 0
IsGatherFault (Missing b s) books shares =
    (are_all_there books.workers shares ≡ false) × (b ≡ books) × (s.items ≡ shares)
IsGatherFault (Differs gathered s) books shares =
    (are_all_there books.workers shares ≡ true) × (length gathered.items ≡ books.tenants)
    × (agree gathered.items shares ≡ false) × (s.items ≡ shares)
IsGatherFault (Memory b s) books shares =
    (are_all_there books.workers shares ≡ true) × (b ≡ books) × (s.items ≡ shares)
