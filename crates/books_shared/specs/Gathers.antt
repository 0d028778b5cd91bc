-- Books and shares that `Books::gather` compares.
use Rattle.std.specs.Prelude.{ℕ, ◌≡◌, ◌==◌, Bool, true, ◌&&◌, List, length, sum_by, count_by, slice_index, zero, suc}
use Rattle.std.specs.List.{list_all}
use Rattle.tenant_core.specs.State.{State}
use Rattle.books_shared.specs.Shares.{ShareView}
use Rattle.books_shared.specs.declared.books.TheConstants.{MAX_WORKERS}

-- how many tenants and how many workers share books
pub record BooksView : Type 0 where
  pub tenants : ℕ
  pub workers : ℕ

-- the most workers
abbrev pub max_workers : ℕ
max_workers = MAX_WORKERS

-- ---- whose shares they are

-- the share is that worker's
abbrev pub is_share_of : ℕ → ShareView → Bool
is_share_of worker s = s.worker == worker

-- how many of the shares are that worker's
abbrev pub shares_of : ℕ → List ShareView → ℕ
shares_of worker shares = count_by (is_share_of worker) shares

-- each of so many workers has one of the shares
abbrev pub each_has_one : ℕ → List ShareView → Bool
each_has_one zero shares = true
each_has_one (suc n) shares = each_has_one n shares && (shares_of n shares == 1)

-- the shares are those of so many workers, each once, in any order
abbrev pub are_all_there : ℕ → List ShareView → Bool
are_all_there workers shares = (length shares == workers) && each_has_one workers shares

-- ---- what they add up to

-- how many entries the workers appended to the book of that tenant
abbrev pub total_at : ℕ → List ShareView → ℕ
total_at tenant shares = sum_by (λ s. slice_index s.counts tenant) shares

-- the number of a book is what the shares count for its tenant
abbrev pub is_total : List ShareView → State × ℕ → Bool
is_total shares book = book.1 == total_at book.0.opening.tenant shares

-- this holds of each book
abbrev pub agree : List (State × ℕ) → List ShareView → Bool
agree books shares = list_all (is_total shares) books

-- books that were gathered: as many as there were, each with the number that the shares add up to
pub record AreGathered (gathered : List (State × ℕ)) (books : BooksView) (shares : List ShareView) : Type 0 where
  pub there : are_all_there books.workers shares ≡ true
  pub as_many : length gathered ≡ books.tenants
  pub same : agree gathered shares ≡ true
