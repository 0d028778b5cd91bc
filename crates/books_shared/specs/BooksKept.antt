-- What contracts see of books, and what they keep.
use Rattle.std.specs.Prelude.{ℕ, ◌≡◌, ◌≤◌, List, length}
use Rattle.tenant_core.specs.Limits.{max_tenants}
use Rattle.tenant_core.specs.declared.opening.Opening.{Opening}
use Rattle.one_list.specs.declared.step.Size.{Size}
use Rattle.books_shared.specs.Gathers.{max_workers}

-- there are so many tenants and workers as the one list is of, each tenant has an opening, and they are not too many
pub record AreFew (size : Size) (openings : List Opening) (tenants workers : ℕ) : Type 0 where
  pub of_size : size ≡ record { tenants = tenants; workers = workers }
  pub opened : length openings ≡ tenants
  pub tenants_few : tenants ≤ max_tenants
  pub workers_few : workers ≤ max_workers
