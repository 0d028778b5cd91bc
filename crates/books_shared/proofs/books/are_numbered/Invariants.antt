use Rattle.std.proofs.Common.{◌≡◌, ◌<◌, ℕ}
use Rattle.std.specs.Prelude.{slice_get, Some}
use Rattle.tenant_core.specs.declared.opening.Opening.{Opening}
use Rattle.books_shared.proofs.books.are_numbered.Given as goal

abbrev pub invariant-loop-place : goal.invariant-loop-place
invariant-loop-place l = (i : ℕ) (o : Opening) → i < l.place → slice_get l.openings i ≡ Some o → o.tenant ≡ i
