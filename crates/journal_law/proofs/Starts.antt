-- Tenants that begin their first period.
use Rattle.std.proofs.Common.{◌≡◌, ◌<◌, ℕ, zero, suc, List, [], ◌∷◌, length, map, Option, refl, sym, ap, subst, ◌∙◌, arith}
use Rattle.std.specs.List.{slice_get}
use Rattle.std.specs.Prelude.{Some, option_map}
use Rattle.std.proofs.lemmas.List.{length-map}
use Rattle.std.proofs.lemmas.Option.{get_or_from_slice_get}
use Rattle.book_log.specs.Base.{states_of}
use Rattle.book_log.specs.declared.base.TenantStart.{TenantStart}
use Rattle.floor_core.specs.World.{no_book, tenant_at_start, world_at_start}
use Rattle.tenant_core.specs.State.{opened}
use Rattle.tenant_core.specs.declared.terms.TenantTerms.{TenantTerms}
use Rattle.journal_law.specs.Kept.{AreFirstStarts, HaveBegun}

is_there : {X : Type 0} (xs : List X) (i : ℕ) → i < length xs → (x : X) × (slice_get xs i ≡ Some x)
is_there [] i within = absurd (omega arith)
is_there (x ∷ xs) zero within = (x, refl)
is_there (x ∷ xs) (suc i) within = is_there xs i (omega arith)

get_mapped : {X Y : Type 0} (f : X → Y) (xs : List X) (i : ℕ) (x : X) → slice_get xs i ≡ Some x → slice_get (map f xs) i ≡ Some (f x)
get_mapped f [] i x got = absurd (cc got)
get_mapped f (y ∷ xs) zero x got = ap (λ (o : Option _). option_map f o) got
get_mapped f (y ∷ xs) (suc i) x got = get_mapped f xs i x got

pub have_begun : (setups : List TenantTerms) (start : ℕ) (starts : List TenantStart) → AreFirstStarts setups start starts
    → HaveBegun (world_at_start setups start) starts
have_begun setups start starts first = record {
  books = λ t within.
      let there : t < length starts = subst (λ n. t < n) (length-map starts (λ (s : TenantStart). opened s.opening)) within in
      let s = is_there starts t there in
      let is = first t s.0 s.1 in
      ap (λ (o : Option TenantTerms). (tenant_at_start start t o).book) is.1 ∙ ap opened (sym is.2)
      ∙ sym (get_or_from_slice_get (states_of starts) t (opened s.0.opening) no_book (get_mapped (λ (x : TenantStart). opened x.opening) starts t s.0 s.1));
  numbers = λ t within.
      let s = is_there starts t within in
      let is = first t s.0 s.1 in
      ap (λ (o : Option TenantTerms). (tenant_at_start start t o).book.opening.tenant) is.1;
}
