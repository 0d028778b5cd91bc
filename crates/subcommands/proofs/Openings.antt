-- With what the tenants of a setup begin, one after another.
use Rattle.std.proofs.Common.{◌≡◌, ℕ, zero, suc, ◌+◌, List, [], ◌∷◌, ◌++◌, length, map, take, refl, subst, sym, ap, ◌∙◌, rules, arith, inl, inr, Option, None}
use Rattle.std.specs.Prelude.{◌⊎◌, Err, IfOk, IfSome, IsNone, Ok, Result, Some}
use Rattle.std.specs.List.{enumerate_from, slice_get}
use Rattle.std.proofs.lemmas.Option.{same_Some}
use Rattle.tenant_core.specs.State.{opening_of}
use Rattle.tenant_core.specs.declared.opening.Opening.{Opening}
use Rattle.tenant_core.specs.declared.terms.TenantTerms.{TenantTerms}
use Rattle.admin_text.specs.declared.setup.Setup.{Setup}
use Rattle.book_journal.specs.Writer.{WriterState}
use Rattle.book_log.specs.declared.base.TenantStart.{TenantStart}
use Rattle.books_shared.specs.Traced.{openings_of}
use Rattle.journal_shared.specs.Kept.{BeginsLog, IsNewLog}
use Rattle.log_folder.specs.Disk.{disk_may_leave, disk_seen}
use Rattle.subcommands.specs.Beginning.{GoesOn, HasBegun, HasNewLog}
use Rattle.subcommands.specs.Journalling.{AreStartsOf}
use Rattle.subcommands.specs.declared.beginning.Beginning.{Beginning}

-- a tenant more has an opening more
pub one_opening_more : (f : ℕ × TenantTerms → Opening) (n : ℕ) (xs : List TenantTerms) (i : ℕ) (x : TenantTerms) → slice_get xs i ≡ Some x
    → map f (enumerate_from n (take (suc i) xs)) ≡ map f (enumerate_from n (take i xs)) ++ f (n + i, x) ∷ []
one_opening_more f n [] i x got = search rules
one_opening_more f n (y ∷ ys) zero x got =
    let same : y ≡ x = same_Some y x got in
    let here : n ≡ n + 0 = omega arith in
    ap (λ t. f (n, t) ∷ []) same ∙ ap (λ m. f (m, x) ∷ []) here
one_opening_more f n (y ∷ ys) (suc i) x got =
    let next : (n + 1) + i ≡ n + suc i = omega arith in
    ap (λ os. f (n, y) ∷ os) (one_opening_more f (n + 1) ys i x got
    ∙ ap (λ m. map f (enumerate_from (n + 1) (take i ys)) ++ f (m, x) ∷ []) next)

-- the same, with the next number as it is counted
pub next_opening_more : (f : ℕ × TenantTerms → Opening) (xs : List TenantTerms) (i : ℕ) (x : TenantTerms) → slice_get xs i ≡ Some x
    → map f (enumerate_from 0 (take i xs)) ++ f (i, x) ∷ [] ≡ map f (enumerate_from 0 (take (i + 1) xs))
next_opening_more f xs i x got =
    let from : i ≡ 0 + i = omega arith in
    let more : suc i ≡ i + 1 = omega arith in
    ap (λ m. map f (enumerate_from 0 (take i xs)) ++ f (m, x) ∷ []) from
    ∙ (sym (one_opening_more f 0 xs i x got) ∙ ap (λ m. map f (enumerate_from 0 (take m xs))) more)

-- starts of the tenants of a setup have their openings
starts_from : (n start : ℕ) (setups : List TenantTerms) (starts : List TenantStart) → length starts ≡ length setups
    → ((t : ℕ) (s : TenantStart) → slice_get starts t ≡ Some s
    → (terms : TenantTerms) × (slice_get setups t ≡ Some terms) × (s.opening ≡ opening_of (n + t) terms start))
    → map (λ (s : TenantStart). s.opening) starts ≡ map (λ (t : ℕ × TenantTerms). opening_of t.0 t.1 start) (enumerate_from n setups)
starts_from n start [] [] many are = refl
starts_from n start [] (s ∷ starts) many are = absurd (cc many)
starts_from n start (x ∷ setups) [] many are = absurd (cc many)
starts_from n start (x ∷ setups) (s ∷ starts) many are =
    let own = are 0 s refl in
    let same : own.0 ≡ x = sym (same_Some x own.0 own.1) in
    let here : n + 0 ≡ n = omega arith in
    let first : s.opening ≡ opening_of n x start = own.2 ∙ (ap (λ (t : TenantTerms). opening_of (n + 0) t start) same ∙ ap (λ (k : ℕ). opening_of k x start) here) in
    let others = starts_from (n + 1) start setups starts (omega (arith, many)) (λ t r at.
    let found = are (suc t) r at in
    let next : n + suc t ≡ (n + 1) + t = omega arith in
    (found.0, found.1, found.2 ∙ ap (λ (k : ℕ). opening_of k found.0 start) next)) in
    ap (λ (o : Opening). o ∷ map (λ (r : TenantStart). r.opening) starts) first ∙ ap (λ (os : List Opening). opening_of n x start ∷ os) others

openings_are : (setup : Setup) (starts : List TenantStart) → AreStartsOf setup starts
    → map (λ (s : TenantStart). s.opening) starts ≡ openings_of setup.tenants setup.start
openings_are setup starts are = starts_from 0 setup.start setup.tenants starts are.all (λ t s at.
    let own = are.first t s at in
    let from : t ≡ 0 + t = omega arith in
    (own.0, own.1, own.2 ∙ ap (λ (k : ℕ). opening_of k own.0 setup.start) from))

-- a service that begins with its setup has a new log, if it keeps one
begun_log : (setup : Setup) (begun : Beginning) → HasBegun setup begun → HasNewLog begun
begun_log setup begun has = by begun.journal has.journal
  where
    by : (journal : Option (WriterState _)) → IfSome journal (λ writer. (starts : List TenantStart) × AreStartsOf setup starts × IsNewLog disk_seen disk_may_leave starts writer)
        → IfSome journal (BeginsLog disk_seen disk_may_leave begun.openings.items)
    by None new = tt
    by (Some writer) new = record {
      starts = new.0;
      openings_are = openings_are setup new.0 new.1 ∙ sym has.first;
      new = new.2;
    }

-- so has one that goes on
goes_on_log : (begun : Beginning) → GoesOn begun → HasNewLog begun
goes_on_log begun on = subst (λ (journal : Option (WriterState _)). IfSome journal (BeginsLog disk_seen disk_may_leave begun.openings.items)) (sym on.journal)
    (record {
      starts = on.starts;
      openings_are = sym on.openings;
      new = on.new;
    })

-- what a service begins with in a folder has a new log
pub has_log : {E : Type 0} (setup : Setup) (result : Result Beginning E) → IfOk result (λ begun. HasBegun setup begun ⊎ GoesOn begun) → IfOk result HasNewLog
has_log setup (Ok begun) (inl has) = begun_log setup begun has
has_log setup (Ok begun) (inr on) = goes_on_log begun on
has_log setup (Err e) told = tt

-- without a journal there is none
pub has_none : (begun : Beginning) → IsNone begun.journal → HasNewLog begun
has_none begun none = by begun.journal none
  where
    by : (journal : Option (WriterState _)) → IsNone journal → IfSome journal (BeginsLog disk_seen disk_may_leave begun.openings.items)
    by None none = tt
    by (Some writer) none = absurd (cc none)
