-- What the one list says of a tenant's book, and of all books and shares once they are gathered.
use Rattle.std.specs.Prelude.{ℕ, ◌≡◌, ◌<◌, ◌+◌, List, [], ◌∷◌, map, Option, Some, None, All, slice_get, slice_index_or}
use Rattle.std.specs.List.{enumerate_from}
use Rattle.tenant_core.specs.State.{State, opened, opening_of}
use Rattle.tenant_core.specs.declared.journal.Record.{Record}
use Rattle.tenant_core.specs.declared.opening.Opening.{Opening}
use Rattle.tenant_core.specs.declared.terms.TenantTerms.{TenantTerms}
use Rattle.one_list.specs.History.{IsHistory, after_record}
use Rattle.one_list.specs.Steps.{IsBeginning, PartView, Place, WorkerView, done_by, of_tenant, of_worker}
use Rattle.one_list.specs.declared.step.Done.{Done}
use Rattle.one_list.specs.declared.step.Size.{Size}
use Rattle.floor_core.specs.Causes.{AreRun, Entered, HasCause}
use Rattle.floor_core.specs.World.{no_book}
use Rattle.books_shared.specs.Shares.{ShareView, share_raised, with_steps}
use Rattle.books_shared.specs.declared.rise.CallCounts.{CallCounts}

-- ---- a call

-- the share of a worker after a call that counts so much, and made that record at that place
abbrev pub share_counted : CallCounts → Place → Option Record → ShareView → ShareView
share_counted rise at made s = share_raised rise at.tenant (with_steps (done_by s.worker at made) s)

-- the state after it
abbrev pub after_made : State → Option Record → State
after_made s None = s
after_made s (Some r) = after_record s r

-- ---- a book

-- with what the tenants' first periods begin
abbrev pub openings_of : List TenantTerms → (start : ℕ) → List Opening
openings_of setups start = map (λ t. opening_of t.0 t.1 start) (enumerate_from 0 setups)

-- a cause made each record in the book, as the steps before it left it: a packet, an answer, a moment, or a command
abbrev pub HaveCauses : State → List Done → Type 0
HaveCauses s [] = Unit {0}
HaveCauses s (e ∷ es) = HasCause s e.made × HaveCauses (after_record s e.made) es

-- the tenant's steps, over all its periods, each with the outcome of the replay, lead from the tenant's first opening to
-- the state
pub record IsLedTo (openings : List Opening) (s : State) (steps : List Done) : Type 0 where
  pub first : Opening
  pub opens : slice_get openings s.opening.tenant ≡ Some first
  pub history : IsHistory first steps s
  pub causes : HaveCauses (opened first) steps

-- so do those of the part of the list that lies beside the book
pub record IsTraced (openings : List Opening) (s : State) (part : PartView) : Type 0 where
  pub number : part.number ≡ s.opening.tenant
  pub led : IsLedTo openings s part.steps

-- ---- the one list

-- the books are those of the tenants from that number on, in the order of their numbers
abbrev pub AreInOrder : ℕ → List (State × ℕ) → Type 0
AreInOrder tenant [] = Unit {0}
AreInOrder tenant (b ∷ bs) = (b.0.opening.tenant ≡ tenant) × AreInOrder (tenant + 1) bs

-- the book of each tenant, by its number
abbrev pub book_among : List (State × ℕ) → ℕ → State
book_among books tenant = (slice_index_or books tenant (no_book, 0)).0

-- the step's record, in its tenant's book
abbrev pub entered_by : Done → Entered
entered_by e = record { tenant = e.tenant; made = e.made }

-- It is the list of all that was done. For each tenant it has the steps that led to the tenant's book, in the order of
-- its journals, with the outcomes of the replay. For each worker it has the steps that its share knows, in their
-- order. It has no other steps.
--
-- What a worker has met of a tenant is how the tenant's steps in the list begin. The books are those of all tenants,
-- in order. The list is a run: steps of some number of workers, from the openings on, make just its records in its
-- order and leave these books
pub record IsListOf (size : Size) (openings : List Opening) (books : List (State × ℕ)) (shares : List ShareView) (log : List Done) : Type 0 where
  pub tenants : All (λ b. IsLedTo openings b.0 (of_tenant b.0.opening.tenant log)) books
  pub workers : All (λ s. of_worker s.worker log ≡ s.steps) shares
  pub met : All (λ s. All (IsBeginning log) s.met) shares
  pub others : All (λ e. (e.tenant < size.tenants) × (e.worker < size.workers)) log
  pub in_order : AreInOrder 0 books
  pub run : AreRun openings (map entered_by log) (book_among books)

-- there is one
abbrev pub HaveListOf : Size → List Opening → List (State × ℕ) → List ShareView → Type 0
HaveListOf size openings books shares = (log : List Done) × IsListOf size openings books shares log

-- parts of the list, each that of the book in its place
abbrev pub AreTraced : List Opening → List (State × ℕ) → List PartView → Type 0
AreTraced openings [] [] = Unit {0}
AreTraced openings (b ∷ bs) (p ∷ ps) = IsTraced openings b.0 p × AreTraced openings bs ps
AreTraced openings _ _ = ⊥

-- the part of the list that a share knows
abbrev pub share_part : ShareView → WorkerView
share_part s = record { number = s.worker; steps = s.steps; met = s.met }
