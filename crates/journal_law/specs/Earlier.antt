-- Fronts of histories that a crash leaves.
use Rattle.std.specs.Prelude.{ℕ, ◌≡◌, List, [], ◌∷◌, ◌++◌, map}
use Rattle.book_log.specs.Base.{states_of}
use Rattle.book_log.specs.Written.{IsTextWritten}
use Rattle.book_log.specs.declared.base.TenantStart.{TenantStart}
use Rattle.one_list.specs.History.{LeadTo}
use Rattle.one_list.specs.declared.step.Done.{Done}
use Rattle.journal_shared.specs.Fronts.{Front}

-- the history goes on from the one front to the other
pub record IsEarlier (f g : Front) : Type 0 where
  pub rest : List Done
  pub steps : g.steps ≡ f.steps ++ rest
  pub leads : LeadTo f.state rest g.state

-- so does each tenant's
abbrev pub AreEarlier : List Front → List Front → Type 0
AreEarlier [] [] = Unit {0}
AreEarlier (f ∷ fs) (g ∷ gs) = IsEarlier f g × AreEarlier fs gs
AreEarlier [] (g ∷ gs) = ⊥
AreEarlier (f ∷ fs) [] = ⊥

-- The text is that of a written log of these tenants. It leaves the books to which fronts of their histories led. None of these is
-- before one of the first fronts, or after one of the last.
pub record LeavesFronts (starts : List TenantStart) (sum text : List ℕ) (first last : List Front) : Type 0 where
  pub left : List Front
  pub not_before : AreEarlier first left
  pub not_after : AreEarlier left last
  pub written : IsTextWritten sum text (states_of starts) (map (λ f. f.state) left)
