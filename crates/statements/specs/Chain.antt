-- Chains of closed periods, each of which opens with what the one before it ended with. If the service began again,
-- the next one opens as the first period of a setup does, which has what the one before it ended with.
use Rattle.std.specs.Prelude.{ℕ, ◌≡◌, List, [], ◌∷◌, ◌++◌, All, fold, map, length, sum_by}
use Rattle.std.specs.List.{AllZip, flat_map}
use Rattle.statements.specs.Known.{IsSameSetup, IsStatedAs}
use Rattle.statements.specs.Line.{line_anew, lines_after}
use Rattle.statements.specs.Due.{Start, due_after, due_by, opening_due, peers_of}
use Rattle.statements.specs.Statement.{IsStatement}
use Rattle.statements.specs.Totals.{AreTotals}
use Rattle.statements.specs.declared.chain.Chain.{Chain}
use Rattle.statements.specs.declared.due.Due.{Due}
use Rattle.statements.specs.declared.due.Due.TheVariants.{Anything, Ending, Setup}
use Rattle.tenant_core.specs.Closing.{IsPeriod}
use Rattle.tenant_core.specs.PresentSetup.{present_setup}
use Rattle.tenant_core.specs.State.{opened}
use Rattle.tenant_core.specs.declared.period.PeriodParts.{PeriodParts}
use Rattle.statements.specs.declared.line.Line.{Line}

-- what a chain takes: the text of a statement, or a setup that the service began with
pub data Link : Type 0 where
  Stated : (text : List ℕ) → Link
  Begun : (start : Start) → Link

-- ---- one period after another

-- the period opens with what is due
abbrev pub Opens : Due → PeriodParts → Type 0
Opens Anything p = Unit {0}
Opens (Ending before) p = p.opening ≡ before
Opens (Setup first) p = IsStatedAs p.opening first

-- the first of the periods opens with what is due, and each other one with what the one before it ended with
abbrev pub AreChained : Due → List PeriodParts → Type 0
AreChained due [] = Unit {0}
AreChained due (p ∷ ps) = Opens due p × AreChained (Ending p.ending) ps

-- there are closed periods, one for each text, which states it word for word; a roll closes each of them. The first
-- opens with what is due, and each other one with what the one before it ended with
pub record IsRun (due : Due) (texts : List (List ℕ)) (ps : List PeriodParts) : Type 0 where
  pub stated : AllZip IsStatement texts ps
  pub closed : All IsPeriod ps
  pub joined : AreChained due ps

-- ---- one run of the service after another

-- the setup has what is due of the tenant, as a running service would write it
abbrev pub Continues : Due → Start → Type 0
Continues Anything s = Unit {0}
Continues (Ending o) s = IsSameSetup (present_setup (opened o) s.setup.admin) s.setup
Continues (Setup o) s = IsSameSetup (present_setup (opened o) s.setup.admin) s.setup

-- the statements of a run of the service, their periods, and the setup that it began with again
pub record Done : Type 0 where
  pub texts : List (List ℕ)
  pub periods : List PeriodParts
  pub next : Start

-- each run opens with what is due, and the setup after it has what it ended with
abbrev pub AreDone : Due → List Done → Type 0
AreDone due [] = Unit {0}
AreDone due (d ∷ ds) =
    IsRun due d.texts d.periods × Continues (due_after due d.periods) d.next × AreDone (due_by d.next) ds

-- what is due after these runs
abbrev pub due_behind : Due → List Done → Due
due_behind due ds = fold (λ before d. due_by d.next) due ds

-- what a chain took for a run
abbrev pub links_of : Done → List Link
links_of d = map Stated d.texts ++ Begun d.next ∷ []

-- how many records periods have
abbrev pub records_of : List PeriodParts → ℕ
records_of ps = sum_by (λ p. length p.records) ps

-- how many periods runs have, and how many records
abbrev pub periods_in : List Done → ℕ
periods_in ds = sum_by (λ d. length d.periods) ds

abbrev pub records_in : List Done → ℕ
records_in ds = sum_by (λ d. records_of d.periods) ds

-- the lines after a run, with the numbers that peers have by the setup after it
abbrev pub lines_done : List Line → Due → Done → List Line
lines_done ls due d =
    map (line_anew (peers_of (opening_due (due_after due d.periods))) d.next.setup.network.peers) (lines_after ls due d.periods)

-- the lines after runs, with the numbers that peers have from the last setup on; the same lines if there is no run
abbrev pub lines_behind : List Line → Due → List Done → List Line
lines_behind ls due [] = ls
lines_behind ls due (d ∷ ds) = lines_behind (lines_done ls due d) (due_by d.next) ds

-- The chain took these: statements of runs of the service, each run but the last with the setup that came after it.
-- The chain has what is due, and the sums of all.
pub record IsChain (links : List Link) (c : Chain) : Type 0 where
  pub done : List Done
  pub texts : List (List ℕ)
  pub periods : List PeriodParts
  pub took : links ≡ flat_map links_of done ++ map Stated texts
  pub runs : AreDone Anything done
  pub last : IsRun (due_behind Anything done) texts periods
  pub due : c.due ≡ due_after (due_behind Anything done) periods
  pub past_periods : c.past.periods ≡ periods_in done
  pub past_records : c.past.entries ≡ records_in done
  pub past_lines : c.past.lines.items ≡ lines_behind [] Anything done
  pub totals : AreTotals periods c.totals

-- a text states a closed period, which does not open with what is due
pub record IsApart (text : List ℕ) (due : Due) : Type 0 where
  pub period : PeriodParts
  pub stated : IsStatement text period
  pub closed : IsPeriod period
  pub apart : ¬ (Opens due period)
