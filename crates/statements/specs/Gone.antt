-- Periods that were checked again.
use Rattle.std.specs.Prelude.{◌≡◌, None}
use Rattle.statements.specs.Fees.{fees_of}
use Rattle.statements.specs.declared.checked.Course.{Course}
use Rattle.statements.specs.declared.checked.Gone.{Gone}
use Rattle.statements.specs.Statement.{IsStatement}
use Rattle.statements.specs.declared.good.GoodStatement.{GoodStatement}
use Rattle.tenant_core.specs.Closing.{state_before_roll}
use Rattle.tenant_core.specs.Holds.{holds_of}
use Rattle.tenant_core.specs.Reopening.{opening_fault}

-- the fees are those of the packets so far
abbrev pub IsCharged : Course → Type 0
IsCharged c = c.fees.items ≡ fees_of c.book

-- the packets are those of the period that went on, each with the fee that was kept of it
pub record IsGone (g : Gone) : Type 0 where
  pub holds : g.holds.items ≡ holds_of (state_before_roll g.period)
  pub fees : g.fees.items ≡ fees_of (state_before_roll g.period)

-- the text states the period word for word, which begins within all limits, and the packets are those that went on
pub record IsGood (g : GoodStatement) : Type 0 where
  pub stated : IsStatement g.text.now g.gone.period
  pub begins : opening_fault g.gone.period.opening ≡ None
  pub charged : IsGone g.gone
