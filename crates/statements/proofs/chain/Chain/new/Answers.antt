use Rattle.std.proofs.Common.{[], refl, rules}
use Rattle.std.proofs.lemmas.List.Elements.{All-nil}
use Rattle.tenant_core.specs.Closing.{IsPeriod}
use Rattle.statements.proofs.chain.Chain.new.Goals as goal

pub returns : goal.returns
returns c = record {
  done = [];
  texts = [];
  periods = [];
  took = refl;
  runs = tt;
  last = record { stated = tt; closed = All-nil IsPeriod; joined = tt };
  due = refl;
  past_periods = refl;
  past_records = refl;
  past_lines = search rules;
  totals = search rules;
}
