use Rattle.std.proofs.Common.{refl}
use Rattle.std.specs.Int.{w64, to_be_bytes}
use Rattle.ilp_view.proofs.Cuts.{forward_of, forward_is}
use Rattle.ilp_view.proofs.laws.forwards_change_two_fields.Goals as goal

pub returns-clause-bytes : goal.returns-clause-bytes
returns-clause-bytes c = λ frame p amount expiry is eight seventeen. forward_of frame p is amount expiry eight seventeen

pub returns-clause-values : goal.returns-clause-values
returns-clause-values c = λ frame p amount expiry is small date. forward_of frame p is (to_be_bytes w64 amount) expiry refl date.len

pub returns-clause-prepares : goal.returns-clause-prepares
returns-clause-prepares c = λ frame p amount expiry is small date. forward_is frame p amount expiry is small date
