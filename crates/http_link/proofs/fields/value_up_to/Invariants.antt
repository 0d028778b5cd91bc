use Rattle.std.proofs.Common.{◌≡◌, min, take}
use Rattle.common_types.specs.Numerals.{value_of}
use Rattle.http_link.proofs.fields.value_up_to.Given as goal

abbrev pub invariant-loop-digit : goal.invariant-loop-digit
invariant-loop-digit l = l.value ≡ min (value_of (take l.digit-index l.digits)) l.bound
