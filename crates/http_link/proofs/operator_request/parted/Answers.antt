use Rattle.std.proofs.Common.{◌∙◌, ◌+◌, ap, sym}
use Rattle.std.specs.Prelude.{option_map, take, drop}
use Rattle.std.proofs.lemmas.List.{take_rest}
use Rattle.http_link.proofs.operator_request.parted.Goals as goal

pub returns-in-Some-clause-value : goal.returns-in-Some-clause-value
returns-in-Some-clause-value c =
    rw (take_rest c.args.bytes.now (c.in-Some.at + 1))
    (ap (option_map (λ at. (take at c.args.bytes.now, drop (at + 1) c.args.bytes.now))) (sym (sym c.first_mark.ensures.value ∙ c.in-Some.is)))
