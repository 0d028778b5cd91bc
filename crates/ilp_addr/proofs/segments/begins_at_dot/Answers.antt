use Rattle.std.proofs.Common.{◌≡◌, ◌<◌, ◌++◌, length, sym, ◌∙◌, arith, None, Some}
use Rattle.std.proofs.lemmas.Bool.{eqb-true, eqb-false}
use Rattle.std.proofs.lemmas.Bool.Decides.{Decides-eqb}
use Rattle.std.proofs.lemmas.Slice.Eq.{strip_prefix_is}
use Rattle.ilp_addr.proofs.Boundary.{not_in_front, in_front, at_end, at_dot}
use Rattle.ilp_addr.proofs.segments.begins_at_dot.Goals as goal

pub returns-in_default : goal.returns-in_default
returns-in_default c = sym (not_in_front c.args.prefix.now c.args.bytes.now (strip_prefix_is Decides-eqb c.args.bytes.now c.args.prefix.now None c.in_default.ensures.cases))

pub returns-then-is_empty : goal.returns-then-is_empty
returns-then-is_empty c =
    let front : c.args.bytes.now ≡ c.args.prefix.now ++ c.in-Some.rest.now = strip_prefix_is Decides-eqb c.args.bytes.now c.args.prefix.now (Some c.in-Some.rest) c.in-Some.ensures.cases in
    let empty : length c.in-Some.rest.now ≡ 0 = eqb-true _ _ (sym c.is_empty.ensures ∙ c.if-is_empty.true) in
    c.if-is_empty.true ∙ sym (in_front c.args.prefix.now c.args.bytes.now c.in-Some.rest.now front ∙ at_end c.in-Some.rest.now empty)

pub returns-else-is_empty : goal.returns-else-is_empty
returns-else-is_empty c =
    let front : c.args.bytes.now ≡ c.args.prefix.now ++ c.in-Some.rest.now = strip_prefix_is Decides-eqb c.args.bytes.now c.args.prefix.now (Some c.in-Some.rest) c.in-Some.ensures.cases in
    let some = eqb-false _ _ (sym c.is_empty.ensures ∙ c.if-is_empty.false) in
    let long : 0 < length c.in-Some.rest.now = omega arith in
    sym (in_front c.args.prefix.now c.args.bytes.now c.in-Some.rest.now front ∙ at_dot c.in-Some.rest.now long)
