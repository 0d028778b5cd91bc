use Rattle.std.proofs.Common.{◌≡◌, List, ℕ, length, sym, ap, ◌∙◌}
use Rattle.std.proofs.lemmas.Bool.{eqb-true}
use Rattle.ilp_addr.specs.Address.{segments, begins_with}
use Rattle.ilp_addr.proofs.Boundary.{prefix_segments_none, begins_all}
use Rattle.ilp_addr.proofs.segments.segments_begin.Goals as goal

pub returns-then-is_empty : goal.returns-then-is_empty
returns-then-is_empty c =
    let empty : length c.args.prefix.now ≡ 0 = eqb-true _ _ (sym c.is_empty.ensures ∙ c.if-is_empty.true) in
    c.if-is_empty.true ∙ sym (ap (λ (p : List (List ℕ)). begins_with p (segments c.args.bytes.now)) (prefix_segments_none c.args.prefix.now empty) ∙ begins_all (segments c.args.bytes.now))
