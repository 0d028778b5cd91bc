use Rattle.std.proofs.Common.{List, ℕ, ap, ◌∙◌}
use Rattle.ilp_addr.specs.Address.{segments, prefix_segments, begins_with}
use Rattle.ilp_addr.proofs.Boundary.{begins_decided}
use Rattle.ilp_addr.proofs.address.Address.begins_with.Goals as goal

pub returns-clause-begins : goal.returns-clause-begins
returns-clause-begins c =
    begins_decided c.segments_begin.result (prefix_segments c.args.prefix.now) (segments c.args.self.now)
    (c.segments_begin.ensures
    ∙ ap (λ (p : List ℕ). begins_with (prefix_segments p) (segments c.self.inside.bytes.now)) c.bytes.ensures.value
    ∙ ap (λ (d : List ℕ). begins_with (prefix_segments c.args.prefix.now) (segments d)) c.self.view_is)
