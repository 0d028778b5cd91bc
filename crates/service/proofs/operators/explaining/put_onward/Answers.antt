use Rattle.std.proofs.Common.{◌≡◌, ◌++◌, ◌∙◌, List, ℕ, ap, append_assoc}
use Rattle.std.specs.Prelude.{codes}
use Rattle.std.proofs.lemmas.Result.{on_ok_weaker}
use Rattle.service.specs.Explaining.{onward_lines}
use Rattle.service.proofs.operators.explaining.put_onward.Goals as goal

joined : (a b c d after one two : List ℕ) → one ≡ a ++ b → two ≡ one ++ c → after ≡ two ++ d → after ≡ a ++ (b ++ (c ++ d))
joined a b c d after one two first second third =
    third ∙ (ap (λ (t : List ℕ). t ++ d) (second ∙ ap (λ (t : List ℕ). t ++ c) first)
    ∙ (append_assoc (a ++ b) c d ∙ append_assoc a b (c ++ d)))

pub returns : goal.returns
unfolding onward_lines
returns c =
    on_ok_weaker c.put_figure-2.result
    (joined c.args.text.now.items (codes "now: it goes on\n") _ _ _ _ _ c.in_ok-extend_from_slice.ensures.items c.in_ok-put_figure.ensures)
    c.put_figure-2.ensures
