use Rattle.std.proofs.Common.{arith, ap, sym, ◌∙◌, List, ℕ}
use Rattle.std.proofs.lemmas.List.{take_rest}
use Rattle.admin_text.specs.Secrets.{begins_with_word}
use Rattle.admin_text.proofs.SecretWords.{word_here, word_not_here, word_nowhere}
use Rattle.admin_text.proofs.secrets.has_word.Goals as goal

pub returns-then-begins_with : goal.returns-then-begins_with
returns-then-begins_with c =
    word_here c.args.text.now c.args.word.now c.args.text.now c.loop-at.at (omega arith)
    (ap (λ (t : List ℕ). begins_with_word t c.args.word.now) (sym (take_rest c.args.text.now c.loop-at.at)) ∙ sym c.begins_with.ensures ∙ c.if-begins_with.true) c.loop-at.invariant

pub loop-at-preserved : goal.loop-at-preserved
loop-at-preserved c =
    word_not_here c.args.text.now c.args.word.now c.args.text.now c.loop-at.at (omega arith)
    (ap (λ (t : List ℕ). begins_with_word t c.args.word.now) (sym (take_rest c.args.text.now c.loop-at.at)) ∙ sym c.begins_with.ensures ∙ c.if-begins_with.false) c.loop-at.invariant

pub returns : goal.returns
returns c = word_nowhere c.args.text.now c.args.word.now c.args.text.now c.loop-at.at (omega arith) c.loop-at.invariant
