use Rattle.std.proofs.Common.{◌≡◌, drop}
use Rattle.admin_text.specs.Secrets.{has_word}
use Rattle.admin_text.proofs.secrets.has_word.Given as goal

abbrev pub invariant-loop-at : goal.invariant-loop-at
invariant-loop-at l = has_word (drop l.at l.text) l.word ≡ has_word l.fn.text l.word
