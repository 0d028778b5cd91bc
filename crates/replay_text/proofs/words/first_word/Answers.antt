use Rattle.std.proofs.Common.{sym, ◌∙◌, ◌+◌}
use Rattle.std.proofs.lemmas.List.{take_rest}
use Rattle.replay_text.proofs.Splits.{split_found, split_none}
use Rattle.replay_text.proofs.words.first_word.Goals as goal

pub returns-in-Some : goal.returns-in-Some
returns-in-Some c = record {
  value = rw (take_rest c.args.text.now (c.in-Some.end + 1)) (split_found _ c.args.text.now c.in-Some.end (sym c.near_place_of.ensures ∙ c.in-Some.is));
}

pub returns-in-None : goal.returns-in-None
returns-in-None c = record { value = split_none _ c.args.text.now (sym c.near_place_of.ensures ∙ c.in-None.is) }
