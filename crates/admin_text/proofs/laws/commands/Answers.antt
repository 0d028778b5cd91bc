use Rattle.common_types.specs.Words.{words_of}
use Rattle.admin_text.proofs.Readings.{Known}
use Rattle.admin_text.proofs.Verbs.{read_is_spelled, spelled_is_read, one_command}
use Rattle.admin_text.proofs.laws.commands.Goals as goal

pub returns : goal.returns
returns c =
    let known : Known = record { numbers = c.numerals.ensures; prefixes = c.prefixes.ensures; targets = c.targets.ensures } in
    record {
      spelled_is_read = λ text x. (spelled_is_read known (words_of text) x, read_is_spelled known (words_of text) x);
      one_command = λ text a b. one_command known (words_of text) a b;
    }
