use Rattle.std.proofs.Common.{rules, ◌≡◌}
use Rattle.std.specs.Fmt.{decimal}
use Rattle.admin_text.proofs.Spaces.{number_spaceless}
use Rattle.admin_text.proofs.words.put_number.Goals as goal

pub put_word-requires : goal.put_word-requires
put_word-requires c =
    let e : c.as_bytes.result.now ≡ decimal c.args.number = search rules in
    rw e (number_spaceless c.numerals.ensures c.args.number (search rules))
