use Rattle.std.proofs.Common.{sym, subst, ◌∙◌}
use Rattle.std.specs.Str.{IsUtf8}
use Rattle.std.specs.Fmt.{decimal}
use Rattle.std.proofs.lemmas.Fmt.{IsAscii-decimal, parse-decimal}
use Rattle.std.proofs.lemmas.Str.{IsUtf8-from_ascii}
use Rattle.log_folder.proofs.names.parsed.Goals as goal

pub returns-in-Ok : goal.returns-in-Ok
returns-in-Ok c number is =
    let parses = parse-decimal 64 number c.in-Ok.text.now c.parse.result is.0 is.0 (c.in-Ok.ensures.cases.0 ∙ is.1) c.parse.ensures.value.0 in
    search (parses, c.ok.ensures.value)

pub returns-in-Err : goal.returns-in-Err
returns-in-Err c number is =
    absurd (c.in-Err.ensures.cases.0 (subst IsUtf8 (sym is.1) (IsUtf8-from_ascii (decimal number) (IsAscii-decimal number is.0))))
