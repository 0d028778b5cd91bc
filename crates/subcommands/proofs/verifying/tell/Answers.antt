use Rattle.std.proofs.Common.{◌≡◌, ◌∙◌}
use Rattle.std.proofs.lemmas.Result.{on_ok_weaker}
use Rattle.std.specs.Io.KnownBytes.{Appends}
use Rattle.subcommands.proofs.verifying.tell.Goals as goal

pub returns-in-Ok : goal.returns-in-Ok
returns-in-Ok g c =
    on_ok_weaker c.write.result
    (λ (wrote : Appends (g.W.Write.contents c.args.writer.now) (g.W.Write.contents c.write.new.writer) c.as_slice.result.now).
    (c.as_slice.result.now, (λ links is. c.as_slice.ensures.value ∙ c.in-Ok.ensures links is), wrote))
    c.write.ensures
