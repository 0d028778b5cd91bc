use Rattle.std.proofs.Common.{◌≡◌, ◌∙◌, ℕ, List, Some, rules, slice_get, subst}
use Rattle.std.specs.Prelude.{string_bytes}
use Rattle.std.proofs.lemmas.Option.{slice_get_read}
use Rattle.service.specs.Filing.{path_in, statement_file}
use Rattle.service.proofs.operators.answering.ConsultedOperated.statement.Goals as goal

pub returns-in-Ok : goal.returns-in-Ok
returns-in-Ok g c =
    let office = c.args.self.now.office.now in
    let named : slice_get office.names.items c.args.tenant ≡ Some c.index.result.now = search (rules, slice_get_read) in
    let kept : office.filing ≡ Some c.in-Some.filing = search rules in
    let folder : c.new-folder.result.path.now ≡ string_bytes c.in-Some.filing.folder = c.new-folder.ensures.path ∙ c.as_str.ensures.value in
    record {
      filing = c.in-Some.filing;
      kept = kept;
      name = c.index.result.now;
      named = named;
      read = subst (λ (path : List ℕ). g.H.Disk.reads c.args.self.now.handle.now (path_in path (statement_file c.index.result.now c.args.period)) c.in-Ok.text.items) folder
          (subst (λ (disk : _). g.H.Disk.reads disk (path_in c.new-folder.result.path.now (statement_file c.index.result.now c.args.period)) c.in-Ok.text.items)
          c.new-folder.ensures.disk c.in-Ok.ensures);
    }
