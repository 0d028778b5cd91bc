use Rattle.std.proofs.Common.{◌≡◌, ◌++◌, ◌-◌, length, take, drop, sym, ◌∙◌, ap, take-append-drop, rules}
use Rattle.std.specs.Cmp.Lexicographic.{bytes_decides}
use Rattle.log_folder.specs.Folder.{base_ending}
use Rattle.log_folder.proofs.names.base_number.Goals as goal

pub returns-in-Some-clause-only : goal.returns-in-Some-clause-only
returns-in-Some-clause-only c =
    let name = c.args.name.now in
    let ending = c.as_slice.result.now in
    let k = length name - length ending in
    let is : ending ≡ base_ending = c.as_slice.ensures in
    let ends : drop k name ≡ ending = (bytes_decides (drop k name) ending).0 c.in-Some.ensures.cases.0 in
    let whole : name ≡ c.in-Some.word.now ++ base_ending =
    sym (take-append-drop k name) ∙ ap (λ l. take k name ++ l) (ends ∙ is) ∙ ap (λ l. l ++ base_ending) (sym c.in-Some.ensures.cases.1) in
    search (rules, whole, c.number_in.ensures.only)
