use Rattle.std.proofs.Common.{◌≡◌, ◌++◌, take, Bor, List, ℕ}
use Rattle.std.specs.List.{flat_map}
use Rattle.admin_text.proofs.noted.put.Given as goal

abbrev pub invariant-loop-part : goal.invariant-loop-part
invariant-loop-part l =
    l.text.items ≡ l.fn.text.items ++ flat_map (λ (part : Bor (List ℕ)). part.now) (take l.part-index l.parts)
