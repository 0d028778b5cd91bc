-- What calls on a stream that was new report of its reader.
use Rattle.std.proofs.Common.{◌≡◌, ◌↔◌, ℕ, ◌<◌, ◌≤◌, List, [], take, Option, subst, arith}
use Rattle.httparse.specs.declared.spans.HeaderSpan.{HeaderSpan}
use Rattle.http_link.specs.Grammars.{Grammar}
use Rattle.http_link.specs.Reading.{HeadIsFound}
use Rattle.http_link.specs.declared.grammar.Offered.{Offered}

-- a head was found where nothing was held
pub found_fresh : {S : Type 0} (grammar : Grammar S) (room : List ℕ) (to : ℕ) (old first new last : Option (List ℕ)) (has : List ℕ) (lines : List HeaderSpan) (offered : Offered S)
    → to ≡ 0 → old ≡ first → new ≡ last → HeadIsFound grammar (take to room) old new has lines offered → HeadIsFound grammar [] first last has lines offered
found_fresh grammar room to old first new last has lines offered none begins ends found =
    subst (λ (o : Option (List ℕ)). HeadIsFound grammar [] first o has lines offered) ends
    (subst (λ (o : Option (List ℕ)). HeadIsFound grammar [] o new has lines offered) begins
    (subst (λ (n : ℕ). HeadIsFound grammar (take n room) old new has lines offered) none found))

-- a fault is reported exactly if the reader has failed, of which the count that is kept says no less
pub failed_since : {Reported : Type 0} (before kept last now : ℕ) → kept ≡ before → Reported ↔ (kept < last) → now ≤ last → (kept < last → last ≡ now) → Reported ↔ (before < now)
failed_since before kept last now same reported most exact =
    (λ fault. let rises = reported.0 fault in let is = exact rises in omega arith, λ rises. reported.1 (omega arith))
