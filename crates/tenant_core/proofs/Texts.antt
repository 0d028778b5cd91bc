-- A text that grows at its end keeps what was said of it.
use Rattle.std.proofs.Common.{arith, ◌≡◌, ◌≤◌, ◌+◌, ℕ, List, [], ◌∷◌, ◌++◌, length, map, take, drop, All, ap, ◌∙◌, refl}
use Rattle.std.specs.List.{AllByRecursion}
use Rattle.std.proofs.lemmas.List.{take-append-le, drop-append-le, drop_at, take_all, length-drop, map-append}
use Rattle.std.proofs.lemmas.List.Elements.{recursion_from_All}
use Rattle.tenant_core.specs.Arena.{whole, whole_entry, IsWithin}
use Rattle.tenant_core.specs.declared.arena.Small.{Small}
use Rattle.tenant_core.specs.declared.arena.SmallEntry.{SmallEntry}
use Rattle.tenant_core.specs.declared.arena.SmallEntry.TheVariants.{Decide, Answer, Tick, Change, Roll}
use Rattle.tenant_core.specs.declared.journal.Entry.{Entry}
use Rattle.tenant_core.specs.declared.journal.Entry.TheVariants as entries
use Rattle.tenant_core.specs.declared.journal.Record.{Record}

-- bytes within a text stay where more follows it
bytes_more : (text more : List ℕ) (from n : ℕ) → from + n ≤ length text → take n (drop from (text ++ more)) ≡ take n (drop from text)
bytes_more text more from n h =
    ap (take n) (drop-append-le from text more (omega arith)) ∙ take-append-le n (drop from text) more (rw length-drop (omega arith))

-- what comes last is read back
pub bytes_last : (text more : List ℕ) → take (length more) (drop (length text) (text ++ more)) ≡ more
bytes_last text more = ap (take (length more)) (drop_at text more (length text) refl) ∙ take_all (length more) more (omega arith)

entry_more : (text more : List ℕ) (e : SmallEntry) → IsWithin (length text) e → whole_entry (text ++ more) e ≡ whole_entry text e
entry_more text more (Decide d) h =
    ap (λ bytes. entries.Decide (record { peer = d.peer; amount = d.amount; expiry = d.expiry; condition = d.condition; destination = bytes; now = d.now }))
    (bytes_more text more d.from d.length h.0)
entry_more text more (Answer a) h = refl
entry_more text more (Tick t) h = refl
entry_more text more (Change c) h = refl
entry_more text more (Roll r) h = refl

whole_more : (text more : List ℕ) (s : Small) → IsWithin (length text) s.entry → whole (text ++ more) s ≡ whole text s
whole_more text more s h = ap (λ (e : Entry). record { entry = e; outcome = s.outcome }) (entry_more text more s.entry h)

wholes_more : (text more : List ℕ) (smalls : List Small) → AllByRecursion (λ s. IsWithin (length text) s.entry) smalls
    → map (whole (text ++ more)) smalls ≡ map (whole text) smalls
wholes_more text more [] h = refl
wholes_more text more (s ∷ smalls) h =
    ap (λ r. r ∷ map (whole (text ++ more)) smalls) (whole_more text more s h.0)
    ∙ ap (λ rs. whole text s ∷ rs) (wholes_more text more smalls h.1)

-- a record more, whose bytes follow the text
pub wholes_push : (text more : List ℕ) (smalls : List Small) (s : Small) (r : Record) → All (λ x. IsWithin (length text) x.entry) smalls
    → whole (text ++ more) s ≡ r → map (whole (text ++ more)) (smalls ++ s ∷ []) ≡ map (whole text) smalls ++ r ∷ []
wholes_push text more smalls s r h e =
    map-append (whole (text ++ more)) smalls (s ∷ [])
    ∙ ap (λ rs. rs ++ whole (text ++ more) s ∷ []) (wholes_more text more smalls (recursion_from_All (λ x. IsWithin (length text) x.entry) smalls h))
    ∙ ap (λ q. map (whole text) smalls ++ q ∷ []) e
