use Rattle.std.proofs.Common.{◌≡◌, ◌∷◌, List, ℕ, [], Bool, false, Option, refl, subst, arith}
use Rattle.std.specs.Bool.{IsTrue}
use Rattle.httparse.specs.Ascii.{crlf_bytes}
use Rattle.http_link.specs.BodyReading.{Takes, TakesEveryByte}
use Rattle.http_link.specs.StreamCalls.{held_of, to_come}
use Rattle.http_link.proofs.Heads.{not_both}
use Rattle.http_link.proofs.Takes.{takes_all_then, takes_then}
use Rattle.http_link.proofs.Sparing.{pair_spares}
use Rattle.http_link.proofs.chunks.read_line_end.Goals as goal

pub returns-in_default-2-clause-taken : goal.returns-in_default-2-clause-taken
returns-in_default-2-clause-taken g c =
    let one : Takes (held_of c.args.stream.now) (to_come c.args.stream.now) (to_come c.next_byte.new.self) (c.in-Some.first ∷ []) (held_of c.next_byte.new.self) =
    rw c.in-Some.is at c.in_ok-first.ensures.taken in
    let none : TakesEveryByte (held_of c.next_byte.new.self) (to_come c.next_byte.new.self) (to_come c.next_byte-2.new.self) [] (held_of c.next_byte-2.new.self) =
    rw c.in_default-2.is at c.in_ok-second.ensures.taken in
    (c.in-Some.first ∷ [], omega arith, takes_all_then _ _ _ _ (c.in-Some.first ∷ []) [] _ _ one none)

-- both bytes were taken
both : (had : List ℕ) (old mid new : Option (List ℕ)) (between has : List ℕ) (first second : ℕ) → Takes had old mid (first ∷ []) between → Takes between mid new (second ∷ []) has
    → Takes had old new (first ∷ second ∷ []) has
both had old mid new between has first second one two = takes_then had old mid new (first ∷ []) (second ∷ []) between has one two

pub returns-then-is_line_end-clause-taken : goal.returns-then-is_line_end-clause-taken
returns-then-is_line_end-clause-taken g c =
    subst (λ (two : List ℕ). Takes (held_of c.args.stream.now) (to_come c.args.stream.now) (to_come c.next_byte-2.new.self) two (held_of c.next_byte-2.new.self)) (c.is_line_end.ensures.0 c.if-is_line_end.true)
    (both _ _ _ _ _ _ c.in-Some.first c.in-Some-2.second (rw c.in-Some.is at c.in_ok-first.ensures.taken) (rw c.in-Some-2.is at c.in_ok-second.ensures.taken))

-- and they are none
no_end : (first second : ℕ) (is : Bool) → is ≡ false → (first ∷ second ∷ [] ≡ crlf_bytes → IsTrue is) → first ∷ second ∷ [] ≡ crlf_bytes → ⊥
no_end first second is none ends e = not_both is (ends e) none

pub returns-clause-taken : goal.returns-clause-taken
returns-clause-taken g c = (
  c.in-Some.first ∷ c.in-Some-2.second ∷ [],
  refl,
  no_end c.in-Some.first c.in-Some-2.second c.is_line_end.result c.if-is_line_end.false c.is_line_end.ensures.1,
  both _ _ _ _ _ _ c.in-Some.first c.in-Some-2.second (rw c.in-Some.is at c.in_ok-first.ensures.taken) (rw c.in-Some-2.is at c.in_ok-second.ensures.taken),
)

pub returns-clause-at_once : goal.returns-clause-at_once
returns-clause-at_once g c =
    pair_spares c.args.stream.now.reader.now c.next_byte.new.self.reader.now c.next_byte-2.new.self.reader.now _ _ _ c.in-Some.first c.in-Some-2.second
    (rw c.in-Some.is at c.in_ok-first.ensures.at_once) (rw c.in-Some-2.is at c.in_ok-second.ensures.at_once)
    (λ takes. (
      c.in-Some.first ∷ c.in-Some-2.second ∷ [],
      refl,
      no_end c.in-Some.first c.in-Some-2.second c.is_line_end.result c.if-is_line_end.false c.is_line_end.ensures.1,
      takes,
    ))
