use Rattle.std.proofs.Common.{rules, ◌≡◌, ◌⊎◌, ◌∷◌, List, ℕ, [], true, false, take, ◌∙◌, subst, arith, ◌+◌, length, slice_set}
use Rattle.http_link.specs.BodyReading.{Takes, TakesEveryByte, ends_sought, no_more}
use Rattle.http_link.specs.StreamCalls.{held_of, to_come}
use Rattle.http_link.proofs.Takes.{ends_now, takes_byte, text_cut, unended_yet}
use Rattle.http_link.proofs.Sparing.{text_spares}
use Rattle.http_link.proofs.intake.read_text.Goals as goal

pub returns-in_default-clause-taken : goal.returns-in_default-clause-taken
returns-in_default-clause-taken g c =
    let all : TakesEveryByte (held_of c.loop-n.stream) (to_come c.loop-n.stream) (to_come c.next_byte.new.self) [] (held_of c.next_byte.new.self) =
    rw c.in_default.is at c.in_ok-b.ensures.taken in
    text_cut (ends_sought c.args.sought) _ _ _ _ c.loop-n.text c.loop-n.n _ _ (omega arith) c.loop-n.invariant.unended c.loop-n.invariant.takes all

pub returns-then-is_ended-clause-taken : goal.returns-then-is_ended-clause-taken
returns-then-is_ended-clause-taken g c =
    let byte : Takes (held_of c.loop-n.stream) (to_come c.loop-n.stream) (to_come c.next_byte.new.self) (c.in-Some.b ∷ []) (held_of c.next_byte.new.self) =
    rw c.in-Some.is at c.in_ok-b.ensures.taken in
    let now : ends_sought c.args.sought (take (c.loop-n.n + 1) (slice_set c.loop-n.text c.loop-n.n c.in-Some.b)) ≡ true = search rules in (
      search rules,
      ends_now (ends_sought c.args.sought) c.loop-n.text c.loop-n.n c.in-Some.b (omega arith) c.loop-n.invariant.unended now,
      takes_byte _ _ _ _ c.loop-n.text c.loop-n.n c.in-Some.b _ _ (omega arith) c.loop-n.invariant.takes byte,
    )

pub loop-n-preserved : goal.loop-n-preserved
loop-n-preserved g c =
    let byte : Takes (held_of c.loop-n.stream) (to_come c.loop-n.stream) (to_come c.next_byte.new.self) (c.in-Some.b ∷ []) (held_of c.next_byte.new.self) =
    rw c.in-Some.is at c.in_ok-b.ensures.taken in
    let alone : ((c.next_byte.new.self.reader.now ≡ c.loop-n.stream.reader.now) × Takes (held_of c.loop-n.stream) no_more no_more (c.in-Some.b ∷ []) (held_of c.next_byte.new.self)) ⊎ (held_of c.loop-n.stream ≡ []) =
    rw c.in-Some.is at c.in_ok-b.ensures.at_once in
    let kept = c.in_ok-b.ensures.kept.1 in
    let now : ends_sought c.args.sought (take (c.loop-n.n + 1) (slice_set c.loop-n.text c.loop-n.n c.in-Some.b)) ≡ false = search rules in record {
      within = search rules;
      size = search rules;
      takes = takes_byte _ _ _ _ c.loop-n.text c.loop-n.n c.in-Some.b _ _ (omega arith) c.loop-n.invariant.takes byte;
      unended = unended_yet (ends_sought c.args.sought) c.loop-n.text c.loop-n.n c.in-Some.b c.loop-n.invariant.unended now;
      kept = subst (λ m. take m c.next_byte.new.self.room.now ≡ take m c.loop-n.stream.room.now) c.loop-n.invariant.done kept ∙ c.loop-n.invariant.kept;
      done = search rules;
      exact = λ no none. c.in_ok-b.ensures.exact (search rules) (c.loop-n.invariant.exact no none);
      at_once = text_spares c.args.stream.now.reader.now c.loop-n.stream.reader.now c.next_byte.new.self.reader.now (ends_sought c.args.sought) (held_of c.args.stream.now) c.loop-n.text (held_of c.loop-n.stream) c.loop-n.n (length c.args.text.now) (omega arith) (omega arith) c.loop-n.invariant.unended c.loop-n.invariant.at_once alone
          (takes_byte _ no_more no_more no_more c.loop-n.text c.loop-n.n c.in-Some.b _ _ (omega arith));
      failures = search rules;
      continues = search rules;
    }

pub returns-in_default-clause-at_once : goal.returns-in_default-clause-at_once
returns-in_default-clause-at_once g c =
    let had : List ℕ = held_of c.args.stream.now in
    let held : List ℕ = held_of c.loop-n.stream in
    let has : List ℕ = held_of c.next_byte.new.self in
    let alone : ((c.next_byte.new.self.reader.now ≡ c.loop-n.stream.reader.now) × TakesEveryByte held no_more no_more [] has) ⊎ (held ≡ []) = rw c.in_default.is at c.in_ok-b.ensures.at_once in
    text_spares c.args.stream.now.reader.now c.loop-n.stream.reader.now c.next_byte.new.self.reader.now (ends_sought c.args.sought) had c.loop-n.text held c.loop-n.n (length c.args.text.now) (omega arith) (omega arith) c.loop-n.invariant.unended c.loop-n.invariant.at_once alone
    (text_cut (ends_sought c.args.sought) had no_more no_more no_more c.loop-n.text c.loop-n.n held has (omega arith) c.loop-n.invariant.unended)

pub returns-then-is_ended-clause-at_once : goal.returns-then-is_ended-clause-at_once
returns-then-is_ended-clause-at_once g c =
    let had : List ℕ = held_of c.args.stream.now in
    let held : List ℕ = held_of c.loop-n.stream in
    let has : List ℕ = held_of c.next_byte.new.self in
    let alone : ((c.next_byte.new.self.reader.now ≡ c.loop-n.stream.reader.now) × Takes held no_more no_more (c.in-Some.b ∷ []) has) ⊎ (held ≡ []) = rw c.in-Some.is at c.in_ok-b.ensures.at_once in
    let now : ends_sought c.args.sought (take (c.loop-n.n + 1) (slice_set c.loop-n.text c.loop-n.n c.in-Some.b)) ≡ true = search rules in
    text_spares c.args.stream.now.reader.now c.loop-n.stream.reader.now c.next_byte.new.self.reader.now (ends_sought c.args.sought) had c.loop-n.text held c.loop-n.n (length c.args.text.now) (omega arith) (omega arith) c.loop-n.invariant.unended c.loop-n.invariant.at_once alone
    (λ one two. (
      search rules,
      ends_now (ends_sought c.args.sought) c.loop-n.text c.loop-n.n c.in-Some.b (omega arith) c.loop-n.invariant.unended now,
      takes_byte had no_more no_more no_more c.loop-n.text c.loop-n.n c.in-Some.b held has (omega arith) one two,
    ))

pub returns-in_err-b-clause-at_once : goal.returns-in_err-b-clause-at_once
returns-in_err-b-clause-at_once g c =
    text_spares c.args.stream.now.reader.now c.loop-n.stream.reader.now c.next_byte.new.self.reader.now (ends_sought c.args.sought) (held_of c.args.stream.now) c.loop-n.text (held_of c.loop-n.stream) c.loop-n.n (length c.args.text.now) (omega arith) (omega arith) c.loop-n.invariant.unended c.loop-n.invariant.at_once
    c.next_byte.ensures.at_once (λ one none. search rules)
