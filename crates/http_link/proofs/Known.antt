-- Known bytes that are written and taken in turn.
use Rattle.std.proofs.Common.{◌≡◌, ◌≤◌, ℕ, ◌+◌, ◌-◌, List, [], ◌∷◌, ◌++◌, length, take, drop, min, suc, zero, Option, Some, None, Result, Ok, Err, OnOk, sym, ap, subst, ◌∙◌, append_assoc, append-nil, arith, length-append, length-take}
use Rattle.std.proofs.KnownBytes.{Appends-trans, Consumes-nil, Consumes-trans}
use Rattle.std.proofs.Math.Nat.{sub-zero, suc-sub-suc, zero-sub}
use Rattle.std.proofs.Math.Seq.{take-add, take-append-add}
use Rattle.std.proofs.lemmas.List.{take-append-le, take-append-drop, drop_min}
use borrow.Rule.Slice.PartMut.{put_mid, post_of}
use Rattle.std.specs.Io.KnownBytes.{Appends, Consumes}

-- first i bytes of the text were written, and then n more
pub Appends-more : (old between new : Option (List ℕ)) (text : List ℕ) (i n : ℕ) → Appends old between (take i text) → Appends between new (take n (drop i text)) → Appends old new (take (i + n) text)
Appends-more old between new text i n a b = subst (Appends old new) (sym (take-add i n text)) (Appends-trans old between new (take i text) (take n (drop i text)) a b)

-- a text was written, and then another one where that went well
pub Appends-then : {A E : Type 0} (r : Result A E) (old between new : Option (List ℕ)) (front back : List ℕ) → Appends old between front → OnOk r (Appends between new back)
    → OnOk r (Appends old new (front ++ back))
Appends-then (Ok value) old between new front back a b = Appends-trans old between new front back a b
Appends-then (Err fault) old between new front back a b = tt

-- a front of two texts, and what it leaves of each
pub front-and-rests : (first second : List ℕ) (n : ℕ) → take n (first ++ second) ++ (drop n first ++ drop (n - length first) second) ≡ first ++ second
front-and-rests first second zero = simp zero-sub
front-and-rests [] second (suc n) = simp sub-zero (take-append-drop (suc n) second)
front-and-rests (b ∷ first) second (suc n) = simp suc-sub-suc (ap (λ (w : List ℕ). b ∷ w) (front-and-rests first second n))

-- a front of two texts was written, then what it left of the first one, and then what it left of the second one where
-- that went well
pub Appends-both : {A E : Type 0} (r : Result A E) (old mid between new : Option (List ℕ)) (first second : List ℕ) (n i : ℕ) → i ≡ min n (length first)
    → Appends old mid (take n (first ++ second)) → Appends mid between (drop i first) → OnOk r (Appends between new (drop (n - i) second))
    → OnOk r (Appends old new (first ++ second))
Appends-both (Ok value) old mid between new first second n i is a b c =
    let left : n - i ≡ n - length first = omega arith in
    let rests = Appends-trans mid between new _ _ (rw (is, drop_min n first) at b) (rw left at c) in
    subst (Appends old new) (front-and-rests first second n) (Appends-trans old mid new _ _ a rests)
Appends-both (Err fault) old mid between new first second n i is a b c = tt

-- first some bytes were taken, and then more
pub Consumes-more : (old between new : Option (List ℕ)) (front taken both : List ℕ) → both ≡ front ++ taken → Consumes old between front → Consumes between new taken → Consumes old new both
Consumes-more None between new front taken both e a b = tt
Consumes-more (Some xs) None new front taken both e a b = absurd a
Consumes-more (Some xs) (Some ys) None front taken both e a b = absurd b
Consumes-more (Some xs) (Some ys) (Some zs) front taken both e a b =
    a ∙ ap (λ (w : List ℕ). front ++ w) b ∙ sym (append_assoc front taken zs) ∙ ap (λ (w : List ℕ). w ++ zs) (sym e)

-- bytes came behind those that there were, as many as were missing at most
abbrev pub CameBehind : (old new : Option (List ℕ)) → (had : List ℕ) → (wanted n : ℕ) → (buffer : List ℕ) → Type 0
CameBehind old new had wanted n buffer =
    (came : List ℕ) × (take n buffer ≡ had ++ came) × Consumes old new came × (length came ≤ wanted - length had)

pub none_came : (known : Option (List ℕ)) (buffer : List ℕ) (wanted n : ℕ) → CameBehind known known (take n buffer) wanted n buffer
none_came known buffer wanted n = ([], sym (append-nil (take n buffer)), Consumes-nil known, omega arith)

-- and more behind these
pub more_came : (old between new : Option (List ℕ)) (had before after more : List ℕ) (wanted n k : ℕ) → CameBehind old between had wanted n before
    → take (n + k) after ≡ take n before ++ more → Consumes between new more → n + k ≤ wanted → n + k ≤ length after → CameBehind old new had wanted (n + k) after
more_came old between new had before after more wanted n k sofar put took le within =
    let came = sofar.0 in
    let grew : take (n + k) after ≡ had ++ (came ++ more) = put ∙ ap (λ (w : List ℕ). w ++ more) sofar.1 ∙ append_assoc had came more in
    let long = ap length grew in
    (came ++ more, grew, Consumes-trans old between new came more sofar.2 took, omega (arith, length-take (n + k) after, length-append had (came ++ more)))

-- bytes came behind those that there were, and more behind these
pub came_more : (old between new : Option (List ℕ)) (had before after : List ℕ) (n m k : ℕ) → m ≡ n
    → (came : List ℕ) × (take n before ≡ had ++ came) × Consumes old between came
    → (more : List ℕ) × (take (m + k) after ≡ take m before ++ more) × Consumes between new more
    → (came : List ℕ) × (take (n + k) after ≡ had ++ came) × Consumes old new came
came_more old between new had before after n m k same one other =
    let grew : take (m + k) after ≡ had ++ (one.0 ++ other.0) =
    other.1 ∙ ap (λ (w : List ℕ). w ++ other.0) (ap (λ j. take j before) same ∙ one.1) ∙ append_assoc had one.0 other.0 in
    (one.0 ++ other.0, subst (λ j. take (j + k) after ≡ had ++ (one.0 ++ other.0)) same grew, Consumes-trans old between new one.0 other.0 one.2 other.2)

-- a front of what was put into the middle
pub take-into : (at k n : ℕ) (before part : List ℕ) → at ≤ length before → n ≤ length part → take (at + n) (put_mid at k before part) ≡ take at before ++ take n part
take-into at k n before part le short =
    let front = take at before in
    let long : length front ≡ at = length-take at before ∙ omega arith in
    ap (λ m. take (m + n) (front ++ (part ++ post_of at k before))) (sym long)
    ∙ take-append-add front (part ++ post_of at k before) n
    ∙ ap (λ (w : List ℕ). front ++ w) (take-append-le n part (post_of at k before) short)
