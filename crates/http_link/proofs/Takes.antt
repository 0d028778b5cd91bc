-- Bytes that are taken of those that are there and of those that come.
use Rattle.std.proofs.Common.{◌≡◌, ◌⊎◌, inl, inr, Bool, true, false, slice_set, ℕ, ◌+◌, ◌<◌, ◌≤◌, slice_index_or, List, [], ◌∷◌, ◌++◌, length, take, drop, sym, ap, subst, ◌∙◌, arith, append_assoc, append-nil, length-append, length-take, length-drop, take-take, Option, Some, None}
use Rattle.std.proofs.KnownBytes.{Consumes-nil, Consumes-trans}
use Rattle.std.specs.Io.KnownBytes.{Consumes}
use Rattle.http_link.specs.declared.held.Held.{Held}
use Rattle.std.proofs.lemmas.Grind.{common_steps}
use Rattle.std.proofs.lemmas.List.{take-append-le}
use Rattle.std.proofs.Math.Seq.{drop-append_seam}
use Rattle.http_link.specs.Streams.{PullsNext, ReadsBehind}
use Rattle.http_link.specs.Bodies.{BeginsNothing, EndsFirst}
use Rattle.http_link.specs.BodyReading.{Takes, TakesEveryByte, TakesNext}
use Rattle.http_link.specs.Running.{held_in}
use Rattle.http_link.proofs.Heads.{lt_or_ge, nothing_left}

-- nothing was taken
pub takes_none : (had : List ℕ) (known : Option (List ℕ)) → Takes had known known [] had
takes_none had known = record { came = []; parts = append-nil had; consumed = Consumes-nil known }

-- these were taken, and then those
pub takes_then : (had : List ℕ) (old mid new : Option (List ℕ)) (one two between has : List ℕ) → Takes had old mid one between → Takes between mid new two has
    → Takes had old new (one ++ two) has
takes_then had old mid new one two between has a b = record {
  came = a.came ++ b.came;
  parts = sym (append_assoc had a.came b.came) ∙ ap (λ (w : List ℕ). w ++ b.came) a.parts ∙ append_assoc one between b.came
      ∙ ap (λ (w : List ℕ). one ++ w) b.parts ∙ sym (append_assoc one two has);
  consumed = Consumes-trans old mid new a.came b.came a.consumed b.consumed;
}

pub takes_all_then : (had : List ℕ) (old mid new : Option (List ℕ)) (one two between has : List ℕ) → Takes had old mid one between → TakesEveryByte between mid new two has
    → TakesEveryByte had old new (one ++ two) has
takes_all_then had old mid new one two between has a b = record {
  takes = takes_then had old mid new one two between has a b.takes;
  none = b.none;
  ended = b.ended;
}

-- nothing is held where the places are in no order
pub none_held : (room : List ℕ) (h : Held) → h.to ≤ h.from → held_in room h ≡ []
none_held room h le = nothing_left (held_in room h) (omega (arith, length-drop h.from (take h.to room), length-take h.to room))

-- what a read puts behind a front leaves the front
pub front_kept : (old new : Option (List ℕ)) (at limit : ℕ) (before after : List ℕ) (n : ℕ) → ReadsBehind old new at limit before after (Some n) → at ≤ length before
    → take at after ≡ take at before
front_kept old new at limit before after n read within =
    sym (take-take at (at + n) after (omega arith)) ∙ ap (take at) read.2.1 ∙ take-append-le at (take at before) read.2.0 (omega (arith, length-take at before))
    ∙ take-take at at before (omega arith)

-- what a read brought, of what there was before reads that brought nothing
pub reads_then : (old mid new : Option (List ℕ)) (at limit : ℕ) (before room after : List ℕ) (n : ℕ) → Consumes old mid [] → take at room ≡ take at before
    → ReadsBehind mid new at limit room after (Some n) → ReadsBehind old new at limit before after (Some n)
reads_then old mid new at limit before room after n none same read =
    (read.0, read.1, (read.2.0, read.2.1 ∙ ap (λ (w : List ℕ). w ++ read.2.0) same, Consumes-trans old mid new [] read.2.0 none read.2.2))

-- where nothing was held and nothing came, all is over
pub over_now : (old new : Option (List ℕ)) (at limit : ℕ) (before after : List ℕ) (h : Held) (n : ℕ) → h.to ≤ h.from → n ≡ 0
    → ReadsBehind old new at limit before after (Some n) → at ≤ length before → TakesEveryByte (held_in before h) old new [] (held_in after h)
over_now old new at limit before after h n none zero read within =
    let taken : read.2.0 ≡ [] = nothing_left read.2.0 (omega (arith, ap length read.2.1, length-append (take at before) read.2.0, length-take at before, length-take (at + n) after)) in
    let gone : held_in after h ≡ [] = none_held after h none in
    record {
      takes = record {
        came = [];
        parts = append-nil (held_in before h) ∙ none_held before h none ∙ sym gone;
        consumed = subst (λ (w : List ℕ). Consumes old new w) taken read.2.2;
      };
      none = gone;
      ended = read.1 zero;
    }

-- the first of what is held
pub first_held : (room : List ℕ) (from to : ℕ) → from < to → to ≤ length room → drop from (take to room) ≡ slice_index_or room from 0 ∷ drop (from + 1) (take to room)
first_held room from to some within = grind (arith, common_steps)

-- what a read brought, where nothing was held
pub refilled : (old new : Option (List ℕ)) (at limit : ℕ) (before after : List ℕ) (h : Held) (n : ℕ) → h.to ≤ h.from → 0 < n
    → ReadsBehind old new at limit before after (Some n) → at ≤ length before → limit ≤ length after
    → Takes (held_in before h) old new (slice_index_or after at 0 ∷ []) (drop (at + 1) (take (at + n) after))
refilled old new at limit before after h n none some read within room_for =
    let bound = read.0 in
    let long : length (take at before) ≡ at = omega (arith, length-take at before) in
    let behind : drop at (take (at + n) after) ≡ read.2.0 =
    ap (drop at) read.2.1 ∙ subst (λ m. drop m (take at before ++ read.2.0) ≡ read.2.0) long (drop-append_seam (take at before) read.2.0) in
    let first = first_held after at (at + n) (omega arith) (omega arith) in
    record {
      came = read.2.0;
      parts = ap (λ (w : List ℕ). w ++ read.2.0) (none_held before h none) ∙ sym behind ∙ first;
      consumed = read.2.2;
    }

-- the first of what is held was taken
pub took_held : (known : Option (List ℕ)) (room : List ℕ) (h : Held) → h.from < h.to → h.to ≤ length room
    → Takes (held_in room h) known known (slice_index_or room h.from 0 ∷ []) (drop (h.from + 1) (take h.to room))
took_held known room h some within = record {
  came = [];
  parts = append-nil (held_in room h) ∙ first_held room h.from h.to some within;
  consumed = Consumes-nil known;
}

-- where nothing is held the next byte is the reader's
pub pulled_next : (old new : Option (List ℕ)) (room : List ℕ) (h : Held) (b : Option ℕ) → h.to ≤ h.from → PullsNext old new b → TakesNext (held_in room h) old new (held_in room h) b
pulled_next old new room h (Some b) none pulled =
    let gone = none_held room h none in
    record { came = b ∷ []; parts = ap (λ (w : List ℕ). w ++ b ∷ []) gone ∙ ap (λ (w : List ℕ). b ∷ w) (sym gone); consumed = pulled }
pulled_next old new room h None none pulled =
    let gone = none_held room h none in
    record { takes = record { came = []; parts = append-nil (held_in room h); consumed = pulled.0 }; none = gone; ended = pulled.1 }

-- ---- texts

-- a byte more behind a front
pub front_grows : (text : List ℕ) (n b : ℕ) → n < length text → take (n + 1) (slice_set text n b) ≡ take n text ++ b ∷ []
front_grows text n b some = grind (arith, common_steps)

pub front_same : (text : List ℕ) (n b k : ℕ) → k ≤ n → take k (slice_set text n b) ≡ take k text
front_same text n b k le = grind (arith, common_steps)

-- a byte more was taken
pub takes_byte : (had : List ℕ) (old mid new : Option (List ℕ)) (text : List ℕ) (n b : ℕ) (between has : List ℕ) → n < length text
    → Takes had old mid (take n text) between → Takes between mid new (b ∷ []) has → Takes had old new (take (n + 1) (slice_set text n b)) has
takes_byte had old mid new text n b between has some one two =
    subst (λ (w : List ℕ). Takes had old new w has) (sym (front_grows text n b some)) (takes_then had old mid new (take n text) (b ∷ []) between has one two)

-- where the text had not ended before, it ends first there
pub ends_now : (ends : List ℕ → Bool) (text : List ℕ) (n b : ℕ) → n < length text → ((k : ℕ) → k ≤ n → ends (take k text) ≡ false)
    → ends (take (n + 1) (slice_set text n b)) ≡ true → EndsFirst ends (take (n + 1) (slice_set text n b))
ends_now ends text n b some unended now = record {
  ended = now;
  first = λ k lt.
      let grown : List ℕ = slice_set text n b in
      let few : k ≤ n = omega (arith, length-take (n + 1) grown) in
      ap ends (take-take k (n + 1) grown (omega arith) ∙ front_same text n b k few) ∙ unended k few;
}

-- and where it doesn't, it has not ended yet
pub unended_yet : (ends : List ℕ → Bool) (text : List ℕ) (n b : ℕ) → ((k : ℕ) → k ≤ n → ends (take k text) ≡ false)
    → ends (take (n + 1) (slice_set text n b)) ≡ false → (k : ℕ) → k ≤ n + 1 → ends (take k (slice_set text n b)) ≡ false
unended_yet ends text n b unended now k le = by_length (lt_or_ge n k)
  where
    by_length : (n < k) ⊎ (k ≤ n) → ends (take k (slice_set text n b)) ≡ false
    by_length (inl lt) = subst (λ m. ends (take m (slice_set text n b)) ≡ false) (omega arith) now
    by_length (inr few) = ap ends (front_same text n b k few) ∙ unended k few

-- where all was taken and the text has not ended, it is cut
pub text_cut : (ends : List ℕ → Bool) (had : List ℕ) (old mid new : Option (List ℕ)) (text : List ℕ) (n : ℕ) (between has : List ℕ) → n < length text
    → ((k : ℕ) → k ≤ n → ends (take k text) ≡ false) → Takes had old mid (take n text) between → TakesEveryByte between mid new [] has
    → (taken : List ℕ) × BeginsNothing ends (length text) taken × TakesEveryByte had old new taken has
text_cut ends had old mid new text n between has some unended one two = (
  take n text,
  (
    omega (arith, length-take n text),
    λ k le. let few : k ≤ n = omega (arith, length-take n text) in ap ends (take-take k n text few) ∙ unended k few,
  ),
  subst (λ (w : List ℕ). TakesEveryByte had old new w has) (append-nil (take n text)) (takes_all_then had old mid new (take n text) [] between has one two),
)
