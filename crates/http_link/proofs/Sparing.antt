-- Calls that read only where what there was is too little.
use Rattle.std.proofs.Common.{◌≡◌, ◌⊎◌, inl, inr, ℕ, ◌+◌, ◌-◌, ◌<◌, ◌≤◌, Bool, false, List, [], ◌∷◌, ◌++◌, length, take, refl, sym, ap, subst, ◌∙◌, arith, append-nil, length-append, length-take, take-take}
use Rattle.std.specs.List.{flat_map}
use Rattle.httparse.specs.Grammar.{ReadsChunkLine, print_chunk_line}
use Rattle.httparse.proofs.ChunkLemmas.{ReadsChunkLine-append}
use Rattle.http_link.specs.Limits.{max_chunk_line, max_head}
use Rattle.http_link.specs.Bodies.{BeginsChunk, BeginsNothing, IsChunked, IsCutShort, IsSized, contents, cut, ends_section, print_chunk}
use Rattle.http_link.specs.BodyReading.{IsSizeOf, Takes, no_more}
use Rattle.http_link.proofs.ChunkedBodies.{Gathers}
use Rattle.http_link.proofs.Heads.{lt_or_ge, nothing_left}
use Rattle.http_link.proofs.Takes.{takes_then}

-- ---- one call, and two

pub spares_as : {D A B Few More : Type 0} (old new : D) → ((new ≡ old) × A) ⊎ Few → (A → B) → (Few → More) → ((new ≡ old) × B) ⊎ More
spares_as old new (inl one) next few = inl (one.0, next one.1)
spares_as old new (inr little) next few = inr (few little)

pub spares_then : {D A B C Few Next More : Type 0} (old mid new : D) → ((mid ≡ old) × A) ⊎ Few → ((new ≡ mid) × B) ⊎ Next
    → (A → B → C) → (Few → More) → (A → Next → More) → ((new ≡ old) × C) ⊎ More
spares_then old mid new (inl one) (inl two) both few less = inl (two.0 ∙ one.0, both one.1 two.1)
spares_then old mid new (inl one) (inr little) both few less = inr (less one.1 little)
spares_then old mid new (inr little) other both few less = inr (few little)

-- ---- what is taken where no more comes

-- it stands at the front of what there was
pub taken_alone : (had taken has : List ℕ) → Takes had no_more no_more taken has → had ≡ taken ++ has
taken_alone had taken has takes =
    let none : takes.came ≡ [] = nothing_left takes.came (omega (arith, ap length takes.consumed, length-append takes.came [])) in
    sym (append-nil had) ∙ ap (λ (w : List ℕ). had ++ w) (sym none) ∙ takes.parts

-- all of what there was is a text that has not ended
text_alone : (ends : List ℕ → Bool) (had text between : List ℕ) (n size : ℕ) → n < length text → length text ≡ size
    → ((k : ℕ) → k ≤ n → ends (take k text) ≡ false) → Takes had no_more no_more (take n text) between → between ≡ [] → BeginsNothing ends size had
text_alone ends had text between n size some wide unended takes none =
    let all : had ≡ take n text = taken_alone had (take n text) between takes ∙ ap (λ (w : List ℕ). take n text ++ w) none ∙ append-nil (take n text) in
    subst (BeginsNothing ends size) (sym all) (
      omega (arith, length-take n text),
      λ k le. let few : k ≤ n = omega (arith, length-take n text) in ap ends (take-take k n text few) ∙ unended k few,
    )

-- a byte more of a text
pub text_spares : {D A Then : Type 0} (old mid new : D) (ends : List ℕ → Bool) (had text between : List ℕ) (n size : ℕ) → n < length text → length text ≡ size
    → ((k : ℕ) → k ≤ n → ends (take k text) ≡ false) → ((mid ≡ old) × Takes had no_more no_more (take n text) between) ⊎ BeginsNothing ends size had
    → ((new ≡ mid) × A) ⊎ (between ≡ []) → (Takes had no_more no_more (take n text) between → A → Then) → ((new ≡ old) × Then) ⊎ BeginsNothing ends size had
text_spares old mid new ends had text between n size some wide unended one two next =
    spares_then old mid new one two next (λ few. few) (text_alone ends had text between n size some wide unended)

-- ---- chunks

-- what there was is shorter than two parts of it
pub shorter : (had taken has : List ℕ) (one two : ℕ) → Takes had no_more no_more taken has → length taken ≡ one → length has < two → length had < one + two
shorter had taken has one two takes long few = let all = ap length (taken_alone had taken has takes) in omega (arith, length-append taken has)

-- two bytes, one after the other
pub pair_spares : {D Then : Type 0} (old mid new : D) (had between has : List ℕ) (a b : ℕ) → ((mid ≡ old) × Takes had no_more no_more (a ∷ []) between) ⊎ (had ≡ [])
    → ((new ≡ mid) × Takes between no_more no_more (b ∷ []) has) ⊎ (between ≡ []) → (Takes had no_more no_more (a ∷ b ∷ []) has → Then)
    → ((new ≡ old) × Then) ⊎ (length had < 2)
pair_spares old mid new had between has a b one two next =
    spares_then old mid new one two (λ x y. next (takes_then had no_more no_more no_more (a ∷ []) (b ∷ []) between has x y))
    (λ none. omega (arith, ap length none)) (λ x none. shorter had (a ∷ []) between 1 1 x refl (omega (arith, ap length none)))

-- a chunk's line begins what there was
line_alone : (had text between : List ℕ) (size : ℕ) → IsSizeOf text size → length text ≤ max_chunk_line → Takes had no_more no_more text between → BeginsChunk had size between
line_alone had text between size is short takes =
    let long = ap length is.reads.1 in
    record {
      line = is.line;
      reads = subst (λ (w : List ℕ). ReadsChunkLine w is.line between) (sym (taken_alone had text between takes)) (ReadsChunkLine-append text is.line [] between is.reads);
      short = omega (arith, length-append (print_chunk_line is.line) []);
      states = is.states;
    }

-- a chunk that fits is cut behind its line
pub chunk_cut : (had text between : List ℕ) (size space : ℕ) → IsSizeOf text size → length text ≤ max_chunk_line → Takes had no_more no_more text between
    → 0 < size → size ≤ space → length between < size + 2 → IsCutShort space had
chunk_cut had text between size space is short takes some fits few =
    inr (inl (size, between, record { begins = line_alone had text between size is short takes; some = some; fits = fits }, few))

-- trailers are cut behind the last chunk's line
pub trailers_cut : (had text between : List ℕ) (space : ℕ) → IsSizeOf text 0 → length text ≤ max_chunk_line → Takes had no_more no_more text between
    → BeginsNothing ends_section max_head between → IsCutShort space had
trailers_cut had text between space is short takes few = inr (inr (between, line_alone had text between 0 is short takes, few))

-- a body is cut behind chunks that were gathered
chunks_cut : (had between room : List ℕ) (most done : ℕ) → done ≤ most → done ≤ length room → Gathers had no_more no_more between room done
    → IsCutShort (most - done) between → IsChunked most had cut
chunks_cut had between room most done fits within sofar few =
    let long : length (contents sofar.0) ≡ done = sym (ap length sofar.2) ∙ omega (arith, length-take done room) in
    record {
      chunks = sofar.0;
      are = sofar.1;
      fit = omega arith;
      rest = between;
      parts = taken_alone had (flat_map print_chunk sofar.0) between sofar.3;
      ends = subst (λ m. IsCutShort (most - m) between) (sym long) few;
    }

-- a chunk more of a body
pub chunks_spare : {D A Then : Type 0} (old mid new : D) (had between room : List ℕ) (most done : ℕ) → done ≤ most → done ≤ length room
    → ((mid ≡ old) × Gathers had no_more no_more between room done) ⊎ IsChunked most had cut
    → ((new ≡ mid) × A) ⊎ IsCutShort (most - done) between → (Gathers had no_more no_more between room done → A → Then) → ((new ≡ old) × Then) ⊎ IsChunked most had cut
chunks_spare old mid new had between room most done fits within one two next =
    spares_then old mid new one two next (λ few. few) (chunks_cut had between room most done fits within)

-- the reader alone
pub spares_only : {D A Few : Type 0} (old new : D) → ((new ≡ old) × A) ⊎ Few → (new ≡ old) ⊎ Few
spares_only old new (inl one) = inl one.0
spares_only old new (inr few) = inr few

-- ---- a body of a stated length

pub sized_spares : {D : Type 0} (old new : D) (had : List ℕ) (size : ℕ) → (size ≤ length had → new ≡ old) → (new ≡ old) ⊎ IsSized size had cut
sized_spares old new had size unread = by_length (lt_or_ge (length had) size)
  where
    by_length : (length had < size) ⊎ (size ≤ length had) → (new ≡ old) ⊎ IsSized size had cut
    by_length (inl few) = inr few
    by_length (inr enough) = inl (unread enough)
