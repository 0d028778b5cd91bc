-- From bytes that are taken to what they are as a body in chunks.
use Rattle.std.proofs.Common.{◌≡◌, ◌≢◌, inl, inr, ℕ, ◌+◌, ◌-◌, ◌<◌, ◌≤◌, Bool, true, false, List, [], ◌∷◌, ◌++◌, length, take, drop, All, refl, sym, ap, subst, ◌∙◌, arith, append_assoc, append-nil, length-append, length-take, length-drop, take-take, take_all, Option, Result, Ok, Err, IfOk}
use lib.Seq.{paste}
use Rattle.std.specs.List.{flat_map}
use Rattle.std.proofs.KnownBytes.{Consumes-nil, Consumes-trans}
use Rattle.std.proofs.lemmas.Grind.{flat_map-append}
use Rattle.std.proofs.lemmas.List.{drop-drop, drop-take, take-append-drop}
use Rattle.std.proofs.lemmas.List.Edits.{drop-paste, take-paste}
use Rattle.std.proofs.lemmas.List.Elements.{All-nil, All-push}
use Rattle.std.proofs.Math.Seq.{drop-append_seam, take-append_seam}
use Rattle.std.specs.Io.KnownBytes.{IsAtEnd}
use Rattle.httparse.specs.Ascii.{crlf_bytes}
use Rattle.httparse.specs.Grammar.{ChunkLine, ReadsChunkLine, NeverHasChunkLine, print_chunk_line, print_section}
use Rattle.httparse.specs.Spans.{IsChunkLineAt}
use Rattle.httparse.proofs.ChunkLemmas.{ReadsChunkLine-append, chunk_line_unique}
use Rattle.httparse.proofs.GrammarLemmas.{ReadsSection-append}
use Rattle.http_link.specs.Limits.{max_chunk_line, max_head}
use Rattle.http_link.specs.Bodies.{BeginsChunk, BeginsNothing, BeginsTrailers, BeginsWrong, Body, Chunk, EndsBody, EndsFirst, IsChunk, IsChunked, IsCutShort, IsMalformed, IsSizeLine, IsTrailerText, NoneEnds, bad, contents, cut, ends_line, ends_section, print_chunk}
use Rattle.http_link.specs.BodyReading.{LiesBehind, Takes, TakesEveryByte, Makes, MakesAll, IsSizeOf, ReadsAs, ReadsAtMost, TakesChunk, TakesEnd, TakesLast, TakesStep, TakesBytes, body_read, step_after}
use Rattle.http_link.specs.Running.{held_in}
use Rattle.http_link.specs.Streams.{FillsOn}
use Rattle.http_link.specs.declared.held.Held.{Held}
use Rattle.http_link.specs.declared.bodies.BodyFault.{BodyFault}
use Rattle.http_link.specs.declared.bodies.BodyFault.TheVariants.{Malformed, TooLarge}
use Rattle.http_link.specs.declared.bodies.BodyRead.{BodyRead}
use Rattle.http_link.specs.declared.bodies.BodyRead.TheVariants.{Whole, Cut, Bad}
use Rattle.http_link.specs.declared.chunks.Checked.{Checked}
use Rattle.http_link.specs.declared.chunks.Checked.TheVariants.{Right, Wrong, Short}
use Rattle.http_link.specs.declared.chunks.Step.{Step}
use Rattle.http_link.specs.declared.chunks.Step.TheVariants.{More, Over}
use Rattle.http_link.specs.declared.streams.LinkFault.{LinkFault}
use Rattle.http_link.proofs.Takes.{none_held, takes_all_then, takes_none, takes_then}

-- ---- lines

-- a text that is a chunk's line with nothing behind it is all of the line that was parsed
pub other_line : (text : List ℕ) (len size : ℕ) (line : ChunkLine) → IsChunkLineAt text len size line → len ≢ length text → IsSizeLine text → ⊥
other_line text len size line at other is =
    let same = (chunk_line_unique text line is.0 (drop len text) [] at.reads is.1).1 in
    let parts = ap length at.reads.1 in
    let whole = at.len_is in
    let none = ap length same in
    other (omega (arith, length-append (print_chunk_line line) (drop len text), length-drop len text))

pub never_line : (text : List ℕ) → NeverHasChunkLine text → IsSizeLine text → ⊥
never_line text never is = never [] is.0 [] (is.1.0, append-nil text ∙ is.1.1)

-- ---- texts that are none

-- a text that was taken and is none
pub makes_wrong : (ends : List ℕ → Bool) (most : ℕ) (Is : List ℕ → Type 0) (had : List ℕ) (old new : Option (List ℕ)) (text has : List ℕ)
    → EndsFirst ends text → Takes had old new text has → (Is text → ⊥) → Makes had old new (BeginsWrong ends most Is)
makes_wrong ends most Is had old new text has first takes none = record {
  came = takes.came;
  consumed = takes.consumed;
  so = inl (text, has, takes.parts, first, none);
}

-- as many bytes as may be, of which none end so
pub makes_long : (ends : List ℕ → Bool) (most : ℕ) (Is : List ℕ → Type 0) (had : List ℕ) (old new : Option (List ℕ)) (text has : List ℕ)
    → length text ≡ most → NoneEnds ends text → Takes had old new text has → Makes had old new (BeginsWrong ends most Is)
makes_long ends most Is had old new text has long none takes =
    let front : take most (had ++ takes.came) ≡ text =
    ap (take most) takes.parts ∙ subst (λ m. take m (text ++ has) ≡ text) long (take-append_seam text has) in
    record {
      came = takes.came;
      consumed = takes.consumed;
      so = inr (
        let whole = ap length takes.parts in omega (arith, length-append text has),
        subst (NoneEnds ends) (sym front) none,
      );
    }

-- bytes that were all taken are all that there was and came
all_taken : (had : List ℕ) (old new : Option (List ℕ)) (taken has : List ℕ) → (takes : TakesEveryByte had old new taken has) → had ++ takes.takes.came ≡ taken
all_taken had old new taken has all = all.takes.parts ∙ ap (λ (w : List ℕ). taken ++ w) all.none ∙ append-nil taken

pub makes_all : (Is : List ℕ → Type 0) (had : List ℕ) (old new : Option (List ℕ)) (taken has : List ℕ) → TakesEveryByte had old new taken has → Is taken
    → MakesAll had old new has Is
makes_all Is had old new taken has all so = record {
  makes = record { came = all.takes.came; consumed = all.takes.consumed; so = subst Is (sym (all_taken had old new taken has all)) so };
  none = all.none;
  ended = all.ended;
}

-- ---- the bytes of a chunk

-- what is held, moved behind a front
pub moved_behind : (room after : List ℕ) (h : Held) (done k n : ℕ) → done ≤ h.from → h.from ≤ h.to → h.to ≤ length room → k ≤ h.to - h.from → n ≡ k
    → after ≡ paste room done (drop h.from room) n → take (done + k) after ≡ take done room ++ take k (held_in room h)
moved_behind room after h done k n behind ordered within few same is =
    let front : take k (drop h.from room) ≡ take k (held_in room h) =
    sym (take-take k (h.to - h.from) (drop h.from room) few)
    ∙ ap (take k) (sym (drop-take h.from (h.to - h.from) room) ∙ ap (λ m. drop h.from (take m room)) (omega arith)) in
    ap (take (done + k)) (is ∙ ap (paste room done (drop h.from room)) same)
    ∙ take-paste room done (drop h.from room) k (omega arith) (omega (arith, length-drop h.from room)) ∙ ap (λ (w : List ℕ). take done room ++ w) front

-- and what is left of it
pub left_behind : (room after : List ℕ) (h : Held) (done k n : ℕ) → done ≤ h.from → h.from ≤ h.to → h.to ≤ length room → k ≤ h.to - h.from → n ≡ k
    → after ≡ paste room done (drop h.from room) n → drop (h.from + k) (take h.to after) ≡ drop k (held_in room h)
left_behind room after h done k n behind ordered within few same is =
    let gap = h.from - done in
    let pasted : List ℕ = paste room done (drop h.from room) k in
    let untouched : drop (h.from + k) after ≡ drop (h.from + k) room =
    ap (drop (h.from + k)) (is ∙ ap (paste room done (drop h.from room)) same) ∙ ap (λ m. drop m pasted) (omega arith) ∙ sym (drop-drop gap (done + k) pasted)
    ∙ ap (drop gap) (drop-paste room done (drop h.from room) k (omega arith) (omega (arith, length-drop h.from room)))
    ∙ drop-drop gap (done + k) room ∙ ap (λ m. drop m room) (omega arith) in
    let rest = h.to - (h.from + k) in
    let all : h.to ≡ (h.from + k) + rest = omega arith in
    ap (λ m. drop (h.from + k) (take m after)) all ∙ drop-take (h.from + k) rest after ∙ ap (take rest) untouched ∙ sym (drop-take (h.from + k) rest room)
    ∙ ap (λ m. drop (h.from + k) (take m room)) (sym all) ∙ sym (drop-drop k h.from (take h.to room))

-- bytes that were held, and those that were read behind them
filled_behind : (old new : Option (List ℕ)) (before moved out had : List ℕ) (done k wanted there : ℕ) → take (done + k) moved ≡ take done before ++ take k had → length had ≤ k
    → (fills : FillsOn old new (take (done + k) moved) wanted out there) → take there out ≡ take done before ++ (had ++ fills.came)
filled_behind old new before moved out had done k wanted there put few fills =
    fills.grew ∙ ap (λ (w : List ℕ). w ++ fills.came) (put ∙ ap (λ (w : List ℕ). take done before ++ w) (take_all k had few))
    ∙ append_assoc (take done before) had fills.came

-- a chunk's bytes were all held
pub bytes_held : (known : Option (List ℕ)) (before after had has : List ℕ) (done size k : ℕ) → k ≡ size → size ≤ length had → take (done + k) after ≡ take done before ++ take k had
    → has ≡ drop k had → TakesBytes had known known has size done before after true
bytes_held known before after had has done size k all enough put left = (
  take k had,
  omega (arith, all, length-take k had),
  subst (λ m. take (done + m) after ≡ take done before ++ take k had) all put,
  record {
    came = [];
    parts = append-nil had ∙ sym (take-append-drop k had) ∙ ap (λ (w : List ℕ). take k had ++ w) (sym left);
    consumed = Consumes-nil known;
  },
)

-- a chunk's bytes are whole
pub bytes_whole : (old new : Option (List ℕ)) (before moved out : List ℕ) (h now : Held) (done k size there : ℕ) → take (done + k) moved ≡ take done before ++ take k (held_in before h)
    → length (held_in before h) ≤ k → done ≤ length before → (fills : FillsOn old new (take (done + k) moved) (done + size) out there) → done + size ≤ there → there ≤ done + size
    → now.to ≤ now.from → TakesBytes (held_in before h) old new (held_in out now) size done before out true
bytes_whole old new before moved out h now done k size there put few within fills ge le none =
    let had : List ℕ = held_in before h in
    let all = filled_behind old new before moved out had done k (done + size) there put few fills in
    let same : there ≡ done + size = omega arith in
    let long = ap length all in
    let bound = fills.bound in (
      had ++ fills.came,
      omega (arith, length-append (take done before) (had ++ fills.came), length-take there out, length-take done before),
      subst (λ n. take n out ≡ take done before ++ (had ++ fills.came)) same all,
      record {
        came = fills.came;
        parts = sym (append-nil (had ++ fills.came)) ∙ ap (λ (w : List ℕ). (had ++ fills.came) ++ w) (sym (none_held out now none));
        consumed = fills.taken;
      },
    )

-- they are cut
pub bytes_cut : (old new : Option (List ℕ)) (before moved out : List ℕ) (h now : Held) (done k size there : ℕ) → take (done + k) moved ≡ take done before ++ take k (held_in before h)
    → length (held_in before h) ≤ k → done ≤ length before → (fills : FillsOn old new (take (done + k) moved) (done + size) out there) → there < done + size
    → now.to ≤ now.from → TakesBytes (held_in before h) old new (held_in out now) size done before out false
bytes_cut old new before moved out h now done k size there put few within fills lt none =
    let had : List ℕ = held_in before h in
    let all = filled_behind old new before moved out had done k (done + size) there put few fills in
    let long = ap length all in
    let bound = fills.bound in
    let gone = none_held out now none in (
      had ++ fills.came,
      omega (arith, length-append (take done before) (had ++ fills.came), length-take there out, length-take done before),
      record {
        takes = record {
          came = fills.came;
          parts = sym (append-nil (had ++ fills.came)) ∙ ap (λ (w : List ℕ). (had ++ fills.came) ++ w) (sym gone);
          consumed = fills.taken;
        };
        none = gone;
        ended = fills.ended lt;
      },
    )

-- ---- a chunk, and the last one

-- a chunk with other bytes than a line end behind it
pub chunk_unended : (had : List ℕ) (old mid new : Option (List ℕ)) (bytes two between has : List ℕ) (size : ℕ) → length bytes ≡ size → length two ≡ 2 → two ≢ crlf_bytes
    → Takes had old mid bytes between → Takes between mid new two has
    → Makes had old new (λ all. (size + 2 ≤ length all) × (take 2 (drop size all) ≢ crlf_bytes))
chunk_unended had old mid new bytes two between has size long short other one then =
    let both = takes_then had old mid new bytes two between has one then in
    let parts : had ++ both.came ≡ bytes ++ (two ++ has) = both.parts ∙ append_assoc bytes two has in
    let ending : take 2 (drop size (had ++ both.came)) ≡ two =
    ap (λ (w : List ℕ). take 2 (drop size w)) parts
    ∙ ap (take 2) (subst (λ m. drop m (bytes ++ (two ++ has)) ≡ two ++ has) long (drop-append_seam bytes (two ++ has)))
    ∙ subst (λ m. take m (two ++ has) ≡ two) short (take-append_seam two has) in
    let whole = ap length parts in
    record {
      came = both.came;
      consumed = both.consumed;
      so = (omega (arith, length-append bytes (two ++ has), length-append two has), λ is. other (sym ending ∙ is));
    }

-- the bytes of a chunk were taken, and then what follows them
pub chunk_taken : (checked : Checked) (had : List ℕ) (old mid new : Option (List ℕ)) (between has before middle after : List ℕ) (size done now then : ℕ) → now ≡ done + size → then ≡ now
    → TakesBytes had old mid between size done before middle true → take now after ≡ take now middle → TakesEnd between mid new has checked
    → TakesChunk had old new has size done then before after (step_after checked)
chunk_taken Right had old mid new between has before middle after size done now then is same (bytes, long, put, takes) kept ending = (
  same ∙ is,
  (
    bytes,
    long,
    subst (λ m. take m after ≡ take m middle) is kept ∙ put,
    takes_then had old mid new bytes crlf_bytes between has takes ending,
  ),
)
chunk_taken Wrong had old mid new between has before middle after size done now then is same (bytes, long, put, takes) kept (two, short, other, ending) =
    chunk_unended had old mid new bytes two between has size long short other takes ending
chunk_taken Short had old mid new between has before middle after size done now then is same (bytes, long, put, takes) kept (two, few, ending) =
    makes_all (λ all. length all < size + 2) had old new (bytes ++ two) has (takes_all_then had old mid new bytes two between has takes ending)
    (omega (arith, long, few, length-append bytes two))

-- the line of a chunk, and what stands behind it
begins_chunk : (had : List ℕ) (old mid : Option (List ℕ)) (text between : List ℕ) (size : ℕ) (more : List ℕ) → IsSizeOf text size → length text ≤ max_chunk_line
    → (takes : Takes had old mid text between) → BeginsChunk (had ++ (takes.came ++ more)) size (between ++ more)
begins_chunk had old mid text between size more is short takes =
    let parts : had ++ (takes.came ++ more) ≡ text ++ (between ++ more) =
    sym (append_assoc had takes.came more) ∙ ap (λ (w : List ℕ). w ++ more) takes.parts ∙ append_assoc text between more in
    let long = ap length is.reads.1 in
    record {
      line = is.line;
      reads = subst (λ (w : List ℕ). ReadsChunkLine w is.line (between ++ more)) (sym parts) (ReadsChunkLine-append text is.line [] (between ++ more) is.reads);
      short = omega (arith, length-append (print_chunk_line is.line) []);
      states = is.states;
    }

-- what was made behind bytes that were taken
makes_behind : (had : List ℕ) (old mid new : Option (List ℕ)) (text between : List ℕ) (Is : List ℕ → Type 0) (Then : List ℕ → Type 0) → (takes : Takes had old mid text between)
    → (makes : Makes between mid new Is) → ((more : List ℕ) → Is (between ++ more) → Then (had ++ (takes.came ++ more))) → Makes had old new Then
makes_behind had old mid new text between Is Then takes makes next = record {
  came = takes.came ++ makes.came;
  consumed = Consumes-trans old mid new takes.came makes.came takes.consumed makes.consumed;
  so = next makes.came makes.so;
}

-- what makes bytes end a body reads one
reads_bad : (had : List ℕ) (old new : Option (List ℕ)) (has room : List ℕ) (Is : List ℕ → Body → Type 0) (fault : BodyFault)
    → Makes had old new (λ bytes. Is bytes (bad fault)) → ReadsAs had old new has room Is (Bad fault)
reads_bad had old new has room Is fault makes = record { came = makes.came; consumed = makes.consumed; so = makes.so; ended = λ is. absurd (apart is) }
  where
    apart : Bad fault ≡ Cut → ⊥
    apart e = absurd cc

reads_cut : (had : List ℕ) (old new : Option (List ℕ)) (has room : List ℕ) (Is : List ℕ → Body → Type 0)
    → Makes had old new (λ bytes. Is bytes cut) → has ≡ [] → IsAtEnd new → ReadsAs had old new has room Is Cut
reads_cut had old new has room Is makes none ended = record { came = makes.came; consumed = makes.consumed; so = makes.so; ended = λ is. (none, ended) }

-- behind the line of a chunk that fits
pub fitting_step : (had : List ℕ) (old mid new : Option (List ℕ)) (text between has : List ℕ) (size most done now : ℕ) (before middle after : List ℕ) (s : Step)
    → IsSizeOf text size → length text ≤ max_chunk_line → Takes had old mid text between → 0 < size → size ≤ most - done → take done middle ≡ take done before
    → done ≤ most → TakesChunk between mid new has size done now middle after s → TakesStep had old new has most done now before after s
fitting_step had old mid new text between has size most done now before middle after More is short takes some fits kept inside (same, (bytes, long, put, then)) =
    let line = is.reads.1 ∙ append-nil (print_chunk_line is.line) in
    let printed : text ++ (bytes ++ crlf_bytes) ≡ print_chunk_line is.line ++ (bytes ++ crlf_bytes) = ap (λ (w : List ℕ). w ++ (bytes ++ crlf_bytes)) line in
    let few = ap length line in
    let stated = is.states in (
      record { line = is.line; content = bytes },
      record { line = is.reads.0; short = omega arith; stated = long ∙ is.states; some = omega arith },
      omega (arith, same, long),
      omega (arith, same, long),
      ap (λ m. take m after) same ∙ put ∙ ap (λ (w : List ℕ). w ++ bytes) kept,
      subst (λ (w : List ℕ). Takes had old new w has) printed (takes_then had old mid new text (bytes ++ crlf_bytes) between has takes then),
    )
fitting_step had old mid new text between has size most done now before middle after (Over Cut) is short takes some fits kept inside all =
    reads_cut had old new has after (EndsBody (most - done) (take done before))
    (makes_behind had old mid new text between (λ bytes. length bytes < size + 2) (IsCutShort (most - done)) takes all.makes
    (λ more so. inr (inl (size, between ++ more, record { begins = begins_chunk had old mid text between size more is short takes; some = some; fits = fits }, so)))) all.none all.ended
fitting_step had old mid new text between has size most done now before middle after (Over (Bad Malformed)) is short takes some fits kept inside makes =
    reads_bad had old new has after (EndsBody (most - done) (take done before)) Malformed
    (makes_behind had old mid new text between (λ bytes. (size + 2 ≤ length bytes) × (take 2 (drop size bytes) ≢ crlf_bytes)) (IsMalformed (most - done)) takes makes
    (λ more so. inr (inl (size, between ++ more, record { begins = begins_chunk had old mid text between size more is short takes; some = some; fits = fits }, so.0, so.1))))
fitting_step had old mid new text between has size most done now before middle after (Over (Bad TooLarge)) is short takes some fits kept inside none = absurd none
fitting_step had old mid new text between has size most done now before middle after (Over (Whole n)) is short takes some fits kept inside none = absurd none

-- trailers that were taken
begins_trailers : (text more : List ℕ) → IsTrailerText text → length text ≤ max_head → BeginsTrailers (text ++ more) more
begins_trailers text more is short =
    let parts = is.2.1 ∙ append-nil (print_section is.0 is.1) in
    let long = ap length parts in
    record {
      fields = is.0;
      last = is.1;
      reads = ReadsSection-append text is.0 is.1 [] more is.2;
      short = omega arith;
      few = is.3;
    }

-- behind the line of the last chunk
pub last_step : (had : List ℕ) (old mid new : Option (List ℕ)) (text between has : List ℕ) (most done now : ℕ) (before middle after : List ℕ) (s : Step)
    → IsSizeOf text 0 → length text ≤ max_chunk_line → Takes had old mid text between → take done middle ≡ take done before
    → TakesLast between mid new has done middle after s → TakesStep had old new has most done now before after s
last_step had old mid new text between has most done now before middle after More is short takes kept none = absurd none
last_step had old mid new text between has most done now before middle after (Over (Whole n)) is short takes kept (same, put, (trailers, are, few, then)) =
    record {
      came = takes.came ++ then.came;
      consumed = Consumes-trans old mid new takes.came then.came takes.consumed then.consumed;
      so = (
        ap (λ m. take m after) same ∙ put ∙ kept,
        (
          between ++ then.came,
          begins_chunk had old mid text between 0 then.came is short takes,
          subst (λ (w : List ℕ). BeginsTrailers w has) (sym then.parts) (begins_trailers trailers has are few),
        ),
      );
      ended = λ e. absurd (apart e);
    }
  where
    apart : Whole n ≡ Cut → ⊥
    apart e = absurd cc
last_step had old mid new text between has most done now before middle after (Over Cut) is short takes kept all =
    reads_cut had old new has after (EndsBody (most - done) (take done before))
    (makes_behind had old mid new text between (BeginsNothing ends_section max_head) (IsCutShort (most - done)) takes all.makes
    (λ more so. inr (inr (between ++ more, begins_chunk had old mid text between 0 more is short takes, so)))) all.none all.ended
last_step had old mid new text between has most done now before middle after (Over (Bad Malformed)) is short takes kept makes =
    reads_bad had old new has after (EndsBody (most - done) (take done before)) Malformed
    (makes_behind had old mid new text between (BeginsWrong ends_section max_head IsTrailerText) (IsMalformed (most - done)) takes makes
    (λ more so. inr (inr (between ++ more, begins_chunk had old mid text between 0 more is short takes, so))))
last_step had old mid new text between has most done now before middle after (Over (Bad TooLarge)) is short takes kept none = absurd none

-- a chunk with more bytes than there is room for
pub too_large : (had : List ℕ) (old new : Option (List ℕ)) (text has room : List ℕ) (size most done : ℕ) (content : List ℕ) → IsSizeOf text size → length text ≤ max_chunk_line → Takes had old new text has
    → most - done < size → ReadsAs had old new has room (EndsBody (most - done) content) (Bad TooLarge)
too_large had old new text has room size most done content is short takes large =
    let plain : had ++ (takes.came ++ []) ≡ had ++ takes.came = ap (λ (w : List ℕ). had ++ w) (append-nil takes.came) in
    let begins = begins_chunk had old new text has size [] is short takes in
    reads_bad had old new has room (EndsBody (most - done) content) TooLarge (record {
      came = takes.came;
      consumed = takes.consumed;
      so = (size, has ++ [], subst (λ (w : List ℕ). BeginsChunk w size (has ++ [])) plain begins, large);
    })

-- no line of a chunk
pub no_line : (had : List ℕ) (old new : Option (List ℕ)) (has room : List ℕ) (space : ℕ) (content : List ℕ) → Makes had old new (BeginsWrong ends_line max_chunk_line IsSizeLine)
    → ReadsAs had old new has room (EndsBody space content) (Bad Malformed)
no_line had old new has room space content makes =
    reads_bad had old new has room (EndsBody space content) Malformed (record { came = makes.came; consumed = makes.consumed; so = inl makes.so })

pub line_cut : (had : List ℕ) (old new : Option (List ℕ)) (has room : List ℕ) (space : ℕ) (content : List ℕ) → MakesAll had old new has (BeginsNothing ends_line max_chunk_line)
    → ReadsAs had old new has room (EndsBody space content) Cut
line_cut had old new has room space content all =
    reads_cut had old new has room (EndsBody space content) (record { came = all.makes.came; consumed = all.makes.consumed; so = inl all.makes.so }) all.none all.ended

-- ---- all chunks

-- chunks that were taken, and stand at the front of a room
abbrev pub Gathers : (had : List ℕ) → (old new : Option (List ℕ)) → (has room : List ℕ) → (done : ℕ) → Type 0
Gathers had old new has room done =
    (chunks : List Chunk) × All IsChunk chunks × (take done room ≡ contents chunks) × Takes had old new (flat_map print_chunk chunks) has

-- one more
pub gathers_more : (had : List ℕ) (old mid new : Option (List ℕ)) (between has before after : List ℕ) (most done now : ℕ) → Gathers had old mid between before done
    → TakesStep between mid new has most done now before after More → Gathers had old new has after now
gathers_more had old mid new between has before after most done now sofar (chunk, is, long, fits, put, takes) =
    let chunks = sofar.0 in
    let one : List Chunk = chunk ∷ [] in
    let printed : flat_map print_chunk chunks ++ print_chunk chunk ≡ flat_map print_chunk (chunks ++ one) =
    ap (λ (w : List ℕ). flat_map print_chunk chunks ++ w) (sym (append-nil (print_chunk chunk))) ∙ sym (flat_map-append print_chunk chunks one) in
    let content : contents chunks ++ chunk.content ≡ contents (chunks ++ one) =
    ap (λ (w : List ℕ). contents chunks ++ w) (sym (append-nil chunk.content)) ∙ sym (flat_map-append (λ (c : Chunk). c.content) chunks one) in (
      chunks ++ one,
      All-push IsChunk chunks chunk sofar.1 is,
      put ∙ ap (λ (w : List ℕ). w ++ chunk.content) sofar.2 ∙ content,
      subst (λ (w : List ℕ). Takes had old new w has) printed (takes_then had old mid new (flat_map print_chunk chunks) (print_chunk chunk) between has sofar.3 takes),
    )

-- and an end
pub gathers_all : (had : List ℕ) (old mid new : Option (List ℕ)) (between has before after : List ℕ) (most done now : ℕ) (read : BodyRead) → Gathers had old mid between before done
    → done ≤ most → done ≤ length before → TakesStep between mid new has most done now before after (Over read) → ReadsAs had old new has after (IsChunked most) read
gathers_all had old mid new between has before after most done now read sofar fits within over =
    let chunks = sofar.0 in
    let takes = sofar.3 in
    let long : length (contents chunks) ≡ done = sym (ap length sofar.2) ∙ omega (arith, length-take done before) in
    record {
      came = takes.came ++ over.came;
      consumed = Consumes-trans old mid new takes.came over.came takes.consumed over.consumed;
      so = record {
        chunks = chunks;
        are = sofar.1;
        fit = omega arith;
        rest = between ++ over.came;
        parts = sym (append_assoc had takes.came over.came) ∙ ap (λ (w : List ℕ). w ++ over.came) takes.parts ∙ append_assoc (flat_map print_chunk chunks) between over.came;
        ends = subst (λ m. EndsBody (most - m) (contents chunks) (between ++ over.came) (body_read after has read)) (sym long)
            (subst (λ (w : List ℕ). EndsBody (most - done) w (between ++ over.came) (body_read after has read)) sofar.2 over.so);
      };
      ended = over.ended;
    }

-- as many bytes stand in a room as stood in it, at least, once it was filled on
pub reached : (old new : Option (List ℕ)) (room out : List ℕ) (had wanted there : ℕ) → had ≤ length room → FillsOn old new (take had room) wanted out there → had ≤ there
reached old new room out had wanted there within fills =
    let long = ap length fills.grew in
    omega (arith, length-append (take had room) fills.came, length-take had room, length-take there out)

-- all that came lies behind those that are done
pub filled_lies : (old new : Option (List ℕ)) (room out : List ℕ) (done had wanted there : ℕ) → done ≤ had → had ≤ length room → FillsOn old new (take had room) wanted out there
    → LiesBehind done out (record { from = there; to = there })
filled_lies old new room out done had wanted there behind within fills =
    let bound = fills.bound in
    let ge = reached old new room out had wanted there within fills in
    record { behind = omega arith; ordered = omega arith; within = omega arith }

-- and no more than are wanted
pub not_past : (old new : Option (List ℕ)) (room out : List ℕ) (had wanted there : ℕ) → had ≤ length room → had ≤ wanted → FillsOn old new (take had room) wanted out there → there ≤ wanted
not_past old new room out had wanted there within few fills =
    let long = ap length fills.grew in
    let missing = fills.missing in
    let bound = fills.bound in
    omega (arith, length-append (take had room) fills.came, length-take had room, length-take there out)

-- none so far
pub gathers_none : (had : List ℕ) (known : Option (List ℕ)) (room : List ℕ) → Gathers had known known had room 0
gathers_none had known room = ([], All-nil IsChunk, refl, takes_none had known)

-- ---- steps

pub fitting_read : (r : Result Step LinkFault) (had : List ℕ) (old mid new : Option (List ℕ)) (text between has : List ℕ) (size most done at now : ℕ) (before middle after : List ℕ)
    → IsSizeOf text size → length text ≤ max_chunk_line → Takes had old mid text between → 0 < size → size ≤ most - done → take done middle ≡ take done before → done ≤ most → at ≡ done
    → IfOk r (TakesChunk between mid new has size at now middle after) → IfOk r (TakesStep had old new has most done now before after)
fitting_read (Ok s) had old mid new text between has size most done at now before middle after is short takes some fits kept inside same then =
    fitting_step had old mid new text between has size most done now before middle after s is short takes some fits kept inside
    (subst (λ (n : ℕ). TakesChunk between mid new has size n now middle after s) same then)
fitting_read (Err fault) had old mid new text between has size most done at now before middle after is short takes some fits kept inside same then = tt

pub last_read : (r : Result Step LinkFault) (had : List ℕ) (old mid new : Option (List ℕ)) (text between has : List ℕ) (most done at now : ℕ) (before middle after : List ℕ)
    → IsSizeOf text 0 → length text ≤ max_chunk_line → Takes had old mid text between → take done middle ≡ take done before → at ≡ done
    → IfOk r (TakesLast between mid new has at middle after) → IfOk r (TakesStep had old new has most done now before after)
last_read (Ok s) had old mid new text between has most done at now before middle after is short takes kept same then =
    last_step had old mid new text between has most done now before middle after s is short takes kept
    (subst (λ (n : ℕ). TakesLast between mid new has n middle after s) same then)
last_read (Err fault) had old mid new text between has most done at now before middle after is short takes kept same then = tt

pub at_most : (done most : ℕ) (read : BodyRead) → done ≤ most → ReadsAtMost done read → ReadsAtMost most read
at_most done most (Whole n) le few = omega arith
at_most done most Cut le few = tt
at_most done most (Bad fault) le few = tt
