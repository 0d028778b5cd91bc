-- What a known stream means as an answer, head by head.
use Rattle.std.proofs.Common.{◌≤◌, ◌≡◌, ◌⊎◌, inl, inr, ℕ, zero, suc, ◌-◌, ◌<◌, Bool, true, false, List, [], ◌++◌, length, take, drop, take-append-drop, refl, sym, map, ap, subst, ◌∙◌, arith, append_assoc, append-nil, take-take, Option, Some, Result, Err}
use Rattle.common_types.specs.Numbers.{is_between}
use Rattle.httparse.specs.declared.spans.HeaderSpan.{HeaderSpan}
use Rattle.httparse.specs.declared.spans.ResponseSpans.{ResponseSpans}
use Rattle.httparse.specs.Grammar.{ResponseHead, print_response}
use Rattle.http_link.specs.Limits.{max_lines}
use Rattle.http_link.specs.Fields.{Line}
use Rattle.http_link.specs.Heads.{BeginsAnswer, Reply, reply_of}
use Rattle.httparse.specs.Spans.{IsResponseAt, header_bytes}
use Rattle.http_link.specs.Grammars.{IsReplyText, answer_heads}
use Rattle.http_link.specs.Reading.{HeadIsFound}
use Rattle.http_link.specs.declared.grammar.Offered.TheVariants as offered
use Rattle.http_link.specs.declared.posting.PostFault.{PostFault}
use Rattle.http_link.specs.declared.posting.PostFault.TheVariants.{Head, Cut}
use Rattle.http_link.specs.Client.{IsMeaning, Means, MeansFramed, is_interim, body_meaning}
use Rattle.std.specs.Io.KnownBytes.{IsAtEnd}
use Rattle.http_link.specs.Bodies.{IsBody, bad, cut, whole}
use Rattle.http_link.specs.BodyReading.{ReadsAs, body_read}
use Rattle.http_link.specs.declared.bodies.BodyRead.{BodyRead}
use Rattle.http_link.specs.declared.bodies.BodyRead.TheVariants.{Bad, Whole}
use Rattle.http_link.specs.declared.bodies.BodyRead.TheVariants as bodies
use Rattle.http_link.specs.declared.bodies.Framing.{Framing}
use Rattle.http_link.specs.declared.posting.AnswerFraming.TheVariants.{Framed}
use Rattle.http_link.proofs.Growing.{bad_more, whole_more}
use Rattle.http_link.specs.GrammarLaws.{reply_printed}
use Rattle.http_link.proofs.Heads.{begins_with_taken}

true_or_false : (b : Bool) → b ≡ true → b ≡ false → ⊥
true_or_false true t f = cc
true_or_false false t f = cc

-- a head that was found begins all that had come and follows
reply_begins : (old new : Option (List ℕ)) (had has rest : List ℕ) (lines : List HeaderSpan) (spans : ResponseSpans) → length lines ≡ max_lines
    → (found : HeadIsFound answer_heads had old new has lines (offered.Whole spans)) → old ≡ Some rest
    → (left : List ℕ) × (new ≡ Some left) × BeginsAnswer (had ++ rest) found.stands.2.head (drop spans.len has ++ left)
reply_begins old new had has rest lines spans room found e =
    let front = begins_with_taken old new found.came rest found.taken e in
    let is = found.stands.2 in
    let at = is.at in
    let bound = found.stands.0 in
    let small = found.stands.1 in
    let front_is : take spans.len has ≡ print_response is.head = sym (take-take spans.len spans.len has (omega arith)) ∙ reply_printed (take spans.len has) lines spans is in
    let printed = at.len in
    let few = is.few in
    let all : had ++ rest ≡ has ++ front.0 = ap (λ (w : List ℕ). had ++ w) front.2 ∙ sym (append_assoc had found.came front.0) ∙ ap (λ (w : List ℕ). w ++ front.0) (sym found.grew) in
    let parts : has ++ front.0 ≡ take spans.len has ++ (drop spans.len has ++ front.0) =
    ap (λ (w : List ℕ). w ++ front.0) (sym (take-append-drop spans.len has)) ∙ append_assoc (take spans.len has) (drop spans.len has) front.0 in (
      front.0,
      front.1,
      record {
        reads = (at.reads.0, all ∙ parts ∙ ap (λ (w : List ℕ). w ++ (drop spans.len has ++ front.0)) front_is);
        short = omega arith;
        few = omega arith;
      },
    )

-- an interim head is passed over
passed : (heads : ℕ) (stream : List ℕ) (head : ResponseHead) (rest : List ℕ) (meaning : Result (List ℕ) PostFault) → 0 < heads → BeginsAnswer stream head rest
    → is_interim (reply_of head) ≡ true → Means (heads - 1) rest meaning → Means heads stream meaning
passed zero stream head rest meaning some begins interim next = absurd (omega arith)
passed (suc heads) stream head rest meaning some begins interim next =
    let same : suc heads - 1 ≡ heads = omega arith in
    inl (record {
      head = head;
      rest = rest;
      begins = begins;
      interim = λ _. subst (λ (n : ℕ). Means n rest meaning) same next;
      final = λ no. absurd (true_or_false (is_interim (reply_of head)) interim no);
    })

-- any other head is the last
last : (heads : ℕ) (stream : List ℕ) (head : ResponseHead) (rest : List ℕ) (meaning : Result (List ℕ) PostFault) → 0 < heads → BeginsAnswer stream head rest
    → is_interim (reply_of head) ≡ false → IsMeaning (reply_of head) rest meaning → Means heads stream meaning
last zero stream head rest meaning some begins final is = absurd (omega arith)
last (suc heads) stream head rest meaning some begins final is =
    inl (record {
      head = head;
      rest = rest;
      begins = begins;
      interim = λ yes. absurd (true_or_false (is_interim (reply_of head)) yes final);
      final = λ _. is;
    })

-- where no head begins the stream
no_head : (heads : ℕ) (stream : List ℕ) (meaning : Result (List ℕ) PostFault) → 0 < heads → ((head : ResponseHead) (rest : List ℕ) → BeginsAnswer stream head rest → ⊥)
    → (meaning ≡ Err Head) ⊎ (meaning ≡ Err Cut) → Means heads stream meaning
no_head zero stream meaning some none fault = absurd (omega arith)
no_head (suc heads) stream meaning some none fault = inr (record { none = none; fault = fault })

-- a head within the limits is a text of the grammar
reply_is : (stream : List ℕ) (head : ResponseHead) (rest : List ℕ) (lines : ℕ) → lines ≡ max_lines → BeginsAnswer stream head rest → IsReplyText (print_response head) lines
reply_is stream head rest lines room begins = let few = begins.few in record { head = head; is = begins.reads.0; printed = refl; few = omega arith }

-- what an answer's head says is read off its spans
reply_said : (said : List Line) (text : List ℕ) (lines : List HeaderSpan) (spans : ResponseSpans) (head : ResponseHead)
    → said ≡ map (header_bytes text) (take spans.headers lines) → IsResponseAt text lines spans head → record { status = spans.code; minor = spans.version; lines = said } ≡ reply_of head
reply_said said text lines spans head says at = rw (says, at.code, at.version, at.fields) refl

-- a final head that was found, whose body means that, is what all means
pub final_read : (heads : ℕ) (old new : Option (List ℕ)) (also had has rest text : List ℕ) (lines : List HeaderSpan) (spans : ResponseSpans) (said : List Line) (meaning : Result (List ℕ) PostFault)
    → 0 < heads → length lines ≡ max_lines → also ≡ had → HeadIsFound answer_heads also old new has lines (offered.Whole spans) → old ≡ Some rest → (spans.len ≤ length has → text ≡ take spans.len has)
    → said ≡ map (header_bytes text) (take spans.headers lines) → is_between 100 199 spans.code ≡ false
    → ((left : List ℕ) → new ≡ Some left → IsMeaning (record { status = spans.code; minor = spans.version; lines = said }) (drop spans.len has ++ left) meaning) → Means heads (had ++ rest) meaning
final_read heads old new also had has rest text lines spans said meaning some room moved found-before e text-is says final is =
    let found : HeadIsFound answer_heads had old new has lines (offered.Whole spans) = subst (λ (h : List ℕ). HeadIsFound answer_heads h old new has lines (offered.Whole spans)) moved found-before in
    let same = text-is found.stands.0 in
    let front = reply_begins old new had has rest lines spans room found e in
    let head = found.stands.2.head in
    let says_all : said ≡ map (header_bytes (take spans.len has)) (take spans.headers lines) = says ∙ ap (λ (t : List ℕ). map (header_bytes t) (take spans.headers lines)) same in
    let told : record { status = spans.code; minor = spans.version; lines = said } ≡ reply_of head = reply_said said (take spans.len has) lines spans head says_all found.stands.2.at in
    last heads (had ++ rest) head (drop spans.len has ++ front.0) meaning some front.2 (ap (is_between 100 199) (sym found.stands.2.at.code) ∙ final)
    (subst (λ (r : Reply). IsMeaning r (drop spans.len has ++ front.0) meaning) told (is front.0 front.1))

-- an interim head that was found is passed over
pub interim_read : (heads : ℕ) (old new : Option (List ℕ)) (had has rest : List ℕ) (lines : List HeaderSpan) (spans : ResponseSpans) → 0 < heads → length lines ≡ max_lines
    → HeadIsFound answer_heads had old new has lines (offered.Whole spans) → old ≡ Some rest → is_between 100 199 spans.code ≡ true
    → (left : List ℕ) × (new ≡ Some left) × ((meaning : Result (List ℕ) PostFault) → Means (heads - 1) (drop spans.len has ++ left) meaning → Means heads (had ++ rest) meaning)
interim_read heads old new had has rest lines spans some room found e interim =
    let front = reply_begins old new had has rest lines spans room found e in (
      front.0,
      front.1,
      λ meaning next.
          passed heads (had ++ rest) found.stands.2.head (drop spans.len has ++ front.0) meaning some front.2 (ap (is_between 100 199) (sym found.stands.2.at.code) ∙ interim) next,
    )

-- where the stream has ended and no head was found, the answer is cut
pub partial_read : (heads : ℕ) (old new : Option (List ℕ)) (also had has rest : List ℕ) (lines : List HeaderSpan) → 0 < heads → length lines ≡ max_lines
    → also ≡ had → HeadIsFound answer_heads also old new has lines offered.Partial → old ≡ Some rest → Means heads (had ++ rest) (Err Cut)
partial_read heads old new also had has rest lines some room moved found-before e =
    let found : HeadIsFound answer_heads had old new has lines offered.Partial = subst (λ (h : List ℕ). HeadIsFound answer_heads h old new has lines offered.Partial) moved found-before in
    let front = begins_with_taken old new found.came rest found.taken e in
    let over : front.0 ≡ [] = subst IsAtEnd front.1 found.stands.1 in
    let came : rest ≡ found.came = front.2 ∙ ap (λ (w : List ℕ). found.came ++ w) over ∙ append-nil found.came in
    let all : has ≡ had ++ rest = found.grew ∙ ap (λ (w : List ℕ). had ++ w) (sym came) in
    no_head heads (had ++ rest) (Err Cut) some
    (λ head after begins. found.stands.0 (print_response head) after (reply_is (had ++ rest) head after (length lines) room begins) (all ∙ begins.reads.1) begins.short) (inr refl)

-- where no head can be found, the answer has none
pub malformed_read : (heads : ℕ) (old new : Option (List ℕ)) (also had has rest : List ℕ) (lines : List HeaderSpan) → 0 < heads → length lines ≡ max_lines
    → also ≡ had → HeadIsFound answer_heads also old new has lines offered.Malformed → old ≡ Some rest → Means heads (had ++ rest) (Err Head)
malformed_read heads old new also had has rest lines some room moved found-before e =
    let found : HeadIsFound answer_heads had old new has lines offered.Malformed = subst (λ (h : List ℕ). HeadIsFound answer_heads h old new has lines offered.Malformed) moved found-before in
    let front = begins_with_taken old new found.came rest found.taken e in
    let all : has ++ front.0 ≡ had ++ rest =
    ap (λ (w : List ℕ). w ++ front.0) found.grew ∙ append_assoc had found.came front.0 ∙ ap (λ (w : List ℕ). had ++ w) (sym front.2) in
    no_head heads (had ++ rest) (Err Head) some
    (λ head after begins. found.stands front.0 (print_response head) after (reply_is (had ++ rest) head after (length lines) room begins) (all ∙ begins.reads.1) begins.short) (inl refl)

-- what had come and came in two parts
both_parts : (had came more : List ℕ) → (had ++ came) ++ more ≡ had ++ (came ++ more)
both_parts had came more = append_assoc had came more

-- a body that was read is what the bytes mean
pub body_means : (framing : Framing) (read : BodyRead) (old new : Option (List ℕ)) (had has room rest : List ℕ) → ReadsAs had old new has room (IsBody framing) read → old ≡ Some rest
    → MeansFramed (Framed framing) (had ++ rest) (body_meaning (body_read room has read))
body_means framing (Whole n) old new had has room rest read e =
    let front = begins_with_taken old new read.came rest read.consumed e in
    let all : (had ++ read.came) ++ front.0 ≡ had ++ rest = both_parts had read.came front.0 ∙ ap (λ (w : List ℕ). had ++ w) (sym front.2) in (
      whole (take n room) (has ++ front.0),
      subst (λ (w : List ℕ). IsBody framing w (whole (take n room) (has ++ front.0))) all (whole_more framing (had ++ read.came) front.0 (take n room) has read.so),
      refl,
    )
body_means framing bodies.Cut old new had has room rest read e =
    let front = begins_with_taken old new read.came rest read.consumed e in
    let over : front.0 ≡ [] = subst IsAtEnd front.1 (read.ended refl).1 in
    let came : read.came ≡ rest = sym (front.2 ∙ ap (λ (w : List ℕ). read.came ++ w) over ∙ append-nil read.came) in
    (cut, subst (λ (w : List ℕ). IsBody framing (had ++ w) cut) came read.so, refl)
body_means framing (Bad fault) old new had has room rest read e =
    let front = begins_with_taken old new read.came rest read.consumed e in
    let all : (had ++ read.came) ++ front.0 ≡ had ++ rest = both_parts had read.came front.0 ∙ ap (λ (w : List ℕ). had ++ w) (sym front.2) in
    (bad fault, subst (λ (w : List ℕ). IsBody framing w (bad fault)) all (bad_more framing (had ++ read.came) front.0 fault read.so), refl)
