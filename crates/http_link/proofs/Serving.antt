-- From what is taken and written to what serving a known stream does.
use Rattle.std.proofs.Common.{◌≡◌, ◌⊎◌, inl, inr, ℕ, List, [], ◌++◌, length, length-drop, length-take, take, drop, take-append-drop, refl, sym, ap, subst, ◌∙◌, ◌≤◌, arith, append_assoc, append-nil, take-take, Bool, true, false, Option, Some, None, Result, Ok, Err, IfOk}
use Rattle.std.proofs.KnownBytes.{Appends-trans, Consumes-nil}
use Rattle.std.specs.Io.KnownBytes.{Appends, Consumes, IsAtEnd}
use Rattle.httparse.specs.declared.spans.HeaderSpan.{HeaderSpan}
use Rattle.httparse.specs.declared.spans.RequestSpans.{RequestSpans}
use Rattle.httparse.specs.Grammar.{RequestHead, print_request}
use Rattle.httparse.proofs.GrammarLemmas.{request_unique}
use Rattle.httparse.specs.Spans.{IsRequestAt}
use Rattle.http_link.specs.declared.request.RequestKind.{RequestKind}
use Rattle.http_link.specs.Limits.{max_head, max_lines}
use Rattle.http_link.specs.Heads.{BeginsWith, Head, head_of}
use Rattle.http_link.specs.Grammars.{IsRequest, IsRequestText, requests}
use Rattle.http_link.specs.Reading.{HeadIsFound}
use Rattle.http_link.specs.declared.grammar.Offered.TheVariants as offered
use Rattle.http_link.specs.Lines.{head_in}
use Rattle.http_link.specs.Bodies.{Body, IsBody, bad, cut, body_status, whole}
use Rattle.http_link.specs.BodyReading.{ReadsAs}
use Rattle.http_link.specs.Connections.{IsCutBehind}
use Rattle.http_link.specs.Requests.{Wanted, closes, waits, wanted_of}
use Rattle.http_link.specs.Answers.{answer_text, continue_text, refusal_text}
use Rattle.http_link.specs.declared.bodies.BodyFault.{BodyFault}
use Rattle.http_link.specs.declared.bodies.BodyRead.TheVariants.{Bad, Cut, Whole}
use Rattle.http_link.specs.declared.serve.Served.{Served}
use Rattle.http_link.specs.declared.serve.Served.TheVariants.{Closed, Ended}
use Rattle.http_link.specs.declared.streams.LinkFault.{LinkFault}
use Rattle.http_link.specs.Serving.{Asked, Traces, IsServed, IsAskedOnly, AsksAtMostOnce, ServesBody, asking, kept_unless, traces_of}
use Rattle.http_link.specs.Running.{RunsOnHead, AsksWanted}
use Rattle.http_link.proofs.Growing.{bad_first, body_of_all, whole_first, whole_more}
use Rattle.http_link.specs.GrammarLaws.{request_printed}
use Rattle.http_link.proofs.Heads.{begins_with_taken, nothing_left}

-- what is left behind what was taken
pub taken_left : (rest body : List ℕ) (left : Option (List ℕ)) → Consumes (Some rest) left body → (ys : List ℕ) × (left ≡ Some ys) × (rest ≡ body ++ ys)
taken_left rest body None c = absurd c
taken_left rest body (Some ys) c = (ys, refl, c)

-- what serving is with that left
abbrev pub leaving : Option (List ℕ) → Traces → Traces
leaving left traces = record traces { left = left }

-- one value of what is left
pub same_left : (one other : List ℕ) → Some one ≡ Some other → one ≡ other
same_left one other e = cc

-- what is done with a head behind which nothing had come, and nothing is held in the end, is what serving the stream does
pub runs_served : (want : Result Wanted ℕ) (head : Head) (rest : List ℕ) (left : Option (List ℕ)) (traces : Traces) (served : Served)
    → traces.left ≡ Some [] → RunsOnHead want head [] (Some rest) left traces served → IsServed want head rest (leaving left traces) served
runs_served (Err status) head rest left traces served none runs =
    let front = taken_left rest runs.came left runs.taken in
    let nothing : runs.came ≡ [] = same_left runs.came [] (sym runs.so.left ∙ none) in
    let same : rest ≡ front.0 = front.2 ∙ ap (λ (w : List ℕ). w ++ front.0) nothing in
    record { closed = runs.so.closed; unasked = runs.so.unasked; written = runs.so.written; left = front.1 ∙ ap Some (sym same) }
runs_served (Ok wanted) head rest left traces served none runs = by_body runs.so.0 runs.so.1 runs.so.2
  where
    front : (ys : List ℕ) × (left ≡ Some ys) × (rest ≡ runs.came ++ ys)
    front = taken_left rest runs.came left runs.taken

    by_body : (body : Body) → IsBody wanted.framing runs.came body → ServesBody wanted head traces served body → IsServed (Ok wanted) head rest (leaving left traces) served
    by_body (whole bytes after) is asked = (
      whole bytes front.0,
      whole_first wanted.framing runs.came front.0 rest bytes after (same_left after [] (sym asked.left ∙ none)) front.2 is,
      record { status = asked.status; asked = asked.asked; written = asked.written; left = front.1; open_or_not = asked.open_or_not },
    )
    by_body cut is so =
        let over : front.0 ≡ [] = subst IsAtEnd front.1 (runs.ended so.ended) in (
          cut,
          body_of_all wanted.framing runs.came front.0 rest cut over front.2 is,
          record { ended = so.ended; unasked = so.unasked; written = so.written; left = front.1 ∙ ap Some over },
        )
    by_body (bad fault) is so = (
      bad fault,
      bad_first wanted.framing runs.came front.0 rest fault front.2 is,
      record { closed = so.closed; unasked = so.unasked; written = so.written },
    )

-- only what is wanted is asked
pub asks_only : (want : Result Wanted ℕ) (rest : List ℕ) (left : Option (List ℕ)) (Unasked : Type 0) (Asks : Asked → Type 0)
    → AsksWanted want [] (Some rest) left Unasked Asks → IsAskedOnly want rest Unasked Asks
asks_only (Err status) rest left Unasked Asks (inl none) = none
asks_only (Err status) rest left Unasked Asks (inr once) = absurd once.2
asks_only (Ok wanted) rest left Unasked Asks (inl none) = inl none
asks_only (Ok wanted) rest left Unasked Asks (inr once) = asked once.2
  where
    asked : IsAskedOnly (Ok wanted) once.0 ⊥ Asks → IsAskedOnly (Ok wanted) rest Unasked Asks
    asked (inl none) = absurd none
    asked (inr (body, after, is, so)) =
        let front = taken_left rest once.0 left once.1 in
        inr (body, after ++ front.0, subst (λ (w : List ℕ). IsBody wanted.framing w (whole body (after ++ front.0))) (sym front.2) (whole_more wanted.framing once.0 front.0 body after is), so)

-- at most one question is asked
pub asks_once : (want : Result Wanted ℕ) (had : List ℕ) (old new : Option (List ℕ)) (Unasked : Type 0) (Asks : Asked → Type 0)
    → AsksWanted want had old new Unasked Asks → AsksAtMostOnce Unasked Asks
asks_once (Err status) had old new Unasked Asks (inl none) = inl none
asks_once (Err status) had old new Unasked Asks (inr once) = absurd once.2
asks_once (Ok wanted) had old new Unasked Asks (inl none) = inl none
asks_once (Ok wanted) had old new Unasked Asks (inr once) = asked once.2
  where
    asked : IsAskedOnly (Ok wanted) (had ++ once.0) ⊥ Asks → AsksAtMostOnce Unasked Asks
    asked (inl none) = absurd none
    asked (inr (body, after, is, so)) = inr (asking wanted body so.0, so.1)

-- a head that stands at the front of bytes begins them, with whatever follows
pub begins_here : (has more : List ℕ) (lines : List HeaderSpan) (spans : RequestSpans) → spans.len ≤ length has → spans.len ≤ max_head → length lines ≡ max_lines
    → (is : IsRequest (take spans.len has) lines spans) → BeginsWith (has ++ more) is.head (drop spans.len has ++ more)
begins_here has more lines spans bound small room is =
    let at = is.at in
    let few = is.few in
    let printed = at.len in
    let front : take spans.len has ≡ print_request is.head = sym (take-take spans.len spans.len has (omega arith)) ∙ request_printed (take spans.len has) lines spans is in
    let parts : has ++ more ≡ take spans.len has ++ (drop spans.len has ++ more) =
    ap (λ (w : List ℕ). w ++ more) (sym (take-append-drop spans.len has)) ∙ append_assoc (take spans.len has) (drop spans.len has) more in
    record {
      reads = (at.reads.0, parts ∙ ap (λ (w : List ℕ). w ++ (drop spans.len has ++ more)) front);
      short = omega arith;
      few = omega arith;
    }

-- a head that was found where nothing had come, and nothing that follows it was taken, begins the stream
pub found_first : (old new : Option (List ℕ)) (has stream : List ℕ) (lines : List HeaderSpan) (spans : RequestSpans) → length lines ≡ max_lines → spans.len ≡ length has
    → (found : HeadIsFound requests [] old new has lines (offered.Whole spans)) → old ≡ Some stream → (rest : List ℕ) × (new ≡ Some rest) × BeginsWith stream found.stands.2.head rest
found_first old new has stream lines spans room all found e =
    let front = begins_with_taken old new found.came stream found.taken e in
    let none : drop spans.len has ≡ [] = nothing_left (drop spans.len has) (omega (arith, length-drop spans.len has)) in
    let here : BeginsWith (has ++ front.0) found.stands.2.head front.0 =
    subst (λ (w : List ℕ). BeginsWith (has ++ front.0) found.stands.2.head (w ++ front.0)) none (begins_here has front.0 lines spans found.stands.0 found.stands.1 room found.stands.2) in
    (front.0, front.1, subst (λ (w : List ℕ). BeginsWith w found.stands.2.head front.0) (ap (λ (w : List ℕ). w ++ front.0) found.grew ∙ sym front.2) here)

-- one head begins a stream
pub one_head : (stream : List ℕ) (h k : RequestHead) (r q : List ℕ) → BeginsWith stream h r → BeginsWith stream k q → (h ≡ k) × (r ≡ q)
one_head stream h k r q a b = request_unique stream h k r q a.reads b.reads

-- a head within the limits is a text of the grammar
pub begun_is : (stream : List ℕ) (head : RequestHead) (rest : List ℕ) (lines : ℕ) → lines ≡ max_lines → BeginsWith stream head rest → IsRequestText (print_request head) lines
begun_is stream head rest lines room begins =
    let few = begins.few in
    record { head = head; is = begins.reads.0; printed = refl; few = omega arith }

-- where the stream has ended and no head was found, none begins it
pub partial_first : (old new : Option (List ℕ)) (has stream : List ℕ) (lines : List HeaderSpan) (head : RequestHead) (rest : List ℕ) → length lines ≡ max_lines
    → HeadIsFound requests [] old new has lines offered.Partial → old ≡ Some stream → BeginsWith stream head rest → ⊥
partial_first old new has stream lines head rest room found e begins =
    let front = begins_with_taken old new found.came stream found.taken e in
    let over : front.0 ≡ [] = subst IsAtEnd front.1 found.stands.1 in
    let all : has ≡ stream = found.grew ∙ sym (append-nil found.came) ∙ ap (λ (w : List ℕ). found.came ++ w) (sym over) ∙ sym front.2 in
    found.stands.0 (print_request head) rest (begun_is stream head rest (length lines) room begins) (all ∙ begins.reads.1) begins.short

-- where no head can be found, none begins the stream
pub malformed_first : (old new : Option (List ℕ)) (has stream : List ℕ) (lines : List HeaderSpan) (head : RequestHead) (rest : List ℕ) → length lines ≡ max_lines
    → HeadIsFound requests [] old new has lines offered.Malformed → old ≡ Some stream → BeginsWith stream head rest → ⊥
malformed_first old new has stream lines head rest room found e begins =
    let front = begins_with_taken old new found.came stream found.taken e in
    found.stands front.0 (print_request head) rest (begun_is stream head rest (length lines) room begins)
    (ap (λ (w : List ℕ). w ++ front.0) found.grew ∙ sym front.2 ∙ begins.reads.1) begins.short

-- what a head says is read off its spans
pub head_said : (said : Head) (text : List ℕ) (lines : List HeaderSpan) (spans : RequestSpans) (head : RequestHead)
    → said ≡ head_in text lines spans → IsRequestAt text lines spans head → said ≡ head_of head
head_said said text lines spans head says at = says ∙ rw (at.method, at.path, at.version, at.fields) refl

-- the head that was found is the one that begins the stream, and what is left is what follows it
pub found_is : (said : Head) (old new : Option (List ℕ)) (has text stream : List ℕ) (lines : List HeaderSpan) (spans : RequestSpans) (head : RequestHead) (rest : List ℕ)
    → length lines ≡ max_lines → spans.len ≡ length has → text ≡ take spans.len has → HeadIsFound requests [] old new has lines (offered.Whole spans)
    → said ≡ head_in text lines spans → old ≡ Some stream → BeginsWith stream head rest → (said ≡ head_of head) × (new ≡ Some rest)
found_is said old new has text stream lines spans head rest room all same found says e begins =
    let front = found_first old new has stream lines spans room all found e in
    let one = one_head stream found.stands.2.head head front.0 rest front.2 begins in (
      head_said said (take spans.len has) lines spans found.stands.2.head (says ∙ ap (λ (t : List ℕ). head_in t lines spans) same) found.stands.2.at ∙ ap head_of one.0,
      front.1 ∙ ap Some one.1,
    )

-- the same of a head at the front of a room, which ends where what is held ends
pub found_here : (said : Head) (old new : Option (List ℕ)) (room stream : List ℕ) (there : ℕ) (lines : List HeaderSpan) (spans : RequestSpans) (head : RequestHead) (rest : List ℕ)
    → length lines ≡ max_lines → there ≤ length room → spans.len ≡ there → HeadIsFound requests [] old new (take there room) lines (offered.Whole spans)
    → said ≡ head_in (take spans.len room) lines spans → old ≡ Some stream → BeginsWith stream head rest → (said ≡ head_of head) × (new ≡ Some rest)
found_here said old new room stream there lines spans head rest lined within ends found says e begins =
    found_is said old new (take there room) (take spans.len room) stream lines spans head rest lined (omega (arith, length-take there room))
    (sym (take-take spans.len there room (omega arith))) found says e begins

-- and where no head begins the stream, none was found
pub none_here : (old new : Option (List ℕ)) (room stream : List ℕ) (there : ℕ) (lines : List HeaderSpan) (spans : RequestSpans) → length lines ≡ max_lines
    → there ≤ length room → spans.len ≡ there → HeadIsFound requests [] old new (take there room) lines (offered.Whole spans) → old ≡ Some stream
    → ((head : RequestHead) (rest : List ℕ) → BeginsWith stream head rest → ⊥) → ⊥
none_here old new room stream there lines spans lined within ends found e none =
    let front = found_first old new (take there room) stream lines spans lined (omega (arith, length-take there room)) found e in
    none found.stands.2.head front.0 front.2

-- what is done with the head that was found is what serving the stream does
pub head_served : (result : Result Served LinkFault) (tenant_of : RequestKind → List ℕ → Option ℕ) (said : Head) (new left : Option (List ℕ)) (traces : Traces) (head : RequestHead) (rest : List ℕ)
    → traces.left ≡ Some [] → (said ≡ head_of head) × (new ≡ Some rest) → IfOk result (RunsOnHead (wanted_of tenant_of said) said [] new left traces)
    → IfOk result (IsServed (wanted_of tenant_of (head_of head)) (head_of head) rest (leaving left traces))
head_served (Ok served) tenant_of said new left traces head rest none is runs =
    runs_served (wanted_of tenant_of (head_of head)) (head_of head) rest left traces served none
    (subst (λ (known : Option (List ℕ)). RunsOnHead (wanted_of tenant_of (head_of head)) (head_of head) [] known left traces served) is.1
    (subst (λ (h : Head). RunsOnHead (wanted_of tenant_of h) h [] new left traces served) is.0 runs))
head_served (Err fault) tenant_of said new left traces head rest none is runs = tt

-- what is asked for the head that was found is what the stream's head wants
pub head_asked : (tenant_of : RequestKind → List ℕ → Option ℕ) (said : Head) (new left : Option (List ℕ)) (Unasked : Type 0) (Asks : Asked → Type 0) (head : RequestHead) (rest : List ℕ)
    → (said ≡ head_of head) × (new ≡ Some rest) → AsksWanted (wanted_of tenant_of said) [] new left Unasked Asks → IsAskedOnly (wanted_of tenant_of (head_of head)) rest Unasked Asks
head_asked tenant_of said new left Unasked Asks head rest is asks =
    asks_only (wanted_of tenant_of (head_of head)) rest left Unasked Asks
    (subst (λ (known : Option (List ℕ)). AsksWanted (wanted_of tenant_of (head_of head)) [] known left Unasked Asks) is.1
    (subst (λ (h : Head). AsksWanted (wanted_of tenant_of h) [] new left Unasked Asks) is.0 asks))

-- what refuses a head is what is done with it
pub refused_runs : (r : Result Served LinkFault) (want : Result Wanted ℕ) (status : ℕ) (head : Head) (had : List ℕ) (known : Option (List ℕ)) (traces : Traces)
    → want ≡ Err status → traces.left ≡ Some had → traces.Unasked → IfOk r (λ served. (served ≡ Closed) × traces.Writes (refusal_text status))
    → IfOk r (RunsOnHead want head had known known traces)
refused_runs (Ok served) want status head had known traces is left unasked refused =
    subst (λ (w : Result Wanted ℕ). RunsOnHead w head had known known traces served) (sym is) (record {
      came = [];
      taken = Consumes-nil known;
      so = record { closed = refused.0; unasked = unasked; written = refused.1; left = left ∙ ap Some (sym (append-nil had)) };
      ended = λ e. absurd (not_ended (sym refused.0 ∙ e));
    })
  where
    not_ended : Closed ≡ Ended → ⊥
    not_ended e = absurd cc
refused_runs (Err fault) want status head had known traces is left unasked refused = tt

-- what is done where that is wanted is done where a head asks for that, and likewise what is asked
pub wanted_runs : (r : Result Served LinkFault) (want other : Result Wanted ℕ) (head : Head) (had : List ℕ) (old new : Option (List ℕ)) (traces : Traces)
    → want ≡ other → IfOk r (RunsOnHead other head had old new traces) → IfOk r (RunsOnHead want head had old new traces)
wanted_runs r want other head had old new traces is runs = subst (λ (w : Result Wanted ℕ). IfOk r (RunsOnHead w head had old new traces)) (sym is) runs

pub wanted_asks : (want other : Result Wanted ℕ) (had : List ℕ) (old new : Option (List ℕ)) (Unasked : Type 0) (Asks : Asked → Type 0)
    → want ≡ other → AsksWanted other had old new Unasked Asks → AsksWanted want had old new Unasked Asks
wanted_asks want other had old new Unasked Asks is asks = subst (λ (w : Result Wanted ℕ). AsksWanted w had old new Unasked Asks) (sym is) asks

pub wanted_cut : {D : Type 0} (old new : D) (want other : Result Wanted ℕ) (had : List ℕ)
    → want ≡ other → (new ≡ old) ⊎ IsCutBehind other had → (new ≡ old) ⊎ IsCutBehind want had
wanted_cut old new want other had is few = subst (λ (w : Result Wanted ℕ). (new ≡ old) ⊎ IsCutBehind w had) (sym is) few

-- what serving is, part by part
abbrev pub traced : (Unasked : Type 0) → (Asked → Type 0) → (answer : List ℕ) → (Writes : List ℕ → Type 0) → (left : List ℕ) → Traces
traced Unasked Asks answer Writes left = traces_of Unasked Asks answer (Some left) Writes

-- a connection that is kept or closed has not ended
never_ended : (closed : Bool) → kept_unless closed ≡ Ended → ⊥
never_ended true e = absurd cc
never_ended false e = absurd cc

-- a whole body was read, asked, and answered
pub whole_runs : (r : Result Served LinkFault) (wanted : Wanted) (head : Head) (had : List ℕ) (old new : Option (List ℕ)) (has room : List ℕ) (n : ℕ) (Unasked : Type 0) (Asks : Asked → Type 0)
    (told : List ℕ) (first mid last : Option (List ℕ)) → ReadsAs had old new has room (IsBody wanted.framing) (Whole n) → Appends first mid (continue_text (waits head))
    → IfOk r (λ served. (served ≡ kept_unless (closes head)) × ((status : ℕ) × Asks (asking wanted (take n room) status) × Appends mid last (answer_text wanted.kind status told (closes head))))
    → IfOk r (RunsOnHead (Ok wanted) head had old new (traced Unasked Asks told (λ text. Appends first last text) has))
whole_runs (Ok served) wanted head had old new has room n Unasked Asks told first mid last read interim (kept, (status, asked, written)) = record {
  came = read.came;
  taken = read.consumed;
  so = (
    whole (take n room) has,
    read.so,
    record {
      status = status;
      asked = asked;
      written = Appends-trans first mid last (continue_text (waits head)) (answer_text wanted.kind status told (closes head)) interim written;
      left = refl;
      open_or_not = kept;
    },
  );
  ended = λ is. absurd (never_ended (closes head) (sym kept ∙ is));
}
whole_runs (Err fault) wanted head had old new has room n Unasked Asks told first mid last read interim answered = tt

-- a body was cut
pub cut_runs : (wanted : Wanted) (head : Head) (had : List ℕ) (old new : Option (List ℕ)) (has room : List ℕ) (Unasked : Type 0) (Asks : Asked → Type 0)
    (told : List ℕ) (first last : Option (List ℕ)) → ReadsAs had old new has room (IsBody wanted.framing) Cut → Appends first last (continue_text (waits head)) → Unasked
    → RunsOnHead (Ok wanted) head had old new (traced Unasked Asks told (λ text. Appends first last text) has) Ended
cut_runs wanted head had old new has room Unasked Asks told first last read interim unasked = record {
  came = read.came;
  taken = read.consumed;
  so = (cut, read.so, record { ended = refl; unasked = unasked; written = interim; left = ap Some (read.ended refl).0 });
  ended = λ is. (read.ended refl).1;
}

-- a body was refused
pub bad_runs : (r : Result Served LinkFault) (wanted : Wanted) (head : Head) (fault : BodyFault) (had : List ℕ) (old new : Option (List ℕ)) (has room : List ℕ) (Unasked : Type 0) (Asks : Asked → Type 0)
    (told : List ℕ) (first mid last : Option (List ℕ)) → ReadsAs had old new has room (IsBody wanted.framing) (Bad fault) → Appends first mid (continue_text (waits head)) → Unasked
    → IfOk r (λ served. (served ≡ Closed) × Appends mid last (refusal_text (body_status fault)))
    → IfOk r (RunsOnHead (Ok wanted) head had old new (traced Unasked Asks told (λ text. Appends first last text) has))
bad_runs (Ok served) wanted head fault had old new has room Unasked Asks told first mid last read interim unasked refused = record {
  came = read.came;
  taken = read.consumed;
  so = (
    bad fault,
    read.so,
    record { closed = refused.0; unasked = unasked; written = Appends-trans first mid last (continue_text (waits head)) (refusal_text (body_status fault)) interim refused.1 },
  );
  ended = λ is. absurd (not_ended (sym refused.0 ∙ is));
}
  where
    not_ended : Closed ≡ Ended → ⊥
    not_ended e = absurd cc
bad_runs (Err fault') wanted head fault had old new has room Unasked Asks told first mid last read interim unasked refused = tt

-- what was asked with a whole body
pub whole_asks : (wanted : Wanted) (had : List ℕ) (old new : Option (List ℕ)) (has room : List ℕ) (n : ℕ) (Unasked : Type 0) (Asks : Asked → Type 0)
    → ReadsAs had old new has room (IsBody wanted.framing) (Whole n) → (status : ℕ) × Asks (asking wanted (take n room) status) → AsksWanted (Ok wanted) had old new Unasked Asks
whole_asks wanted had old new has room n Unasked Asks read asked = inr (read.came, read.consumed, inr (take n room, has, read.so, asked))

-- what is done is the same where head, bytes and what is left are told otherwise
pub told_runs : (r : Result Served LinkFault) (tenant_of : RequestKind → List ℕ → Option ℕ) (said other : Head) (had there : List ℕ) (old new : Option (List ℕ)) (left now : List ℕ)
    (Unasked : Type 0) (Asks : Asked → Type 0) (answer : List ℕ) (Writes : List ℕ → Type 0)
    → other ≡ said → there ≡ had → now ≡ left → IfOk r (RunsOnHead (wanted_of tenant_of other) other there old new (traced Unasked Asks answer Writes now))
    → IfOk r (RunsOnHead (wanted_of tenant_of said) said had old new (traced Unasked Asks answer Writes left))
told_runs r tenant_of said other had there old new left now Unasked Asks answer Writes same_head same_bytes same_left runs =
    subst (λ (w : List ℕ). IfOk r (RunsOnHead (wanted_of tenant_of said) said had old new (traced Unasked Asks answer Writes w))) same_left
    (subst (λ (w : List ℕ). IfOk r (RunsOnHead (wanted_of tenant_of said) said w old new (traced Unasked Asks answer Writes now))) same_bytes
    (subst (λ (h : Head). IfOk r (RunsOnHead (wanted_of tenant_of h) h there old new (traced Unasked Asks answer Writes now))) same_head runs))

pub told_asks : (tenant_of : RequestKind → List ℕ → Option ℕ) (said other : Head) (had there : List ℕ) (old new : Option (List ℕ)) (Unasked : Type 0) (Asks : Asked → Type 0)
    → other ≡ said → there ≡ had → AsksWanted (wanted_of tenant_of other) there old new Unasked Asks → AsksWanted (wanted_of tenant_of said) had old new Unasked Asks
told_asks tenant_of said other had there old new Unasked Asks same_head same_bytes asks =
    subst (λ (w : List ℕ). AsksWanted (wanted_of tenant_of said) w old new Unasked Asks) same_bytes
    (subst (λ (h : Head). AsksWanted (wanted_of tenant_of h) there old new Unasked Asks) same_head asks)

pub told_cut : {D : Type 0} (old new : D) (tenant_of : RequestKind → List ℕ → Option ℕ) (said other : Head) (had there : List ℕ)
    → other ≡ said → there ≡ had → (new ≡ old) ⊎ IsCutBehind (wanted_of tenant_of other) there → (new ≡ old) ⊎ IsCutBehind (wanted_of tenant_of said) had
told_cut old new tenant_of said other had there same_head same_bytes few =
    subst (λ (w : List ℕ). (new ≡ old) ⊎ IsCutBehind (wanted_of tenant_of said) w) same_bytes
    (subst (λ (h : Head). (new ≡ old) ⊎ IsCutBehind (wanted_of tenant_of h) there) same_head few)
