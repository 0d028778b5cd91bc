-- From what is taken and written after a head to what serving a known stream at the operators' door does.
use Rattle.std.proofs.Common.{◌≡◌, ◌⊎◌, inl, inr, ℕ, List, [], ◌++◌, ◌≤◌, length, length-drop, length-take, take, drop, arith, refl, sym, ap, subst, ◌∙◌, Option, Some, Result, Ok, Err, IfOk}
use Rattle.std.proofs.KnownBytes.{Appends-trans, Consumes-nil, Consumes-trans}
use Rattle.std.specs.Io.KnownBytes.{Appends, IsAtEnd}
use Rattle.httparse.specs.declared.spans.HeaderSpan.{HeaderSpan}
use Rattle.httparse.specs.declared.spans.RequestSpans.{RequestSpans}
use Rattle.httparse.specs.Grammar.{RequestHead}
use Rattle.http_link.specs.Answers.{refusal_text}
use Rattle.http_link.specs.Bodies.{Body, IsBody, bad, body_status, cut, whole}
use Rattle.http_link.specs.BodyReading.{ReadsAs}
use Rattle.http_link.specs.Grammars.{requests}
use Rattle.http_link.specs.Heads.{Head, head_of}
use Rattle.http_link.specs.Limits.{max_lines}
use Rattle.http_link.specs.Lines.{head_in}
use Rattle.http_link.specs.OperatorDoor.{AsksOperatorCame, AsksOperatorSought, IsOperatorAskedOnly, IsOperatorServed, OperatorAsked, OperatorSought, OperatorTraces, RunsOnOperatorHead, ServesOperatorBody}
use Rattle.http_link.specs.OperatorDoor.{OperatorWanted, admitted, operator_asking, operator_interim, operator_refusal_text, operator_sought_of, operator_text, operator_traces_of}
use Rattle.http_link.specs.Reading.{HeadIsFound}
use Rattle.http_link.specs.Running.{held_in}
use Rattle.http_link.specs.declared.bodies.BodyFault.{BodyFault}
use Rattle.http_link.specs.declared.bodies.BodyRead.{BodyRead}
use Rattle.http_link.specs.declared.bodies.BodyRead.TheVariants.{Bad, Cut, Whole}
use Rattle.http_link.specs.declared.grammar.Offered.TheVariants as offered
use Rattle.http_link.specs.declared.held.Held.{Held}
use Rattle.http_link.specs.declared.operator_request.OperatorRefusal.{OperatorRefusal}
use Rattle.http_link.specs.declared.serve.Served.{Served}
use Rattle.http_link.specs.declared.serve.Served.TheVariants.{Closed, Ended}
use Rattle.http_link.specs.declared.streams.LinkFault.{LinkFault}
use Rattle.http_link.proofs.Growing.{bad_first, body_of_all, whole_first, whole_more}
use Rattle.http_link.proofs.Heads.{nothing_left}
use Rattle.http_link.proofs.Connections.{found_begins, found_says}
use Rattle.http_link.proofs.Serving.{same_left, taken_left}
use Rattle.http_link.proofs.Takes.{none_held}

-- what serving is with that left
abbrev pub leaving : Option (List ℕ) → OperatorTraces → OperatorTraces
leaving left traces = record traces { left = left }

not_ended : Closed ≡ Ended → ⊥
not_ended e = absurd cc

-- what is done with a head behind which nothing had come is what serving the stream does
runs_served : (want : Result OperatorSought OperatorRefusal) (head : Head) (rest : List ℕ) (left : Option (List ℕ)) (traces : OperatorTraces) (served : Served)
    → traces.left ≡ Some [] → RunsOnOperatorHead want head (Some rest) left traces served → IsOperatorServed want head rest (leaving left traces) served
runs_served (Err refusal) head rest left traces served none runs =
    let front = taken_left rest runs.came left runs.taken in
    let nothing : runs.came ≡ [] = same_left runs.came [] (sym runs.so.left ∙ none) in
    let same : rest ≡ front.0 = front.2 ∙ ap (λ (w : List ℕ). w ++ front.0) nothing in
    record { unasked = runs.so.unasked; written = runs.so.written; left = front.1 ∙ ap Some (sym same); closed = runs.so.closed }
runs_served (Ok sought) head rest left traces served none runs = by_body runs.so.0 runs.so.1 runs.so.2
  where
    front : (ys : List ℕ) × (left ≡ Some ys) × (rest ≡ runs.came ++ ys)
    front = taken_left rest runs.came left runs.taken

    by_body : (body : Body) → IsBody sought.framing runs.came body → ServesOperatorBody sought.wanted head traces served body
        → IsOperatorServed (Ok sought) head rest (leaving left traces) served
    by_body (whole bytes after) is asked = (
      whole bytes front.0,
      whole_first sought.framing runs.came front.0 rest bytes after (same_left after [] (sym asked.left ∙ none)) front.2 is,
      record { status = asked.status; asked = asked.asked; written = asked.written; left = front.1; closed = asked.closed },
    )
    by_body cut is so =
        let over : front.0 ≡ [] = subst IsAtEnd front.1 (runs.ended so.ended) in (
          cut,
          body_of_all sought.framing runs.came front.0 rest cut over front.2 is,
          record { unasked = so.unasked; written = so.written; left = front.1 ∙ ap Some over; ended = so.ended },
        )
    by_body (bad fault) is so = (
      bad fault,
      bad_first sought.framing runs.came front.0 rest fault front.2 is,
      record { unasked = so.unasked; written = so.written; closed = so.closed },
    )

-- what is done with the head that was found is what serving the stream does
pub operator_served : (refuses : OperatorWanted → Option ℕ) (result : Result Served LinkFault) (said : Head) (new left : Option (List ℕ)) (traces : OperatorTraces) (head : RequestHead) (rest : List ℕ)
    → traces.left ≡ Some [] → (said ≡ head_of head) × (new ≡ Some rest) → IfOk result (RunsOnOperatorHead (admitted refuses (operator_sought_of said)) said new left traces)
    → IfOk result (IsOperatorServed (admitted refuses (operator_sought_of (head_of head))) (head_of head) rest (leaving left traces))
operator_served refuses (Ok served) said new left traces head rest none is runs =
    runs_served (admitted refuses (operator_sought_of (head_of head))) (head_of head) rest left traces served none
    (subst (λ (known : Option (List ℕ)). RunsOnOperatorHead (admitted refuses (operator_sought_of (head_of head))) (head_of head) known left traces served) is.1
    (subst (λ (h : Head). RunsOnOperatorHead (admitted refuses (operator_sought_of h)) h new left traces served) is.0 runs))
operator_served refuses (Err fault) said new left traces head rest none is runs = tt

-- only what is wanted is asked
asks_only : (want : Result OperatorSought OperatorRefusal) (rest : List ℕ) (left : Option (List ℕ)) (Unasked : Type 0) (Asks : OperatorAsked → Type 0)
    → AsksOperatorSought want (Some rest) left Unasked Asks → IsOperatorAskedOnly want rest Unasked Asks
asks_only (Err refusal) rest left Unasked Asks (inl none) = none
asks_only (Err refusal) rest left Unasked Asks (inr once) = absurd once.2
asks_only (Ok sought) rest left Unasked Asks (inl none) = inl none
asks_only (Ok sought) rest left Unasked Asks (inr once) = asked once.2
  where
    asked : IsOperatorAskedOnly (Ok sought) once.0 ⊥ Asks → IsOperatorAskedOnly (Ok sought) rest Unasked Asks
    asked (inl none) = absurd none
    asked (inr (body, after, is, so)) =
        let front = taken_left rest once.0 left once.1 in
        inr (body, after ++ front.0, subst (λ (w : List ℕ). IsBody sought.framing w (whole body (after ++ front.0))) (sym front.2) (whole_more sought.framing once.0 front.0 body after is), so)

-- nothing is asked, whatever a head asks for
pub unasked_only : (want : Result OperatorSought OperatorRefusal) (rest : List ℕ) (Unasked : Type 0) (Asks : OperatorAsked → Type 0)
    → Unasked → IsOperatorAskedOnly want rest Unasked Asks
unasked_only (Ok sought) rest Unasked Asks none = inl none
unasked_only (Err refusal) rest Unasked Asks none = none

-- what is asked for the head that was found is what the stream's head wants
pub operator_only : (refuses : OperatorWanted → Option ℕ) (said : Head) (new left : Option (List ℕ)) (Unasked : Type 0) (Asks : OperatorAsked → Type 0) (head : RequestHead) (rest : List ℕ)
    → (said ≡ head_of head) × (new ≡ Some rest) → AsksOperatorSought (admitted refuses (operator_sought_of said)) new left Unasked Asks
    → IsOperatorAskedOnly (admitted refuses (operator_sought_of (head_of head))) rest Unasked Asks
operator_only refuses said new left Unasked Asks head rest is asks =
    asks_only (admitted refuses (operator_sought_of (head_of head))) rest left Unasked Asks
    (subst (λ (known : Option (List ℕ)). AsksOperatorSought (admitted refuses (operator_sought_of (head_of head))) known left Unasked Asks) is.1
    (subst (λ (h : Head). AsksOperatorSought (admitted refuses (operator_sought_of h)) new left Unasked Asks) is.0 asks))

-- and it is what the request asks that came
pub operator_came : (refuses : OperatorWanted → Option ℕ) (said : Head) (old mid new : Option (List ℕ)) (room : List ℕ) (there : ℕ) (lines : List HeaderSpan) (spans : RequestSpans)
    (Unasked : Type 0) (Asks : OperatorAsked → Type 0) → length lines ≡ max_lines → there ≤ length room → spans.len ≡ there
    → (found : HeadIsFound requests [] old mid (take there room) lines (offered.Whole spans)) → said ≡ head_in (take spans.len room) lines spans
    → AsksOperatorSought (admitted refuses (operator_sought_of said)) mid new Unasked Asks → Unasked ⊎ AsksOperatorCame refuses old new Asks
operator_came refuses said old mid new room there lines spans Unasked Asks lined within ends found says (inl none) = inl none
operator_came refuses said old mid new room there lines spans Unasked Asks lined within ends found says (inr once) =
    inr (by_sought (admitted refuses (operator_sought_of (head_of found.stands.2.head))) refl
    (subst (λ (h : Head). IsOperatorAskedOnly (admitted refuses (operator_sought_of h)) once.0 ⊥ Asks) (says ∙ found_says [] old mid room there lines spans found) once.2))
  where
    none_after : drop spans.len (take there room) ≡ []
    none_after = nothing_left (drop spans.len (take there room)) (omega (arith, length-drop spans.len (take there room), length-take there room))

    by_sought : (want : Result OperatorSought OperatorRefusal) → admitted refuses (operator_sought_of (head_of found.stands.2.head)) ≡ want
        → IsOperatorAskedOnly want once.0 ⊥ Asks → AsksOperatorCame refuses old new Asks
    by_sought (Err refusal) is asks = absurd asks
    by_sought (Ok sought) is (inl none) = absurd none
    by_sought (Ok sought) is (inr (body, after, frames, asks)) = record {
      came = found.came ++ once.0;
      taken = Consumes-trans old mid new found.came once.0 found.taken once.1;
      asked = operator_asking sought.wanted body asks.0;
      by = record {
        head = found.stands.2.head;
        rest = drop spans.len (take there room) ++ once.0;
        begins = found_begins [] old mid (take there room) once.0 lines spans lined found;
        sought = sought;
        wants = is;
        after = after;
        frames = subst (λ (w : List ℕ). IsBody sought.framing (w ++ once.0) (whole body after)) (sym none_after) frames;
        asks = refl;
      };
      asks = asks.1;
    }

-- what refuses a head is what is done with it
pub operator_refused : (r : Result Served LinkFault) (want : Result OperatorSought OperatorRefusal) (refusal : OperatorRefusal) (head : Head) (known : Option (List ℕ)) (traces : OperatorTraces)
    → want ≡ Err refusal → traces.left ≡ Some [] → traces.Unasked → IfOk r (λ served. (served ≡ Closed) × traces.Writes (operator_refusal_text refusal))
    → IfOk r (RunsOnOperatorHead want head known known traces)
operator_refused (Ok served) want refusal head known traces is left unasked refused =
    subst (λ (w : Result OperatorSought OperatorRefusal). RunsOnOperatorHead w head known known traces served) (sym is) (record {
      came = [];
      taken = Consumes-nil known;
      so = record { unasked = unasked; written = refused.1; left = left; closed = refused.0 };
      ended = λ e. absurd (not_ended (sym refused.0 ∙ e));
    })
operator_refused (Err fault) want refusal head known traces is left unasked refused = tt

-- what is done where that is wanted is done where a head asks for that, and likewise what is asked
pub sought_runs : (r : Result Served LinkFault) (want other : Result OperatorSought OperatorRefusal) (head : Head) (old new : Option (List ℕ)) (traces : OperatorTraces)
    → want ≡ other → IfOk r (RunsOnOperatorHead other head old new traces) → IfOk r (RunsOnOperatorHead want head old new traces)
sought_runs r want other head old new traces is runs =
    subst (λ (w : Result OperatorSought OperatorRefusal). IfOk r (RunsOnOperatorHead w head old new traces)) (sym is) runs

pub sought_asks : (want other : Result OperatorSought OperatorRefusal) (old new : Option (List ℕ)) (Unasked : Type 0) (Asks : OperatorAsked → Type 0)
    → want ≡ other → AsksOperatorSought other old new Unasked Asks → AsksOperatorSought want old new Unasked Asks
sought_asks want other old new Unasked Asks is asks =
    subst (λ (w : Result OperatorSought OperatorRefusal). AsksOperatorSought w old new Unasked Asks) (sym is) asks

-- what serving is, part by part, with nothing left of what came
abbrev pub traced : (Unasked : Type 0) → (OperatorAsked → Type 0) → (answer : List ℕ) → (Writes : List ℕ → Type 0) → OperatorTraces
traced Unasked Asks answer Writes = operator_traces_of Unasked Asks answer (Some []) Writes

-- where nothing is held, only what comes is read
pub reads_fresh : (before : List ℕ) (held : Held) (old new : Option (List ℕ)) (has room : List ℕ) (Is : List ℕ → Body → Type 0) (read : BodyRead)
    → held.to ≤ held.from → ReadsAs (held_in before held) old new has room Is read → ReadsAs [] old new has room Is read
reads_fresh before held old new has room Is read e reads =
    subst (λ (w : List ℕ). ReadsAs w old new has room Is read) (none_held before held e) reads

-- a whole body was read, asked, and answered
pub whole_runs : (r : Result Served LinkFault) (sought : OperatorSought) (head : Head) (old new : Option (List ℕ)) (has room : List ℕ) (n : ℕ) (Unasked : Type 0) (Asks : OperatorAsked → Type 0)
    (told : List ℕ) (first mid last : Option (List ℕ)) → has ≡ [] → ReadsAs [] old new has room (IsBody sought.framing) (Whole n) → Appends first mid (operator_interim sought.wanted.request head)
    → IfOk r (λ served. (served ≡ Closed) × ((status : ℕ) × Asks (operator_asking sought.wanted (take n room) status) × Appends mid last (operator_text sought.wanted.request status told)))
    → IfOk r (RunsOnOperatorHead (Ok sought) head old new (traced Unasked Asks told (λ text. Appends first last text)))
whole_runs (Ok served) sought head old new has room n Unasked Asks told first mid last none read interim (closed, (status, asked, written)) = record {
  came = read.came;
  taken = read.consumed;
  so = (
    whole (take n room) has,
    read.so,
    record { status = status; asked = asked; written = Appends-trans first mid last (operator_interim sought.wanted.request head) (operator_text sought.wanted.request status told) interim written; left = ap Some (sym none); closed = closed },
  );
  ended = λ is. absurd (not_ended (sym closed ∙ is));
}
whole_runs (Err fault) sought head old new has room n Unasked Asks told first mid last none read interim answered = tt

-- a body was cut
pub cut_runs : (sought : OperatorSought) (head : Head) (old new : Option (List ℕ)) (has room : List ℕ) (Unasked : Type 0) (Asks : OperatorAsked → Type 0)
    (told : List ℕ) (first last : Option (List ℕ)) → ReadsAs [] old new has room (IsBody sought.framing) Cut → Appends first last (operator_interim sought.wanted.request head) → Unasked
    → RunsOnOperatorHead (Ok sought) head old new (traced Unasked Asks told (λ text. Appends first last text)) Ended
cut_runs sought head old new has room Unasked Asks told first last read interim unasked = record {
  came = read.came;
  taken = read.consumed;
  so = (cut, read.so, record { unasked = unasked; written = interim; left = refl; ended = refl });
  ended = λ is. (read.ended refl).1;
}

-- a body was refused
pub bad_runs : (r : Result Served LinkFault) (sought : OperatorSought) (head : Head) (fault : BodyFault) (old new : Option (List ℕ)) (has room : List ℕ) (Unasked : Type 0) (Asks : OperatorAsked → Type 0)
    (told : List ℕ) (first mid last : Option (List ℕ)) → ReadsAs [] old new has room (IsBody sought.framing) (Bad fault) → Appends first mid (operator_interim sought.wanted.request head) → Unasked
    → IfOk r (λ served. (served ≡ Closed) × Appends mid last (refusal_text (body_status fault)))
    → IfOk r (RunsOnOperatorHead (Ok sought) head old new (traced Unasked Asks told (λ text. Appends first last text)))
bad_runs (Ok served) sought head fault old new has room Unasked Asks told first mid last read interim unasked refused = record {
  came = read.came;
  taken = read.consumed;
  so = (
    bad fault,
    read.so,
    record { unasked = unasked; written = Appends-trans first mid last (operator_interim sought.wanted.request head) (refusal_text (body_status fault)) interim refused.1; closed = refused.0 },
  );
  ended = λ is. absurd (not_ended (sym refused.0 ∙ is));
}
bad_runs (Err fault') sought head fault old new has room Unasked Asks told first mid last read interim unasked refused = tt

-- what was asked with a whole body
pub whole_asks : (sought : OperatorSought) (old new : Option (List ℕ)) (has room : List ℕ) (n : ℕ) (Unasked : Type 0) (Asks : OperatorAsked → Type 0)
    → ReadsAs [] old new has room (IsBody sought.framing) (Whole n) → (status : ℕ) × Asks (operator_asking sought.wanted (take n room) status)
    → AsksOperatorSought (Ok sought) old new Unasked Asks
whole_asks sought old new has room n Unasked Asks read asked = inr (read.came, read.consumed, inr (take n room, has, read.so, asked))
