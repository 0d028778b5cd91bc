-- From a head that was found in what has come to what serving the next request of a connection does.
use Rattle.std.proofs.Common.{◌≡◌, ◌≤◌, ◌⊎◌, inl, inr, ℕ, List, [], ◌++◌, length, take, drop, length-take, take-take, arith, refl, sym, ap, subst, ◌∙◌, append_assoc, append-nil, Option, Result, Ok, Err, IfOk, Bool, false, ◌∷◌}
use Rattle.std.proofs.KnownBytes.{Consumes-trans}
use Rattle.httparse.specs.declared.spans.HeaderSpan.{HeaderSpan}
use Rattle.httparse.specs.declared.spans.RequestSpans.{RequestSpans}
use Rattle.httparse.specs.Grammar.{RequestHead, print_request}
use Rattle.httparse.proofs.GrammarLemmas.{ReadsRequest-append}
use Rattle.http_link.specs.declared.request.RequestKind.{RequestKind}
use Rattle.http_link.specs.Limits.{max_lines}
use Rattle.http_link.specs.Answers.{refusal_text}
use Rattle.http_link.specs.Connections.{AreAskedBy, AreTooFew, AsksIt, AsksNext, IsAskedBy, IsCutBehind, ServesNext}
use Rattle.http_link.specs.Heads.{BeginsWith, Head, head_of}
use Rattle.http_link.specs.Lines.{head_in}
use Rattle.http_link.specs.Grammars.{requests}
use Rattle.http_link.specs.Reading.{BeginsNot, HeadIsFound}
use Rattle.http_link.specs.Requests.{Wanted, closes, wanted_of}
use Rattle.http_link.specs.Running.{AsksWanted, RunsOnHead}
use Rattle.http_link.specs.Serving.{Asked, IsAskedOnly, IsServed, Traces, asking}
use Rattle.http_link.specs.declared.grammar.Offered.TheVariants.{Malformed, Partial, Whole}
use Rattle.http_link.specs.declared.serve.Served.{Served}
use Rattle.http_link.specs.declared.serve.Served.TheVariants.{Closed, Ended}
use Rattle.http_link.specs.declared.streams.LinkFault.{LinkFault}
use Rattle.http_link.proofs.Growing.{whole_more}
use Rattle.http_link.proofs.Serving.{begins_here, begun_is, head_said}

-- what had come and came in two parts
in_all : (had has one other : List ℕ) → has ≡ had ++ one → has ++ other ≡ had ++ (one ++ other)
in_all had has one other e = ap (λ (w : List ℕ). w ++ other) e ∙ append_assoc had one other

-- the head that was found begins all that came
pub found_begins : (had : List ℕ) (old mid : Option (List ℕ)) (has other : List ℕ) (lines : List HeaderSpan) (spans : RequestSpans) → length lines ≡ max_lines
    → (found : HeadIsFound requests had old mid has lines (Whole spans)) → BeginsWith (had ++ (found.came ++ other)) found.stands.2.head (drop spans.len has ++ other)
found_begins had old mid has other lines spans room found =
    subst (λ (w : List ℕ). BeginsWith w found.stands.2.head (drop spans.len has ++ other)) (in_all had has found.came other found.grew)
    (begins_here has other lines spans found.stands.0 found.stands.1 room found.stands.2)

-- a front of a front of a room
front_of_front : (room : List ℕ) (there n : ℕ) → n ≤ length (take there room) → take n room ≡ take n (take there room)
front_of_front room there n le = sym (take-take n there room (omega (arith, length-take there room)))

-- what it says, where it stands in a room
pub found_says : (had : List ℕ) (old mid : Option (List ℕ)) (room : List ℕ) (there : ℕ) (lines : List HeaderSpan) (spans : RequestSpans)
    → (found : HeadIsFound requests had old mid (take there room) lines (Whole spans)) → head_in (take spans.len room) lines spans ≡ head_of found.stands.2.head
found_says had old mid room there lines spans found =
    let front = front_of_front room there spans.len found.stands.0 in
    head_said (head_in (take spans.len room) lines spans) (take spans.len (take there room)) lines spans found.stands.2.head
    (ap (λ (t : List ℕ). head_in t lines spans) front) found.stands.2.at

-- what is done with the head that was found is what serving the next request does
pub found_next : (r : Result Served LinkFault) (tenant_of : RequestKind → List ℕ → Option ℕ) (had : List ℕ) (old mid new : Option (List ℕ)) (room : List ℕ) (there : ℕ) (lines : List HeaderSpan)
    (spans : RequestSpans) (traces : Traces) → length lines ≡ max_lines → HeadIsFound requests had old mid (take there room) lines (Whole spans)
    → IfOk r (RunsOnHead (wanted_of tenant_of (head_in (take spans.len room) lines spans)) (head_in (take spans.len room) lines spans) (drop spans.len (take there room)) mid new traces) → IfOk r (ServesNext tenant_of had old new traces)
found_next (Err fault) tenant_of had old mid new room there lines spans traces lined found runs = tt
found_next (Ok served) tenant_of had old mid new room there lines spans traces lined found runs =
    record {
      came = found.came ++ runs.came;
      taken = Consumes-trans old mid new found.came runs.came found.taken runs.taken;
      so = inl (record {
        head = found.stands.2.head;
        rest = drop spans.len (take there room) ++ runs.came;
        begins = found_begins had old mid (take there room) runs.came lines spans lined found;
        is_served = subst (λ (h : Head). IsServed (wanted_of tenant_of h) h (drop spans.len (take there room) ++ runs.came) traces served) (found_says had old mid room there lines spans found) runs.so;
      });
      ended = runs.ended;
    }

-- where none was found, it is turned away
pub none_found : (r : Result Served LinkFault) (tenant_of : RequestKind → List ℕ → Option ℕ) (had : List ℕ) (old mid : Option (List ℕ)) (has : List ℕ) (lines : List HeaderSpan) (traces : Traces)
    → length lines ≡ max_lines → HeadIsFound requests had old mid has lines Malformed → traces.Unasked → IfOk r (λ served. (served ≡ Closed) × traces.Writes (refusal_text 400))
    → IfOk r (ServesNext tenant_of had old mid traces)
none_found (Err fault) tenant_of had old mid has lines traces room found unasked refused = tt
none_found (Ok served) tenant_of had old mid has lines traces room found unasked refused =
    record {
      came = found.came;
      taken = found.taken;
      so = inr (record { none = none; unasked = unasked; written = inr refused });
      ended = λ e. absurd (not_ended (sym refused.0 ∙ e));
    }
  where
    none : (head : RequestHead) (rest : List ℕ) → BeginsWith (had ++ found.came) head rest → ⊥
    none head rest begins =
        found.stands [] (print_request head) rest (begun_is (had ++ found.came) head rest (length lines) room begins) (append-nil has ∙ found.grew ∙ begins.reads.1) begins.short

    not_ended : Closed ≡ Ended → ⊥
    not_ended e = absurd cc

-- where the stream has ended and none was found, nothing is asked or written
pub partial_found : (tenant_of : RequestKind → List ℕ → Option ℕ) (had : List ℕ) (old mid : Option (List ℕ)) (has : List ℕ) (lines : List HeaderSpan) (traces : Traces)
    → length lines ≡ max_lines → HeadIsFound requests had old mid has lines Partial → traces.Unasked → traces.Writes [] → ServesNext tenant_of had old mid traces Ended
partial_found tenant_of had old mid has lines traces room found unasked written = record {
  came = found.came;
  taken = found.taken;
  so = inr (record {
    none = λ head rest begins.
        found.stands.0 (print_request head) rest (begun_is (had ++ found.came) head rest (length lines) room begins) (found.grew ∙ begins.reads.1) begins.short;
    unasked = unasked;
    written = inl (refl, written);
  });
  ended = λ e. found.stands.1;
}

-- and what is asked for it is what the next request asks
pub found_asks : (tenant_of : RequestKind → List ℕ → Option ℕ) (had : List ℕ) (old mid new : Option (List ℕ)) (room : List ℕ) (there : ℕ) (lines : List HeaderSpan) (spans : RequestSpans)
    (Unasked : Type 0) (Asks : Asked → Type 0) → length lines ≡ max_lines → HeadIsFound requests had old mid (take there room) lines (Whole spans)
    → AsksWanted (wanted_of tenant_of (head_in (take spans.len room) lines spans)) (drop spans.len (take there room)) mid new Unasked Asks → AsksNext tenant_of had old new Unasked Asks
found_asks tenant_of had old mid new room there lines spans Unasked Asks lined found (inl none) = inl none
found_asks tenant_of had old mid new room there lines spans Unasked Asks lined found (inr once) =
    inr (by_wanted (wanted_of tenant_of (head_of found.stands.2.head)) refl
    (subst (λ (h : Head). IsAskedOnly (wanted_of tenant_of h) (drop spans.len (take there room) ++ once.0) ⊥ Asks) (found_says had old mid room there lines spans found) once.2))
  where
    by_wanted : (want : Result Wanted ℕ) → wanted_of tenant_of (head_of found.stands.2.head) ≡ want → IsAskedOnly want (drop spans.len (take there room) ++ once.0) ⊥ Asks
        → AsksIt tenant_of had old new Asks
    by_wanted (Err status) is asks = absurd asks
    by_wanted (Ok wanted) is (inl none) = absurd none
    by_wanted (Ok wanted) is (inr (body, after, frames, asks)) = record {
      came = found.came ++ once.0;
      taken = Consumes-trans old mid new found.came once.0 found.taken once.1;
      asked = asking wanted body asks.0;
      left = after;
      last = closes (head_of found.stands.2.head);
      by = record {
        head = found.stands.2.head;
        rest = drop spans.len (take there room) ++ once.0;
        begins = found_begins had old mid (take there room) once.0 lines spans lined found;
        wanted = wanted;
        wants = is;
        body = body;
        frames = frames;
        asks = refl;
        is_last = refl;
      };
      asks = asks.1;
    }

-- a request asks the same where more bytes follow
asked_more : (tenant_of : RequestKind → List ℕ → Option ℕ) (bytes more : List ℕ) (asked : Asked) (left : List ℕ) (last : Bool) → IsAskedBy tenant_of bytes asked left last
    → IsAskedBy tenant_of (bytes ++ more) asked (left ++ more) last
asked_more tenant_of bytes more asked left last h =
    record {
      head = h.head;
      rest = h.rest ++ more;
      begins = record { reads = ReadsRequest-append bytes h.head h.rest more h.begins.reads; short = h.begins.short; few = h.begins.few };
      wanted = h.wanted;
      wants = h.wants;
      body = h.body;
      frames = whole_more h.wanted.framing h.rest more h.body left h.frames;
      asks = h.asks;
      is_last = h.is_last;
    }

-- and so do many
pub all_asked_more : (tenant_of : RequestKind → List ℕ → Option ℕ) (bytes more : List ℕ) (questions : List Asked) (left : List ℕ) (last : Bool)
    → AreAskedBy tenant_of bytes questions left last → AreAskedBy tenant_of (bytes ++ more) questions (left ++ more) last
all_asked_more tenant_of bytes more [] left last h = (ap (λ (w : List ℕ). w ++ more) h.0, h.1)
all_asked_more tenant_of bytes more (asked ∷ earlier) left last h =
    (h.0 ++ more, all_asked_more tenant_of bytes more earlier h.0 false h.1, asked_more tenant_of h.0 more asked left last h.2)

-- ---- what is read only where what there was is too little

-- no head begins what there was
none_begins : (tenant_of : RequestKind → List ℕ → Option ℕ) (had : List ℕ) (lines : ℕ) → lines ≡ max_lines → BeginsNot requests had lines → AreTooFew tenant_of had
none_begins tenant_of had lines room none =
    inl (λ head rest begins. none (print_request head) rest (begun_is had head rest lines room begins) begins.reads.1 begins.short)

pub none_there : {D : Type 0} (old new : D) (tenant_of : RequestKind → List ℕ → Option ℕ) (had has : List ℕ) (lines : ℕ) → lines ≡ max_lines
    → ((new ≡ old) × (has ≡ had)) ⊎ BeginsNot requests had lines → (new ≡ old) ⊎ AreTooFew tenant_of had
none_there old new tenant_of had has lines room (inl same) = inl same.0
none_there old new tenant_of had has lines room (inr none) = inr (none_begins tenant_of had lines room none)

-- or one does, and the body behind it is cut
pub cut_there : {D : Type 0} (old mid new : D) (tenant_of : RequestKind → List ℕ → Option ℕ) (had : List ℕ) (before after : Option (List ℕ)) (room : List ℕ) (there : ℕ) (lines : List HeaderSpan)
    (spans : RequestSpans) → length lines ≡ max_lines → HeadIsFound requests had before after (take there room) lines (Whole spans)
    → ((mid ≡ old) × (take there room ≡ had)) ⊎ BeginsNot requests had (length lines)
    → (new ≡ mid) ⊎ IsCutBehind (wanted_of tenant_of (head_in (take spans.len room) lines spans)) (drop spans.len (take there room)) → (new ≡ old) ⊎ AreTooFew tenant_of had
cut_there old mid new tenant_of had before after room there lines spans lined found (inr none) read = inr (none_begins tenant_of had (length lines) lined none)
cut_there old mid new tenant_of had before after room there lines spans lined found (inl is) (inl unread) = inl (unread ∙ is.0)
cut_there old mid new tenant_of had before after room there lines spans lined found (inl is) (inr cut) =
    let head = found.stands.2.head in
    let has : List ℕ = take there room in
    let rest : List ℕ = drop spans.len has in
    let here : BeginsWith (has ++ []) head (rest ++ []) = begins_here has [] lines spans found.stands.0 found.stands.1 lined found.stands.2 in
    let begins : BeginsWith has head rest =
    subst (λ (w : List ℕ). BeginsWith has head w) (append-nil rest) (subst (λ (w : List ℕ). BeginsWith w head (rest ++ [])) (append-nil has) here) in
    inr (inr (
      head,
      rest,
      subst (λ (w : List ℕ). BeginsWith w head rest) is.1 begins,
      subst (λ (h : Head). IsCutBehind (wanted_of tenant_of h) rest) (found_says had before after room there lines spans found) cut,
    ))
