-- The requests of a connection, one after another.
use Rattle.std.proofs.Common.{ℕ, ◌≡◌, ◌⊎◌, inl, inr, ◌++◌, ◌∷◌, [], List, Bool, true, false, Option, Some, Result, Ok, Err, subst, sym, refl, ◌∙◌}
use Rattle.std.proofs.KnownBytes.{Consumes-nil, Consumes-trans}
use Rattle.std.specs.Io.KnownBytes.{Consumes, IsAtEnd}
use Rattle.one_list.specs.declared.run.Run.{Ghosts}
use Rattle.http_link.specs.declared.request.RequestKind.{RequestKind}
use Rattle.http_link.specs.Connections.{AreAskedBy, AsksNext, Awaits, HeadServed, IsAskedBy, IsConnectionOver, IsRequestRefused, IsTurnedAway, ServesNext, TurnedAway}
use Rattle.http_link.specs.Bodies.{Body, IsBody, bad, cut, whole}
use Rattle.http_link.specs.Heads.{head_of}
use Rattle.http_link.specs.Requests.{Wanted, closes, wanted_of}
use Rattle.http_link.specs.Serving.{Asked, IsServed, ServesBody, Traces, WritesNothingOr400, asking, kept_unless}
use Rattle.http_link.specs.declared.serve.Served.{Served}
use Rattle.http_link.specs.declared.serve.Served.TheVariants.{Closed, Ended, Kept}
use Rattle.http_link.specs.declared.streams.LinkFault.{LinkFault}
use Rattle.service.specs.Answering.{HasAnswered, HasAnsweredAll, HasEnded, HasHeard, tenants_of}
use Rattle.service.specs.declared.worker.desk.Desk.{Desk}
use Rattle.service.specs.declared.worker.Over.{Over}
use Rattle.service.specs.declared.worker.Over.TheVariants as over
use Rattle.service.specs.declared.office.Office.{Office}

-- ---- one request

-- one was asked, and what follows it is left
pub record OneAsked (tenant_of : RequestKind → List ℕ → Option ℕ) (bytes : List ℕ) (traces : Traces) (served : Served) : Type 0 where
  pub asked : Asked
  pub left : List ℕ
  pub last : Bool
  pub by : IsAskedBy tenant_of bytes asked left last
  pub asks : traces.Asks asked
  pub kept : traces.left ≡ Some left
  pub so : served ≡ kept_unless last

-- none was asked: it was turned away, or no more is left
abbrev pub NoneAsked : (RequestKind → List ℕ → Option ℕ) → List ℕ → Traces → Served → Option (List ℕ) → Type 0
NoneAsked tenant_of bytes traces served known =
    traces.Unasked × (((served ≡ Closed) × IsTurnedAway tenant_of bytes) ⊎ ((served ≡ Ended) × IsAtEnd known))

-- what serving the next request comes to
pub record Stepped (tenant_of : RequestKind → List ℕ → Option ℕ) (had : List ℕ) (old new : Option (List ℕ)) (traces : Traces) (served : Served) : Type 0 where
  pub came : List ℕ
  pub taken : Consumes old new came
  pub step : OneAsked tenant_of (had ++ came) traces served ⊎ NoneAsked tenant_of (had ++ came) traces served new

-- a head within the limits
stepped_head : (tenant_of : RequestKind → List ℕ → Option ℕ) (bytes : List ℕ) (known : Option (List ℕ)) (traces : Traces) (served : Served) → (served ≡ Ended → IsAtEnd known)
    → HeadServed tenant_of bytes traces served → OneAsked tenant_of bytes traces served ⊎ NoneAsked tenant_of bytes traces served known
stepped_head tenant_of bytes known traces served ended h = by_wanted (wanted_of tenant_of (head_of h.head)) refl h.is_served
  where
    by_wanted : (want : Result Wanted ℕ) → wanted_of tenant_of (head_of h.head) ≡ want → IsServed want (head_of h.head) h.rest traces served
        → OneAsked tenant_of bytes traces served ⊎ NoneAsked tenant_of bytes traces served known
    by_wanted (Err status) is so = inr (so.unasked, inl (so.closed, inr (h.head, h.rest, h.begins, subst (λ (w : Result Wanted ℕ). IsRequestRefused w h.rest) (sym is) tt)))
    by_wanted (Ok wanted) is so = by_body so.0 so.1 so.2
      where
        by_body : (body : Body) → IsBody wanted.framing h.rest body → ServesBody wanted (head_of h.head) traces served body → OneAsked tenant_of bytes traces served ⊎ NoneAsked tenant_of bytes traces served known
        by_body cut frames so = inr (so.unasked, inr (so.ended, ended so.ended))
        by_body (bad fault) frames so =
            inr (so.unasked, inl (so.closed, inr (h.head, h.rest, h.begins, subst (λ (w : Result Wanted ℕ). IsRequestRefused w h.rest) (sym is) (fault, frames))))
        by_body (whole body after) frames so =
            inl (record {
              asked = asking wanted body so.status;
              left = after;
              last = closes (head_of h.head);
              by = record {
                head = h.head;
                rest = h.rest;
                begins = h.begins;
                wanted = wanted;
                wants = is;
                body = body;
                frames = frames;
                asks = refl;
                is_last = refl;
              };
              asks = so.asked;
              kept = so.left;
              so = so.open_or_not;
            })

-- and none within them
stepped_away : (tenant_of : RequestKind → List ℕ → Option ℕ) (bytes : List ℕ) (known : Option (List ℕ)) (traces : Traces) (served : Served) → (served ≡ Ended → IsAtEnd known)
    → TurnedAway bytes traces served → NoneAsked tenant_of bytes traces served known
stepped_away tenant_of bytes known traces served ended h = (h.unasked, by_answer h.written)
  where
    by_answer : WritesNothingOr400 traces.Writes served → ((served ≡ Closed) × IsTurnedAway tenant_of bytes) ⊎ ((served ≡ Ended) × IsAtEnd known)
    by_answer (inl over) = inr (over.0, ended over.0)
    by_answer (inr refused) = inl (refused.0, inl h.none)

pub stepped : (tenant_of : RequestKind → List ℕ → Option ℕ) (had : List ℕ) (old new : Option (List ℕ)) (traces : Traces) (served : Served) → ServesNext tenant_of had old new traces served
    → Stepped tenant_of had old new traces served
stepped tenant_of had old new traces served h = record { came = h.came; taken = h.taken; step = by_head h.so }
  where
    by_head : HeadServed tenant_of (had ++ h.came) traces served ⊎ TurnedAway (had ++ h.came) traces served
        → OneAsked tenant_of (had ++ h.came) traces served ⊎ NoneAsked tenant_of (had ++ h.came) traces served new
    by_head (inl head) = stepped_head tenant_of (had ++ h.came) new traces served h.ended head
    by_head (inr away) = inr (stepped_away tenant_of (had ++ h.came) new traces served h.ended away)

-- ---- many

-- more bytes may come
abbrev pub MoreMayCome : Type 0
MoreMayCome = (tenant_of : RequestKind → List ℕ → Option ℕ) (bytes more : List ℕ) (questions : List Asked) (left : List ℕ) (last : Bool)
    → AreAskedBy tenant_of bytes questions left last → AreAskedBy tenant_of (bytes ++ more) questions (left ++ more) last

-- what was heard so far, of which that is left
pub record Talk {J : Type 0} {r : Ghosts J} (Gives : ℕ → Type 0) (office : Office J r) (before : Desk J r) (old new : Option (List ℕ)) (left : List ℕ) (after : Desk J r)
    : Type 0 where
  pub came : List ℕ
  pub questions : List Asked
  pub asked : AreAskedBy (tenants_of office) came questions left false
  pub answered : HasAnsweredAll Gives office before questions after
  pub taken : Consumes old new came

pub talk_begins : {J : Type 0} {r : Ghosts J} (Gives : ℕ → Type 0) (office : Office J r) (desk : Desk J r) (known : Option (List ℕ)) (left : List ℕ) → left ≡ []
    → Talk Gives office desk known known left desk
talk_begins Gives office desk known left none =
    record { came = []; questions = []; asked = (none, refl); answered = refl; taken = Consumes-nil known }

-- more bytes come
talk_grows : {J : Type 0} {r : Ghosts J} (Gives : ℕ → Type 0) (office : Office J r) (before : Desk J r) (old mid new : Option (List ℕ)) (left more : List ℕ) (after : Desk J r)
    → MoreMayCome → Talk Gives office before old mid left after → Consumes mid new more → Talk Gives office before old new (left ++ more) after
talk_grows Gives office before old mid new left more after law t took = record {
  came = t.came ++ more;
  questions = t.questions;
  asked = law (tenants_of office) t.came more t.questions left false t.asked;
  answered = t.answered;
  taken = Consumes-trans old mid new t.came more t.taken took;
}

-- a wait goes on
pub talk_awaits : {J : Type 0} {r : Ghosts J} (Gives : ℕ → Type 0) (office : Office J r) (before : Desk J r) (old mid new : Option (List ℕ)) (left now : List ℕ) (more : Bool) (after : Desk J r)
    → MoreMayCome → Talk Gives office before old mid left after → Awaits left mid new now more → Talk Gives office before old new now after
talk_awaits Gives office before old mid new left now more after law t w =
    subst (λ (rest : List ℕ). Talk Gives office before old new rest after) (sym w.grew) (talk_grows Gives office before old mid new left w.came after law t w.taken)

-- a connection ends in that way, and no request closed it
talk_stops : {J : Type 0} {r : Ghosts J} (Gives : ℕ → Type 0) (office : Office J r) (before : Desk J r) (old new : Option (List ℕ)) (left : List ℕ) (after : Desk J r) (way : Over)
    → Talk Gives office before old new left after → HasEnded (tenants_of office) way left false new → HasHeard Gives office before old new (Ok way) after
talk_stops Gives office before old new left after way t ended = record {
  connection = record { came = t.came; questions = t.questions };
  left = left;
  last = false;
  asked = t.asked;
  answered = t.answered;
  taken = t.taken;
  over = ended;
}

-- where no more is left
pub talk_ends : {J : Type 0} {r : Ghosts J} (Gives : ℕ → Type 0) (office : Office J r) (before : Desk J r) (old new : Option (List ℕ)) (left : List ℕ) (after : Desk J r)
    → Talk Gives office before old new left after → IsAtEnd new → HasHeard Gives office before old new (Ok over.Ended) after
talk_ends Gives office before old new left after t end = talk_stops Gives office before old new left after over.Ended t end

-- or where it gives way, with nothing left
pub talk_yields : {J : Type 0} {r : Ghosts J} (Gives : ℕ → Type 0) (office : Office J r) (before : Desk J r) (old new : Option (List ℕ)) (left : List ℕ) (after : Desk J r)
    → Talk Gives office before old new left after → left ≡ [] → HasHeard Gives office before old new (Ok over.Yielded) after
talk_yields Gives office before old new left after t none = talk_stops Gives office before old new left after over.Yielded t none

-- or where a device fails
pub talk_fails : {J : Type 0} {r : Ghosts J} (Gives : ℕ → Type 0) (office : Office J r) (before : Desk J r) (old mid new : Option (List ℕ)) (left : List ℕ) (after : Desk J r) (fault : LinkFault)
    → Talk Gives office before old mid left after → HasHeard Gives office before old new (Err fault) after
talk_fails Gives office before old mid new left after fault t = record {
  connection = record { came = t.came; questions = t.questions };
  left = left;
  last = false;
  asked = t.asked;
  answered = t.answered;
  taken = tt;
  over = tt;
}

-- a request more was asked
one_more : {J : Type 0} {r : Ghosts J} (Gives : ℕ → Type 0) (office : Office J r) (before : Desk J r) (old mid new : Option (List ℕ)) (had came left : List ℕ) (between after : Desk J r) (asked : Asked) (last : Bool)
    → MoreMayCome → (t : Talk Gives office before old mid had between) → IsAskedBy (tenants_of office) (had ++ came) asked left last → HasAnswered Gives office between asked after
    → AreAskedBy (tenants_of office) (t.came ++ came) (asked ∷ t.questions) left last × HasAnsweredAll Gives office before (asked ∷ t.questions) after
one_more Gives office before old mid new had came left between after asked last law t by answered =
    ((had ++ came, law (tenants_of office) t.came came t.questions had false t.asked, by), (between, t.answered, answered))

-- a connection that is kept goes on
pub talk_kept : {J : Type 0} {r : Ghosts J} (Gives : ℕ → Type 0) (office : Office J r) (before : Desk J r) (old mid new : Option (List ℕ)) (had now : List ℕ) (between after : Desk J r)
    (traces : Traces) → MoreMayCome → Talk Gives office before old mid had between → ServesNext (tenants_of office) had mid new traces Kept → traces.left ≡ Some now
    → ((asked : Asked) → traces.Asks asked → HasAnswered Gives office between asked after) → Talk Gives office before old new now after
talk_kept {J} {r} Gives office before old mid new had now between after traces law t serves left ask = by_step s.step
  where
    s : Stepped (tenants_of office) had mid new traces Kept
    s = stepped (tenants_of office) had mid new traces Kept serves

    open_still : (last : Bool) → Kept ≡ kept_unless last → last ≡ false
    open_still true e = absurd (apart e)
      where
        apart : Kept ≡ Closed → ⊥
        apart e = absurd cc
    open_still false e = refl

    same : (one other : List ℕ) → Some one ≡ Some other → one ≡ other
    same one other e = cc

    by_step : OneAsked (tenants_of office) (had ++ s.came) traces Kept ⊎ NoneAsked (tenants_of office) (had ++ s.came) traces Kept new → Talk Gives office before old new now after
    by_step (inl one) =
        let more = one_more Gives office before old mid new had s.came one.left between after one.asked one.last law t one.by (ask one.asked one.asks) in
        let is : one.left ≡ now = same one.left now (sym one.kept ∙ left) in
        record {
          came = t.came ++ s.came;
          questions = one.asked ∷ t.questions;
          asked = subst (λ (rest : List ℕ). AreAskedBy (tenants_of office) (t.came ++ s.came) (one.asked ∷ t.questions) rest false) is
              (subst (λ (last : Bool). AreAskedBy (tenants_of office) (t.came ++ s.came) (one.asked ∷ t.questions) one.left last) (open_still one.last one.so) more.0);
          answered = more.1;
          taken = Consumes-trans old mid new t.came s.came t.taken s.taken;
        }
    by_step (inr none) = absurd (no_end none.1)
      where
        no_end : ((Kept ≡ Closed) × IsTurnedAway (tenants_of office) (had ++ s.came)) ⊎ ((Kept ≡ Ended) × IsAtEnd new) → ⊥
        no_end (inl (e, away)) = absurd cc
        no_end (inr (e, end)) = absurd cc

-- a connection that is closed, or has ended, is over
pub talk_over : {J : Type 0} {r : Ghosts J} (Gives : ℕ → Type 0) (office : Office J r) (before : Desk J r) (old mid new : Option (List ℕ)) (had : List ℕ) (between after : Desk J r)
    (traces : Traces) (served : Served) (ends : Over) → (served ≡ Kept → ⊥)
    → ((left : List ℕ) (last : Bool) → IsConnectionOver (tenants_of office) served left last new → HasEnded (tenants_of office) ends left last new)
    → MoreMayCome → Talk Gives office before old mid had between → ServesNext (tenants_of office) had mid new traces served
    → (traces.Unasked → after ≡ between) → ((asked : Asked) → traces.Asks asked → HasAnswered Gives office between asked after)
    → HasHeard Gives office before old new (Ok ends) after
talk_over {J} {r} Gives office before old mid new had between after traces served ends not_kept so law t serves unasked ask = by_step s.step
  where
    s : Stepped (tenants_of office) had mid new traces served
    s = stepped (tenants_of office) had mid new traces served serves

    taken : Consumes old new (t.came ++ s.came)
    taken = Consumes-trans old mid new t.came s.came t.taken s.taken

    closed_by : (last : Bool) (left : List ℕ) → served ≡ kept_unless last → IsConnectionOver (tenants_of office) served left last new
    closed_by true left e = subst (λ (w : Served). IsConnectionOver (tenants_of office) w left true new) (sym e) (inl refl)
    closed_by false left e = absurd (not_kept e)

    over_by : ((served ≡ Closed) × IsTurnedAway (tenants_of office) (had ++ s.came)) ⊎ ((served ≡ Ended) × IsAtEnd new)
        → IsConnectionOver (tenants_of office) served (had ++ s.came) false new
    over_by (inl (e, away)) = subst (λ (w : Served). IsConnectionOver (tenants_of office) w (had ++ s.came) false new) (sym e) (inr away)
    over_by (inr (e, end)) = subst (λ (w : Served). IsConnectionOver (tenants_of office) w (had ++ s.came) false new) (sym e) end

    by_step : OneAsked (tenants_of office) (had ++ s.came) traces served ⊎ NoneAsked (tenants_of office) (had ++ s.came) traces served new
        → HasHeard Gives office before old new (Ok ends) after
    by_step (inl one) =
        let more = one_more Gives office before old mid new had s.came one.left between after one.asked one.last law t one.by (ask one.asked one.asks) in
        record {
          connection = record { came = t.came ++ s.came; questions = one.asked ∷ t.questions };
          left = one.left;
          last = one.last;
          asked = more.0;
          answered = more.1;
          taken = taken;
          over = so one.left one.last (closed_by one.last one.left one.so);
        }
    by_step (inr none) = record {
      connection = record { came = t.came ++ s.came; questions = t.questions };
      left = had ++ s.came;
      last = false;
      asked = law (tenants_of office) t.came s.came t.questions had false t.asked;
      answered = subst (λ (desk : Desk J r). HasAnsweredAll Gives office before t.questions desk) (sym (unasked none.0)) t.answered;
      taken = taken;
      over = so (had ++ s.came) false (over_by none.1);
    }

-- a device failed while the next request was served
pub talk_faults : {J : Type 0} {r : Ghosts J} (Gives : ℕ → Type 0) (office : Office J r) (before : Desk J r) (old mid new : Option (List ℕ)) (had : List ℕ) (between after : Desk J r)
    (Unasked : Type 0) (Asks : Asked → Type 0) (fault : LinkFault) → MoreMayCome → Talk Gives office before old mid had between → AsksNext (tenants_of office) had mid new Unasked Asks
    → (Unasked → after ≡ between) → ((asked : Asked) → Asks asked → HasAnswered Gives office between asked after)
    → HasHeard Gives office before old new (Err fault) after
talk_faults {J} {r} Gives office before old mid new had between after Unasked Asks fault law t (inl none) unasked ask =
    talk_fails Gives office before old mid new had after fault
    (subst (λ (desk : Desk J r). Talk Gives office before old mid had desk) (sym (unasked none)) t)
talk_faults {J} {r} Gives office before old mid new had between after Unasked Asks fault law t (inr it) unasked ask =
    let more = one_more Gives office before old mid new had it.came it.left between after it.asked it.last law t it.by (ask it.asked it.asks) in
    record {
      connection = record { came = t.came ++ it.came; questions = it.asked ∷ t.questions };
      left = it.left;
      last = it.last;
      asked = more.0;
      answered = more.1;
      taken = tt;
      over = tt;
    }

-- ---- the same, told otherwise

pub either : {A B C : Type 0} → A ⊎ B → (A → C) → (B → C) → C
either (inl a) f g = f a
either (inr b) f g = g b

pub talk_at : {J : Type 0} {r : Ghosts J} (Gives : ℕ → Type 0) (office : Office J r) (before : Desk J r) (old mid other : Option (List ℕ)) (left : List ℕ) (after : Desk J r)
    → other ≡ mid → Talk Gives office before old mid left after → Talk Gives office before old other left after
talk_at Gives office before old mid other left after same t = subst (λ (known : Option (List ℕ)). Talk Gives office before old known left after) (sym same) t

pub serves_here : {J : Type 0} {r : Ghosts J} (one other : Office J r) (had : List ℕ) (old new : Option (List ℕ)) (traces : Traces) (served : Served) → one ≡ other
    → ServesNext (tenants_of one) had old new traces served → ServesNext (tenants_of other) had old new traces served
serves_here {J} {r} one other had old new traces served same h =
    subst (λ (office : Office J r). ServesNext (tenants_of office) had old new traces served) same h

pub asks_here : {J : Type 0} {r : Ghosts J} (one other : Office J r) (had : List ℕ) (old new : Option (List ℕ)) (Unasked : Type 0) (Asks : Asked → Type 0) → one ≡ other
    → AsksNext (tenants_of one) had old new Unasked Asks → AsksNext (tenants_of other) had old new Unasked Asks
asks_here {J} {r} one other had old new Unasked Asks same h =
    subst (λ (office : Office J r). AsksNext (tenants_of office) had old new Unasked Asks) same h

pub answered_here : {J C : Type 0} {r : Ghosts J} (gives : C → ℕ → Type 0) (k clock : C) (one other : Office J r) (before : Desk J r) (asked : Asked) (after : Desk J r)
    → k ≡ clock → one ≡ other → HasAnswered (gives k) one before asked after → HasAnswered (gives clock) other before asked after
answered_here {J} {C} {r} gives k clock one other before asked after same_clock same_office h =
    subst (λ (c : C). HasAnswered (gives c) other before asked after) same_clock (subst (λ (office : Office J r). HasAnswered (gives k) office before asked after) same_office h)

pub closed_not_kept : Closed ≡ Kept → ⊥
closed_not_kept e = absurd cc

pub ended_not_kept : Ended ≡ Kept → ⊥
ended_not_kept e = absurd cc
