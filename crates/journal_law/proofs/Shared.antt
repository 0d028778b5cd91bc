-- The log of a journal that threads share is written, line by line.
use Rattle.std.proofs.Common.{◌≡◌, ◌+◌, ℕ, zero, suc, List, [], ◌∷◌, ◌++◌, length, drop, map, append_assoc, append-nil, refl, sym, ap, subst, ◌∙◌, inl, inr, arith}
use Rattle.std.specs.List.{slice_get}
use Rattle.std.specs.Prelude.{All, Some, option_map, slice_set, take}
use Rattle.std.proofs.lemmas.List.{length-append, map-append}
use Rattle.std.proofs.lemmas.List.Elements.{All-head, All-tail}
use Rattle.std.proofs.lemmas.Option.{same_Some, slice_get-map}
use Rattle.tenant_core.specs.State.{State, opened}
use Rattle.tenant_core.specs.declared.journal.Entry.{Entry}
use Rattle.tenant_core.specs.declared.journal.Entry.TheVariants.{Decide, Answer, Tick, Change, Roll}
use Rattle.tenant_core.specs.declared.journal.Record.{Record}
use Rattle.tenant_core.specs.declared.opening.Opening.{Opening}
use Rattle.line_log.specs.Log.{all_of, lines, recovered}
use Rattle.sha2.specs.Sha256.{sha256}
use Rattle.book_recovery.specs.Recovery as recovery
use Rattle.book_log.specs.Base.{states_of}
use Rattle.book_log.specs.Laws.{LineLaws}
use Rattle.book_log.specs.Lines.{log_line, place_of}
use Rattle.book_log.specs.Sums.{sum_line, summed}
use Rattle.book_log.specs.Written.{AreWritten, IsLoggable, IsPlace, IsTextWritten}
use Rattle.book_log.specs.declared.base.TenantStart.{TenantStart}
use Rattle.book_log.specs.declared.line.LinePlace.{LinePlace}
use Rattle.book_journal.specs.Writer.{WriterState}
use Rattle.book_journal.specs.Written.{commit_text, sum_after_commit}
use Rattle.one_list.specs.History.{IsNextStep, LeadTo, after_entry, after_record}
use Rattle.one_list.specs.declared.step.Done.{Done}
use Rattle.books_shared.specs.Begun.{AreNumbered}
use Rattle.journal_shared.specs.Fronts.{AreLines, Front, IsLined, first_front, line_place, lines_of}
use Rattle.journal_shared.specs.Kept.{AreCommits, AreLinesOfAll, AreWhole, IsWritten, first_fronts, records_after, sum_after}
use Rattle.journal_law.specs.Earlier.{AreEarlier, LeavesFronts}
use Rattle.journal_law.specs.Kept.{AreLed}
use Rattle.journal_law.proofs.Following.{are_written}
use Rattle.journal_law.proofs.Fronts.{text_front}
use Rattle.journal_law.proofs.NewLines.{get_set, line_there, lines-append, set_again, set_own}
use Rattle.journal_law.proofs.Sums.{all_more, last_sum, last_sum_more, no_lines, summed_more, writes}

-- ---- the steps of a tenant

-- the state after a record is told alike by histories and by recovery
same_after : (e : Entry) (s : State) (r : Record) → after_entry e s r ≡ recovery.after_entry e s r
same_after (Decide d) s r = refl
same_after (Answer a) s r = refl
same_after (Tick t) s r = refl
same_after (Change c) s r = refl
same_after (Roll x) s r = refl

-- it is the same tenant's
tenant_after : (e : Entry) (s : State) (r : Record) → (after_entry e s r).opening.tenant ≡ s.opening.tenant
tenant_after (Decide d) s r = refl
tenant_after (Answer a) s r = refl
tenant_after (Tick t) s r = refl
tenant_after (Change c) s r = refl
tenant_after (Roll x) s r = refl

lead_split : (xs ys : List Done) (s t : State) → LeadTo s (xs ++ ys) t → (m : State) × LeadTo s xs m × LeadTo m ys t
lead_split [] ys s t leads = (s, refl, leads)
lead_split (x ∷ xs) ys s t leads =
    let rest = lead_split xs ys (after_record s x.made) t leads.1 in
    (rest.0, (leads.0, rest.1), rest.2)

lead_once : (xs : List Done) (s t u : State) → LeadTo s xs t → LeadTo s xs u → t ≡ u
lead_once [] s t u one other = sym one ∙ other
lead_once (x ∷ xs) s t u one other = lead_once xs (after_record s x.made) t u one.1 other.1

-- the steps that a text has lines for lead from the one front to the other
lines_lead : (openings : List Opening) (f g : Front) (text : List ℕ) → (are : AreLines openings f text g) → LeadTo f.state are.more g.state
lines_lead openings f g text are =
    let one = are.before_is in
    let other = are.after_is in
    let first : one.first ≡ other.first
    = same_Some one.first other.first (sym one.opens ∙ (ap (slice_get openings) (sym are.tenant) ∙ other.opens)) in
    let whole : LeadTo (opened one.first) (f.steps ++ are.more) g.state
    = subst (λ (o : Opening). LeadTo (opened o) (f.steps ++ are.more) g.state) (sym first)
    (subst (λ (steps : List Done). LeadTo (opened other.first) steps g.state) are.goes_on other.history) in
    let parts = lead_split f.steps are.more (opened one.first) g.state whole in
    let same = lead_once f.steps (opened one.first) parts.0 f.state parts.1 one.history in
    subst (λ (s : State). LeadTo s are.more g.state) same parts.2

-- ---- lines

-- a front with a step more
abbrev front_after : Front → Done → Front
front_after f e = record { steps = f.steps ++ e ∷ []; state = after_record f.state e.made }

-- the line is that of the next step of one tenant's front
record IsStepped (line : List ℕ) (before after : List Front) : Type 0 where
  tenant : ℕ
  front : Front
  its_own : slice_get before tenant ≡ Some front
  number : front.state.opening.tenant ≡ tenant
  step : Done
  next : IsNextStep front.state step
  lined : IsLined tenant step
  is_line : line ++ 10 ∷ [] ≡ log_line (place_of front.state) step.made
  left : after ≡ slice_set before tenant (front_after front step)

-- so is each line, one after another
abbrev AreStepped : List (List ℕ) → List Front → List Front → Type 0
AreStepped [] before after = before ≡ after
AreStepped (line ∷ ls) before after = (between : List Front) × IsStepped line before between × AreStepped ls between after

stepped_both : (xs ys : List (List ℕ)) (before between after : List Front) → AreStepped xs before between → AreStepped ys between after
    → AreStepped (xs ++ ys) before after
stepped_both [] ys before between after same more = subst (λ (fs : List Front). AreStepped ys fs after) (sym same) more
stepped_both (x ∷ xs) ys before between after first more = (first.0, first.1, stepped_both xs ys first.0 between after first.2 more)

-- the first of the lines, and the others
stepped_parts : (k : ℕ) (ls : List (List ℕ)) (before after : List Front) → AreStepped ls before after
    → (between : List Front) × AreStepped (take k ls) before between × AreStepped (drop k ls) between after
stepped_parts zero ls before after all = (before, refl, all)
stepped_parts (suc k) [] before after all = (before, refl, all)
stepped_parts (suc k) (l ∷ ls) before after all =
    let rest = stepped_parts k ls all.0 after all.2 in
    (rest.0, (all.0, all.1, rest.1), rest.2)

-- ---- states

-- the states of fronts
abbrev states_in : List Front → List State
states_in fronts = map (λ f. f.state) fronts

states_set : (fronts : List Front) (t : ℕ) (f : Front) → states_in (slice_set fronts t f) ≡ slice_set (states_in fronts) t f.state
states_set [] t f = refl
states_set (g ∷ fronts) zero f = refl
states_set (g ∷ fronts) (suc t) f = ap (λ (bs : List State). g.state ∷ bs) (states_set fronts t f)

step_place : (t : ℕ) (e : Done) (s : State) → s.opening.tenant ≡ t → IsNextStep s e → place_of s ≡ line_place t e
step_place t e s number next = λ i. record { tenant = number i; period = sym next.period i; number = sym next.number i }

-- lines of steps lead the states on
stepped_led : (ls : List (List ℕ)) (before after : List Front) → AreStepped ls before after → AreLed IsLoggable ls (states_in before) (states_in after)
stepped_led [] before after same = ap states_in same
stepped_led (l ∷ ls) before after (between, one, rest) =
    let e : Done = one.step in
    let s : State = one.front.state in (
      states_in between,
      record {
        tenant = one.tenant;
        state = s;
        its_own = slice_get-map (λ (f : Front). f.state) before one.tenant ∙ ap (option_map (λ (f : Front). f.state)) one.its_own;
        number = one.number;
        place = subst IsPlace (sym (step_place one.tenant e s one.number one.next)) one.lined.place;
        next = e.made;
        fits = one.lined.loggable;
        leads = one.next.made;
        is_line = one.is_line;
        left = ap states_in one.left ∙ states_set before one.tenant (front_after one.front e)
            ∙ ap (slice_set (states_in before) one.tenant) (same_after e.made.entry s e.made);
      },
      stepped_led ls between after rest,
    )

-- ---- earlier fronts

earlier_same : (fronts : List Front) → AreEarlier fronts fronts
earlier_same [] = tt
earlier_same (f ∷ fronts) = (record { rest = []; steps = sym (append-nil f.steps); leads = refl }, earlier_same fronts)

lead_both : (xs ys : List Done) (s t u : State) → LeadTo s xs t → LeadTo t ys u → LeadTo s (xs ++ ys) u
lead_both [] ys s t u same more = subst (λ (x : State). LeadTo x ys u) (sym same) more
lead_both (x ∷ xs) ys s t u first more = (first.0, lead_both xs ys (after_record s x.made) t u first.1 more)

earlier_then : (fs gs hs : List Front) → AreEarlier fs gs → AreEarlier gs hs → AreEarlier fs hs
earlier_then [] [] [] one other = tt
earlier_then [] [] (h ∷ hs) one other = absurd other
earlier_then [] (g ∷ gs) hs one other = absurd one
earlier_then (f ∷ fs) [] hs one other = absurd one
earlier_then (f ∷ fs) (g ∷ gs) [] one other = absurd other
earlier_then (f ∷ fs) (g ∷ gs) (h ∷ hs) one other = (
  record {
    rest = one.0.rest ++ other.0.rest;
    steps = other.0.steps ∙ (ap (λ (xs : List Done). xs ++ other.0.rest) one.0.steps ∙ append_assoc f.steps one.0.rest other.0.rest);
    leads = lead_both one.0.rest other.0.rest f.state g.state h.state one.0.leads other.0.leads;
  },
  earlier_then fs gs hs one.1 other.1,
)

earlier_set : (fronts : List Front) (t : ℕ) (f : Front) (e : Done) → slice_get fronts t ≡ Some f → IsNextStep f.state e
    → AreEarlier fronts (slice_set fronts t (front_after f e))
earlier_set [] t f e own next = tt
earlier_set (g ∷ fronts) zero f e own next =
    let same : g ≡ f = same_Some g f own in (
      record {
        rest = e ∷ [];
        steps = ap (λ (x : Front). x.steps ++ e ∷ []) (sym same);
        leads = subst (λ (x : Front). LeadTo x.state (e ∷ []) (after_record f.state e.made)) (sym same) (next, refl);
      },
      earlier_same fronts,
    )
earlier_set (g ∷ fronts) (suc t) f e own next =
    (record { rest = []; steps = sym (append-nil g.steps); leads = refl }, earlier_set fronts t f e own next)

stepped_earlier : (ls : List (List ℕ)) (before after : List Front) → AreStepped ls before after → AreEarlier before after
stepped_earlier [] before after same = subst (AreEarlier before) same (earlier_same before)
stepped_earlier (l ∷ ls) before after (between, one, rest) =
    earlier_then before between after
    (subst (AreEarlier before) (sym one.left) (earlier_set before one.tenant one.front one.step one.its_own one.next))
    (stepped_earlier ls between after rest)

-- ---- texts

-- the text is lines of steps, which lead from fronts to others
record Stepped (text : List ℕ) (before after : List Front) : Type 0 where
  each : List (List ℕ)
  is : text ≡ lines each
  stepped : AreStepped each before after

stepped_none : (fronts : List Front) → Stepped [] fronts fronts
stepped_none fronts = record { each = []; is = refl; stepped = refl }

stepped_then : (a b : List ℕ) (before between after : List Front) → Stepped a before between → Stepped b between after → Stepped (a ++ b) before after
stepped_then a b before between after one other = record {
  each = one.each ++ other.each;
  is = ap (λ (l : List ℕ). l ++ b) one.is ∙ (ap (λ (l : List ℕ). lines one.each ++ l) other.is ∙ sym (lines-append one.each other.each));
  stepped = stepped_both one.each other.each before between after one.stepped other.stepped;
}

front_is : (f : Front) (steps : List Done) (s : State) → steps ≡ f.steps → s ≡ f.state → record { steps = steps; state = s } ≡ f
front_is f steps s same_steps same_state = λ i. record { steps = same_steps i; state = same_state i }

-- the lines of a tenant's next steps
steps_stepped : (t : ℕ) (es : List Done) (f : Front) (u : State) (fronts : List Front) → slice_get fronts t ≡ Some f → f.state.opening.tenant ≡ t
    → LeadTo f.state es u → All (IsLined t) es → Stepped (lines_of t es) fronts (slice_set fronts t (record { steps = f.steps ++ es; state = u }))
steps_stepped t [] f u fronts own number leads lined =
    let same : f ≡ record { steps = f.steps ++ []; state = u } = sym (front_is f (f.steps ++ []) u (append-nil f.steps) (sym leads)) in
    record { each = []; is = refl; stepped = sym (set_own fronts t f own) ∙ ap (slice_set fronts t) same }
steps_stepped t (e ∷ es) f u fronts own number leads lined =
    let next : Front = front_after f e in
    let place = step_place t e f.state number leads.0 in
    let line = line_there (line_place t e) e.made in
    let between : List Front = slice_set fronts t next in
    let one : IsStepped line.0 fronts between = record {
      tenant = t;
      front = f;
      its_own = own;
      number = number;
      step = e;
      next = leads.0;
      lined = All-head (IsLined t) e es lined;
      is_line = line.1 ∙ ap (λ (p : LinePlace). log_line p e.made) (sym place);
      left = refl;
    } in
    let first : Stepped (log_line (line_place t e) e.made) fronts between = record {
      each = line.0 ∷ [];
      is = sym line.1;
      stepped = (between, one, refl);
    } in
    let rest = steps_stepped t es next u between (get_set fronts t f next own) (tenant_after e.made.entry f.state e.made ∙ number) leads.1
    (All-tail (IsLined t) e es lined) in
    let last : record { steps = (f.steps ++ e ∷ []) ++ es; state = u } ≡ record { steps = f.steps ++ e ∷ es; state = u }
    = front_is (record { steps = f.steps ++ e ∷ es; state = u }) ((f.steps ++ e ∷ []) ++ es) u (append_assoc f.steps (e ∷ []) es) refl in
    subst (λ (fs : List Front). Stepped (log_line (line_place t e) e.made ++ lines_of t es) fronts fs)
    (set_again fronts t next (record { steps = (f.steps ++ e ∷ []) ++ es; state = u }) ∙ ap (slice_set fronts t) last)
    (stepped_then (log_line (line_place t e) e.made) (lines_of t es) fronts between
    (slice_set between t (record { steps = (f.steps ++ e ∷ []) ++ es; state = u })) first rest)

-- ---- all tenants

-- each front is that of the tenant at its place
abbrev AreInPlace : ℕ → List Front → Type 0
AreInPlace k [] = Unit {0}
AreInPlace k (f ∷ fs) = (f.state.opening.tenant ≡ k) × AreInPlace (suc k) fs

record SteppedOfAll (text : List ℕ) (k : ℕ) (done : List Front) (before after : List Front) : Type 0 where
  stepped : Stepped text (done ++ before) (done ++ after)
  in_place : AreInPlace k after

front_in : (done rest : List Front) (f : Front) → slice_get (done ++ f ∷ rest) (length done) ≡ Some f
front_in [] rest f = refl
front_in (x ∷ done) rest f = front_in done rest f

set_in : (done rest : List Front) (f g : Front) → slice_set (done ++ f ∷ rest) (length done) g ≡ done ++ g ∷ rest
set_in [] rest f g = refl
set_in (x ∷ done) rest f g = ap (λ (fs : List Front). x ∷ fs) (set_in done rest f g)

all_stepped : (openings : List Opening) (k : ℕ) (done : List Front) (before : List Front) (text : List ℕ) (after : List Front) → length done ≡ k
    → AreInPlace k before → AreLinesOfAll openings before text after → SteppedOfAll text k done before after
all_stepped openings k done [] text after many placed lines_are =
    let text_is : [] ≡ text = sym lines_are.0 in
    let after_is : [] ≡ after = sym lines_are.1 in
    subst (λ (fs : List Front). SteppedOfAll text k done [] fs) after_is
    (subst (λ (t : List ℕ). SteppedOfAll t k done [] []) text_is (record { stepped = stepped_none (done ++ []); in_place = tt }))
all_stepped openings k done (f ∷ before) text after many placed (own, g, others, later, are, rest, text_is, after_is) =
    let get : slice_get (done ++ f ∷ before) k ≡ Some f
    = subst (λ (n : ℕ). slice_get (done ++ f ∷ before) n ≡ Some f) many (front_in done before f) in
    let set : slice_set (done ++ f ∷ before) k g ≡ done ++ g ∷ before
    = subst (λ (n : ℕ). slice_set (done ++ f ∷ before) n g ≡ done ++ g ∷ before) many (set_in done before f g) in
    let lined : All (IsLined k) are.more = subst (λ (n : ℕ). All (IsLined n) are.more) placed.0 are.lined in
    let own_is : own ≡ lines_of k are.more = are.text_is ∙ ap (λ (n : ℕ). lines_of n are.more) placed.0 in
    let last : record { steps = f.steps ++ are.more; state = g.state } ≡ g = front_is g (f.steps ++ are.more) g.state (sym are.goes_on) refl in
    let first : Stepped own (done ++ f ∷ before) (done ++ g ∷ before)
    = subst (λ (fs : List Front). Stepped own (done ++ f ∷ before) fs) (ap (slice_set (done ++ f ∷ before) k) last ∙ set)
    (subst (λ (t : List ℕ). Stepped t (done ++ f ∷ before) (slice_set (done ++ f ∷ before) k (record { steps = f.steps ++ are.more; state = g.state }))) (sym own_is)
    (steps_stepped k are.more f g.state (done ++ f ∷ before) get placed.0 (lines_lead openings f g own are) lined)) in
    let tail = all_stepped openings (suc k) (done ++ g ∷ []) before others later
    (length-append done (g ∷ []) ∙ (one_more (length done) ∙ ap suc many)) placed.1 rest in
    let second : Stepped others (done ++ g ∷ before) (done ++ g ∷ later)
    = subst (λ (fs : List Front). Stepped others fs (done ++ g ∷ later)) (append_assoc done (g ∷ []) before)
    (subst (λ (fs : List Front). Stepped others ((done ++ g ∷ []) ++ before) fs) (append_assoc done (g ∷ []) later) tail.stepped) in
    subst (λ (fs : List Front). SteppedOfAll text k done (f ∷ before) fs) (sym after_is)
    (subst (λ (t : List ℕ). SteppedOfAll t k done (f ∷ before) (g ∷ later)) (sym text_is) (record {
      stepped = stepped_then own others (done ++ f ∷ before) (done ++ g ∷ before) (done ++ g ∷ later) first second;
      in_place = (are.tenant ∙ placed.0, tail.in_place);
    }))
  where
    one_more : (n : ℕ) → n + 1 ≡ suc n
    one_more n = omega arith

-- ---- commits

-- what was committed so far is commits, with their sums, whose lines lead from the first fronts to these
record SoFar (log sum_now sum : List ℕ) (begun now : List Front) : Type 0 where
  commits : List (List (List ℕ))
  log_is : log ≡ summed sum (map lines commits)
  sum_is : sum_now ≡ last_sum sum (map lines commits)
  stepped : AreStepped (all_of commits) begun now

-- one commit more
so_far_more : (log log_now sum_now sum text : List ℕ) (begun now later : List Front) → SoFar log sum_now sum begun now → Stepped text now later
    → log_now ≡ log ++ commit_text sum_now text → SoFar log_now (sum_after_commit sum_now text) sum begun later
so_far_more log log_now sum_now sum text begun now later far more log_is =
    elim (writes sum_now text) [
      | inl none ↦
          let empty : more.each ≡ [] = no_lines more.each (sym more.is ∙ none.none) in
          let same : now ≡ later = subst (λ (ls : List (List ℕ)). AreStepped ls now later) empty more.stepped in
          record {
            commits = far.commits;
            log_is = log_is ∙ (ap (λ (l : List ℕ). log ++ l) none.text ∙ (append-nil log ∙ far.log_is));
            sum_is = none.same ∙ far.sum_is;
            stepped = subst (λ (fs : List Front). AreStepped (all_of far.commits) begun fs) same far.stepped;
          }
      | inr some ↦
          let texts : List (List ℕ) = map lines far.commits in
          let split : map lines (far.commits ++ more.each ∷ []) ≡ texts ++ lines more.each ∷ [] = map-append lines far.commits (more.each ∷ []) in
          let sum_of : sha256 (sum_now ++ text) ≡ sha256 (last_sum sum texts ++ lines more.each)
          = ap (λ (l : List ℕ). sha256 (l ++ text)) far.sum_is ∙ ap (λ (l : List ℕ). sha256 (last_sum sum texts ++ l)) more.is in
          record {
            commits = far.commits ++ more.each ∷ [];
            log_is = log_is ∙ ap (λ (l : List ℕ). l ++ commit_text sum_now text) far.log_is ∙ ap (λ (l : List ℕ). summed sum texts ++ l)
                (some.text ∙ ap (λ (l : List ℕ). text ++ sum_line l) sum_of
                ∙ ap (λ (l : List ℕ). l ++ sum_line (sha256 (last_sum sum texts ++ lines more.each))) more.is)
                ∙ sym (summed_more texts sum (lines more.each)) ∙ ap (summed sum) (sym split);
            sum_is = some.next ∙ sum_of ∙ sym (last_sum_more texts sum (lines more.each)) ∙ ap (last_sum sum) (sym split);
            stepped = subst (λ (ls : List (List ℕ)). AreStepped ls begun later)
                (sym (all_more far.commits more.each) ∙ append-nil (all_of (far.commits ++ more.each ∷ [])))
                (stepped_both (all_of far.commits) more.each begun now later far.stepped more.stepped);
          }
    ]

-- all commits so far, and each front is its tenant's
record UpTo (log sum_now sum : List ℕ) (begun fronts : List Front) : Type 0 where
  so_far : SoFar log sum_now sum begun fronts
  in_place : AreInPlace 0 fronts

commits_stepped : {D : Type 0} (seen : D → List ℕ) (openings : List Opening) (first : WriterState D) (before : List Front) (texts : List (List ℕ))
    (after : List Front) → recovered (seen first.log.file) ≡ [] → AreInPlace 0 before → AreWhole first texts
    → AreCommits openings before texts after
    → UpTo (lines (records_after seen first texts)) (sum_after first texts) first.sum before after
commits_stepped seen openings first before [] after none placed whole same =
    subst (λ (fs : List Front). UpTo (lines (recovered (seen first.log.file))) first.sum first.sum before fs) same (record {
      so_far = record {
        commits = [];
        log_is = ap lines none;
        sum_is = refl;
        stepped = refl;
      };
      in_place = placed;
    })
commits_stepped seen openings first before (text ∷ earlier) after none placed whole (between, so_far, more) =
    let far = commits_stepped seen openings first before earlier between none placed whole.1 so_far in
    let one = all_stepped openings 0 [] between text after refl far.in_place more in
    let sum : List ℕ = sum_after first earlier in
    let log : lines (records_after seen first earlier ++ recovered (commit_text sum text)) ≡ lines (records_after seen first earlier) ++ commit_text sum text
    = lines-append (records_after seen first earlier) (recovered (commit_text sum text))
    ∙ ap (λ (l : List ℕ). lines (records_after seen first earlier) ++ l) (sym whole.0) in
    record {
      so_far = so_far_more (lines (records_after seen first earlier)) (lines (records_after seen first earlier ++ recovered (commit_text sum text))) sum first.sum text
          before between after far.so_far one.stepped log;
      in_place = one.in_place;
    }

-- ---- the start

first_in_place : (os : List Opening) (k : ℕ) → ((i : ℕ) (o : Opening) → slice_get os i ≡ Some o → o.tenant ≡ k + i)
    → AreInPlace k (map (λ o. first_front o) os)
first_in_place [] k numbers = tt
first_in_place (o ∷ os) k numbers = (
  numbers 0 o refl ∙ plain k,
  first_in_place os (suc k) (λ i x at. numbers (suc i) x at ∙ shift k i),
)
  where
    plain : (n : ℕ) → n + 0 ≡ n
    plain n = omega arith

    shift : (n i : ℕ) → n + suc i ≡ suc n + i
    shift n i = omega arith

first_states : (starts : List TenantStart) → states_of starts ≡ states_in (map (λ o. first_front o) (map (λ s. s.opening) starts))
first_states [] = refl
first_states (s ∷ starts) = ap (λ (bs : List State). opened s.opening ∷ bs) (first_states starts)

-- what was written of a journal that threads share
so_far_of : {D : Type 0} (seen : D → List ℕ) (may_leave : D → List ℕ → Type 0) (openings : List Opening) (w : WriterState D) (fronts : List Front)
    → (kept : IsWritten seen may_leave openings w fronts) → AreNumbered openings
    → UpTo (lines (recovered (seen w.log.file))) w.sum kept.first.sum (first_fronts openings) fronts
so_far_of seen may_leave openings w fronts kept numbers =
    let led = commits_stepped seen openings kept.first (first_fronts openings) kept.texts fronts kept.begins.new.none
    (first_in_place openings 0 (λ i o at. numbers i o at ∙ none_more i)) kept.whole kept.lines in
    subst (λ (sum : List ℕ). UpTo (lines (recovered (seen w.log.file))) sum kept.first.sum (first_fronts openings) fronts) (sym kept.sum)
    (subst (λ (records : List (List ℕ)). UpTo (lines records) (sum_after kept.first kept.texts) kept.first.sum (first_fronts openings) fronts) (sym kept.records) led)
  where
    none_more : (i : ℕ) → i ≡ 0 + i
    none_more i = omega arith

begun_states : (openings : List Opening) (starts : List TenantStart) → map (λ s. s.opening) starts ≡ openings
    → states_in (first_fronts openings) ≡ states_of starts
begun_states openings starts are = sym (first_states starts ∙ ap (λ (os : List Opening). states_in (map (λ o. first_front o) os)) are)

-- lines of steps are written
text_written : (openings : List Opening) (starts : List TenantStart) (sum text : List ℕ) (commits : List (List (List ℕ))) (others : List (List ℕ)) (left : List Front)
    → map (λ s. s.opening) starts ≡ openings → text ≡ summed sum (map lines commits) ++ lines others
    → AreStepped (all_of commits ++ others) (first_fronts openings) left → IsTextWritten sum text (states_of starts) (states_in left)
text_written openings starts sum text commits others left are is stepped = record {
  commits = commits;
  others = others;
  is = is;
  written = are_written (all_of commits ++ others) (states_of starts) (states_in left)
      (subst (λ (bs : List State). AreLed IsLoggable (all_of commits ++ others) bs (states_in left)) (begun_states openings starts are)
      (stepped_led (all_of commits ++ others) (first_fronts openings) left stepped));
}

-- the log of a journal that threads share is written
pub shared_is_written : {D : Type 0} (seen : D → List ℕ) (may_leave : D → List ℕ → Type 0) (openings : List Opening) (w : WriterState D)
    (fronts : List Front) → (kept : IsWritten seen may_leave openings w fronts) → AreNumbered openings
    → IsTextWritten kept.first.sum (lines (recovered (seen w.log.file))) (states_of kept.begins.starts) (map (λ f. f.state) fronts)
shared_is_written seen may_leave openings w fronts kept numbers =
    let so_far = (so_far_of seen may_leave openings w fronts kept numbers).so_far in
    text_written openings kept.begins.starts kept.first.sum (lines (recovered (seen w.log.file))) so_far.commits [] fronts kept.begins.openings_are
    (so_far.log_is ∙ sym (append-nil (summed kept.first.sum (map lines so_far.commits))))
    (subst (λ (ls : List (List ℕ)). AreStepped ls (first_fronts openings) fronts) (sym (append-nil (all_of so_far.commits))) so_far.stepped)

-- ---- a crash

summed_both : (xs ys : List (List ℕ)) (sum : List ℕ) → summed sum (xs ++ ys) ≡ summed sum xs ++ summed (last_sum sum xs) ys
summed_both [] ys sum = refl
summed_both (x ∷ xs) ys sum =
    ap (λ (l : List ℕ). (x ++ sum_line (sha256 (sum ++ x))) ++ l) (summed_both xs ys (sha256 (sum ++ x)))
    ∙ sym (append_assoc (x ++ sum_line (sha256 (sum ++ x))) (summed (sha256 (sum ++ x)) xs) (summed (last_sum (sha256 (sum ++ x)) xs) ys))

all_of_both : (xs ys : List (List (List ℕ))) → all_of (xs ++ ys) ≡ all_of xs ++ all_of ys
all_of_both [] ys = refl
all_of_both (x ∷ xs) ys = ap (λ (ls : List (List ℕ)). x ++ ls) (all_of_both xs ys) ∙ sym (append_assoc x (all_of xs) (all_of ys))

-- the lines of a commit, as a text of their own
record OneCommit (sum text : List ℕ) (before after : List Front) (each : List (List ℕ)) : Type 0 where
  written : IsTextWritten sum (commit_text sum text) (states_in before) (states_in after)
  all_is : all_of written.commits ++ written.others ≡ each

one_commit : (sum text : List ℕ) (before after : List Front) → (own : Stepped text before after) → OneCommit sum text before after own.each
one_commit sum [] before after own = record {
  written = record {
    commits = [];
    others = own.each;
    is = own.is;
    written = are_written own.each (states_in before) (states_in after) (stepped_led own.each before after own.stepped);
  };
  all_is = refl;
}
one_commit sum (b ∷ bs) before after own =
    let all : (own.each ++ []) ++ [] ≡ own.each = append-nil (own.each ++ []) ∙ append-nil own.each in
    record {
      written = record {
        commits = own.each ∷ [];
        others = [];
        is = ap (λ (t : List ℕ). t ++ sum_line (sha256 (sum ++ t))) own.is
            ∙ sym (append-nil ((lines own.each ++ sum_line (sha256 (sum ++ lines own.each))) ++ []) ∙ append-nil (lines own.each ++ sum_line (sha256 (sum ++ lines own.each))));
        written = subst (λ (ls : List (List ℕ)). AreWritten ls (states_in before) (states_in after)) (sym all)
            (are_written own.each (states_in before) (states_in after) (stepped_led own.each before after own.stepped));
      };
      all_is = all;
    }

-- A crash comes while a text is committed: what it leaves is written, and leaves fronts that come after those before the commit, and
-- not after those that it leads to.
pub crash_leaves : LineLaws → {D : Type 0} (seen : D → List ℕ) (may_leave : D → List ℕ → Type 0) (openings : List Opening)
    (w : WriterState D) (fronts after : List Front) (text : List ℕ) (n : ℕ) → (kept : IsWritten seen may_leave openings w fronts) → AreNumbered openings
    → AreLinesOfAll openings fronts text after
    → LeavesFronts kept.begins.starts kept.first.sum (lines (recovered (seen w.log.file) ++ take n (recovered (commit_text w.sum text)))) fronts after
crash_leaves laws seen may_leave openings w fronts after text n kept numbers more =
    let starts : List TenantStart = kept.begins.starts in
    let are : map (λ s. s.opening) starts ≡ openings = kept.begins.openings_are in
    let up = so_far_of seen may_leave openings w fronts kept numbers in
    let so_far = up.so_far in
    let own = (all_stepped openings 0 [] fronts text after refl up.in_place more).stepped in
    let one = one_commit w.sum text fronts after own in
    let front = text_front laws w.sum (commit_text w.sum text) (states_in fronts) (states_in after) n one.written in
    let parts = stepped_parts front.count own.each fronts after own.stepped in
    let left : List Front = parts.0 in
    let first : List ℕ = kept.first.sum in
    let records : List (List ℕ) = recovered (seen w.log.file) in
    let taken : List (List ℕ) = take n (recovered (commit_text w.sum text)) in
    let some : AreStepped (all_of front.commits ++ front.others) fronts left
    = subst (λ (ls : List (List ℕ)). AreStepped ls fronts left) (sym (front.front ∙ ap (take front.count) one.all_is)) parts.1 in
    let stepped : AreStepped (all_of (so_far.commits ++ front.commits) ++ front.others) (first_fronts openings) left
    = subst (λ (ls : List (List ℕ)). AreStepped ls (first_fronts openings) left)
    (sym (ap (λ (ls : List (List ℕ)). ls ++ front.others) (all_of_both so_far.commits front.commits)
    ∙ append_assoc (all_of so_far.commits) (all_of front.commits) front.others))
    (stepped_both (all_of so_far.commits) (all_of front.commits ++ front.others) (first_fronts openings) fronts left so_far.stepped some) in
    let text_is : lines (records ++ taken) ≡ summed first (map lines (so_far.commits ++ front.commits)) ++ lines front.others
    = lines-append records taken
    ∙ ap (λ (l : List ℕ). l ++ lines taken) so_far.log_is
    ∙ ap (λ (l : List ℕ). summed first (map lines so_far.commits) ++ l)
    (front.is ∙ ap (λ (s : List ℕ). summed s (map lines front.commits) ++ lines front.others) so_far.sum_is)
    ∙ sym (append_assoc (summed first (map lines so_far.commits)) (summed (last_sum first (map lines so_far.commits)) (map lines front.commits)) (lines front.others))
    ∙ ap (λ (l : List ℕ). l ++ lines front.others) (sym (summed_both (map lines so_far.commits) (map lines front.commits) first))
    ∙ ap (λ (texts : List (List ℕ)). summed first texts ++ lines front.others) (sym (map-append lines so_far.commits front.commits)) in
    record {
      left = left;
      not_before = stepped_earlier (take front.count own.each) fronts left parts.1;
      not_after = stepped_earlier (drop front.count own.each) left after parts.2;
      written = text_written openings starts first (lines (records ++ taken)) (so_far.commits ++ front.commits) front.others left are text_is stepped;
    }
