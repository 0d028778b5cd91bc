-- Periods that are taken as the steps of a list are done, one after the other.
use Rattle.std.proofs.Common.{◌≡◌, ℕ, List, [], ◌∷◌, ◌++◌, Option, Some, None, refl, sym, ap, subst, ◌∙◌, append-nil}
use Rattle.std.proofs.lemmas.Grind.{flat_map-append}
use Rattle.std.proofs.lemmas.List.{append_assoc}
use Rattle.std.specs.Prelude.{IfSome, OnOk, Ok, Err, Result}
use Rattle.tenant_core.specs.declared.period.PeriodParts.{PeriodParts}
use Rattle.floor_core.specs.World.{World, AreOutputs, IsLeft}
use Rattle.floor_core.specs.Worlds.{reply, world_after}
use Rattle.floor_core.specs.declared.step.Output.{Output}
use Rattle.floor_core.specs.declared.step.Step.{Step}
use Rattle.admin_text.specs.Setup.{setup_of}
use Rattle.admin_text.specs.declared.setup.Setup.{Setup}
use Rattle.replay_text.specs.Closed.{Closes, ClosesAll, HasTakenPeriods, Taking, TakesClosed, TakesClosedFor, closed_by, closed_in}
use Rattle.output_text.specs.Printed.{printed_lines}
use Rattle.replay_text.specs.Replay.{IsReplayed, names_in}
use Rattle.replay_text.specs.SoFar.{AreTaken}
use Rattle.replay_text.specs.Script.{lines_of, meaning_of, steps_in}
use Rattle.replay_text.specs.declared.script.Meaning.TheVariants.{Skipped}
use Rattle.replay_text.proofs.Composition.{SendsOn, sends_on}
use Rattle.replay_text.proofs.Pieces.{AfterLaw, Laws, OutputsLaw, RepliesLaw}
use Rattle.replay_text.proofs.Scripts.{steps_behind}

-- ---- what is taken

-- periods behind periods
taken_more : {K : Type 0} (Takes : Taking K) (ps qs : List PeriodParts) (k l m : K) → HasTakenPeriods Takes ps k l → HasTakenPeriods Takes qs l m
    → HasTakenPeriods Takes (ps ++ qs) k m
taken_more Takes [] qs k l m same more = subst (λ x. HasTakenPeriods Takes qs x m) same more
taken_more Takes (p ∷ ps) qs k l m (between, first, others) more = (between, first, taken_more Takes ps qs between l m others more)

-- the period of one step
pub closes_one : {K : Type 0} → RepliesLaw → AfterLaw → (Takes : Taking K) (step : Step) (w m : World) (output : Output) (k l : K)
    → output ≡ reply w step → m ≡ world_after w step → HasTakenPeriods Takes (closed_in output) k l → Closes Takes (step ∷ []) w m k l
closes_one outputs left Takes step w m output k l is world taken = (
  reply w step ∷ [],
  outputs w (step ∷ []),
  subst (λ (x : World). IsLeft w (step ∷ []) (reply w step ∷ []) x) (sym world) (left w (step ∷ [])),
  subst (λ ps. HasTakenPeriods Takes ps k l) (ap closed_in is ∙ sym (append-nil (closed_in (reply w step)))) taken,
)

-- a line that is skipped closes none
pub closes_skipped : {K : Type 0} → RepliesLaw → AfterLaw → (Takes : Taking K) (names : List (List ℕ)) (workers : ℕ) (line : List ℕ) (w : World) (k : K)
    → meaning_of names workers line ≡ Skipped → Closes Takes (steps_in names workers (line ∷ [])) w w k k
closes_skipped outputs left Takes names workers line w k e = rw e ([], outputs w [], left w [], refl)

-- those of more steps
closes_more : {K : Type 0} → Laws → (Takes : Taking K) (steps more : List Step) (w m n : World) (j k l : K) → Closes Takes steps w m j k
    → Closes Takes more m n k l → Closes Takes (steps ++ more) w n j l
closes_more laws Takes steps more w m n j k l p q = (
  p.0 ++ q.0,
  laws.outputs w m steps more p.0 q.0 p.1 p.2 q.1,
  laws.left w m n steps more p.0 q.0 p.1 p.2 q.1 q.2,
  subst (λ ps. HasTakenPeriods Takes ps j l) (sym (flat_map-append closed_in p.0 q.0)) (taken_more Takes (closed_by p.0) (closed_by q.0) j k l p.3 q.3),
)

-- ---- how far the steps of a list are done

pub none_taken : {K : Type 0} → Laws → (Takes : Taking K) (w : World) (steps : List Step) (k : K) → AreTaken Takes w w steps steps k k
none_taken laws Takes w steps k = ([], refl, ([], laws.replies w [], laws.after w [], refl))

-- some more are done: those of one more line of a script
pub line_taken : {K : Type 0} → Laws → (Takes : Taking K) (names : List (List ℕ)) (workers : ℕ) (steps : List Step) (rest line behind : List ℕ) (w m n : World) (j k l : K)
    → lines_of rest ≡ line ∷ lines_of behind → AreTaken Takes w m steps (steps_in names workers (lines_of rest)) j k
    → Closes Takes (steps_in names workers (line ∷ [])) m n k l → AreTaken Takes w n steps (steps_in names workers (lines_of behind)) j l
line_taken laws Takes names workers steps rest line behind w m n j k l first far more =
    let piece : List Step = steps_in names workers (line ∷ []) in
    let later : List Step = steps_in names workers (lines_of behind) in
    let split : piece ++ later ≡ steps_in names workers (lines_of rest) =
    steps_behind names workers line (lines_of behind) ∙ ap (steps_in names workers) (sym first) in (
      far.0 ++ piece,
      append_assoc far.0 piece later ∙ (ap (λ ss. far.0 ++ ss) split ∙ far.1),
      closes_more laws Takes far.0 piece w m n j k l far.2 more,
    )

-- where none is left, all are done
pub all_taken : {K : Type 0} (Takes : Taking K) (w m : World) (steps : List Step) (k l : K) → AreTaken Takes w m steps [] k l → ClosesAll Takes steps w k l
all_taken Takes w m steps k l far =
    subst (λ (ss : List Step). ClosesAll Takes ss w k l) (sym (append-nil far.0) ∙ far.1) (far.2.0, far.2.1, far.2.3)

-- where the others are done too, all are
pub rest_taken : {K : Type 0} → OutputsLaw → (Takes : Taking K) (w m : World) (steps rest : List Step) (j k l : K) → AreTaken Takes w m steps rest j k → ClosesAll Takes rest m k l
    → ClosesAll Takes steps w j l
rest_taken law Takes w m steps rest j k l far more = (
  far.2.0 ++ more.0,
  subst (λ (ss : List Step). AreOutputs w ss (far.2.0 ++ more.0)) far.1 (law w m far.0 rest far.2.0 more.0 far.2.1 far.2.2 more.1),
  subst (λ ps. HasTakenPeriods Takes ps j l) (sym (flat_map-append closed_in far.2.0 more.0)) (taken_more Takes (closed_by far.2.0) (closed_by more.0) j k l far.2.3 more.2),
)

-- ---- of a whole script

-- what is taken for a setup that was read is what its text says
pub taken_as_read : {A E K : Type 0} → SendsOn → (Takes : Taking K) (setup_text : List ℕ) (workers : ℕ) (setup : Setup) (result : Result A E) (known : Option (List ℕ)) (k l : K)
    → setup_of setup_text ≡ Ok setup → OnOk result (IfSome known (λ script. TakesClosedFor Takes setup workers script k l))
    → OnOk result (IfSome known (λ script. TakesClosed Takes setup_text workers script k l))
taken_as_read law Takes setup_text workers setup (Ok done) None k l read taken = tt
taken_as_read law Takes setup_text workers setup (Ok done) (Some script) k l read (steps, parsed, (outputs, are, taken)) =
    let is : IsReplayed setup_text workers script (printed_lines (names_in setup) outputs) = record {
      setup = setup;
      steps = steps;
      outputs = outputs;
      setup_is = read;
      steps_are = parsed;
      outputs_are = are;
      forwards_are = sends_on law setup workers script steps outputs parsed are;
      written_is = refl;
    } in
    (printed_lines (names_in setup) outputs, is, taken)
taken_as_read law Takes setup_text workers setup (Err e) known k l read taken = tt
