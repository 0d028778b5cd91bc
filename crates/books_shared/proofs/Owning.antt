-- In a run in which workers answer only packets that they sent on themselves, each call of a book leaves that so.
use Rattle.std.proofs.Common.{◌≡◌, ℕ, true, List, ◌++◌, append-nil, sym, ap, subst, ◌∙◌}
use Rattle.std.specs.Prelude.{Option, Some, None, IfSome, Result, Ok, Err}
use Rattle.std.proofs.lemmas.Bool.{eqb-true}
use Rattle.tenant_core.specs.Answer.{answer_record, tick_made}
use Rattle.tenant_core.specs.Fates.{is_answer_to}
use Rattle.tenant_core.specs.Governed.{command_made, made_by, order_made, roll_made}
use Rattle.tenant_core.specs.Orders.{ordered}
use Rattle.tenant_core.specs.Periods.{roll_refusal}
use Rattle.tenant_core.specs.State.{State}
use Rattle.tenant_core.specs.declared.command.Answered.{Answered}
use Rattle.tenant_core.specs.declared.command.Command.{Command}
use Rattle.tenant_core.specs.declared.command.Command.TheVariants as command
use Rattle.tenant_core.specs.declared.faults.CommandFault.{CommandFault}
use Rattle.tenant_core.specs.declared.journal.AnswerKey.{AnswerKey}
use Rattle.tenant_core.specs.declared.journal.Change.{Change as Changed}
use Rattle.tenant_core.specs.declared.journal.Record.{Record}
use Rattle.tenant_core.specs.declared.verdict.Verdict.{Verdict}
use Rattle.floor_core.specs.Work.{Job, Work, answer_call, decide_call}
use Rattle.floor_core.specs.declared.parts.Got.{Got}
use Rattle.one_list.specs.Holds.{AreOwnAnswers, OwnAnswerLaws, holder}
use Rattle.one_list.specs.Steps.{Place, done, done_by}
use Rattle.one_list.specs.declared.step.Done.{Done}
use Rattle.books_shared.specs.Turns.{IsSentBy}
use Rattle.books_shared.proofs.Tracing.{answer_makes, decide_makes, tick_makes}

-- the record, if it is an answer, answers a packet that the worker sent on
abbrev pub Answers : List Done → ℕ → Option Record → Type 0
Answers steps worker made = IfSome made (λ r. (n : ℕ) → is_answer_to n r.entry ≡ true → holder n steps ≡ Some worker)

-- the step of a record more
pub own_on : OwnAnswerLaws → (steps : List Done) (worker : ℕ) (at : Place) (made : Option Record) → AreOwnAnswers steps → Answers steps worker made
    → AreOwnAnswers (steps ++ done_by worker at made)
own_on laws steps worker at None own one = subst AreOwnAnswers (sym (append-nil steps)) own
own_on laws steps worker at (Some r) own one = laws.goes_on steps (done worker at r) own one

-- what a decide makes is no answer, nor what a tick makes
pub decide_answers : (steps : List Done) (worker : ℕ) (w : Work) (s : State) (now : ℕ) → Answers steps worker (decide_call w s now).made
decide_answers steps worker = decide_makes (Answers steps worker) tt (λ n key now v m is. absurd cc)

pub tick_answers : (steps : List Done) (worker : ℕ) (s : State) (now : ℕ) → Answers steps worker (tick_made s now)
tick_answers steps worker s now = tick_makes (Answers steps worker) tt s now (λ count m is. absurd cc)

-- an answer is to the packet that the call awaits
pub answer_answers : (steps : List Done) (worker : ℕ) (w : Work) (s : State) (now : ℕ) (got : Got) → IsSentBy worker w.job steps → Answers steps worker (answer_call w s now got).made
answer_answers steps worker w s now got sent = answer_makes (Answers steps worker) tt w s now got each
  where
    each : (t hold : ℕ) (frame : List ℕ) (key : AnswerKey) (v : Verdict) → w.job ≡ Job.Waits t hold frame → Answers steps worker (Some (answer_record hold now key v))
    each t hold frame key v is n to = ap (λ m. holder m steps) (eqb-true n hold to) ∙ subst (λ (j : Job). IsSentBy worker j steps) is sent

-- a command makes none
order_answers : (steps : List Done) (worker : ℕ) (r : Result Changed CommandFault) (now : ℕ) → Answers steps worker (order_made r now)
order_answers steps worker (Ok change) now = λ n is. absurd cc
order_answers steps worker (Err fault) now = tt

roll_answers : (steps : List Done) (worker : ℕ) (o : Option CommandFault) (now : ℕ) → Answers steps worker (roll_made o now)
roll_answers steps worker None now = λ n is. absurd cc
roll_answers steps worker (Some fault) now = tt

command_answers : (steps : List Done) (worker : ℕ) (s : State) (c : Command) (now : ℕ) → Answers steps worker (command_made s c now)
command_answers steps worker s (command.Order order) now = order_answers steps worker (ordered s order) now
command_answers steps worker s command.Balances now = tt
command_answers steps worker s command.Roll now = roll_answers steps worker (roll_refusal s) now

pub governed_answers : (steps : List Done) (worker : ℕ) (r : Result Answered CommandFault) (s : State) (c : Command) (now : ℕ) → Answers steps worker (made_by r s c now)
governed_answers steps worker (Ok answered) s c now = command_answers steps worker s c now
governed_answers steps worker (Err fault) s c now = tt
