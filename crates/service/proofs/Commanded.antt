-- A command at the operators' door is a question that a desk answered.
use Rattle.std.proofs.Common.{◌≡◌, ◌⊎◌, inl, inr, ℕ, Bool, true, false, nat_lt, List, Option, refl, sym, ap, subst, arith, ◌∙◌}
use Rattle.std.specs.Prelude.{◌↔◌, Result, Ok, Err}
use Rattle.std.specs.Str.{bytes_eq}
use Rattle.one_list.specs.declared.run.Run.{Ghosts}
use Rattle.meters.specs.Seats.{SeatState}
use Rattle.books_shared.specs.Shares.{ShareView, is_spent}
use Rattle.tenant_core.specs.declared.command.Command.{Command}
use Rattle.admin_text.specs.Commands.{command_in}
use Rattle.admin_text.specs.declared.commands.TextFault.{TextFault}
use Rattle.http_link.specs.OperatorDoor.{AsksOperatorCame, OperatorAsked}
use Rattle.http_link.specs.Serving.{Asked}
use Rattle.http_link.specs.declared.request.RequestKind.TheVariants.{Admin}
use Rattle.workers.specs.Carrying.{IsDone, growth}
use Rattle.workers.specs.Counting.{command_kind, tallied}
use Rattle.workers.specs.Replies.{http_code}
use Rattle.workers.specs.declared.governing.GovernFault.TheVariants.{Spent}
use Rattle.workers.specs.declared.reply.Status.{Status}
use Rattle.workers.specs.declared.reply.Status.TheVariants as status
use Rattle.service.specs.Answering.{HasAnswered, WasAskedCommand, WasGoverned, WasObeyed, WasOrdered, command_line, operator_token}
use Rattle.service.specs.Journal.{in_office}
use Rattle.service.specs.Operating.{HasOperated, HasVisited, IsOperated, IsReported, command_fault_line, operator_refusal, order_of, told_at}
use Rattle.service.specs.Rolling.{IsUntouched}
use Rattle.service.specs.declared.operators.answering.LastAnswer.TheVariants.{ByDesk}
use Rattle.service.specs.declared.worker.desk.Desk.{Desk}
use Rattle.service.specs.declared.office.Office.{Office}
use Rattle.service.proofs.Repeating.{none_repeated, once_repeated}

-- where no command may begin, nothing happens
pub turned_away : {J : Type 0} {r : Ghosts J} (Gives : ℕ → Type 0) (given : Result Command TextFault) (office : Office J r) (before after : Desk J r) (tenant : ℕ)
    → IsUntouched before after → WasObeyed Gives given office before tenant status.Unavailable after
turned_away Gives (Ok command) office before after tenant same = inr (refl, same)
turned_away Gives (Err fault) office before after tenant same = (inr refl, same)

-- a status that is answered with 400 says that a text is malformed
malformed_only : (told : Status) → http_code told ≡ 400 → told ≡ status.Malformed
malformed_only status.Answered e = absurd (omega (arith, e))
malformed_only status.Malformed e = refl
malformed_only status.Unauthorized e = absurd (omega (arith, e))
malformed_only status.Unavailable e = absurd (omega (arith, e))

-- ---- what is done of a command depends on a desk's share, seat, slot and sends only

module _ {J : Type 0} {r : Ghosts J} (Gives : ℕ → Type 0) (office : Office J r) (begun before after : Desk J r) (same_share : begun.share ≡ before.share)
    (same_seat : begun.seat ≡ before.seat) (same_slot : begun.slot ≡ before.slot) (same_sent : begun.sent ≡ before.sent) where
  untouched_from : IsUntouched begun after → IsUntouched before after
  untouched_from h = record {
    share = h.share ∙ same_share;
    seat = h.seat ∙ same_seat;
    slot = h.slot ∙ same_slot;
    sent = h.sent ∙ same_sent;
  }

  governed_from : (tenant : ℕ) (given : Command) (told : Status) → WasGoverned Gives office begun tenant given told after → WasGoverned Gives office before tenant given told after
  governed_from tenant given told h = record {
    answer = h.answer;
    spent = subst (λ (s : ShareView). h.answer ≡ Err Spent ↔ is_spent s ≡ true) same_share h.spent;
    memory = λ full. subst (λ (s : ShareView). s.audited ≡ true) same_share (h.memory full);
    done = subst (λ (s : ShareView). IsDone (in_office Gives office) h.answer (growth tenant s after.share) given) same_share h.done;
    metered = subst (λ (s : SeatState). after.seat ≡ tallied tenant (command_kind h.answer) s) same_seat h.metered;
    slot = h.slot ∙ same_slot;
    sent = h.sent ∙ same_sent;
    told_so = h.told_so;
  }

  obeyed_from : (given : Result Command TextFault) (tenant : ℕ) (told : Status) → WasObeyed Gives given office begun tenant told after
      → WasObeyed Gives given office before tenant told after
  obeyed_from (Ok given) tenant told (inl h) = inl (governed_from tenant given told h)
  obeyed_from (Ok given) tenant told (inr h) = inr (h.0, untouched_from h.1)
  obeyed_from (Err fault) tenant told h = (h.0, untouched_from h.1)

  asked_from : (right : Bool) (asked : Asked) (told : Status) → WasAskedCommand Gives right office asked begun told after
      → WasAskedCommand Gives right office asked before told after
  asked_from true asked told h = obeyed_from (command_in (command_line asked.body)) asked.tenant told h
  asked_from false asked told h = (h.0, untouched_from h.1)

  -- a command under a token, for a tenant that is there
  pub commanded_so : (asked : OperatorAsked) (tenant : ℕ) (told : Status)
      → nat_lt tenant office.books.tenants ≡ true → asked.status ≡ http_code told → after.told ≡ Admin
      → WasAskedCommand Gives (bytes_eq (operator_token office tenant) asked.wanted.token) office (order_of asked tenant) begun told after
      → HasAnswered Gives office before (order_of asked tenant) after
  commanded_so asked tenant told there code kind done = record {
    told = told;
    code = code;
    kind = kind;
    so = subst (λ (b : Bool). WasOrdered Gives b office (order_of asked tenant) before told after) (sym there)
        (asked_from (bytes_eq (operator_token office tenant) asked.wanted.token) (order_of asked tenant) told done);
  }

-- the text after a command that was obeyed is what it printed
pub reported_told : {J : Type 0} {r : Ghosts J} (asked : OperatorAsked) (after : Desk J r) (told : Status)
    → after.told ≡ Admin → asked.status ≡ http_code told → (told ≡ status.Malformed → ⊥) → IsReported asked after (told_at ByDesk after)
reported_told asked after told kind code well = record {
  told = λ _. rw kind refl;
  why = λ is. absurd (well (malformed_only told (sym code ∙ is)));
}

-- that after a text with a fault is the line that says so
pub reported_fault : {J : Type 0} {r : Ghosts J} (asked : OperatorAsked) (after : Desk J r) (fault : TextFault) (text : List ℕ)
    → asked.status ≡ 400 → command_in (command_line asked.body) ≡ Err fault → text ≡ command_fault_line fault → IsReported asked after text
reported_fault asked after fault text code bad line = record {
  told = λ is. absurd (let no = sym code ∙ is in omega (arith, no));
  why = λ _. (fault, bad, line);
}

-- what one connection leaves: the request that came was answered, or none was asked
pub visited_there : {A R C J : Type 0} {r : Ghosts J} (office : A → R) (at : R → Office J r) (clock : A → C) (gives : C → ℕ → Type 0) (desk : A → Desk J r) (told : A → List ℕ) (before after : A)
    (old new : Option (List ℕ))
    → (after ≡ before) ⊎ AsksOperatorCame (operator_refusal (at (office before))) old new (λ asked. (office after ≡ office before) × (clock after ≡ clock before)
    × IsOperated (gives (clock before)) (at (office before)) asked.wanted.request (desk before) asked (told after) (desk after))
    → (office after ≡ office before) × (clock after ≡ clock before) × HasOperated (gives (clock before)) (at (office before)) (desk before) (desk after)
visited_there office at clock gives desk told before after old new (inl same) = (
  ap office same,
  ap clock same,
  subst (λ a. HasOperated (gives (clock before)) (at (office before)) (desk before) (desk a)) (sym same)
      (none_repeated (HasVisited (gives (clock before)) (at (office before))) (desk before)),
)
visited_there office at clock gives desk told before after old new (inr came) = (
  came.asks.0,
  came.asks.1,
  once_repeated (HasVisited (gives (clock before)) (at (office before))) (desk before) (desk after)
      (record { came = came.came; asked = came.asked; by = came.by; text = told after; told = came.asks.2 }),
)
