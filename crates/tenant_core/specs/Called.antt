-- What each record came from: a call of the book, whose arguments keep the rules of their types.
use Rattle.std.specs.Prelude.{ℕ, ◌≡◌, ◌==◌, Bool, true, List, length, take, Option, Some, slice_get}
use Rattle.common_types.specs.Token.{is_token}
use Rattle.oer_core.specs.Length.{AreBytes}
use Rattle.tenant_core.specs.Answer.{answer_made, tick_made}
use Rattle.tenant_core.specs.Governed.{order_made}
use Rattle.tenant_core.specs.Judge.{decide_made}
use Rattle.tenant_core.specs.Key.{Key}
use Rattle.tenant_core.specs.Orders.{ordered}
use Rattle.tenant_core.specs.Replay.{is_sayable}
use Rattle.tenant_core.specs.State.{State}
use Rattle.tenant_core.specs.declared.command.Order.{Order}
use Rattle.tenant_core.specs.declared.journal.AnswerKey.{AnswerKey}
use Rattle.tenant_core.specs.declared.journal.AnswerKey.TheVariants.{Fulfilled, Rejected, Fault}
use Rattle.tenant_core.specs.declared.journal.Record.{Record}

-- a call of a book that makes a record of the running period: a Prepare came with a token; that came back for the packet which
-- is held under a number; a moment was handed in; an operator ordered
pub data Call : Type 0 where
  Decides : (token : List ℕ) (key : Key) (now : ℕ) → Call
  Answers : (hold now : ℕ) (key : AnswerKey) → Call
  Ticks : (now : ℕ) → Call
  Orders : (order : Order) (now : ℕ) → Call

-- a peer can answer that: a fulfillment has 32 bytes (RFC 0027, "ILP Fulfill")
abbrev pub is_answer : AnswerKey → Bool
is_answer (Fulfilled fulfillment) = length fulfillment == 32
is_answer Rejected = true
is_answer Fault = true

-- the condition and the destination of a packet are bytes
abbrev pub IsOfBytes : Key → Type 0
IsOfBytes key = AreBytes key.condition × AreBytes key.destination

-- what a call brings is a token, and what a packet can say
abbrev pub IsGiven : Call → Type 0
IsGiven (Call.Decides token key now) = (is_token token ≡ true) × (is_sayable key ≡ true) × IsOfBytes key
IsGiven (Call.Answers hold now key) = is_answer key ≡ true
IsGiven (Call.Ticks now) = Unit {0}
IsGiven (Call.Orders order now) = Unit {0}

-- the record that a call makes in a book of that state, if it makes one
abbrev pub called : State → Call → Option Record
called s (Call.Decides token key now) = decide_made s token key now
called s (Call.Answers hold now key) = answer_made s hold now key
called s (Call.Ticks now) = tick_made s now
called s (Call.Orders order now) = order_made (ordered s order) now

-- a call makes that record in a book of that state
pub record IsCalled (s : State) (r : Record) : Type 0 where
  pub call : Call
  pub given : IsGiven call
  pub made : called s call ≡ Some r

-- the state with only its first records
abbrev pub first_of : ℕ → State → State
first_of n s = record s { records = take n s.records }

-- a call made each record of the state, in the state of those before it
abbrev pub AreCalled : State → Type 0
AreCalled s = (n : ℕ) (r : Record) → slice_get s.records n ≡ Some r → IsCalled (first_of n s) r
