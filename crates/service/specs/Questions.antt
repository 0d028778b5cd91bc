-- An operator's question about a packet.
use Rattle.std.specs.Prelude.{ℕ, ◌^◌, ◌-◌, List, length, drop, take, codes, Option, Some, None, Result, Ok, Err, if◌then◌else◌}
use Rattle.std.specs.Str.{bytes_eq}
use Rattle.common_types.specs.Names.{is_name}
use Rattle.common_types.specs.Numerals.{number_in}
use Rattle.common_types.specs.ResultChain.{◌>>=◌}
use Rattle.http_link.specs.OperatorDoor.{parted}
use Rattle.http_link.specs.Requests.{or_refused}
use Rattle.ildcp_core.specs.Request.{config_condition}
use Rattle.ilp_addr.specs.Address.{address_at}
use Rattle.ilp_addr.specs.Timestamp.{latest_expiry}
use Rattle.tenant_core.specs.Key.{Key}
use Rattle.service.specs.declared.operators.question.Question.{Question as QuestionAt}
use Rattle.service.specs.declared.operators.question.QuestionFault.{QuestionFault}
use Rattle.service.specs.declared.operators.question.QuestionFault.TheVariants.{Form, Peer, Amount, Destination}

-- the packet of a question: its sender, its amount, and its destination
pub record Question : Type 0 where
  pub peer : List ℕ
  pub amount : ℕ
  pub destination : List ℕ

-- a question without where its parts lie
abbrev pub question_at : QuestionAt → Question
question_at q = record { peer = q.peer.now; amount = q.amount; destination = q.destination }

-- what follows a key
abbrev pub after_key : List ℕ → List ℕ → Option (List ℕ)
after_key key word = if bytes_eq (take (length key) word) key then Some (drop (length key) word) else None

-- the values of `peer=PEER&amount=N&destination=ADDR`
abbrev pub values_of : Option (List ℕ) → Option (List ℕ) → Option (List ℕ) → Option (List ℕ × List ℕ × List ℕ)
values_of (Some peer) (Some amount) (Some destination) = Some (peer, amount, destination)
values_of _ _ _ = None

abbrev pub values_after : List ℕ → Option (List ℕ × List ℕ) → Option (List ℕ × List ℕ × List ℕ)
values_after peer None = None
values_after peer (Some parts) =
    values_of (after_key (codes "peer=") peer) (after_key (codes "amount=") parts.0) (after_key (codes "destination=") parts.1)

abbrev pub values_by : Option (List ℕ × List ℕ) → Option (List ℕ × List ℕ × List ℕ)
values_by None = None
values_by (Some parts) = values_after parts.0 (parted 38 parts.1)

abbrev pub values_in : List ℕ → Option (List ℕ × List ℕ × List ℕ)
values_in words = values_by (parted 38 words)

-- a value, or that fault
abbrev pub faulted : {A E : Type 0} → QuestionFault → Result A E → Result A QuestionFault
faulted fault (Ok value) = Ok value
faulted fault (Err other) = Err fault

-- the question in these words, or their first fault
abbrev pub question_in : List ℕ → Result Question QuestionFault
question_in words = do
  values ← or_refused Form (values_in words)
  peer ← if is_name values.0 then Ok values.0 else Err Peer
  amount ← faulted Amount (number_in 0 (2 ^ 64 - 1) values.1)
  destination ← faulted Destination (address_at values.2)
  Ok (record { peer = peer; amount = amount; destination = destination })

-- the line that says why words are not a question
abbrev pub fault_line : QuestionFault → List ℕ
fault_line Form = codes "a question is peer=PEER&amount=N&destination=ADDRESS\n"
fault_line Peer = codes "peer: 1 to 32 small letters, digits and -\n"
fault_line Amount = codes "amount: a whole number up to 18446744073709551615\n"
fault_line Destination = codes "destination: an ILP address\n"

-- the packet of a question: it expires as late as a packet may, and 32 zero bytes fulfill its condition
abbrev pub key_asked : Question → Key
key_asked q = record { amount = q.amount; expiry = latest_expiry; condition = config_condition; destination = q.destination }
