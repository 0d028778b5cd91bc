-- The lines that are printed: one or more for each output, each ended by a line feed.
use Rattle.std.specs.Prelude.{ℕ, ◌≡◌, ◌+◌, ◌<◌, ◌≤◌, List, [], ◌∷◌, ◌++◌, slice_index_or, length, codes, Result, Ok, Err}
use Rattle.std.specs.Global.{Vec}
use Rattle.std.specs.Vec.{vec_capacity, vec_items}
use Rattle.std.specs.List.{flat_map}
use Rattle.std.specs.Fmt.{decimal, signed_decimal}
use Rattle.hex.specs.Hex.{encode_lower}
use Rattle.tenant_core.specs.declared.command.Answered.{Answered}
use Rattle.tenant_core.specs.declared.command.Answered.TheVariants.{Done, Balances, Rolled}
use Rattle.tenant_core.specs.declared.faults.BookFault.{BookFault}
use Rattle.tenant_core.specs.declared.faults.BookFault.TheVariants.{Full}
use Rattle.tenant_core.specs.declared.faults.CommandFault.{CommandFault}
use Rattle.tenant_core.specs.declared.faults.CommandFault.TheVariants as refused
use Rattle.tenant_core.specs.declared.row.Row.{Row}
use Rattle.floor_core.specs.declared.step.Malformed.{Malformed}
use Rattle.floor_core.specs.declared.step.Malformed.TheVariants.{Token, Kind, Oer, Field, AfterEnd, Size}
use Rattle.floor_core.specs.declared.step.Output.{Output}
use Rattle.floor_core.specs.declared.step.Output.TheVariants.{Busy, Idle, Loaded, Bad, Stranger, Reply, Send, Ticked, Governed}

-- the name of a tenant, or nothing if no tenant has that number
abbrev pub tenant_name : List (List ℕ) → ℕ → List ℕ
tenant_name names tenant = slice_index_or names tenant []

-- what is wrong with a token or a frame, in a word
abbrev pub malformed_word : Malformed → List ℕ
malformed_word Token = codes "token"
malformed_word Kind = codes "kind"
malformed_word Oer = codes "oer"
malformed_word Field = codes "field"
malformed_word AfterEnd = codes "after"
malformed_word Size = codes "size"

-- the words of a tick's answer
abbrev pub tick_text : Result ℕ BookFault → List ℕ
tick_text (Ok count) = codes " ticked " ++ decimal count
tick_text (Err Full) = codes " refused full"

-- why a command is refused, in a word; a command that runs out of memory has no answer
abbrev pub refusal_word : CommandFault → List ℕ
refusal_word refused.Full = codes "full"
refusal_word refused.InUse = codes "in-use"
refusal_word refused.Present = codes "present"
refusal_word refused.Absent = codes "absent"
refusal_word refused.Limit = codes "limit"
refusal_word refused.Memory = codes "memory"

-- the line of what a peer owes, and what is held from it and for it
unfoldable pub row_line : List ℕ → Row → List ℕ
row_line name row =
    name ++ codes " balance " ++ row.name ++ codes " " ++ signed_decimal row.balance ++ codes " "
    ++ decimal row.held_in ++ codes " " ++ decimal row.held_out ++ 10 ∷ []

-- the words of a command's answer, after a line for what each peer owes if the answer is `Balances`
abbrev pub command_text : List ℕ → Result Answered CommandFault → List ℕ
command_text name (Ok Done) = name ++ codes " ok"
command_text name (Ok (Balances rows)) = flat_map (row_line name) rows ++ name ++ codes " ok"
command_text name (Ok (Rolled period)) =
    flat_map (row_line name) period.rows ++ name ++ codes " rolled " ++ decimal period.opening.period
    ++ codes " " ++ decimal (length period.records)
command_text name (Err fault) = name ++ codes " refused " ++ refusal_word fault

-- the lines of a command's answer
abbrev pub answer_lines : List ℕ → Result Answered CommandFault → List ℕ
answer_lines name answer = command_text name answer ++ 10 ∷ []

-- the words of an output
abbrev pub output_words : List (List ℕ) → Output → List ℕ
output_words names Busy = codes "- busy"
output_words names Idle = codes "- idle"
output_words names (Loaded tenant call) = tenant_name names tenant ++ codes " loaded " ++ decimal call
output_words names (Bad tenant kind) = tenant_name names tenant ++ codes " bad " ++ malformed_word kind
output_words names (Stranger tenant) = tenant_name names tenant ++ codes " stranger"
output_words names (Ticked tenant answer) = tenant_name names tenant ++ tick_text answer
output_words names (Governed tenant answer) = command_text (tenant_name names tenant) answer
output_words names (Reply tenant bytes) = tenant_name names tenant ++ codes " reply " ++ encode_lower bytes
output_words names (Send tenant peer hold frame) =
    tenant_name names tenant ++ codes " send " ++ peer ++ codes " " ++ decimal hold ++ codes " " ++ encode_lower frame

-- the line of an output, or its lines
unfoldable pub output_line : List (List ℕ) → Output → List ℕ
output_line names output = output_words names output ++ 10 ∷ []

-- the lines of some outputs, for tenants of these names
abbrev pub printed_lines : List (List ℕ) → List Output → List ℕ
printed_lines names outputs = flat_map (output_line names) outputs

-- a text was appended to another, which has no less capacity then; or there was too little room for
-- both
abbrev pub Puts : {A E : Type 0} → Result A E → (old new : Vec ℕ) → (text : List ℕ) → Type 0
Puts (Ok done) old new text = (vec_items new ≡ vec_items old ++ text) × (vec_capacity old ≤ vec_capacity new)
Puts (Err fault) old new text = vec_capacity old < length (vec_items old) + length text
