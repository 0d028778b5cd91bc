use Rattle.std.proofs.Common.{◌≡◌, Result, Ok, Err, IfOk}
use Rattle.common_types.specs.Outcomes.{GivesUnlessMemory, OnMemory}
use Rattle.common_types.specs.Words.{words_of}
use Rattle.common_types.specs.declared.read_error.ReadError.{ReadError}
use Rattle.common_types.specs.declared.read_error.ReadError.TheVariants.{Memory, Fault}
use Rattle.tenant_core.specs.declared.command.Command.{Command}
use Rattle.admin_text.specs.Commands.{command_in, IsCommandText}
use Rattle.admin_text.specs.declared.commands.TextFault.{TextFault}
use Rattle.admin_text.proofs.Verbs.{begins_with_prefix}
use Rattle.admin_text.proofs.commands.parse_command.Goals as goal

-- a reading that gave a command
gave : (r : Result Command (ReadError TextFault)) (read : Result Command TextFault) (P : Command → Type 0) → GivesUnlessMemory (λ c. c) r read
    → ((c : Command) → read ≡ Ok c → P c) → IfOk r P
gave (Ok c) read P h p = p c h
gave (Err e) read P h p = tt

pub returns-clause-found : goal.returns-clause-found
returns-clause-found c =
    gave c.command_among.result (command_in c.args.text.now) (IsCommandText c.args.text.now) (rw c.of.ensures at c.command_among.ensures.exact)
    (λ x h. (c.commands.ensures.spelled_is_read c.args.text.now x).1 h)

pub returns-clause-only : goal.returns-clause-only
returns-clause-only c = λ x h. rw (c.of.ensures, (c.commands.ensures.spelled_is_read c.args.text.now x).0 h) at c.command_among.ensures.exact

-- a fact where memory was refused, and what follows from it
follows : (r : Result Command (ReadError TextFault)) (P Q : Type 0) → OnMemory r P → (P → Q) → OnMemory r Q
follows (Ok c) P Q h so = tt
follows (Err Memory) P Q h so = so h
follows (Err (Fault f)) P Q h so = tt

pub returns-clause-memory : goal.returns-clause-memory
returns-clause-memory c =
    follows c.command_among.result _ _ (rw c.of.ensures at c.command_among.ensures.memory)
    (begins_with_prefix (words_of c.args.text.now))
