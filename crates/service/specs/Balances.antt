-- What a service prints of its books at the end.
use Rattle.std.specs.Prelude.{ℕ, List}
use Rattle.std.specs.List.{flat_map}
use Rattle.tenant_core.specs.State.{State}
use Rattle.tenant_core.specs.Governed.{command_answer}
use Rattle.tenant_core.specs.declared.command.Command.TheVariants.{Balances}
use Rattle.floor_core.specs.declared.step.Output.{Output}
use Rattle.floor_core.specs.declared.step.Output.TheVariants.{Governed}
use Rattle.output_text.specs.Printed.{output_line}

-- the answer of a book to the command `balances`
abbrev pub balances_told : State → Output
balances_told book = Governed book.opening.tenant (command_answer book Balances 0)

-- the lines of that, for some books with their numbers
abbrev pub balance_lines : List (List ℕ) → List (State × ℕ) → List ℕ
balance_lines names books = flat_map (λ book. output_line names (balances_told book.0)) books
