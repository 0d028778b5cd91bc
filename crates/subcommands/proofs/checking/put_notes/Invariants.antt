use Rattle.std.proofs.Common.{◌≡◌, ◌++◌, take}
use Rattle.std.specs.List.{flat_map}
use Rattle.subcommands.specs.Checking.{note_line}
use Rattle.subcommands.proofs.checking.put_notes.Given as goal

abbrev pub invariant-loop-note : goal.invariant-loop-note
invariant-loop-note l = l.text.items ≡ l.fn.text.items ++ flat_map note_line (take l.note-index l.notes)
