-- The command that the program's arguments name.
use Rattle.std.specs.Prelude.{ℕ, List, [], ◌∷◌, codes, nat_eq, if◌then◌else◌, Option, None, Some, String, string_bytes}
use Rattle.std.specs.Cmp.Lexicographic.{pointwise}
use Rattle.std.specs.declared.alloc.Global.{Global}
use Rattle.regalloc2_tool.specs.declared.ra2.task.Command.{Command}
use Rattle.regalloc2_tool.specs.declared.ra2.task.Command.TheVariants.{Allocate, Replay}
use Rattle.regalloc2_tool.specs.declared.ra2.task.Task.TheVariants.{Run, Check}

-- the command that one argument names
abbrev pub command_named : List ℕ → Option Command
command_named word =
    if pointwise nat_eq word (codes "run") then Some (Allocate Run)
    else if pointwise nat_eq word (codes "check") then Some (Allocate Check)
    else if pointwise nat_eq word (codes "replay") then Some Replay
    else None

-- no argument, and two arguments or more, name no command
abbrev pub command_of : List (String Global) → Option Command
command_of [] = None
command_of (word ∷ []) = command_named (string_bytes word)
command_of (word ∷ other ∷ others) = None
