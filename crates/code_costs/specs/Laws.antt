-- How many words emitted code has.
use Rattle.std.specs.Prelude.{◌+◌, ◌≤◌, Bool, List, length}
use Rattle.operator_meaning.specs.declared.object.Object.{Object}
use Rattle.ir_arena.specs.Costs.{beginning_words, cost_of_function}
use Rattle.ir_arena.specs.Tree.{TreeFunction}
use Rattle.code_stacks.specs.Places.{Layout}
use Rattle.program_code.specs.Code.{program_code}

-- A node that has no code has no words, so that this is so of every tree.
abbrev pub ProgramsAreShort : Type 0
ProgramsAreShort = (objects : List Object) (l : Layout) (near : Bool) (main : TreeFunction) → length (program_code objects l near main.body) ≤ beginning_words + cost_of_function main
