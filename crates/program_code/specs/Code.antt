-- The code of a program: the base of the data, the body of `main`, and the end of the run.
use Rattle.std.specs.Prelude.{pos, Bool, List, [], ◌∷◌, ◌++◌}
use Rattle.operator_meaning.specs.declared.object.Object.{Object}
use Rattle.code_lines.specs.declared.word.Word.{Word}
use Rattle.code_lines.specs.Own.{Addi, Ecall}
use Rattle.ir_arena.specs.Tree.{IrTree}
use Rattle.code_lines.specs.Pieces.{number_code}
use Rattle.code_memory.specs.Memory.{base_register, base}
use Rattle.code_stacks.specs.Places.{Layout}
use Rattle.statement_code.specs.Code.{nowhere, part_of, whole_code}

abbrev pub start_code : List Word
start_code = number_code base_register base

-- the environment call 4 ends the run
abbrev pub end_line : List Word
end_line = Addi 17 0 (pos 4) ∷ []

abbrev pub end_code : List Word
end_code = end_line ++ Ecall ∷ []

module _ (objects : List Object) (l : Layout) (near : Bool) where
  -- every way out of the body leads to the end
  abbrev pub body_code : IrTree → List Word
  body_code body = whole_code (part_of objects l near body) nowhere

  abbrev pub program_code : IrTree → List Word
  program_code body = start_code ++ (body_code body ++ end_code)
