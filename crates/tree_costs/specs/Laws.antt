-- What the tree of a whole source costs at most.
use Rattle.std.specs.Prelude.{◌*◌, ◌≤◌, length}
use Rattle.c_lexer.specs.declared.token.Tokens.{Tokens}
use Rattle.c_tree.specs.declared.program.Program.{Program}
use Rattle.c_grammar.specs.Programs.{Spells}
use Rattle.c_typed.specs.declared.typed.Typed.{Typed}
use Rattle.c_types.specs.Tied.{IsTied}
use Rattle.ir_arena.specs.declared.ir.Ir.{Ir}
use Rattle.ir_arena.specs.Costs.{cost_of_whole}
use Rattle.ir_arena.specs.Placed.{whole_of}
use Rattle.lawful_ir.specs.Built.{IsTreeOf}
use Rattle.source_costs.specs.Costs.{cost_of_source}
use Rattle.source_costs.specs.Laws.{token_words}

abbrev pub WholeTreesCostNoMore : Type 0
WholeTreesCostNoMore =
    (program : Program) (typed : Typed) (ir : Ir) → IsTied program typed → IsTreeOf typed ir → cost_of_whole (whole_of ir) ≤ cost_of_source program

abbrev pub TokensCoverTrees : Type 0
TokensCoverTrees =
    (program : Program) (tokens : Tokens) (typed : Typed) (ir : Ir) → Spells program tokens → IsTied program typed → IsTreeOf typed ir
    → cost_of_whole (whole_of ir) ≤ token_words * length tokens.list
