-- How much the code of a source may cost: no more than its tokens have room for, and no less than its intermediate tree.
use Rattle.std.specs.Prelude.{ℕ, ◌+◌, ◌*◌, ◌≤◌, Bool, length}
use Rattle.c_lexer.specs.declared.token.Tokens.{Tokens}
use Rattle.c_tree.specs.declared.call.Arg.{Arg}
use Rattle.c_tree.specs.declared.call.Call.{Call}
use Rattle.c_tree.specs.declared.expression.Expr.{Expr}
use Rattle.c_tree.specs.declared.place.Place.{Place}
use Rattle.c_tree.specs.declared.program.Program.{Program}
use Rattle.c_tree.specs.declared.statement.Block.{Block}
use Rattle.c_tree.specs.declared.statement.Stmt.{Stmt}
use Rattle.c_grammar.specs.Programs.{Spells}
use Rattle.c_typed.specs.declared.typed.Typed.{Typed}
use Rattle.source_runs.specs.declared.location.Access.{Access}
use Rattle.ir_arena.specs.Costs.{argument_words, beginning_words, cost_of, cost_of_target, cost_of_functions}
use Rattle.source_trees.specs.Expressions.{TreeSetting, expression_tree, place_tree, argument_tree, call_tree}
use Rattle.source_trees.specs.Statements.{statement_tree, block_tree}
use Rattle.tied_names.specs.Ties.{Here}
use Rattle.tied_names.specs.declared.tie.Asked.{Asked}
use Rattle.tied_expressions.specs.Expressions.{tied_expression, tied_place, tied_argument, tied_call}
use Rattle.tied_statements.specs.Statements.{tied_statement, tied_block}
use Rattle.tied_statements.specs.declared.statements.Inside.{Inside}
use Rattle.c_types.specs.Tied.{IsTied}
use Rattle.source_costs.specs.Costs.{around_words, cost_of_expression, cost_of_place, cost_of_argument, cost_of_call, cost_of_statement, cost_of_block, cost_of_source}
use Rattle.source_costs.specs.Trees.{function_trees}

-- the words for which each token has room
abbrev pub token_words : ℕ
token_words = 128

abbrev pub TokensCoverCosts : Type 0
TokensCoverCosts = (program : Program) (tokens : Tokens) → Spells program tokens → cost_of_source program ≤ token_words * length tokens.list

-- Whatever its names are tied to, and whatever its tree looks up, no part costs less than its tree. An expression
-- has room for a conversion and for an argument around it, and an argument for what brings it to its parameter.
pub record TreesCostNoMore : Type 0 where
  pub expressions : (trees : TreeSetting) (here : Here) (e : Expr) → around_words + cost_of (expression_tree trees (tied_expression e here).value) ≤ cost_of_expression e
  pub places : (trees : TreeSetting) (here : Here) (place : Place) (ampersand : Bool) (which : Access)
      → cost_of_target (place_tree trees (tied_place place here ampersand).value which) ≤ cost_of_place place
  pub arguments : (trees : TreeSetting) (here : Here) (arg : Arg) (asked : Asked) → argument_words + cost_of (argument_tree trees (tied_argument arg here asked).value) ≤ cost_of_argument arg
  pub calls : (trees : TreeSetting) (here : Here) (call : Call) → cost_of (call_tree trees (tied_call call here).value) ≤ cost_of_call call
  pub statements : (trees : TreeSetting) (here : Here) (inside : Inside) (stmt : Stmt) (cut : ℕ)
      → cost_of (statement_tree trees (tied_statement stmt here inside).value cut).tree ≤ cost_of_statement stmt
  pub blocks : (trees : TreeSetting) (here : Here) (inside : Inside) (block : Block) (cut : ℕ)
      → cost_of (block_tree trees (tied_block block here inside).value cut).tree ≤ cost_of_block block

-- Nor do the trees of all its functions cost more than a source, whatever number the first loop of each has.
abbrev pub SourcesCostNoMore : Type 0
SourcesCostNoMore =
    (program : Program) (typed : Typed) → IsTied program typed → (trees : TreeSetting) (cuts : ℕ → ℕ)
    → beginning_words + cost_of_functions (function_trees trees cuts 0 typed.functions) ≤ cost_of_source program
