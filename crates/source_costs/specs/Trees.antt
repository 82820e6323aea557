-- The trees of the defined functions of a source, in the order of their first declarations.
use Rattle.std.specs.Prelude.{ℕ, ◌+◌, List, [], ◌∷◌, Option, Some, None}
use Rattle.c_typed.specs.declared.statement.TypedBlock.{TypedBlock}
use Rattle.c_typed.specs.declared.typed.TypedFunction.{TypedFunction}
use Rattle.ir_arena.specs.Tree.{TreeFunction}
use Rattle.source_trees.specs.Expressions.{TreeSetting}
use Rattle.source_trees.specs.Statements.{block_tree}

-- a function has a tree where it is defined; its first loop has this number
abbrev pub with_tree : TreeSetting → ℕ → TypedFunction → Option TypedBlock → List TreeFunction → List TreeFunction
with_tree trees cut function None rest = rest
with_tree trees cut function (Some body) rest = record { gives = function.gives; params = function.params; body = (block_tree trees body cut).tree } ∷ rest

-- the functions from the one with this number on, where the first loop of each has the number that its own gives
abbrev pub function_trees : TreeSetting → (ℕ → ℕ) → ℕ → List TypedFunction → List TreeFunction
function_trees trees cuts number [] = []
function_trees trees cuts number (function ∷ functions) = with_tree trees (cuts number) function function.body (function_trees trees cuts (number + 1) functions)
