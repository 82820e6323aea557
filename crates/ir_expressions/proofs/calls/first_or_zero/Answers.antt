use Rattle.std.proofs.Common.{◌≡◌, ◌∙◌, List, [], ◌∷◌, map, refl}
use Rattle.std.specs.Prelude.{pos, None}
use Rattle.std.specs.List.{slice_get}
use Rattle.ir_arena.specs.declared.node.Node.{Node}
use Rattle.ir_arena.specs.Placed.{tree_of}
use Rattle.ir_arena.specs.Tree as tree
use Rattle.ir_arena.proofs.Trees.{tree-Constant}
use Rattle.source_trees.specs.Expressions.{first_or_zero}
use Rattle.ir_expressions.proofs.calls.first_or_zero.Goals as goal

none_is_zero : (nodes : List Node) → None ≡ slice_get nodes 0 → tree.Constant (pos 0) ≡ first_or_zero (map tree_of nodes)
none_is_zero [] is = refl
none_is_zero (node ∷ nodes) is = cc

pub returns-in-None : goal.returns-in-None
returns-in-None c = tree-Constant (pos 0) ∙ none_is_zero _ c.in-None.ensures.value
