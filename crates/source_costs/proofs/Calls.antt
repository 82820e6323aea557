-- Marks, indices and calls, by what their parts cost.
use Rattle.std.proofs.Common.{◌≡◌, ℕ, ◌+◌, ◌≤◌, Bool, true, false, List, [], ◌∷◌, refl, arith}
use Rattle.std.specs.Prelude.{◌==◌}
use Rattle.c_tree.specs.declared.expression.BinaryMark.{BinaryMark}
use Rattle.c_tree.specs.declared.expression.BinaryMark.TheVariants as binary
use Rattle.c_tree.specs.declared.expression.UnaryMark.{UnaryMark}
use Rattle.c_tree.specs.declared.expression.UnaryMark.TheVariants as unary
use Rattle.c_typed.specs.declared.call.Callee.{Callee}
use Rattle.c_typed.specs.declared.call.Callee.TheVariants.{Function, Operator, Move16, Move32, Logic16, Logic32, Test, SampleIn, SampleLeft, SampleOut}
use Rattle.source_runs.specs.declared.location.Access.{Access}
use Rattle.source_runs.specs.declared.location.Access.TheVariants as access
use Rattle.source_runs.specs.declared.shape.Shape.{Shape}
use Rattle.ir_arena.specs.Costs.{operand_words, argument_words, site_words, words_of_site, cost_of, cost_of_target, costs_of, costs_of_arguments}
use Rattle.ir_arena.specs.Tree.{IrTree, IrTrees, trees_from}
use Rattle.source_trees.specs.Expressions.{TreeSetting, unary_tree, binary_tree, index_kind, indexed, called_tree}
use Rattle.source_costs.specs.Costs.{total, marked_words, called_words}

pub unary_costs : (mark : UnaryMark) (site : ℕ) (part : IrTree) → cost_of (unary_tree mark site part) ≤ marked_words + cost_of part
unary_costs unary.Minus site part = omega arith
unary_costs unary.Plus site part = omega arith
unary_costs unary.Not site part = omega arith
unary_costs unary.Invert site part = omega arith

pub binary_costs : (mark : BinaryMark) (site : ℕ) (one other : IrTree) → cost_of (binary_tree mark site one other) ≤ marked_words + cost_of one + cost_of other
binary_costs binary.Plus site one other = omega arith
binary_costs binary.Minus site one other = omega arith
binary_costs binary.Times site one other = omega arith
binary_costs binary.Either site one other = omega arith
binary_costs binary.Both site one other = omega arith
binary_costs binary.BitOr site one other = omega arith
binary_costs binary.BitXor site one other = omega arith
binary_costs binary.BitAnd site one other = omega arith
binary_costs binary.Eq site one other = omega arith
binary_costs binary.Ne site one other = omega arith
binary_costs binary.Lt site one other = omega arith
binary_costs binary.Le site one other = omega arith
binary_costs binary.Gt site one other = omega arith
binary_costs binary.Ge site one other = omega arith

-- ---- places

-- an object by its indices costs the same as an array and through a view
indexed_by : (shape : Shape) (view : Bool) (index : IrTrees) → shape.view ≡ view → cost_of_target (indexed shape index) ≡ operand_words + costs_of index
indexed_by shape true index is = rw is refl
indexed_by shape false index is = rw is refl

pub indexed_costs : (shape : Shape) (index : IrTrees) → cost_of_target (indexed shape index) ≡ operand_words + costs_of index
indexed_costs shape index = indexed_by shape shape.view index refl

-- the site of an index, whatever it is checked against, is no operator
index_by : (which : Access) (shape : Shape) (view flat : Bool) → shape.view ≡ view → (shape.columns == 0) ≡ flat → words_of_site (index_kind which shape) ≡ site_words
index_by access.Element shape true flat is row = rw is refl
index_by access.Address shape true flat is row = rw is refl
index_by which shape false true is row = rw (is, row) refl
index_by which shape false false is row = rw (is, row) refl

pub index_costs : (which : Access) (shape : Shape) → words_of_site (index_kind which shape) ≡ site_words
index_costs which shape = index_by which shape shape.view (shape.columns == 0) refl refl

-- ---- calls

listed_costs : (trees : List IrTree) → costs_of (trees_from trees) ≤ total (λ tree. argument_words + cost_of tree) trees
listed_costs [] = omega arith
listed_costs (tree ∷ trees) = omega (arith, listed_costs trees)

arguments_cost : (trees : List IrTree) → costs_of_arguments (trees_from trees) ≤ total (λ tree. argument_words + cost_of tree) trees
arguments_cost [] = omega arith
arguments_cost (tree ∷ trees) = omega (arith, arguments_cost trees)

-- whatever is called
pub called_costs : (here : TreeSetting) (callee : Callee) (site : ℕ) (args : List IrTree) → cost_of (called_tree here callee site args) ≤ called_words + total (λ tree. argument_words + cost_of tree) args
called_costs here (Function number) site args = omega (arith, arguments_cost args)
called_costs here (Operator op) site args = omega (arith, listed_costs args)
called_costs here Move16 site args = omega arith
called_costs here Move32 site args = omega arith
called_costs here Logic16 site args = omega arith
called_costs here Logic32 site args = omega arith
called_costs here Test site args = omega arith
called_costs here SampleIn site args = omega arith
called_costs here SampleLeft site args = omega arith
called_costs here SampleOut site [] = omega arith
called_costs here SampleOut site (arg ∷ args) = omega arith
