use Rattle.std.proofs.Common.{◌≡◌, ◌++◌, ℕ, map, drop}
use Rattle.ir_arena.specs.declared.ir.IrFunction.{IrFunction}
use Rattle.ir_arena.specs.Placed.{function_of}
use Rattle.ir_expressions.specs.Building.{setting}
use Rattle.whole_trees.specs.Sources.{function_at, functions_along}
use Rattle.whole_trees.proofs.function_trees.functions.Given as goal

abbrev pub invariant-loop-number : goal.invariant-loop-number
invariant-loop-number l =
    (map function_of l.made ++ functions_along (setting l.build) (map (function_at l.functions) (drop l.number-index l.defined)) l.first
    ≡ functions_along (setting l.build) (map (function_at l.functions) l.defined) 0)
    × (map (λ (function : IrFunction). function.name) l.made ++ map (λ (number : ℕ). (function_at l.functions number).name) (drop l.number-index l.defined)
    ≡ map (λ (number : ℕ). (function_at l.functions number).name) l.defined)
