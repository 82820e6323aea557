-- Which nodes surely return (C90, 6.6.6.4).
use Rattle.std.specs.Prelude.{Bool, true, false, not, pos, List, [], ◌∷◌, Option, Some, None}
use Rattle.std.specs.Ordering.{int_eq}
use Rattle.ir_arena.specs.Tree as tree
use Rattle.ir_arena.specs.Tree.{IrTree, IrTrees}
use Rattle.lawful_sources.specs.Returns.{Ending, goes_on, some_returns, some_breaks, branches, loop}

abbrev pub is_nonzero : IrTree → Bool
is_nonzero (tree.Constant value) = not (int_eq value (pos 0))
is_nonzero node = false

-- a missing condition is 1
abbrev pub is_endless : IrTrees → Bool
is_endless tree.end = true
is_endless (tree.more cond rest) = is_nonzero cond

-- a body that comes before the condition may be left by that
abbrev pub looped : Bool → IrTrees → Ending → Ending
looped true cond body = loop (is_endless cond) body
looped false cond body = goes_on

abbrev pub leaving : Bool → Ending
leaving true = goes_on
leaving false = record { returns = false; breaks = true }

abbrev pub first_of : List Ending → Option Ending
first_of [] = None
first_of (one ∷ rest) = Some one

abbrev mutual
  pub ending_in : IrTree → Ending
  ending_in (tree.Block first count starts parts) = record { returns = some_returns (endings_in parts); breaks = some_breaks (endings_in parts) }
  ending_in (tree.If cond this other) = branches (ending_in this) (first_of (endings_in other))
  ending_in (tree.Loop cut tests_first first cond last body) = looped tests_first cond (ending_in body)
  ending_in (tree.Leave again) = leaving again
  ending_in (tree.Return value) = record { returns = true; breaks = false }
  ending_in node = goes_on

  pub endings_in : IrTrees → List Ending
  endings_in tree.end = []
  endings_in (tree.more first rest) = ending_in first ∷ endings_in rest
