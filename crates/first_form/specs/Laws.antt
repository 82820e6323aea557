-- What follows from the form alone.
use Rattle.std.specs.Prelude.{◌≡◌, ◌+◌, ◌≤◌, All}
use Rattle.c_tree.specs.declared.program.Program.{Program}
use Rattle.c_tree.specs.Depth.{depth_of}
use Rattle.first_form.specs.declared.first.First.{First}
use Rattle.first_form.specs.Form.{IsFirst, HasOperands, nesting_of}

-- a tree has the first form in at most one way
abbrev pub IsFirstAtMostOnce : Type 0
IsFirstAtMostOnce = (program : Program) (p q : First) → IsFirst program p → IsFirst program q → p ≡ q

-- the statement and the expression within are nodes too, so calls are nested two less deep than the tree is
abbrev pub IsShallow : Type 0
IsShallow = (program : Program) (first : First) → IsFirst program first → All (λ e. nesting_of e + 2 ≤ depth_of program) first.outs

-- all numbers of a source are operands
abbrev pub HasOperandsAlone : Type 0
HasOperandsAlone = (program : Program) (first : First) → IsFirst program first → All HasOperands first.outs
