-- Which trees are those of a source, and why others are none.
use Rattle.std.specs.Prelude.{◌≡◌, ℕ, List, [], map, Option, Some, None, slice_get}
use Rattle.sat_base.specs.declared.position.Pos.{Pos}
use Rattle.c_tree.specs.declared.program.Program.{Program}
use Rattle.c_typed.specs.declared.typed.Typed.{Typed}
use Rattle.c_typed.specs.declared.typed.TypedFunction.{TypedFunction}
use Rattle.c_faults.specs.Faults.{faults_of}
use Rattle.c_faults.specs.Told.{first_of}
use Rattle.c_types.specs.Tied.{IsTyped}
use Rattle.call_structure.specs.Orders.{IsCallersFirst, IsFirstRecursion}
use Rattle.call_structure.specs.declared.refusal.OrderRefusal.TheVariants as order
use Rattle.sat_compile.specs.declared.refusal.CompileRefusal.{CompileRefusal}
use Rattle.sat_compile.specs.declared.refusal.CompileRefusal.TheVariants.{TooLong, Lex, Syntax, TooDeep, Faulty, Recursive, NotYet, Memory}

-- the tree has no fault and passes no limit, these are its tied names, and no function reaches itself
pub record IsChecked (program : Program) (typed : Typed) (functions : List ℕ) : Type 0 where
  pub tied : IsTyped program typed
  pub order : IsCallersFirst typed functions

abbrev pub name_at : Option TypedFunction → List ℕ
name_at None = []
name_at (Some function) = function.name

-- the names of the functions of these numbers
abbrev pub names_in : List TypedFunction → List ℕ → List (List ℕ)
names_in functions numbers = map (λ number. name_at (slice_get functions number)) numbers

-- a function reaches itself: the cycle of the first that does, told by names at its definition
pub record IsRecursive (program : Program) (pos : Pos) (names : List (List ℕ)) : Type 0 where
  pub typed : Typed
  pub tied : IsTyped program typed
  pub cycle : List ℕ
  pub recursion : IsFirstRecursion typed (order.Recursive pos cycle)
  pub names_are : names ≡ names_in typed.functions cycle

-- The tree has this fault, which is the first of all; or else a function reaches itself. Memory may want at any time.
abbrev pub IsUnchecked : Program → CompileRefusal → Type 0
IsUnchecked program TooLong = ⊥
IsUnchecked program (Lex kind at) = ⊥
IsUnchecked program (Syntax tok at) = ⊥
IsUnchecked program (TooDeep tok at) = ⊥
IsUnchecked program (Faulty fault) = first_of (faults_of program) ≡ Some fault
IsUnchecked program (Recursive pos names) = IsRecursive program pos names
IsUnchecked program NotYet = ⊥
IsUnchecked program Memory = Unit {0}
