-- What the tree of a source is, and what it does.
use Rattle.std.specs.Prelude.{◌≡◌, ℕ, ℤ, List, map}
use Rattle.sat_base.specs.declared.name.At.{At}
use Rattle.c_typed.specs.declared.typed.Typed.{Typed}
use Rattle.call_structure.specs.Definitions.{AreDefinitions}
use Rattle.typed_meaning.specs.Observed.{observed, trace_of}
use Rattle.ir_arena.specs.declared.ir.Ir.{Ir}
use Rattle.ir_arena.specs.declared.ir.IrFunction.{IrFunction}
use Rattle.ir_arena.specs.Placed.{whole_of}
use Rattle.ir_cuts.specs.Cuts.{cuts_of}
use Rattle.tree_meaning.specs.Observed.{tree_observed, tree_trace}
use Rattle.whole_trees.specs.Sources.{function_at, numbers_defined, whole_tree}

-- The functions, objects and sites are those of the source's tree; the cuts are those of that tree; the relational
-- constants and the number of the table of weights are the source's.
pub record IsTreeBy (typed : Typed) (definitions : List (ℕ × At)) (ir : Ir) : Type 0 where
  pub tree : whole_of ir ≡ whole_tree typed definitions
  pub names : map (λ (function : IrFunction). function.name) ir.functions ≡ map (λ (number : ℕ). (function_at typed.functions number).name) (numbers_defined definitions)
  pub cuts : ir.cuts ≡ cuts_of (whole_tree typed definitions)
  pub constants : ir.constants ≡ typed.constants
  pub weights : ir.weights ≡ typed.weights

-- the tree of the source by its definitions
pub record IsTreeOf (typed : Typed) (ir : Ir) : Type 0 where
  pub definitions : List (ℕ × At)
  pub are : AreDefinitions typed definitions
  pub is : IsTreeBy typed definitions ir

-- on every input and at every number of turns the tree is observed as the source is, and evaluates the same sites
pub record DoesAs (typed : Typed) (ir : Ir) : Type 0 where
  pub observed : (input : List ℤ) (turns : ℕ) → tree_observed (whole_of ir) input turns ≡ observed typed input turns
  pub trace : (input : List ℤ) (turns : ℕ) → tree_trace (whole_of ir) input turns ≡ trace_of typed input turns
