-- A tree by its fields.
use Rattle.std.proofs.Common.{◌≡◌, ◌∙◌, ap, List, ℕ, map, Result, Ok, Err, IfOk}
use Rattle.sat_base.specs.declared.name.At.{At}
use Rattle.c_typed.specs.declared.typed.Typed.{Typed}
use Rattle.ir_arena.specs.declared.ir.Ir.{Ir}
use Rattle.ir_arena.specs.declared.ir.IrFunction.{IrFunction}
use Rattle.ir_arena.specs.Placed.{function_of}
use Rattle.ir_cuts.specs.Cuts.{cuts_from}
use Rattle.whole_trees.specs.Sources.{setting_for, function_at, numbers_defined, defined_functions, functions_along, main_in, renumbered}
use Rattle.lawful_ir.specs.Built.{IsTreeBy}

module _ (typed : Typed) (definitions : List (ℕ × At)) (made : List IrFunction) where
  -- the functions are those of the source
  pub record AreTheirs : Type 0 where
    pub trees : map function_of made ≡ functions_along (setting_for typed definitions) (defined_functions typed definitions) 0
    pub names : map (λ (function : IrFunction). function.name) made ≡ map (λ (number : ℕ). (function_at typed.functions number).name) (numbers_defined definitions)

  -- and what stands beside them is the source's
  pub record HasFields (ir : Ir) : Type 0 where
    pub functions : ir.functions ≡ made
    pub main : ir.main ≡ main_in typed definitions
    pub objects : ir.objects ≡ map (renumbered definitions) typed.objects
    pub sites : ir.sites ≡ typed.sites
    pub cuts : ir.cuts ≡ cuts_from (map (renumbered definitions) typed.objects) 0 (map function_of made)
    pub constants : ir.constants ≡ typed.constants
    pub weights : ir.weights ≡ typed.weights

  pub is_tree : (ir : Ir) → AreTheirs → HasFields ir → IsTreeBy typed definitions ir
  is_tree ir theirs has = record {
    tree = λ i. record { functions = (ap (map function_of) has.functions ∙ theirs.trees) i; main = has.main i; objects = has.objects i; sites = has.sites i };
    names = ap (map (λ (function : IrFunction). function.name)) has.functions ∙ theirs.names;
    cuts = has.cuts ∙ ap (cuts_from (map (renumbered definitions) typed.objects) 0) theirs.trees;
    constants = has.constants;
    weights = has.weights;
  }

  -- where there is a tree, with all its fields
  pub with_fields : {E : Type 0} (r : Result Ir E) → IfOk r (λ ir. ir.functions ≡ made) → IfOk r (λ ir. ir.main ≡ main_in typed definitions)
      → IfOk r (λ ir. ir.objects ≡ map (renumbered definitions) typed.objects) → IfOk r (λ ir. ir.sites ≡ typed.sites)
      → IfOk r (λ ir. ir.cuts ≡ cuts_from (map (renumbered definitions) typed.objects) 0 (map function_of made))
      → IfOk r (λ ir. ir.constants ≡ typed.constants) → IfOk r (λ ir. ir.weights ≡ typed.weights) → IfOk r HasFields
  with_fields (Ok ir) functions main objects sites cuts constants weights =
      record { functions = functions; main = main; objects = objects; sites = sites; cuts = cuts; constants = constants; weights = weights }
  with_fields (Err e) functions main objects sites cuts constants weights = tt
