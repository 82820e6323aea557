-- Walks of calls between the functions of a source, which no order of the functions is part of.
use Rattle.std.specs.Prelude.{◌≡◌, ℕ, zero, suc, List, Some, slice_get, Contains}
use Rattle.c_typed.specs.declared.typed.Typed.{Typed}
use Rattle.c_typed.specs.declared.typed.TypedFunction.{TypedFunction}
use Rattle.sat_base.specs.declared.name.At.{At}
use Rattle.call_structure.specs.declared.refusal.OrderRefusal.{OrderRefusal}
use Rattle.call_structure.specs.Calls.{called_by}
use Rattle.call_structure.specs.Orders.{IsCallersFirst, IsFirstRecursion}

-- the function of this number has a definition, with this name in it
pub record IsDefinedAt (functions : List TypedFunction) (number : ℕ) (name : At) : Type 0 where
  pub function : TypedFunction
  pub there : slice_get functions number ≡ Some function
  pub defined : function.defined ≡ Some name

abbrev pub IsDefined : List TypedFunction → ℕ → Type 0
IsDefined functions number = (name : At) × IsDefinedAt functions number name

-- f and g have definitions, and a call of g stands in that of f
pub record CallsFunction (typed : Typed) (f g : ℕ) : Type 0 where
  pub caller : IsDefined typed.functions f
  pub callee : IsDefined typed.functions g
  pub called : Contains (called_by typed f) g

-- so many calls lead from f to g, one after the other
abbrev pub CallWalk : Typed → ℕ → ℕ → ℕ → Type 0
CallWalk typed zero f g = f ≡ g
CallWalk typed (suc n) f g = (h : ℕ) × CallsFunction typed f h × CallWalk typed n h g

-- one call or more lead from f to f
abbrev pub ReachesItself : Typed → ℕ → Type 0
ReachesItself typed f = (n : ℕ) × CallWalk typed (suc n) f f

-- where there is an order, no function reaches itself
abbrev pub OrdersAreFree : Type 0
OrdersAreFree = (typed : Typed) (functions : List ℕ) → IsCallersFirst typed functions → (f : ℕ) → ReachesItself typed f → ⊥

-- where a recursion is told, some function does
abbrev pub RecursionsAre : Type 0
RecursionsAre = (typed : Typed) (refusal : OrderRefusal) → IsFirstRecursion typed refusal → (f : ℕ) × ReachesItself typed f
