-- Orders of the functions of a source, and why there is none.
use Rattle.std.specs.Prelude.{◌≡◌, ℕ, List, [], ◌∷◌, map}
use Rattle.c_typed.specs.declared.typed.Typed.{Typed}
use Rattle.call_graph.specs.Cycles.{IsFirstCycle}
use Rattle.call_graph.specs.Orders.{IsOrder}
use Rattle.call_structure.specs.declared.refusal.OrderRefusal.{OrderRefusal}
use Rattle.call_structure.specs.declared.refusal.OrderRefusal.TheVariants.{Recursive, Memory}
use Rattle.call_structure.specs.Calls.{calls_among}
use Rattle.call_structure.specs.Definitions.{AreDefinitions, definition_at}
use Rattle.sat_base.specs.declared.name.At.{At}

-- the functions whose definitions stand at these places
abbrev pub numbers_at : List (ℕ × At) → List ℕ → List ℕ
numbers_at definitions places = map (λ place. (definition_at definitions place).0) places

-- each function that has a definition stands in the order once, and before those that it calls
pub record IsCallersFirst (typed : Typed) (functions : List ℕ) : Type 0 where
  pub definitions : List (ℕ × At)
  pub are : AreDefinitions typed definitions
  pub places : List ℕ
  pub order : IsOrder (calls_among typed definitions) places
  pub is : functions ≡ numbers_at definitions places

abbrev pub first_of : List ℕ → ℕ
first_of [] = 0
first_of (place ∷ places) = place

-- the refusal names the functions at these places, at the name in the definition of the first
abbrev pub Tells : List (ℕ × At) → List ℕ → OrderRefusal → Type 0
Tells definitions places (Recursive pos cycle) =
    (pos ≡ (definition_at definitions (first_of places)).1.pos) × (cycle ≡ numbers_at definitions places)
Tells definitions places Memory = ⊥

-- the cycle from the first function, in the order of the definitions, that reaches itself: of the least length, and
-- each step to the function that comes first of those that lie one call nearer to the start
pub record IsFirstRecursion (typed : Typed) (refusal : OrderRefusal) : Type 0 where
  pub definitions : List (ℕ × At)
  pub are : AreDefinitions typed definitions
  pub places : List ℕ
  pub cycle : IsFirstCycle (calls_among typed definitions) places
  pub told : Tells definitions places refusal

-- of want of memory nothing is said
abbrev pub IsCause : Typed → OrderRefusal → Type 0
IsCause typed (Recursive pos cycle) = IsFirstRecursion typed (Recursive pos cycle)
IsCause typed Memory = Unit {0}
