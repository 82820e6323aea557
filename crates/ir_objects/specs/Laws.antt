-- Which lines of what a lawful tree is, about its objects and the parameters of its functions, hold
-- of the tree of every lawful source.
use Rattle.std.specs.Prelude.{◌≡◌, ℕ, ◌≤◌, true, slice_get, Some}
use Rattle.std.specs.List.{list_all, sum_by}
use Rattle.sat_base.specs.declared.limits.TheConstants.{SCALARS, OBJECT_BYTES, VIEWS}
use Rattle.ir_arena.specs.Placed.{whole_of}
use Rattle.ir_arena.specs.Tree.{TreeFunction}
use Rattle.lawful_ir.specs.Lawful.{tables_of, DeclaresIn}
use Rattle.lawful_ir.specs.Laws.{HoldsOfTrees}
use Rattle.lawful_sources.specs.Lawful.{is_own_scalar, is_own_view, count, bytes_of_object, has_few_parameters}
use Rattle.lawful_sources.specs.Objects.{has_shape, has_function, has_parameters, is_no_static_view, initial_fits, own_from, follow_one_another}

-- ---- limits

abbrev pub ScalarsAreFew : Type 0
ScalarsAreFew = HoldsOfTrees (λ ir.
    (function : ℕ) → count (is_own_scalar function) ir.objects ≤ SCALARS)

abbrev pub ParametersAreFew : Type 0
ParametersAreFew = HoldsOfTrees (λ ir. list_all has_few_parameters (tables_of ir).functions ≡ true)

abbrev pub DataAreFew : Type 0
DataAreFew = HoldsOfTrees (λ ir. sum_by bytes_of_object ir.objects ≤ OBJECT_BYTES)

abbrev pub ViewsAreFew : Type 0
ViewsAreFew = HoldsOfTrees (λ ir.
    (function : ℕ) → count (is_own_view function) ir.objects ≤ VIEWS)

-- ---- functions and objects

abbrev pub ObjectsHaveShapes : Type 0
ObjectsHaveShapes = HoldsOfTrees (λ ir. list_all has_shape ir.objects ≡ true)

abbrev pub ObjectsHaveFunctions : Type 0
ObjectsHaveFunctions = HoldsOfTrees (λ ir.
    list_all (λ object. has_function (tables_of ir) object object.function) ir.objects ≡ true)

abbrev pub ParametersAreObjects : Type 0
ParametersAreObjects = HoldsOfTrees (λ ir.
    list_all (has_parameters (tables_of ir)) (tables_of ir).functions ≡ true)

abbrev pub ObjectsAreDeclared : Type 0
ObjectsAreDeclared = HoldsOfTrees (λ ir.
    (number : ℕ) (function : TreeFunction) → slice_get (whole_of ir).functions number ≡ Some function
    → DeclaresIn ir number function)

abbrev pub ObjectsFollow : Type 0
ObjectsFollow = HoldsOfTrees (λ ir.
    (function : ℕ) → follow_one_another (own_from function 0 ir.objects) ≡ true)

abbrev pub ViewsAreNotStatic : Type 0
ViewsAreNotStatic = HoldsOfTrees (λ ir. list_all is_no_static_view ir.objects ≡ true)

abbrev pub InitialValuesFit : Type 0
InitialValuesFit = HoldsOfTrees (λ ir.
    list_all (λ object. initial_fits object object.initial) ir.objects ≡ true)
