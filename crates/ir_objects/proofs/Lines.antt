-- The lines about objects and parameters, for use beside one another.
use Rattle.std.proofs.Common.{refl, length, ap, ◌∙◌}
use Rattle.std.specs.Prelude.{nat_le, slice_get}
use Rattle.std.specs.List.{list_all}
use Rattle.lawful_sources.specs.Objects.{is_scalar, is_parameter_object, follow_one_another}
use Rattle.sat_base.specs.declared.limits.TheConstants.{PARAMETERS}
use Rattle.operator_meaning.specs.declared.object.Object.{Object}
use Rattle.ir_objects.proofs.Objects.{few-are, params-kept, sums-are, all-kept, owner-there, parameters-alike, source_number, owns-are}
use Rattle.ir_objects.proofs.Declared.{declares}
use Rattle.ir_objects.specs.Laws.{ScalarsAreFew, ParametersAreFew, DataAreFew, ViewsAreFew, ObjectsHaveShapes, ObjectsHaveFunctions, ParametersAreObjects, ObjectsAreDeclared, ObjectsFollow, ViewsAreNotStatic, InitialValuesFit}

pub scalars-are-few : ScalarsAreFew
scalars-are-few = λ typed ir lawful is. few-are typed ir lawful is is_scalar (λ object. refl) _ lawful.scalars_are_few

pub parameters-are-few : ParametersAreFew
parameters-are-few = λ typed ir lawful is. params-kept typed ir lawful is (λ params. nat_le (length params) PARAMETERS) refl lawful.parameters_are_few

pub data-are-few : DataAreFew
data-are-few = λ typed ir lawful is. rw (sums-are typed ir lawful is _ _ (λ object p. refl)) lawful.data_are_few

pub views-are-few : ViewsAreFew
views-are-few = λ typed ir lawful is. few-are typed ir lawful is (λ (object : Object). object.view) (λ object. refl) _ lawful.views_are_few

pub objects-have-shapes : ObjectsHaveShapes
objects-have-shapes = λ typed ir lawful is. all-kept typed ir lawful is _ _ (λ object p. p) lawful.objects_have_shapes

pub objects-have-functions : ObjectsHaveFunctions
objects-have-functions = λ typed ir lawful is. all-kept typed ir lawful is _ _ (λ object p. owner-there typed ir lawful is object object.function p) lawful.objects_have_functions

pub parameters-are-objects : ParametersAreObjects
parameters-are-objects = λ typed ir lawful is. params-kept typed ir lawful is (λ params. list_all (λ number. is_parameter_object (slice_get ir.objects number)) params) refl (simp (parameters-alike typed ir lawful is) lawful.parameters_are_objects)

pub objects-are-declared : ObjectsAreDeclared
objects-are-declared = λ typed ir lawful is number function at. declares typed ir lawful is number function at

pub objects-follow : ObjectsFollow
objects-follow = λ typed ir lawful is function. ap follow_one_another (owns-are typed ir lawful is function) ∙ lawful.objects_follow (source_number typed ir lawful is function)

pub views-are-not-static : ViewsAreNotStatic
views-are-not-static = λ typed ir lawful is. all-kept typed ir lawful is _ _ (λ object p. p) lawful.views_are_not_static

pub initial-values-fit : InitialValuesFit
initial-values-fit = λ typed ir lawful is. all-kept typed ir lawful is _ _ (λ object p. p) lawful.initial_values_fit
