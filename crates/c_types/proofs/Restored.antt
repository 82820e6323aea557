-- After a definition the names are in scope that were before its parameters.
use Rattle.std.proofs.Common.{◌≡◌, ℕ, List, [], ◌∷◌, ◌++◌, ap, ◌∙◌}
use Rattle.std.specs.Prelude.{Option, Some, None}
use Rattle.c_tree.specs.declared.function.Param.{Param}
use Rattle.c_typed.specs.declared.typed.TypedFunction.{TypedFunction}
use Rattle.sat_base.specs.declared.name.Named.{Named}
use Rattle.operator_meaning.specs.declared.object.Object.{Object}
use Rattle.tied_names.specs.declared.note.Note.{Note}
use Rattle.tied_names.specs.Ties.{Here}
use Rattle.tied_statements.proofs.Restored.{Extends, extends-objects, extends-object}
use Rattle.c_types.specs.Sources.{Source, parameter_of, after_named, after_parameter, parameters_of}

extends-named : (a b : Here) (object : Object) (name : Option Named) → Extends a b → Extends a (after_named b object name)
extends-named a b object None e = extends-objects a b (b.objects ++ object ∷ []) e
extends-named a b object (Some name) e = extends-object a b name.name object e

pub extends-parameters : (a b : Here) (function : ℕ) (params : List Param) → Extends a b → Extends a (parameters_of b function params).after
extends-parameters a b function [] e = e
extends-parameters a b function (param ∷ params) e = extends-parameters a (after_parameter b function param) function params (extends-named a b (parameter_of b function param) param.name e)

abbrev pub source_with : Here → List TypedFunction → List Note → Source
source_with here functions notes = record { here = here; functions = functions; notes = notes }

pub same-source : (h i : Here) (f g : List TypedFunction) (n m : List Note) → h ≡ i → f ≡ g → n ≡ m → source_with h f n ≡ source_with i g m
same-source h i f g n m here functions notes = ap (λ (x : Here). source_with x f n) here ∙ ap (λ (x : List TypedFunction). source_with i x n) functions ∙ ap (source_with i g) notes
