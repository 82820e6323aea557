-- A function of a tree declares the objects that its source's does.
use Rattle.std.proofs.Common.{◌≡◌, ◌<◌, ℕ, List, [], ◌∷◌, ◌++◌, length, get_or, refl, sym, ap, ◌∙◌, subst, arith}
use Rattle.std.proofs.lemmas.List.{get_or_default}
use Rattle.std.proofs.lemmas.List.Concat.{flat_map-append}
use Rattle.std.proofs.lemmas.Option.{slice_get_within}
use Rattle.std.specs.Prelude.{◌+◌, slice_get, unwrap_or, Option, Some, None}
use Rattle.c_typed.specs.declared.typed.Typed.{Typed}
use Rattle.c_typed.specs.declared.typed.TypedFunction.{TypedFunction}
use Rattle.call_structure.specs.Reaching.{IsDefined}
use Rattle.call_structure.proofs.Reaching.{defined_at, as_many}
use Rattle.ir_arena.specs.declared.ir.Ir.{Ir}
use Rattle.ir_arena.specs.Placed.{whole_of}
use Rattle.ir_arena.specs.Tree.{TreeFunction}
use Rattle.lawful_ir.specs.Built.{IsTreeOf}
use Rattle.source_trees.specs.Expressions.{TreeSetting}
use Rattle.source_agreement.proofs.Numbers.{there, as_many_functions, as_many_defined}
use Rattle.whole_trees.specs.Sources.{setting_for, function_tree, nameless, functions_along, defined_functions, numbers_defined}
use Rattle.lawful_sources.specs.Lawful.{IsLawful}
use Rattle.lawful_sources.specs.Objects.{begun, begun_in, own_from}
use Rattle.lawful_sources.specs.Statements.{in_function}
use Rattle.lawful_sources.specs.Things.{Thing, Mark, Conversion}
use Rattle.lawful_ir.specs.Lawful.{tables_of, DeclaresIn}
use Rattle.lawful_ir.specs.Positions.{TreeThing, things_of, thing_of}
use Rattle.lawful_ir.specs.Walk.{function_stands}
use Rattle.lawful_ir.proofs.Alike.{all_of, converts}
use Rattle.lawful_ir.proofs.Kept.{all-fine}
use Rattle.lawful_ir.proofs.Wholes.{numbers, functions-are, RunsWell, runs-well, body-stands}
use Rattle.ir_objects.proofs.Numbers.{own-number}
use Rattle.ir_objects.proofs.Objects.{owns-are}

module _ (tables : Typed) (numbers : List ℕ) where
  -- a thing of the tree begins what that of the source does
  one-begun : (x : Thing) → begun_in (things_of (converts tables numbers x)) ≡ begun x
  one-begun (Mark at site None) = refl
  one-begun (Mark at site (Some kind)) = refl
  one-begun (Conversion None None) = refl
  one-begun (Conversion None (Some due)) = refl
  one-begun (Conversion (Some width) due) = refl
  one-begun x = refl

  all-begun : (source : Typed) (list : List Thing) → begun_in (things_of (all_of source tables numbers list)) ≡ begun_in list
  all-begun source [] = refl
  all-begun source (x ∷ list) =
      ap begun_in (flat_map-append thing_of (converts tables numbers x) (all_of source tables numbers list))
      ∙ flat_map-append begun (things_of (converts tables numbers x)) _ ∙ rw (one-begun x, all-begun source list) refl

module _ (typed : Typed) (ir : Ir) (lawful : IsLawful typed) (is : IsTreeOf typed ir) where
  abbrev here : TreeSetting
  here = setting_for typed is.definitions

  abbrev along : List TreeFunction
  along = functions_along here (defined_functions typed is.definitions) 0

  pub declares : (number : ℕ) (function : TreeFunction) → slice_get (whole_of ir).functions number ≡ Some function → DeclaresIn ir number function
  declares number function at =
      let stands : slice_get along number ≡ Some function = ap (λ (l : List TreeFunction). slice_get l number) (sym (functions-are typed ir lawful is)) ∙ at in
      let within = slice_get_within along number function stands in
      let many : length along ≡ length is.definitions = as_many_functions here (defined_functions typed is.definitions) 0 ∙ as_many_defined typed is.definitions in
      let as_many_numbers = as_many typed is.definitions is.are in
      let low : number < length is.definitions = omega (arith, within, many) in
      let low_number : number < length (numbers_defined is.definitions) = omega (arith, as_many_numbers, low) in
      let own : ℕ = get_or (numbers_defined is.definitions) number 0 in
      let defined : IsDefined typed.functions own = defined_at typed is.definitions is.are number low in
      let f : TypedFunction = defined.1.function in
      let found = there typed is.definitions is.are own defined in
      let well : RunsWell typed ir lawful is f =
      subst (RunsWell typed ir lawful is) (ap (λ (o : Option TypedFunction). unwrap_or o nameless) defined.1.there) (runs-well typed ir lawful is (all-fine typed lawful) own defined) in
      let same : function ≡ (function_tree here f found.first).function = cc (sym stands ∙ ap (slice_get along) (sym (own-number typed is.definitions is.are number low_number)) ∙ found.is) in
      let begins : begun_in (things_of (function_stands (tables_of ir) (function_tree here f found.first).function)) ≡ begun_in (in_function typed f) =
      ap (λ (l : List TreeThing). begun_in (things_of l)) (body-stands typed ir lawful is f.gives f.body (found.first + 1) well.complete well.each well.follows)
      ∙ all-begun (tables_of ir) (numbers typed ir lawful is) typed (in_function typed f) in
      subst (DeclaresIn ir number) (sym same) (ap (λ (l : List ℕ). f.params ++ l) begins ∙ lawful.objects_are_declared own f defined.1.there
      ∙ ap (λ (n : ℕ). own_from n 0 typed.objects) (get_or_default (numbers_defined is.definitions) number 0 (length typed.functions) low_number) ∙ sym (owns-are typed ir lawful is number))
