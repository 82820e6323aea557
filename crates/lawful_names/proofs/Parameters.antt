-- The parameters of a function are objects that are parameters.
use Rattle.std.proofs.Common.{◌≡◌, ℕ, ◌+◌, List, [], ◌∷◌, ◌++◌, Bool, true, length, refl, ap, ◌∙◌, subst}
use Rattle.std.specs.Prelude.{Option, Some, None, nat_lt, slice_get}
use Rattle.std.specs.List.{list_all}
use Rattle.c_scopes.specs.Scopes.{Known}
use Rattle.c_tree.specs.declared.function.Function.{Function}
use Rattle.c_tree.specs.declared.function.Param.{Param}
use Rattle.c_tree.specs.declared.program.Item.{Item}
use Rattle.c_tree.specs.declared.program.Item.TheVariants as items_of
use Rattle.c_tree.specs.declared.program.Program.{Program}
use Rattle.c_tree.specs.declared.statement.Block.{Block}
use Rattle.c_typed.specs.declared.typed.Typed.{Typed}
use Rattle.c_typed.specs.declared.typed.TypedFunction.{TypedFunction}
use Rattle.operator_meaning.specs.declared.object.Object.{Object}
use Rattle.c_seen.specs.declared.functions.Declaration.{Declaration}
use Rattle.c_seen.specs.declared.seen.Seen.{Seen}
use Rattle.c_seen.specs.Meanings.{Names}
use Rattle.c_seen.specs.Sources as seen_sources
use Rattle.c_seen.specs.Sources.{functions_after}
use Rattle.tied_names.specs.Ties.{Here}
use Rattle.c_types.specs.Sources.{Source, number_of, declared, defined, parameter_of, after_parameter, parameters_of, body_of, after_declaration, after_body, after_function, after_item, after_items}
use Rattle.c_types.specs.Tied.{IsTyped}
use Rattle.lawful_sources.specs.Objects.{is_parameter_object, has_parameters}
use Rattle.lawful_laws.proofs.Functions.{both}
use Rattle.lawful_names.proofs.Clean.{Clean, is_clean, when-clean}
use Rattle.lawful_names.proofs.Faultless.{seen-clean}
use Rattle.lawful_names.proofs.Keeping.{named-objects}
use Rattle.lawful_names.proofs.Reached.{Reached, within-source, next-reached}
use Rattle.lawful_names.proofs.Sources.{added-or, if-holds, reached, start_of, names_at_start}
use Rattle.lawful_names.proofs.Within.{Within, within-more, stands-last, parameters-grow, block-grows}

-- what holds of each function holds of all, item by item
module _ (source : Typed) (items : List Item) (sound : Seen → Bool) (clean : (s : Seen) → sound s ≡ true → Clean s) (holds : TypedFunction → Bool) (bare : (g : Function) → holds (declared g) ≡ true)
    (whole : (s : Source) (number : ℕ) (g : Function) (body : Block) → Within (after_body s number g (Some body)).here.objects source.objects → holds (defined g (parameters_of s.here number g.params).numbers (body_of s number g body).value) ≡ true) where
  body-holds : (s : Source) (number : ℕ) (g : Function) (body : Option Block) → Within (after_body s number g body).here.objects source.objects → list_all holds s.functions ≡ true → list_all holds (after_body s number g body).functions ≡ true
  body-holds s number g None within q = q
  body-holds s number g (Some body) within q = if-holds holds (nat_lt number (length s.functions)) s.functions number _ (whole s number g body within) q

  pub functions-hold : (s : Source) (names : Names) (before : List (Known Declaration)) (item : ℕ) (list : List Item) → Reached source items sound clean s names before item list → list_all holds s.functions ≡ true
      → list_all holds (after_items s item list).functions ≡ true
  functions-hold s names before item [] r q = q
  functions-hold s names before item (items_of.Objects list ∷ rest) r q =
      functions-hold (after_item s item (items_of.Objects list)) (seen_sources.after_item names item (items_of.Objects list)) before (item + 1) rest (next-reached source items sound clean s names before item (items_of.Objects list) rest r) q
  functions-hold s names before item (items_of.Function g ∷ rest) r q =
      let own : Names = seen_sources.after_function names item g in
      let after : List (Known Declaration) = functions_after names.items before item (items_of.Function g) in
      let next : Reached source items sound clean (after_function s item g) own after (item + 1) rest = next-reached source items sound clean s names before item (items_of.Function g) rest r in
      functions-hold (after_function s item g) own after (item + 1) rest next
      (body-holds (after_declaration s item g) (number_of s g) g g.body (within-source source items sound clean _ _ after (item + 1) rest next) (added-or holds _ s.functions g (bare g) q))
  functions-hold s names before item (items_of.ExternFlag at ∷ rest) r q =
      functions-hold s names before (item + 1) rest (next-reached source items sound clean s names before item (items_of.ExternFlag at) rest r) q

parameter-objects : (source : Typed) (here : Here) (number : ℕ) (params : List Param) → Within (parameters_of here number params).after.objects source.objects
    → list_all (λ n. is_parameter_object (slice_get source.objects n)) (parameters_of here number params).numbers ≡ true
parameter-objects source here number [] within = refl
parameter-objects source here number (param ∷ params) within =
    let one : Object = parameter_of here number param in
    let after : Within (after_parameter here number param).objects source.objects = within-more _ _ _ (parameters-grow (after_parameter here number param) number params) within in
    let grown : Within (here.objects ++ one ∷ []) source.objects = subst (λ (l : List Object). Within l source.objects) (named-objects here one param.name) after in
    both _ _ (ap is_parameter_object (stands-last here.objects source.objects one grown)) (parameter-objects source (after_parameter here number param) number params within)

pub parameters-stand : (program : Program) (source : Typed) → IsTyped program source → list_all (has_parameters source) source.functions ≡ true
parameters-stand program source is =
    ap (list_all (has_parameters source)) is.tied.functions
    ∙ functions-hold source program.items is_clean when-clean (has_parameters source) (λ g. refl)
    (λ s number g body within. parameter-objects source s.here number g.params (within-more _ _ _ (block-grows body (parameters_of s.here number g.params).after _) within))
    (start_of program source) (names_at_start program) [] 0 program.items (reached program source is_clean when-clean is.tied (seen-clean program is.faultless)) refl
