-- The objects of a source, measured by what is seen, item by item.
use Rattle.std.proofs.Common.{◌≡◌, ℕ, ◌+◌, ◌≤◌, List, [], ◌∷◌, ◌++◌, Bool, true, false, length, refl, ap, arith}
use Rattle.std.specs.Prelude.{Option, Some, None, is_some, slice_get}
use Rattle.c_scopes.specs.Scopes.{Known}
use Rattle.c_tree.specs.declared.declaration.Decl.{Decl}
use Rattle.c_tree.specs.declared.function.Function.{Function}
use Rattle.c_tree.specs.declared.function.Param.{Param}
use Rattle.c_tree.specs.declared.program.Item.{Item}
use Rattle.c_tree.specs.declared.program.Item.TheVariants as items_of
use Rattle.c_tree.specs.declared.statement.Block.{Block}
use Rattle.c_typed.specs.declared.typed.Typed.{Typed}
use Rattle.operator_meaning.specs.declared.object.Object.{Object}
use Rattle.c_seen.specs.declared.functions.Declaration.{Declaration}
use Rattle.c_seen.specs.declared.seen.Seen.{Seen}
use Rattle.c_seen.specs.declared.seen.Seen.TheVariants as seen
use Rattle.c_seen.specs.Declarations as scope
use Rattle.c_seen.specs.Declarations.{object, parameter, dimension, name_of_parameter, seen_in_declared, seen_in_objects, seen_in_parameter, seen_in_parameters, after_parameters}
use Rattle.c_seen.specs.Meanings.{Names}
use Rattle.c_seen.specs.Sources as seen_sources
use Rattle.c_seen.specs.Sources.{function_seen, seen_in_parts, seen_in_body, seen_in_function, seen_in_items, functions_after}
use Rattle.tied_names.specs.Numbers.{is_exposed}
use Rattle.tied_names.specs.Ties.{Here}
use Rattle.tied_objects.specs.Objects.{object_of, object_of_parameter}
use Rattle.tied_statements.specs.Declarations.{after_declared, after_objects}
use Rattle.c_types.specs.Sources.{Source, number_of, parameter_of, after_parameter, parameters_of, after_declaration, after_body, after_function, after_item, after_items}
use Rattle.lawful_sources.specs.Objects.{is_complete}
use Rattle.lawful_sources.proofs.Passing.{Each}
use Rattle.lawful_laws.proofs.Statements.{earlier, later, tail, head}
use Rattle.lawful_names.proofs.Clean.{Clean}
use Rattle.lawful_names.proofs.Keeping.{named-objects}
use Rattle.lawful_names.proofs.Main.{own-complete}
use Rattle.lawful_names.proofs.Measured.{Costs, declared-cost, block-measures}
use Rattle.lawful_names.proofs.Reached.{Reached, next-reached}
use Rattle.lawful_names.proofs.Totals.{total, total-append}

-- each object of a function measures no more than its declaration costs
pub record MeasuresOf (sound : Seen → Bool) (measure : Object → ℕ) (cost : Seen → ℕ) (number : ℕ) : Type 0 where
  pub inner : (decl : Decl) (exposed : Bool) → sound (seen.Object (object decl true)) ≡ true → measure (object_of decl (Some number) exposed) ≤ cost (seen.Object (object decl true))
  pub parameters : (param : Param) (exposed : Bool) → sound (seen.Parameter (parameter param true)) ≡ true → measure (object_of_parameter param number exposed) ≤ cost (seen.Parameter (parameter param true))

pub record Measures (source : Typed) (sound : Seen → Bool) (measure : Object → ℕ) (cost : Seen → ℕ) : Type 0 where
  pub of : (number : ℕ) → is_complete (slice_get source.functions number) ≡ true → MeasuresOf sound measure cost number
  pub outer : (decl : Decl) (exposed : Bool) → sound (seen.Object (object decl false)) ≡ true → measure (object_of decl None exposed) ≤ cost (seen.Object (object decl false))

module _ (sound : Seen → Bool) (measure : Object → ℕ) (cost : Seen → ℕ) where
  pub file-measure : ((decl : Decl) (exposed : Bool) → sound (seen.Object (object decl false)) ≡ true → measure (object_of decl None exposed) ≤ cost (seen.Object (object decl false))) → (here : Here) (names : Names) (decls : List Decl) → Each sound (seen_in_objects names 0 decls) → total measure (after_objects here decls).objects ≤ total measure here.objects + total cost (seen_in_objects names 0 decls)
  file-measure outer here names [] p = omega arith
  file-measure outer here names (decl ∷ decls) p =
      let one : Object = object_of decl None (is_exposed here.exposed (length here.objects)) in
      let added : total measure (here.objects ++ one ∷ []) ≡ total measure here.objects + total measure (one ∷ []) = total-append measure here.objects (one ∷ []) in
      let costs : measure one ≤ total cost (seen_in_declared names 0 decl) = declared-cost sound measure cost names 0 decl one (outer decl _) (earlier sound _ _ p) in
      let rest : total measure (after_objects (after_declared here None decl) decls).objects ≤ total measure (here.objects ++ one ∷ []) + total cost (seen_in_objects (scope.after_declared names 0 decl) 0 decls) =
      file-measure outer (after_declared here None decl) (scope.after_declared names 0 decl) decls (later sound (seen_in_declared names 0 decl) _ p) in
      let all : total cost (seen_in_objects names 0 (decl ∷ decls)) ≡ total cost (seen_in_declared names 0 decl) + total cost (seen_in_objects (scope.after_declared names 0 decl) 0 decls) = total-append cost (seen_in_declared names 0 decl) _ in omega arith

  parameters-measure : (number : ℕ) → MeasuresOf sound measure cost number → (here : Here) (names : Names) (params : List Param) → Each sound (seen_in_parameters names true params)
      → total measure (parameters_of here number params).after.objects ≤ total measure here.objects + total cost (seen_in_parameters names true params)
  parameters-measure number of here names [] p = omega arith
  parameters-measure number of here names (param ∷ params) p =
      let one : Object = parameter_of here number param in
      let mine : Each sound (seen_in_parameter names true param) = earlier sound _ _ p in
      let seen_one : Each sound (seen.Parameter (parameter param true) ∷ name_of_parameter names param.name) = later sound (dimension names param.dim) _ mine in
      let grown : total measure (after_parameter here number param).objects ≡ total measure (here.objects ++ one ∷ []) = ap (total measure) (named-objects here one param.name) in
      let added : total measure (here.objects ++ one ∷ []) ≡ total measure here.objects + total measure (one ∷ []) = total-append measure here.objects (one ∷ []) in
      let costs : measure one ≤ cost (seen.Parameter (parameter param true)) = of.parameters param _ (head sound _ _ seen_one) in
      let first : total cost (seen_in_parameter names true param) ≡ total cost (dimension names param.dim) + total cost (seen.Parameter (parameter param true) ∷ name_of_parameter names param.name) = total-append cost (dimension names param.dim) _ in
      let rest : total measure (parameters_of (after_parameter here number param) number params).after.objects ≤ total measure (after_parameter here number param).objects + total cost (seen_in_parameters (scope.after_parameter names param) true params) =
      parameters-measure number of (after_parameter here number param) (scope.after_parameter names param) params (later sound (seen_in_parameter names true param) _ p) in
      let all : total cost (seen_in_parameters names true (param ∷ params)) ≡ total cost (seen_in_parameter names true param) + total cost (seen_in_parameters (scope.after_parameter names param) true params) = total-append cost (seen_in_parameter names true param) _ in omega arith

  pub parts-measure : (s : Source) (number : ℕ) (g : Function) (body : Option Block) (names : Names) → (is_some body ≡ true → MeasuresOf sound measure cost number)
      → Each sound (seen_in_parameters names (is_some body) g.params ++ seen_in_body (after_parameters names g.params) g body)
      → total measure (after_body s number g body).here.objects ≤ total measure s.here.objects + total cost (seen_in_parameters names (is_some body) g.params ++ seen_in_body (after_parameters names g.params) g body)
  parts-measure s number g None names whole p = omega arith
  parts-measure s number g (Some body) names whole p =
      let after : Here = (parameters_of s.here number g.params).after in
      let first : total measure after.objects ≤ total measure s.here.objects + total cost (seen_in_parameters names true g.params) = parameters-measure number (whole refl) s.here names g.params (earlier sound _ _ p) in
      let second : Costs sound measure cost number (whole refl).inner (total measure after.objects) (total measure (after_body s number g (Some body)).here.objects) (seen_in_body (after_parameters names g.params) g (Some body)) =
      block-measures sound measure cost number (whole refl).inner body after g.gives (after_parameters names g.params) 1 false (is_some g.gives) refl (later sound (seen_in_parameters names true g.params) _ p) in
      let is : total measure (after_body s number g (Some body)).here.objects ≤ total measure after.objects + total cost (seen_in_body (after_parameters names g.params) g (Some body)) = second.is in
      let all : total cost (seen_in_parameters names true g.params ++ seen_in_body (after_parameters names g.params) g (Some body)) ≡ total cost (seen_in_parameters names true g.params) + total cost (seen_in_body (after_parameters names g.params) g (Some body)) =
      total-append cost (seen_in_parameters names true g.params) _ in omega arith

module _ (source : Typed) (items : List Item) (sound : Seen → Bool) (clean : (s : Seen) → sound s ≡ true → Clean s) (measure : Object → ℕ) (cost : Seen → ℕ) (measures : Measures source sound measure cost) where
  pub items-measure : (s : Source) (names : Names) (before : List (Known Declaration)) (item : ℕ) (list : List Item) → Reached source items sound clean s names before item list
      → total measure (after_items s item list).here.objects ≤ total measure s.here.objects + total cost (seen_in_items names before item list)
  items-measure s names before item [] r = omega arith
  items-measure s names before item (items_of.Objects list ∷ rest) r =
      let next : Reached source items sound clean _ _ before (item + 1) rest = next-reached source items sound clean s names before item (items_of.Objects list) rest r in
      let one : total measure (after_objects s.here list.decls).objects ≤ total measure s.here.objects + total cost (seen_in_objects names 0 list.decls) = file-measure sound measure cost measures.outer s.here names list.decls (earlier sound _ _ r.sounds) in
      let more : total measure (after_items (after_item s item (items_of.Objects list)) (item + 1) rest).here.objects ≤ total measure (after_objects s.here list.decls).objects + total cost (seen_in_items (seen_sources.after_item names item (items_of.Objects list)) before (item + 1) rest) =
      items-measure (after_item s item (items_of.Objects list)) (seen_sources.after_item names item (items_of.Objects list)) before (item + 1) rest next in
      let all : total cost (seen_in_items names before item (items_of.Objects list ∷ rest)) ≡ total cost (seen_in_objects names 0 list.decls) + total cost (seen_in_items (seen_sources.after_item names item (items_of.Objects list)) before (item + 1) rest) =
      total-append cost (seen_in_objects names 0 list.decls) _ in omega arith
  items-measure s names before item (items_of.Function g ∷ rest) r =
      let own : Names = seen_sources.after_function names item g in
      let after : List (Known Declaration) = functions_after names.items before item (items_of.Function g) in
      let next : Reached source items sound clean (after_function s item g) own after (item + 1) rest = next-reached source items sound clean s names before item (items_of.Function g) rest r in
      let parts : Each sound (seen_in_parts own g) = tail sound _ _ (tail sound _ _ (earlier sound (seen_in_function names before item g) _ r.sounds)) in
      let one : total measure (after_function s item g).here.objects ≤ total measure s.here.objects + total cost (seen_in_parts own g) =
      parts-measure sound measure cost (after_declaration s item g) (number_of s g) g g.body own (λ b. measures.of (number_of s g) (own-complete source items sound clean s names before item g rest r b)) parts in
      let more : total measure (after_items (after_function s item g) (item + 1) rest).here.objects ≤ total measure (after_function s item g).here.objects + total cost (seen_in_items own after (item + 1) rest) =
      items-measure (after_function s item g) own after (item + 1) rest next in
      let all : total cost (seen_in_items names before item (items_of.Function g ∷ rest)) ≡ total cost (seen_in_function names before item g) + total cost (seen_in_items own after (item + 1) rest) =
      total-append cost (seen_in_function names before item g) _ in omega arith
  items-measure s names before item (items_of.ExternFlag at ∷ rest) r = items-measure s names before (item + 1) rest (next-reached source items sound clean s names before item (items_of.ExternFlag at) rest r)
