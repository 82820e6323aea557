-- What is counted in each function by itself: the objects of a function are those of its one definition.
use Rattle.std.proofs.Common.{◌≡◌, ℕ, zero, suc, ◌+◌, ◌-◌, ◌≤◌, List, [], ◌∷◌, ◌++◌, Bool, true, false, refl, sym, ap, ◌∙◌, subst, append_assoc, arith}
use Rattle.std.specs.Prelude.{Option, Some, None, is_some, ◌&&◌, ◌==◌, if◌then◌else◌, nat_lt, slice_get}
use Rattle.std.proofs.lemmas.Bool.{eqb-true, eq-eqb}
use Rattle.sat_base.specs.declared.name.At.{At}
use Rattle.c_scopes.specs.Scopes.{Known}
use Rattle.c_tree.specs.declared.declaration.Decl.{Decl}
use Rattle.c_tree.specs.declared.function.Function.{Function}
use Rattle.c_tree.specs.declared.program.Item.{Item}
use Rattle.c_tree.specs.declared.program.Item.TheVariants as items_of
use Rattle.c_tree.specs.declared.statement.Block.{Block}
use Rattle.c_typed.specs.declared.typed.Typed.{Typed}
use Rattle.c_typed.specs.declared.typed.TypedFunction.{TypedFunction}
use Rattle.operator_meaning.specs.declared.object.Object.{Object}
use Rattle.c_seen.specs.declared.functions.Declaration.{Declaration}
use Rattle.c_seen.specs.declared.seen.Seen.{Seen}
use Rattle.c_seen.specs.declared.seen.Seen.TheVariants as seen
use Rattle.c_seen.specs.declared.seen.SeenFunction.{SeenFunction}
use Rattle.c_seen.specs.Declarations.{seen_in_objects, seen_in_parameters, after_parameters}
use Rattle.c_seen.specs.Functions.{is_defined}
use Rattle.c_seen.specs.Meanings.{Names, is_taken}
use Rattle.c_seen.specs.Sources as seen_sources
use Rattle.c_seen.specs.Sources.{function_seen, seen_in_body, seen_in_function, seen_in_items, functions_after, seen_in_parts}
use Rattle.c_faults.specs.declared.limits.Quantity.{Quantity}
use Rattle.c_faults.specs.Limits.{amount, limit_of, is_by_function, left_at, first_past}
use Rattle.c_faults.specs.Rows.{at_if}
use Rattle.tied_objects.specs.Objects.{object_of}
use Rattle.tied_statements.specs.Declarations.{after_objects}
use Rattle.c_types.specs.Sources.{Source, number_of, functions_or, declared, after_declaration, after_body, after_function, after_item, after_items}
use Rattle.lawful_sources.specs.Objects.{is_complete}
use Rattle.lawful_sources.proofs.Passing.{Each, next, joined}
use Rattle.lawful_laws.proofs.Statements.{earlier, tail}
use Rattle.lawful_names.proofs.Clean.{Clean, never}
use Rattle.lawful_names.proofs.FewParameters.{Remains, remains, past-later, inner-spent, parameters-inner}
use Rattle.lawful_names.proofs.Keeping.{Entry, entry-of}
use Rattle.lawful_names.proofs.MeasuredItems.{MeasuresOf, file-measure, parts-measure}
use Rattle.lawful_names.proofs.NoFunctions.{is_inner}
use Rattle.lawful_names.proofs.NoFunctionsInside.{body-inner}
use Rattle.lawful_names.proofs.Owners.{free, no-cost}
use Rattle.lawful_names.proofs.Reached.{Reached, state_of, Steps, steps, next-reached}
use Rattle.lawful_names.proofs.Spent.{spent}
use Rattle.lawful_names.proofs.Totals.{total}
use Rattle.lawful_names.proofs.Truths.{or-left, both-ways}

-- a function that is declared alone is not complete
declared-incomplete : (functions : List TypedFunction) (g : Function) (n : ℕ) → is_complete (slice_get (functions ++ declared g ∷ []) n) ≡ is_complete (slice_get functions n)
declared-incomplete [] g zero = refl
declared-incomplete [] g (suc n) = refl
declared-incomplete (f ∷ functions) g zero = refl
declared-incomplete (f ∷ functions) g (suc n) = declared-incomplete functions g n

or-incomplete : (o : Option ℕ) (functions : List TypedFunction) (g : Function) (n : ℕ) → is_complete (slice_get (functions_or o functions g) n) ≡ is_complete (slice_get functions n)
or-incomplete None functions g n = declared-incomplete functions g n
or-incomplete (Some number) functions g n = refl

pub first-definition : (body defined : Bool) (at : At) → body ≡ true → at_if (body && defined) at ≡ None → defined ≡ false
first-definition true true at p q = absurd (never at q)
first-definition true false at p q = refl
first-definition false defined at p q = cc

-- what is counted, and how much an object of the function of this number counts
pub record Counting (sound : Seen → Bool) (quantity : Quantity) (n : ℕ) (measure : Object → ℕ) : Type 0 where
  pub by_function : is_by_function quantity ≡ true
  pub no_function : (f : SeenFunction) → amount quantity (seen.Function f) ≡ 0
  pub outer : (decl : Decl) (exposed : Bool) → measure (object_of decl None exposed) ≤ 0
  pub own : MeasuresOf sound measure (amount quantity) n
  pub others : (k : ℕ) → (k ≡ n → ⊥) → MeasuresOf sound measure free k

module _ (source : Typed) (items : List Item) (sound : Seen → Bool) (clean : (s : Seen) → sound s ≡ true → Clean s) (quantity : Quantity) (n : ℕ) (measure : Object → ℕ) (counting : Counting sound quantity n measure) where
  -- the objects of the function are few, and there are none before its definition
  pub record Own (s : Source) : Type 0 where
    few : total measure s.here.objects ≤ limit_of quantity
    fresh : is_complete (slice_get s.functions n) ≡ false → total measure s.here.objects ≤ 0

  parts-spent : (still : ℕ) (names : Names) (before : List (Known Declaration)) (item : ℕ) (g : Function) (rest : List Seen) → first_past quantity still (seen_in_function names before item g ++ rest) ≡ None
      → spent quantity (seen_in_parts (seen_sources.after_function names item g) g) ≤ limit_of quantity
  parts-spent still names before item g rest p =
      let inside : Names = seen_sources.after_function names item g in
      let f : Seen = seen.Function (function_seen names.items before g) in
      let named : Seen = seen.Name g.name.at (is_taken names g.name.name 0 true) in
      let inner : Each is_inner (named ∷ seen_in_parts inside g) = next is_inner named _ refl (joined is_inner _ _ (parameters-inner inside (is_some g.body) g.params) (body-inner (after_parameters inside g.params) g g.body)) in
      let later : first_past quantity (left_at quantity still f - amount quantity f) ((named ∷ seen_in_parts inside g) ++ rest) ≡ None =
      past-later g.name.at (left_at quantity still f) (amount quantity f) (nat_lt (left_at quantity still f) (amount quantity f)) (λ more. first_past quantity more ((named ∷ seen_in_parts inside g) ++ rest)) p in
      let most : spent quantity (named ∷ seen_in_parts inside g) ≤ left_at quantity still f - amount quantity f = inner-spent quantity (left_at quantity still f - amount quantity f) (named ∷ seen_in_parts inside g) rest inner later in
      let limit : left_at quantity still f ≡ limit_of quantity = ap (λ (b : Bool). if b && true then limit_of quantity else still) counting.by_function in
      let cost : amount quantity f ≡ 0 = counting.no_function (function_seen names.items before g) in omega arith

  file-own : (s : Source) (item : ℕ) (names : Names) (decls : List Decl) → Each sound (seen_in_objects names 0 decls) → total measure (after_objects s.here decls).objects ≤ total measure s.here.objects
  file-own s item names decls p =
      let most : total measure (after_objects s.here decls).objects ≤ total measure s.here.objects + total free (seen_in_objects names 0 decls) = file-measure sound measure free (λ decl exposed q. counting.outer decl exposed) s.here names decls p in
      let none : total free (seen_in_objects names 0 decls) ≡ 0 = no-cost (seen_in_objects names 0 decls) in omega arith

  mine-body : (s : Source) (number : ℕ) (g : Function) (body : Option Block) (names : Names) → number ≡ n → (is_some body ≡ true → is_complete (slice_get s.functions n) ≡ false)
      → (is_some body ≡ true → is_complete (slice_get (after_body s number g body).functions n) ≡ true) → Own s
      → Each sound (seen_in_parameters names (is_some body) g.params ++ seen_in_body (after_parameters names g.params) g body)
      → spent quantity (seen_in_parameters names (is_some body) g.params ++ seen_in_body (after_parameters names g.params) g body) ≤ limit_of quantity → Own (after_body s number g body)
  mine-body s number g None names is before after o p most = o
  mine-body s number g (Some body) names is before after o p most =
      let none : total measure s.here.objects ≤ 0 = o.fresh (before refl) in
      let more : total measure (after_body s number g (Some body)).here.objects ≤ total measure s.here.objects + spent quantity (seen_in_parameters names true g.params ++ seen_in_body (after_parameters names g.params) g (Some body)) =
      parts-measure sound measure (amount quantity) s number g (Some body) names (λ b. subst (MeasuresOf sound measure (amount quantity)) (sym is) counting.own) p in
      record { few = omega arith; fresh = λ q. both-ways _ (after refl) q }

  function-own-few : (s : Source) (names : Names) (before : List (Known Declaration)) (item : ℕ) (g : Function) (rest : List Item) → Reached source items sound clean s names before item (items_of.Function g ∷ rest)
      → spent quantity (seen_in_parts (seen_sources.after_function names item g) g) ≤ limit_of quantity → (same : Bool) → (number_of s g == n) ≡ same → Own s → Own (after_function s item g)
  function-own-few s names before item g rest r most false is o =
      let apart : number_of s g ≡ n → ⊥ = λ q. both-ways (number_of s g == n) (eq-eqb (number_of s g) n q) is in
      let t : Steps source items sound clean s names before item g = steps source items sound clean s names before item g rest r in
      let inside : Names = seen_sources.after_function names item g in
      let parts : Each sound (seen_in_parts inside g) = tail sound _ _ (tail sound _ _ (earlier sound (seen_in_function names before item g) _ r.sounds)) in
      let more : total measure (after_function s item g).here.objects ≤ total measure s.here.objects + total free (seen_in_parts inside g) =
      parts-measure sound measure free (after_declaration s item g) (number_of s g) g g.body inside (λ b. counting.others (number_of s g) apart) parts in
      let none : total free (seen_in_parts inside g) ≡ 0 = no-cost (seen_in_parts inside g) in
      let few : total measure s.here.objects ≤ limit_of quantity = o.few in
      let complete : is_complete (slice_get (after_function s item g).functions n) ≡ is_complete (slice_get s.functions n) = ap is_complete (t.ends.others n apart) ∙ or-incomplete _ s.functions g n in
      record { few = omega arith; fresh = λ q. let old : total measure s.here.objects ≤ 0 = o.fresh (sym complete ∙ q) in omega arith }
  function-own-few s names before item g rest r most true is o =
      let same : number_of s g ≡ n = eqb-true (number_of s g) n is in
      let t : Steps source items sound clean s names before item g = steps source items sound clean s names before item g rest r in
      let inside : Names = seen_sources.after_function names item g in
      let parts : Each sound (seen_in_parts inside g) = tail sound _ _ (tail sound _ _ (earlier sound (seen_in_function names before item g) _ r.sounds)) in
      let e : Entry source items g.name.name g (number_of s g) (after_declaration s item g).functions (is_defined before g.name.name) = entry-of source items g (state_of names s.here before s.functions) t.tells (r.covers g.name.name) in
      let begun : Own (after_declaration s item g) = record { few = o.few; fresh = λ q. o.fresh (sym (or-incomplete _ s.functions g n) ∙ q) } in
      mine-body (after_declaration s item g) (number_of s g) g g.body inside same
      (λ b. ap (λ (m : ℕ). is_complete (slice_get (after_declaration s item g).functions m)) (sym same) ∙ ap is_complete e.stands ∙ e.complete ∙ first-definition (is_some g.body) (is_defined before g.name.name) g.name.at b t.tells.second)
      (λ b. ap (λ (m : ℕ). is_complete (slice_get (after_function s item g).functions m)) (sym same) ∙ ap is_complete t.ends.entry.stands ∙ t.ends.entry.complete ∙ or-left (is_some g.body) _ b) begun parts most

  own-items : (s : Source) (names : Names) (before : List (Known Declaration)) (item : ℕ) (list : List Item) (ends : List Seen) → Reached source items sound clean s names before item list → Remains quantity (seen_in_items names before item list ++ ends)
      → Own s → Own (after_items s item list)
  own-items s names before item [] ends r left o = o
  own-items s names before item (items_of.Objects list ∷ rest) ends r left o =
      let more : List Seen = seen_in_items (seen_sources.after_item names item (items_of.Objects list)) before (item + 1) rest in
      let same : total measure (after_objects s.here list.decls).objects ≤ total measure s.here.objects = file-own s item names list.decls (earlier sound _ _ r.sounds) in
      let few : total measure s.here.objects ≤ limit_of quantity = o.few in
      own-items (after_item s item (items_of.Objects list)) (seen_sources.after_item names item (items_of.Objects list)) before (item + 1) rest ends (next-reached source items sound clean s names before item (items_of.Objects list) rest r)
      (remains quantity left.still (seen_in_objects names 0 list.decls) (more ++ ends) (ap (first_past quantity left.still) (sym (append_assoc (seen_in_objects names 0 list.decls) more ends)) ∙ left.none_past))
      (record { few = omega arith; fresh = λ q. let old : total measure s.here.objects ≤ 0 = o.fresh q in omega arith })
  own-items s names before item (items_of.Function g ∷ rest) ends r left o =
      let inside : Names = seen_sources.after_function names item g in
      let after : List (Known Declaration) = functions_after names.items before item (items_of.Function g) in
      let more : List Seen = seen_in_items inside after (item + 1) rest in
      let past : first_past quantity left.still (seen_in_function names before item g ++ (more ++ ends)) ≡ None = ap (first_past quantity left.still) (sym (append_assoc (seen_in_function names before item g) more ends)) ∙ left.none_past in
      own-items (after_function s item g) inside after (item + 1) rest ends (next-reached source items sound clean s names before item (items_of.Function g) rest r)
      (remains quantity left.still (seen_in_function names before item g) (more ++ ends) past)
      (function-own-few s names before item g rest r (parts-spent left.still names before item g (more ++ ends) past) _ refl o)
  own-items s names before item (items_of.ExternFlag at ∷ rest) ends r left o = own-items s names before (item + 1) rest ends (next-reached source items sound clean s names before item (items_of.ExternFlag at) rest r) left o

  pub own-few : (s : Source) (names : Names) (list : List Item) (ends : List Seen) → Reached source items sound clean s names [] 0 list → Remains quantity (seen_in_items names [] 0 list ++ ends) → total measure s.here.objects ≤ 0
      → total measure (after_items s 0 list).here.objects ≤ limit_of quantity
  own-few s names list ends r left none = (own-items s names [] 0 list ends r left (record { few = omega arith; fresh = λ q. none })).few
