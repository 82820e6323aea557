-- The functions of a source that passes no limit are few.
use Rattle.std.proofs.Common.{◌≡◌, ℕ, zero, suc, ◌+◌, ◌≤◌, List, [], ◌∷◌, Bool, true, false, length, refl, sym, ap, ◌∙◌, arith}
use Rattle.std.specs.Prelude.{Option, Some, None, is_some, is_none, ◌||◌, ◌&&◌, nat_lt, if◌then◌else◌, slice_set}
use Rattle.std.proofs.lemmas.List.{length-append}
use Rattle.sat_base.specs.declared.fault.FaultKind.TheVariants as fault
use Rattle.sat_base.specs.declared.limits.TheConstants.{FUNCTIONS}
use Rattle.sat_base.specs.declared.name.At.{At}
use Rattle.c_scopes.specs.Scopes.{Known, meaning_of}
use Rattle.c_tree.specs.declared.function.Function.{Function}
use Rattle.c_tree.specs.declared.program.Item.{Item}
use Rattle.c_tree.specs.declared.program.Item.TheVariants as items_of
use Rattle.c_tree.specs.declared.program.Program.{Program}
use Rattle.c_tree.specs.declared.statement.Block.{Block}
use Rattle.c_typed.specs.declared.call.Callee.{Callee}
use Rattle.c_typed.specs.declared.typed.Typed.{Typed}
use Rattle.c_typed.specs.declared.typed.TypedFunction.{TypedFunction}
use Rattle.predefined_calls.specs.Calls.{callee_of}
use Rattle.c_seen.specs.declared.functions.Declaration.{Declaration}
use Rattle.c_seen.specs.declared.seen.Seen.TheVariants as seen
use Rattle.c_seen.specs.Declarations.{seen_in_objects}
use Rattle.c_seen.specs.Meanings.{Names, is_taken}
use Rattle.c_seen.specs.Sources as seen_sources
use Rattle.c_seen.specs.Sources.{function_seen, seen_in_function, seen_in_item, seen_in_items, functions_after, seen_of, end_of}
use Rattle.c_faults.specs.declared.limits.Quantity.TheVariants as of
use Rattle.c_faults.specs.Faults.{limits}
use Rattle.c_faults.specs.Limits.{one_if, passed}
use Rattle.c_faults.specs.Rows.{at_if}
use Rattle.c_types.specs.Sources.{Source, number_of, functions_or, declared, after_declaration, after_body, after_function, after_item, after_items}
use Rattle.c_types.specs.Tied.{IsTyped}
use Rattle.lawful_laws.proofs.Statements.{earlier, tail, head}
use Rattle.lawful_names.proofs.Clean.{Clean, AllNone, none-kept, untold, never, is_clean, when-clean}
use Rattle.lawful_names.proofs.Faultless.{seen-clean, no-limit}
use Rattle.lawful_names.proofs.Keeping.{State, number_in, Covers, Fresh, Kept}
use Rattle.lawful_names.proofs.Reached.{Reached, state_of, next-reached}
use Rattle.lawful_names.proofs.Sources.{reached, start_of, names_at_start}
use Rattle.lawful_names.proofs.Spent.{spent, spent-append, within-limit}

length-set : (functions : List TypedFunction) (number : ℕ) (one : TypedFunction) → length (slice_set functions number one) ≡ length functions
length-set [] number one = refl
length-set (f ∷ functions) zero one = refl
length-set (f ∷ functions) (suc number) one = ap suc (length-set functions number one)

length-if : (test : Bool) (functions : List TypedFunction) (number : ℕ) (one : TypedFunction) → length (if test then slice_set functions number one else functions) ≡ length functions
length-if true functions number one = length-set functions number one
length-if false functions number one = refl

body-length : (s : Source) (number : ℕ) (g : Function) (body : Option Block) → length (after_body s number g body).functions ≡ length s.functions
body-length s number g None = refl
body-length s number g (Some body) = length-if (nat_lt number (length s.functions)) s.functions number _

free-name : (callee : Option Callee) (own : Bool) (at : At) → at_if (is_some callee || own) at ≡ None → is_none callee ≡ true
free-name None own at p = refl
free-name (Some callee) own at p = absurd (never at p)

more-by : (o : Option ℕ) (fresh : Bool) (functions : List TypedFunction) (g : Function) → (o ≡ None → fresh ≡ true) → length (functions_or o functions g) ≤ one_if fresh + length functions
more-by None true functions g p = omega (arith, length-append functions (declared g ∷ []))
more-by None false functions g p = let never : false ≡ true = p refl in cc
more-by (Some number) fresh functions g p = omega arith

module _ (source : Typed) (items : List Item) where
  -- a function without a number is new
  is-new : (name : List ℕ) (st : State) → Covers source items name st → number_in st.tied name ≡ None → is_none (callee_of name) ≡ true → (is_none (callee_of name) && is_none (meaning_of st.earlier name)) ≡ true
  is-new name st (Fresh none free) p q = rw (q, none) refl
  is-new name st (Kept number of k) p q = let other : Some number ≡ None = sym k.numbered ∙ p in cc

  own-length : (s : Source) (names : Names) (before : List (Known Declaration)) (item : ℕ) (g : Function) (rest : List Item) → Reached source items is_clean when-clean s names before item (items_of.Function g ∷ rest)
      → length (after_function s item g).functions ≤ spent of.Functions (seen_in_function names before item g) + length s.functions
  own-length s names before item g rest r =
      let named : Clean (seen.Name g.name.at (is_taken names g.name.name 0 true)) = when-clean _ (head is_clean _ _ (tail is_clean _ _ (earlier is_clean (seen_in_function names before item g) _ r.sounds))) in
      let free : is_none (callee_of g.name.name) ≡ true = free-name (callee_of g.name.name) _ g.name.at named.duplicate in
      let more : length (functions_or (number_in s.here.known g.name.name) s.functions g) ≤ one_if (is_none (callee_of g.name.name) && is_none (meaning_of before g.name.name)) + length s.functions =
      more-by (number_in s.here.known g.name.name) _ s.functions g (λ p. is-new g.name.name (state_of names s.here before s.functions) (r.covers g.name.name) p free) in
      let same : length (after_function s item g).functions ≡ length (after_declaration s item g).functions = body-length (after_declaration s item g) (number_of s g) g g.body in omega arith

  functions-spent : (s : Source) (names : Names) (before : List (Known Declaration)) (item : ℕ) (list : List Item) → Reached source items is_clean when-clean s names before item list
      → length (after_items s item list).functions ≤ spent of.Functions (seen_in_items names before item list) + length s.functions
  functions-spent s names before item [] r = omega arith
  functions-spent s names before item (items_of.Objects list ∷ rest) r =
      let next : Reached source items is_clean when-clean _ _ before (item + 1) rest = next-reached source items is_clean when-clean s names before item (items_of.Objects list) rest r in
      let later : length (after_items (after_item s item (items_of.Objects list)) (item + 1) rest).functions ≤ spent of.Functions (seen_in_items (seen_sources.after_item names item (items_of.Objects list)) before (item + 1) rest) + length s.functions =
      functions-spent (after_item s item (items_of.Objects list)) (seen_sources.after_item names item (items_of.Objects list)) before (item + 1) rest next in
      let all : spent of.Functions (seen_in_items names before item (items_of.Objects list ∷ rest)) ≡ spent of.Functions (seen_in_objects names 0 list.decls) + spent of.Functions (seen_in_items (seen_sources.after_item names item (items_of.Objects list)) before (item + 1) rest) =
      spent-append of.Functions (seen_in_objects names 0 list.decls) _ in omega arith
  functions-spent s names before item (items_of.Function g ∷ rest) r =
      let own : Names = seen_sources.after_function names item g in
      let after : List (Known Declaration) = functions_after names.items before item (items_of.Function g) in
      let next : Reached source items is_clean when-clean (after_function s item g) own after (item + 1) rest = next-reached source items is_clean when-clean s names before item (items_of.Function g) rest r in
      let later : length (after_items (after_function s item g) (item + 1) rest).functions ≤ spent of.Functions (seen_in_items own after (item + 1) rest) + length (after_function s item g).functions =
      functions-spent (after_function s item g) own after (item + 1) rest next in
      let one : length (after_function s item g).functions ≤ spent of.Functions (seen_in_function names before item g) + length s.functions = own-length s names before item g rest r in
      let all : spent of.Functions (seen_in_items names before item (items_of.Function g ∷ rest)) ≡ spent of.Functions (seen_in_function names before item g) + spent of.Functions (seen_in_items own after (item + 1) rest) =
      spent-append of.Functions (seen_in_function names before item g) _ in omega arith
  functions-spent s names before item (items_of.ExternFlag at ∷ rest) r =
      functions-spent s names before (item + 1) rest (next-reached source items is_clean when-clean s names before item (items_of.ExternFlag at) rest r)

pub functions-few : (program : Program) (source : Typed) → IsTyped program source → length source.functions ≤ FUNCTIONS
functions-few program source is =
    let all : AllNone (limits (seen_of program)) = none-kept (limits (seen_of program)) (no-limit program is.faultless) in
    let most : spent of.Functions (seen_of program) ≤ FUNCTIONS = within-limit of.Functions (λ left s. refl) FUNCTIONS (seen_of program) (untold fault.TooManyFunctions (passed of.Functions (seen_of program)) all.0) in
    let parts : spent of.Functions (seen_of program) ≡ spent of.Functions (seen_in_items (names_at_start program) [] 0 program.items) + spent of.Functions (end_of program ∷ []) =
    spent-append of.Functions (seen_in_items (names_at_start program) [] 0 program.items) (end_of program ∷ []) in
    let few : length (after_items (start_of program source) 0 program.items).functions ≤ spent of.Functions (seen_in_items (names_at_start program) [] 0 program.items) + 0 =
    functions-spent source program.items (start_of program source) (names_at_start program) [] 0 program.items (reached program source is_clean when-clean is.tied (seen-clean program is.faultless)) in
    let same : length source.functions ≡ length (after_items (start_of program source) 0 program.items).functions = ap length is.tied.functions in omega arith
