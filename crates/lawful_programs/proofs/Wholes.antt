-- A lawful tree over scalars is a program.
use Rattle.std.proofs.Common.{◌≡◌, ℕ, zero, suc, ◌+◌, ◌≤◌, Bool, true, false, not, List, [], ◌∷◌, length, map, refl, ap, ◌∙◌, subst, arith}
use Rattle.std.specs.Prelude.{◌==◌, ◌||◌, nat_le, flat_map, slice_get, Option, Some, None, is_none, is_some}
use Rattle.std.specs.List.{All, AllByRecursion, list_all, list_any}
use Rattle.std.proofs.lemmas.List.Elements.{All-from_recursion, recursion_from_All}
use Rattle.std.proofs.lemmas.Option.{none-some, same_Some}
use Rattle.operator_meaning.specs.declared.object.Object.{Object}
use Rattle.c_typed.specs.declared.typed.Typed.{Typed}
use Rattle.source_runs.specs.Shapes.{shape_of}
use Rattle.ir_arena.specs.declared.ir.Ir.{Ir}
use Rattle.ir_arena.specs.declared.ir.IrFunction.{IrFunction}
use Rattle.ir_arena.specs.Costs.{cost_of, cost_of_functions, cost_of_whole}
use Rattle.ir_arena.specs.Placed.{function_of, whole_of}
use Rattle.ir_arena.specs.Tree.{IrTree, TreeFunction, Operate, Binary, AddCount, Block, If, Return}
use Rattle.lawful_sources.specs.Expressions.{binary_kind}
use Rattle.lawful_sources.specs.Lawful.{is_good_main, is_not_16}
use Rattle.lawful_sources.specs.Objects.{begins_well, is_scalar}
use Rattle.lawful_sources.specs.Rows.{arguments_are_counted, place_fits, return_fits, value_is_given, is_called_main, is_main}
use Rattle.lawful_sources.specs.Statements.{Spot}
use Rattle.lawful_sources.specs.Things.{Statement}
use Rattle.lawful_ir.specs.Lawful.{IsLawfulTree, stands_in, table_function, tables_of, things_in}
use Rattle.lawful_ir.specs.Positions.{TreeThing, Of, Misplaced, Body, is_placed, things_of}
use Rattle.lawful_ir.specs.Walk.{count_in, function_stands, stands}
use Rattle.lawful_ir.proofs.Alike.{left, right, never}
use Rattle.code_stacks.specs.Places.{Layout}
use Rattle.program_code.specs.Laws.{IsProgram}
use Rattle.lawful_programs.specs.Form.{function_has_numbers, has_numbers, has_scalar_body, has_scalar_form, is_plain_scalar, is_scalar_tree, whole_has_numbers}
use Rattle.lawful_programs.specs.Heights.{height_of_statement}
use Rattle.lawful_programs.specs.Laws.{IsLayoutOf, ScalarTreesArePrograms}
use Rattle.lawful_programs.proofs.Expressions.{IsFor}
use Rattle.lawful_programs.proofs.Plain.{IsPlain}
use Rattle.lawful_programs.proofs.Standing.{Fits, Stand, early}
use Rattle.lawful_programs.proofs.Starts.{never_if, same_number}
use Rattle.lawful_programs.proofs.Statements.{IsDone, operator, statement}

-- ---- tests that all pass

module _ {A : Type 0} (test : A → Bool) where
  each_passes : (xs : List A) → list_all test xs ≡ true → AllByRecursion (λ x. test x ≡ true) xs
  each_passes [] all = tt
  each_passes (x ∷ xs) all = (left (test x) (list_all test xs) all, each_passes xs (right (test x) (list_all test xs) all))

  passes : (xs : List A) → list_all test xs ≡ true → All (λ x. test x ≡ true) xs
  passes xs all = All-from_recursion (λ x. test x ≡ true) xs (each_passes xs all)

  passes_at : (xs : List A) (n : ℕ) (x : A) → list_all test xs ≡ true → slice_get xs n ≡ Some x → test x ≡ true
  passes_at [] n x all found = absurd (none-some x found)
  passes_at (y ∷ ys) zero x all found = subst (λ z. test z ≡ true) (same_Some y x found) (left (test y) (list_all test ys) all)
  passes_at (y ∷ ys) (suc n) x all found = passes_at ys n x (right (test y) (list_all test ys) all) found

-- ---- what stands

module _ (ir : Ir) (lawful : IsLawfulTree ir) where
  abbrev tables : Typed
  tables = tables_of ir

  all_fit : AllByRecursion (Fits tables) (things_in ir)
  all_fit = recursion_from_All (Fits tables) (things_in ir) (λ n d less. record {
    reaches = passes (place_fits tables) (things_in ir) lawful.places_fit n d less;
    counts = passes (arguments_are_counted tables) (things_in ir) lawful.arguments_are_counted n d less;
    gives = passes (value_is_given tables) (things_in ir) lawful.values_are_given n d less;
    begins = passes (begins_well tables) (things_in ir) lawful.objects_begin n d less;
    returns = passes return_fits (things_in ir) lawful.returns_fit n d less;
    is_of_kind = lawful.kinds_agree n d less;
  })

  all_stand : (things : List TreeThing) → list_all is_placed things ≡ true → AllByRecursion (Fits tables) (things_of things) → Stand tables things
  all_stand [] are fit = tt
  all_stand (Of thing ∷ rest) are fit = (fit.0, all_stand rest are fit.1)
  all_stand (Misplaced ∷ rest) are fit = never are

  pub tree_stands : Stand tables (stands_in ir)
  tree_stands = all_stand (stands_in ir) lawful.nodes_are_placed all_fit

-- ---- the body of a function

module _ (tables : Typed) (l : Layout) (for : IsFor tables l) (room : 1 ≤ l.depth) where
  statement_fits : Fits tables Statement
  statement_fits = record { reaches = refl; counts = refl; gives = refl; begins = refl; returns = refl; is_of_kind = tt }

  -- it is a block
  body_done : (e : IrTree) (spot : Spot) → Stand tables (stands tables e (Body spot)) → IsPlain e → height_of_statement e ≤ l.depth → IsDone tables l for (is_some spot.gives) e
  body_done (Block first count starts parts) spot stand plain high = statement tables l for room (Block first count starts parts) spot (statement_fits, stand) plain high
  body_done (Operate site kind operands weight) spot stand plain high = operator tables l for (Body spot) site kind operands weight stand plain high
  body_done (Binary mark one other) spot stand plain high = absurd (never_if tables l for (is_none (binary_kind mark)) stand)
  body_done (AddCount weight) spot stand plain high = absurd (never_if tables l for _ stand)
  body_done (If cond this other) spot stand plain high = absurd (never_if tables l for (nat_le (count_in other) 1) stand)
  body_done (Return value) spot stand plain high = absurd (never_if tables l for (nat_le (count_in value) 1) stand)
  body_done e spot stand plain high = absurd stand.0

-- ---- the main function

record IsOnly (functions : List IrFunction) (main : ℕ) : Type 0 where
  own : IrFunction
  only : functions ≡ own ∷ []
  first : main ≡ 0

only_is : (functions : List IrFunction) (main : ℕ) → has_scalar_body (map function_of functions) ≡ true → is_called_main (slice_get (map table_function functions) main) ≡ true → IsOnly functions main
only_is [] main form named = never form
only_is (own ∷ []) zero form named = record { own = own; only = refl; first = refl }
only_is (own ∷ []) (suc n) form named = never named
only_is (own ∷ other ∷ rest) main form named = never form

only_one : (is : Bool) → (is || false) ≡ true → is ≡ true
only_one is good = grind arith

none_are : (params : List ℕ) → (length params == 0) ≡ true → params ≡ []
none_are [] is = refl
none_are (x ∷ xs) is = let none = same_number (length (x ∷ xs)) 0 is in absurd (omega arith)

module _ (ir : Ir) (l : Layout) (lawful : IsLawfulTree ir) (form : has_scalar_form (whole_of ir) ≡ true) (numbers : whole_has_numbers (whole_of ir) ≡ true)
    (cheap : cost_of_whole (whole_of ir) ≤ 16777216) (layout : IsLayoutOf (whole_of ir) l) where
  abbrev are_scalars : list_all is_plain_scalar ir.objects ≡ true
  are_scalars = left (list_all is_plain_scalar ir.objects) (has_scalar_body (whole_of ir).functions) form

  scalar_is : (n : ℕ) (object : Object) → slice_get ir.objects n ≡ Some object → is_scalar object ≡ true
  scalar_is n object found = left (is_scalar object) (not object.exposed) (passes_at is_plain_scalar ir.objects n object are_scalars found)

  fits : IsFor (tables_of ir) l
  fits = record { few = lawful.sites_are_few; wordless = layout.wordless; variables = λ n object found. layout.variables n object found ∙ scalar_is n object found; scalars = scalar_is }

  -- no variable is a view
  no_view : (n : ℕ) (found : Option Object) → slice_get ir.objects n ≡ found → (shape_of ir.objects n).view ≡ false
  no_view n None found = rw found refl
  no_view n (Some object) found = rw found (let is = left (not object.view) (object.rows == 0) (scalar_is n object found) in grind arith)

  main : IsOnly ir.functions ir.main
  main = only_is ir.functions ir.main (right (list_all is_plain_scalar ir.objects) (has_scalar_body (whole_of ir).functions) form) lawful.main_is_main

  abbrev own : TreeFunction
  own = function_of main.own

  own_is : slice_get (whole_of ir).functions (whole_of ir).main ≡ Some own
  own_is = ap (λ functions. slice_get (map function_of functions) ir.main) main.only ∙ ap (λ n. slice_get (own ∷ []) n) main.first

  own_form : is_scalar_tree own.body ≡ true
  own_form = subst (λ functions. has_scalar_body (map function_of functions) ≡ true) main.only (right (list_all is_plain_scalar ir.objects) (has_scalar_body (whole_of ir).functions) form)

  own_numbers : has_numbers own.body ≡ true
  own_numbers = left (has_numbers own.body) true (subst (λ functions. list_all function_has_numbers (map function_of functions) ≡ true) main.only numbers)

  own_cost : cost_of own.body ≤ 16777216
  own_cost = let few = subst (λ functions. 64 + cost_of_functions (map function_of functions) ≤ 16777216) main.only cheap in omega (arith, few)

  own_stands : Stand (tables_of ir) (function_stands (tables_of ir) own)
  own_stands =
      early (tables_of ir) (function_stands (tables_of ir) own) []
      (subst (λ functions. Stand (tables_of ir) (flat_map (function_stands (tables_of ir)) (map function_of functions))) main.only (tree_stands ir lawful))

  own_params : own.params ≡ []
  own_params =
      let good : (is_good_main (table_function main.own) || false) ≡ true = subst (λ functions. list_any is_good_main (map table_function functions) ≡ true) main.only lawful.has_main in
      none_are own.params (left (length own.params == 0) (is_not_16 own.gives) (right (is_main (table_function main.own)) _ (only_one (is_good_main (table_function main.own)) good)))

  done : IsDone (tables_of ir) l fits (is_some own.gives) own.body
  done =
      body_done (tables_of ir) l fits layout.room own.body (record { in_loop = false; gives = own.gives }) own_stands
      (record { formed = own_form; small = own_numbers; cheap = own_cost }) (layout.high own own_is)

  program_is : IsProgram (whole_of ir) l own
  program_is = record {
    is = own_is;
    takes_nothing = own_params;
    scalars = λ n variable. no_view n (slice_get ir.objects n) refl;
    statement = done.is;
    light = let light = done.light in omega (arith, own_cost, light);
  }

pub scalar_trees_are_programs : ScalarTreesArePrograms
scalar_trees_are_programs ir l lawful form numbers cheap layout = (own ir l lawful form numbers cheap layout, program_is ir l lawful form numbers cheap layout)
