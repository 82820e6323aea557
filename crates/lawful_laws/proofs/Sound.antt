-- A source without a fault: what is seen in it stands rightly, in each of its functions.
use Rattle.std.proofs.Common.{◌≡◌, ℕ, ◌+◌, List, [], ◌∷◌, ◌++◌, Bool, true, false, map, refl, ap, ◌∙◌, subst}
use Rattle.std.specs.Prelude.{flat_map, MatchOption, Option, Some, None, is_some}
use Rattle.std.specs.List.{list_all}
use Rattle.sat_base.specs.declared.fault.Fault.{Fault}
use Rattle.c_tree.specs.declared.function.Function.{Function}
use Rattle.c_tree.specs.declared.program.Item.{Item}
use Rattle.c_tree.specs.declared.program.Item.TheVariants as items
use Rattle.c_tree.specs.declared.program.Program.{Program}
use Rattle.c_tree.specs.declared.statement.Block.{Block}
use Rattle.c_typed.specs.declared.typed.Typed.{Typed}
use Rattle.c_typed.specs.declared.typed.TypedFunction.{TypedFunction}
use Rattle.c_scopes.specs.Scopes.{Known}
use Rattle.c_seen.specs.declared.functions.Declaration.{Declaration}
use Rattle.c_seen.specs.declared.seen.Seen.{Seen}
use Rattle.c_seen.specs.Declarations.{seen_in_objects, seen_in_parameters, after_parameters}
use Rattle.c_seen.specs.Functions.{functions_of}
use Rattle.c_seen.specs.Meanings.{Names}
use Rattle.c_seen.specs.Sources.{body_spot, seen_in_body, seen_in_parts, seen_in_function, after_item, after_function, functions_after, seen_in_items, end_of, seen_of}
use Rattle.c_seen.specs.Statements.{seen_in_block}
use Rattle.c_faults.specs.Faults.{faults_at, faults_of, limits}
use Rattle.c_faults.specs.Laws.{IsLeast}
use Rattle.c_faults.specs.Told.{kept, first_of}
use Rattle.c_faults.proofs.Least.{first-least}
use Rattle.tied_names.specs.Numbers.{token_of, exposed_in}
use Rattle.tied_statements.specs.Statements.{tied_block}
use Rattle.tied_names.specs.Ties.{Here}
use Rattle.c_types.specs.Sources.{opening, declared, defined, inside_of}
use Rattle.c_types.specs.Tied.{IsTyped, notes_of}
use Rattle.lawful_sources.specs.Things.{Thing}
use Rattle.lawful_sources.specs.Statements.{in_function}
use Rattle.lawful_sources.specs.Lawful.{Everywhere}
use Rattle.lawful_laws.proofs.Functions.{all-flat, AllGood, GoodBody, after-all}
use Rattle.lawful_sources.proofs.Passing.{Each}
use Rattle.lawful_laws.proofs.Statements.{Follows, earlier, later, tail, block-stands}

none-left : {A : Type 0} (xs ys : List A) → xs ++ ys ≡ [] → xs ≡ []
none-left [] ys p = refl
none-left (x ∷ xs) ys p = cc

pub none-right : {A : Type 0} (xs ys : List A) → xs ++ ys ≡ [] → ys ≡ []
none-right [] ys p = p
none-right (x ∷ xs) ys p = cc

pub no-fault : (faults : List Fault) → first_of faults ≡ None → faults ≡ []
no-fault faults is = subst (λ (o : Option Fault). MatchOption o (faults ≡ []) (IsLeast faults)) is (first-least faults)

-- what is seen in the body of a function is sound
abbrev pub IsSound : (Seen → Bool) → Function → Block → Type 0
IsSound sound function body = (names : Names) × Each sound (seen_in_block body names (body_spot function))

module _ (sound : Seen → Bool) (each : (s : Seen) → faults_at s ≡ [] → sound s ≡ true) where
  all-sound : (list : List Seen) → flat_map faults_at list ≡ [] → list_all sound list ≡ true
  all-sound [] p = refl
  all-sound (s ∷ rest) p = rw (each s (none-left (faults_at s) (flat_map faults_at rest) p), all-sound rest (none-right (faults_at s) (flat_map faults_at rest) p)) refl

  pub seen-sound : (program : Program) → first_of (faults_of program) ≡ None → list_all sound (seen_of program) ≡ true
  seen-sound program is = all-sound (seen_of program) (none-left (flat_map faults_at (seen_of program)) (kept (limits (seen_of program))) (no-fault (faults_of program) is))

  -- each function is as good as what is seen of it says
  module _ (holds : TypedFunction → Bool) (Good : Function → Block → Type 0)
      (bare : (function : Function) → holds (declared function) ≡ true)
      (whole : (function : Function) (body : Block) → Good function body → (numbers : List ℕ) (here : Here) (number : ℕ) → holds (defined function numbers (tied_block body here (inside_of number function)).value) ≡ true)
      (good : (names : Names) (before : List (Known Declaration)) (item : ℕ) (function : Function) → Each sound (seen_in_function names before item function) → GoodBody Good function function.body) where
    all-good : (names : Names) (before : List (Known Declaration)) (item : ℕ) (list : List Item) → Each sound (seen_in_items names before item list) → AllGood Good list
    all-good names before item [] p = tt
    all-good names before item (items.Objects list ∷ rest) p =
        all-good (after_item names item (items.Objects list)) before (item + 1) rest
        (later sound (seen_in_objects names 0 list.decls) (seen_in_items (after_item names item (items.Objects list)) (functions_after names.items before item (items.Objects list)) (item + 1) rest) p)
    all-good names before item (items.Function function ∷ rest) p =
        let more : List Seen = seen_in_items (after_item names item (items.Function function)) (functions_after names.items before item (items.Function function)) (item + 1) rest in (
          good names before item function (earlier sound (seen_in_function names before item function) more p),
          all-good (after_item names item (items.Function function)) (functions_after names.items before item (items.Function function)) (item + 1) rest (later sound (seen_in_function names before item function) more p),
        )
    all-good names before item (items.ExternFlag at ∷ rest) p = all-good names before (item + 1) rest p

    pub functions-hold : (program : Program) (source : Typed) → IsTyped program source → list_all holds source.functions ≡ true
    functions-hold program source typed =
        let names : Names = record { items = program.items; functions = functions_of program.items; known = [] } in
        let seen : Each sound (seen_in_items names [] 0 program.items) = earlier sound (seen_in_items names [] 0 program.items) (end_of program ∷ []) (record { all = seen-sound program typed.faultless }) in
        ap (list_all holds) typed.tied.functions
        ∙ after-all holds Good bare whole (opening program.items (map token_of source.sites) (exposed_in [] (notes_of program))) 0 program.items (all-good names [] 0 program.items seen) refl

  module _ (source : Typed) (test : Thing → Bool) (follows : Follows test sound) where
    abbrev holds : TypedFunction → Bool
    holds function = list_all test (in_function source function)

    whole : (function : Function) (body : Block) → IsSound sound function body → (numbers : List ℕ) (here : Here) (number : ℕ) → holds (defined function numbers (tied_block body here (inside_of number function)).value) ≡ true
    whole function body good numbers here number = (block-stands source test sound follows body here (inside_of number function) good.0 1 false function.gives good.1).all

    bare : (function : Function) → holds (declared function) ≡ true
    bare function = refl

    body-sound : (names : Names) (function : Function) (body : Option Block) → Each sound (seen_in_body names function body) → GoodBody (IsSound sound) function body
    body-sound names function None p = tt
    body-sound names function (Some body) p = (names, p)

    function-sound : (names : Names) (before : List (Known Declaration)) (item : ℕ) (function : Function) → Each sound (seen_in_function names before item function) → GoodBody (IsSound sound) function function.body
    function-sound names before item function p =
        let inside : Names = after_function names item function in
        let parts : Each sound (seen_in_parts inside function) = tail sound _ _ (tail sound _ _ p) in
        body-sound (after_parameters inside function.params) function function.body
        (later sound (seen_in_parameters inside (is_some function.body) function.params) (seen_in_body (after_parameters inside function.params) function function.body) parts)

    pub stands : (program : Program) → IsTyped program source → Everywhere source test
    stands program typed = all-flat (in_function source) test source.functions (functions-hold holds (IsSound sound) bare whole function-sound program source typed)
