-- What is seen in a whole source.
use Rattle.std.specs.Prelude.{ℕ, ◌+◌, Bool, true, false, not, ◌&&◌, List, [], ◌∷◌, ◌++◌, Option, Some, None, is_some, is_none, codes}
use Rattle.std.specs.List.{list_any}
use Rattle.std.specs.Str.{bytes_eq}
use Rattle.sat_base.specs.declared.width.Width.{Width}
use Rattle.sat_base.specs.declared.width.Width.TheVariants.{W16, W32}
use Rattle.c_scopes.specs.Scopes.{Known, meaning_of}
use Rattle.c_tree.specs.declared.function.Function.{Function}
use Rattle.c_tree.specs.declared.program.Item.{Item}
use Rattle.c_tree.specs.declared.program.Item.TheVariants as items
use Rattle.c_tree.specs.declared.program.Program.{Program}
use Rattle.c_tree.specs.declared.statement.Block.{Block}
use Rattle.constant_expressions.specs.Returning.{returns_in}
use Rattle.predefined_calls.specs.Calls.{callee_of}
use Rattle.c_seen.specs.declared.functions.Declaration.{Declaration}
use Rattle.c_seen.specs.declared.seen.Meaning.TheVariants as means
use Rattle.c_seen.specs.declared.seen.Seen.{Seen}
use Rattle.c_seen.specs.declared.seen.Seen.TheVariants as seen
use Rattle.c_seen.specs.declared.seen.SeenFunction.{SeenFunction}
use Rattle.c_seen.specs.declared.statements.Spot.{Spot}
use Rattle.c_seen.specs.Declarations.{seen_in_objects, after_objects, seen_in_parameters, after_parameters}
use Rattle.c_seen.specs.Functions.{is_defined, differs, declaring_function, functions_of}
use Rattle.c_seen.specs.Meanings.{Names, is_taken, declaring}
use Rattle.c_seen.specs.Statements.{seen_in_block}

abbrev pub is_main : Function → Bool
is_main function = bytes_eq function.name.name (codes "main")

abbrev pub body_lacks_return : Function → Option Block → Bool
body_lacks_return function None = false
body_lacks_return function (Some body) = is_some function.gives && (not (is_main function) && not (returns_in body))

-- a function other than main that gives a number, and whose body does not surely return
abbrev pub lacks_return : Function → Bool
lacks_return function = body_lacks_return function function.body

-- a function beside those declared before it
abbrev pub function_seen : List Item → List (Known Declaration) → Function → SeenFunction
function_seen list earlier function = record {
  at = function.name.at;
  is_new = is_none (callee_of function.name.name) && is_none (meaning_of earlier function.name.name);
  differs = differs list earlier function;
  is_second = is_some function.body && is_defined earlier function.name.name;
  lacks_return = lacks_return function;
}

-- a function's body stands in one scope with its parameters
abbrev pub body_spot : Function → Spot
body_spot function = record { depth = 1; in_loop = false; gives = is_some function.gives }

abbrev pub seen_in_body : Names → Function → Option Block → List Seen
seen_in_body names function None = []
seen_in_body names function (Some body) = seen_in_block body names (body_spot function)

abbrev pub after_function : Names → ℕ → Function → Names
after_function names item function = declaring names function.name.name 0 (means.Function item)

-- the name of a function is in scope in its own body
abbrev pub seen_in_parts : Names → Function → List Seen
seen_in_parts names function =
    seen_in_parameters names (is_some function.body) function.params ++ seen_in_body (after_parameters names function.params) function function.body

abbrev pub seen_in_function : Names → List (Known Declaration) → ℕ → Function → List Seen
seen_in_function names earlier item function =
    seen.Function (function_seen names.items earlier function) ∷ seen.Name function.name.at (is_taken names function.name.name 0 true)
    ∷ seen_in_parts (after_function names item function) function

-- an item of this number, after the functions before it
abbrev pub seen_in_item : Names → List (Known Declaration) → ℕ → Item → List Seen
seen_in_item names earlier item (items.Objects list) = seen_in_objects names 0 list.decls
seen_in_item names earlier item (items.Function function) = seen_in_function names earlier item function
seen_in_item names earlier item (items.ExternFlag at) = []

abbrev pub after_item : Names → ℕ → Item → Names
after_item names item (items.Objects list) = after_objects names 0 list.decls
after_item names item (items.Function function) = after_function names item function
after_item names item (items.ExternFlag at) = names

-- the functions once this item is among those before
abbrev pub functions_after : List Item → List (Known Declaration) → ℕ → Item → List (Known Declaration)
functions_after list earlier item (items.Objects objects) = earlier
functions_after list earlier item (items.Function function) = declaring_function list earlier item function
functions_after list earlier item (items.ExternFlag at) = earlier

-- the items from the one with this number on
abbrev pub seen_in_items : Names → List (Known Declaration) → ℕ → List Item → List Seen
seen_in_items names earlier item [] = []
seen_in_items names earlier item (x ∷ rest) =
    seen_in_item names earlier item x ++ seen_in_items (after_item names item x) (functions_after names.items earlier item x) (item + 1) rest

abbrev pub is_not_16 : Option Width → Bool
is_not_16 None = true
is_not_16 (Some W16) = false
is_not_16 (Some W32) = true

abbrev pub is_empty : {A : Type 0} → List A → Bool
is_empty [] = true
is_empty (x ∷ xs) = false

-- a definition of main without parameters that gives a 32-bit number or nothing
abbrev pub is_good_main : Item → Bool
is_good_main (items.Objects objects) = false
is_good_main (items.Function function) = is_main function && (is_some function.body && (is_empty function.params && is_not_16 function.gives))
is_good_main (items.ExternFlag at) = false

abbrev pub end_of : Program → Seen
end_of program = seen.End (record { tok = program.end_tok; pos = program.end }) (list_any is_good_main program.items)

-- all that is seen in a source, in the order of its tree
abbrev pub seen_of : Program → List Seen
seen_of program =
    seen_in_items (record { items = program.items; functions = functions_of program.items; known = [] }) [] 0 program.items ++ end_of program ∷ []
