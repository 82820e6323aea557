-- A whole source whose names are tied, item by item.
use Rattle.std.specs.Prelude.{ℕ, ◌+◌, if◌then◌else◌, nat_lt, List, [], ◌∷◌, ◌++◌, length, slice_set, Option, Some, None}
use Rattle.c_tree.specs.declared.function.Function.{Function}
use Rattle.c_tree.specs.declared.function.Param.{Param}
use Rattle.c_tree.specs.declared.program.Item.{Item}
use Rattle.c_tree.specs.declared.program.Item.TheVariants as items
use Rattle.c_tree.specs.declared.statement.Block.{Block}
use Rattle.c_typed.specs.declared.statement.TypedBlock.{TypedBlock}
use Rattle.c_typed.specs.declared.typed.TypedFunction.{TypedFunction}
use Rattle.operator_meaning.specs.declared.object.Object.{Object}
use Rattle.sat_base.specs.declared.name.Named.{Named}
use Rattle.tied_names.specs.declared.note.Note.{Note}
use Rattle.tied_names.specs.declared.tie.Tie.{Tie}
use Rattle.tied_names.specs.declared.tie.Tie.TheVariants as ties
use Rattle.tied_names.specs.Numbers.{is_exposed}
use Rattle.tied_names.specs.Ties.{Here, here_of, tie_of, declaring}
use Rattle.tied_objects.specs.Objects.{object_of_parameter}
use Rattle.tied_statements.specs.declared.statements.Inside.{Inside}
use Rattle.tied_statements.specs.Declarations.{with_objects, after_object, after_objects}
use Rattle.tied_statements.specs.Statements.{Done, tied_block}
use Rattle.c_types.specs.declared.items.Source.{Source as SourceState}

-- what is in scope after some items, with the functions in the order of their first declarations, and what is noted
pub record Source : Type 0 where
  pub here : Here
  pub functions : List TypedFunction
  pub notes : List Note

abbrev pub source_of : SourceState → Source
source_of s = record { here = here_of s.ties; functions = s.functions; notes = s.notes.items }

abbrev pub function_number : Option Tie → Option ℕ
function_number None = None
function_number (Some (ties.Object object)) = None
function_number (Some (ties.Function number item)) = Some number
function_number (Some (ties.Predefined callee)) = None

-- a function without a definition has no parameters here
abbrev pub declared : Function → TypedFunction
declared function = record { name = function.name.name; defined = None; gives = function.gives; params = []; body = None }

abbrev pub defined : Function → List ℕ → TypedBlock → TypedFunction
defined function params body = record { name = function.name.name; defined = Some function.name.at; gives = function.gives; params = params; body = Some body }

abbrev pub parameter_of : Here → ℕ → Param → Object
parameter_of here function param = object_of_parameter param function (is_exposed here.exposed (length here.objects))

abbrev pub after_named : Here → Object → Option Named → Here
after_named here object None = with_objects here (here.objects ++ object ∷ [])
after_named here object (Some name) = after_object here name.name object

abbrev pub after_parameter : Here → ℕ → Param → Here
after_parameter here function param = after_named here (parameter_of here function param) param.name

pub record Parameters : Type 0 where
  pub numbers : List ℕ
  pub after : Here

-- the parameters of a definition are objects, which are declared in its outermost scope
abbrev pub parameters_of : Here → ℕ → List Param → Parameters
parameters_of here function [] = record { numbers = []; after = here }
parameters_of here function (param ∷ params) = record {
  numbers = length here.objects ∷ (parameters_of (after_parameter here function param) function params).numbers;
  after = (parameters_of (after_parameter here function param) function params).after;
}

abbrev pub number_or : Option ℕ → ℕ → ℕ
number_or None next = next
number_or (Some number) next = number

abbrev pub functions_or : Option ℕ → List TypedFunction → Function → List TypedFunction
functions_or None functions function = functions ++ declared function ∷ []
functions_or (Some number) functions function = functions

-- a function has the number of its first declaration
abbrev pub number_of : Source → Function → ℕ
number_of s function = number_or (function_number (tie_of s.here function.name.name)) (length s.functions)

-- the functions with this one among them
abbrev pub with_function : Source → Function → Source
with_function s function = record s { functions = functions_or (function_number (tie_of s.here function.name.name)) s.functions function }

abbrev pub after_declaration : Source → ℕ → Function → Source
after_declaration s item function =
    record (with_function s function) { here = declaring s.here function.name.name (ties.Function (number_of s function) item) }

abbrev pub inside_of : ℕ → Function → Inside
inside_of number function = record { function = number; gives = function.gives }

-- the body of the function of a number, in one scope with its parameters
abbrev pub body_of : Source → ℕ → Function → Block → Done TypedBlock
body_of s number function body = tied_block body (parameters_of s.here number function.params).after (inside_of number function)

abbrev pub defining : List TypedFunction → ℕ → TypedFunction → List TypedFunction
defining functions number function = if nat_lt number (length functions) then slice_set functions number function else functions

-- a function is complete where it is defined; after it the names are in scope that were before its parameters
abbrev pub after_definition : Source → ℕ → Function → Block → Source
after_definition s number function body = record {
  here = with_objects s.here (body_of s number function body).objects;
  functions = defining s.functions number (defined function (parameters_of s.here number function.params).numbers (body_of s number function body).value);
  notes = s.notes ++ (body_of s number function body).notes;
}

abbrev pub after_body : Source → ℕ → Function → Option Block → Source
after_body s number function None = s
after_body s number function (Some body) = after_definition s number function body

-- the name of a function is in scope in its own body
abbrev pub after_function : Source → ℕ → Function → Source
after_function s item function = after_body (after_declaration s item function) (number_of s function) function function.body

-- after the item of this number
abbrev pub after_item : Source → ℕ → Item → Source
after_item s item (items.Objects list) = record s { here = after_objects s.here list.decls }
after_item s item (items.Function function) = after_function s item function
after_item s item (items.ExternFlag at) = s

-- after the items from the one with this number on
abbrev pub after_items : Source → ℕ → List Item → Source
after_items s item [] = s
after_items s item (x ∷ rest) = after_items (after_item s item x) (item + 1) rest

-- before the first item, where the sites have these tokens, in order, and the exposed objects have these numbers
abbrev pub opening : List Item → List ℕ → List ℕ → Source
opening list tokens exposed = record {
  here = record { items = list; tokens = tokens; exposed = exposed; known = []; objects = [] };
  functions = [];
  notes = [];
}

-- the whole source
abbrev pub tied_source : List Item → List ℕ → List ℕ → Source
tied_source list tokens exposed = after_items (opening list tokens exposed) 0 list
