-- Declarations of objects, and how these start.
use Rattle.std.specs.Prelude.{ℕ, if◌then◌else◌, List, [], ◌∷◌, ◌++◌, length, Option, Some, None}
use Rattle.c_tree.specs.declared.declaration.Decl.{Decl}
use Rattle.c_tree.specs.declared.declaration.Init.{Init}
use Rattle.c_tree.specs.declared.declaration.Init.TheVariants as init
use Rattle.c_tree.specs.declared.declaration.Objects.{Objects}
use Rattle.c_typed.specs.declared.call.TypedArg.{TypedArg}
use Rattle.c_typed.specs.declared.statement.Start.{Start}
use Rattle.operator_meaning.specs.declared.object.Object.{Object}
use Rattle.tied_names.specs.declared.note.Note.{Note}
use Rattle.tied_names.specs.declared.tie.Asked.{Asked}
use Rattle.tied_names.specs.declared.tie.Asked.TheVariants as asks
use Rattle.tied_names.specs.declared.tie.Tie.{Tie}
use Rattle.tied_names.specs.declared.tie.Tie.TheVariants as ties
use Rattle.tied_names.specs.Numbers.{is_exposed}
use Rattle.tied_names.specs.Ties.{Here, declaring}
use Rattle.tied_objects.specs.Objects.{object_of}
use Rattle.tied_expressions.specs.Expressions.{tied_argument}
use Rattle.tied_expressions.specs.Sites.{Tied}

abbrev pub tie_to : ℕ → Object → Tie
tie_to number object = ties.Object (record { number = number; width = object.width; rows = object.rows; columns = object.columns; view = object.view })

-- the objects once there are these
abbrev pub with_objects : Here → List Object → Here
with_objects here objects = record here { objects = objects }

-- an object is declared under a name: it has the next number
abbrev pub after_object : Here → List ℕ → Object → Here
after_object here name object = declaring (with_objects here (here.objects ++ object ∷ [])) name (tie_to (length here.objects) object)

abbrev pub after_declared : Here → Option ℕ → Decl → Here
after_declared here function decl = after_object here decl.name.name (object_of decl function (is_exposed here.exposed (length here.objects)))

-- after the declarations of objects at file scope
abbrev pub after_objects : Here → List Decl → Here
after_objects here [] = here
after_objects here (decl ∷ decls) = after_objects (after_declared here None decl) decls

abbrev pub asked_by : Decl → Asked
asked_by decl = if decl.pointer then asks.View else asks.Number decl.width

abbrev value_by : Here → Decl → Init → Tied (Option TypedArg)
value_by here decl init.Nothing = record { value = None; notes = [] }
value_by here decl (init.One arg) = record { value = Some (tied_argument arg here (asked_by decl)).value; notes = (tied_argument arg here (asked_by decl)).notes }
value_by here decl (init.Flat values) = record { value = None; notes = [] }
value_by here decl (init.Rows rows) = record { value = None; notes = [] }

abbrev no_value : Tied (Option TypedArg)
no_value = record { value = None; notes = [] }

-- the one value that an object of a block starts with, if it is not static
abbrev pub start_value : Here → Decl → Tied (Option TypedArg)
start_value here decl = if decl.is_static then no_value else value_by here decl decl.init

-- how objects of a block start, what is noted in them, and what is known after them
pub record Begun : Type 0 where
  pub value : List Start
  pub notes : List Note
  pub after : Here

-- the name of an object is in scope only after its own initialiser
abbrev pub starts_of : Here → ℕ → List Decl → Begun
starts_of here function [] = record { value = []; notes = []; after = here }
starts_of here function (decl ∷ decls) = record {
  value = record { object = length here.objects; value = (start_value here decl).value } ∷ (starts_of (after_declared here (Some function) decl) function decls).value;
  notes = (start_value here decl).notes ++ (starts_of (after_declared here (Some function) decl) function decls).notes;
  after = (starts_of (after_declared here (Some function) decl) function decls).after;
}

abbrev pub starts_in_lists : Here → ℕ → List Objects → Begun
starts_in_lists here function [] = record { value = []; notes = []; after = here }
starts_in_lists here function (list ∷ lists) = record {
  value = (starts_of here function list.decls).value ++ (starts_in_lists (starts_of here function list.decls).after function lists).value;
  notes = (starts_of here function list.decls).notes ++ (starts_in_lists (starts_of here function list.decls).after function lists).notes;
  after = (starts_in_lists (starts_of here function list.decls).after function lists).after;
}
