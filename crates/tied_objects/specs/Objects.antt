-- Objects with all that is known of them.
use Rattle.std.specs.Prelude.{ℕ, Bool, ◌||◌, if◌then◌else◌, List, [], Option, Some, None, is_none, unwrap_or}
use Rattle.sat_base.specs.declared.name.Named.{Named}
use Rattle.c_tree.specs.declared.declaration.Decl.{Decl}
use Rattle.c_tree.specs.declared.function.Param.{Param}
use Rattle.declared_objects.specs.Lengths.{is_array, rows_of, columns_of}
use Rattle.operator_meaning.specs.declared.object.Object.{Object}
use Rattle.operator_meaning.specs.declared.object.Storage.{Storage}
use Rattle.operator_meaning.specs.declared.object.Storage.TheVariants.{Static, Automatic, Parameter}
use Rattle.tied_names.specs.Ties.{is_view}
use Rattle.tied_objects.specs.Initial.{initial_values}

-- an object at file scope is static
abbrev pub storage_of : Decl → Option ℕ → Storage
storage_of decl function = if is_none function || decl.is_static then Static else Automatic

abbrev pub rows_in : Decl → ℕ
rows_in decl = if is_array decl then unwrap_or (rows_of decl) 0 else 0

abbrev pub columns_in : Decl → ℕ
columns_in decl = if is_array decl then unwrap_or (columns_of decl) 0 else 0

-- the object that is declared at file scope, or in the function of a number
abbrev pub object_of : Decl → Option ℕ → Bool → Object
object_of decl function exposed = record {
  name = decl.name.name;
  width = decl.width;
  rows = rows_in decl;
  columns = columns_in decl;
  storage = storage_of decl function;
  view = decl.pointer;
  is_const = decl.is_const;
  exposed = exposed;
  initial = initial_values decl;
  function = function;
}

abbrev pub name_of : Option Named → List ℕ
name_of None = []
name_of (Some name) = name.name

-- the object that a parameter of the function of a number is
abbrev pub object_of_parameter : Param → ℕ → Bool → Object
object_of_parameter param function exposed = record {
  name = name_of param.name;
  width = param.width;
  rows = 0;
  columns = 0;
  storage = Parameter;
  view = is_view param;
  is_const = param.is_const;
  exposed = exposed;
  initial = None;
  function = Some function;
}
