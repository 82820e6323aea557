-- What is seen in declarations of objects and parameters.
use Rattle.std.specs.Prelude.{ℕ, Bool, false, not, ◌||◌, if◌then◌else◌, nat_lt, List, [], ◌∷◌, ◌++◌, flat_map, Option, Some, None, is_some, unwrap_or}
use Rattle.sat_base.specs.declared.name.At.{At}
use Rattle.sat_base.specs.declared.name.Named.{Named}
use Rattle.c_tree.specs.declared.declaration.Decl.{Decl}
use Rattle.c_tree.specs.declared.declaration.Dim.{Dim}
use Rattle.c_tree.specs.declared.declaration.Init.{Init}
use Rattle.c_tree.specs.declared.declaration.Init.TheVariants as init
use Rattle.c_tree.specs.declared.declaration.Objects.{Objects}
use Rattle.c_tree.specs.declared.declaration.Row.{Row}
use Rattle.c_tree.specs.declared.expression.Expr.{Expr}
use Rattle.c_tree.specs.declared.function.Param.{Param}
use Rattle.declared_objects.specs.Initialisers.{bad_initialiser, pointer_use}
use Rattle.declared_objects.specs.Lengths.{elements_of, bad_length, is_bad}
use Rattle.c_seen.specs.declared.seen.Kind.{Kind}
use Rattle.c_seen.specs.declared.seen.Kind.TheVariants as kinds
use Rattle.c_seen.specs.declared.seen.Meaning.{Meaning}
use Rattle.c_seen.specs.declared.seen.Meaning.TheVariants as means
use Rattle.c_seen.specs.declared.seen.Need.TheVariants as needs
use Rattle.c_seen.specs.declared.seen.Seen.{Seen}
use Rattle.c_seen.specs.declared.seen.Seen.TheVariants as seen
use Rattle.c_seen.specs.declared.seen.SeenObject.{SeenObject}
use Rattle.c_seen.specs.declared.seen.SeenParameter.{SeenParameter}
use Rattle.c_seen.specs.declared.seen.Wanted.{Wanted}
use Rattle.c_seen.specs.declared.seen.Wanted.TheVariants as wants
use Rattle.c_seen.specs.Expressions.{seen_in_expression, seen_in_argument}
use Rattle.c_seen.specs.Functions.{is_view}
use Rattle.c_seen.specs.Meanings.{Names, is_taken, kind_of, declaring}

-- an expression that has to be a number
abbrev pub number : Names → Expr → List Seen
number names e = seen_in_expression e names needs.Number

abbrev pub number_if_any : Names → Option Expr → List Seen
number_if_any names None = []
number_if_any names (Some e) = number names e

abbrev pub numbers : Names → List Expr → List Seen
numbers names values = flat_map (number names) values

abbrev pub row : Names → Row → List Seen
row names r = numbers names r.values

abbrev pub dimension : Names → Option Dim → List Seen
dimension names None = []
dimension names (Some dim) = number_if_any names dim.length

-- what the one value of an object is given to
abbrev pub wanted_of : Kind → Decl → Wanted
wanted_of kinds.View decl = wants.View (record { width = decl.width; is_const = decl.is_const })
wanted_of kinds.Scalar decl = wants.Number
wanted_of kinds.Array decl = wants.Nothing
wanted_of kinds.Table decl = wants.Nothing

abbrev pub initialiser : Names → Decl → Init → List Seen
initialiser names decl init.Nothing = []
initialiser names decl (init.One arg) = seen_in_argument arg names (wanted_of (kind_of decl) decl)
initialiser names decl (init.Flat values) = numbers names values
initialiser names decl (init.Rows rows) = flat_map (row names) rows

-- the number of elements, 0 of a view and where a length is bad
abbrev pub elements_by : Kind → Option ℕ → ℕ
elements_by kinds.View elements = 0
elements_by kinds.Scalar elements = 1
elements_by kinds.Array elements = unwrap_or elements 0
elements_by kinds.Table elements = unwrap_or elements 0

-- an object at file scope is static
abbrev pub is_static : Bool → Decl → Bool
is_static is_local decl = not is_local || decl.is_static

abbrev pub object : Decl → Bool → SeenObject
object decl is_local = record {
  at = decl.name.at;
  kind = kind_of decl;
  width = decl.width;
  elements = elements_by (kind_of decl) (elements_of decl);
  is_local = is_local;
  has_bad_initialiser = bad_initialiser decl (is_static is_local decl);
  has_bad_length = bad_length decl;
  misuses_pointer = pointer_use decl (is_static is_local decl);
}

abbrev pub meaning_of_declared : Decl → Meaning
meaning_of_declared decl = means.Object (kind_of decl) decl.width decl.is_const

-- the name of an object is in scope only after its own initialiser
abbrev pub seen_in_declared : Names → ℕ → Decl → List Seen
seen_in_declared names depth decl =
    dimension names decl.rows ++ (dimension names decl.cols ++ (initialiser names decl decl.init
    ++ (seen.Name decl.name.at (is_taken names decl.name.name depth false) ∷ seen.Object (object decl (nat_lt 0 depth)) ∷ [])))

abbrev pub after_declared : Names → ℕ → Decl → Names
after_declared names depth decl = declaring names decl.name.name depth (meaning_of_declared decl)

abbrev pub seen_in_objects : Names → ℕ → List Decl → List Seen
seen_in_objects names depth [] = []
seen_in_objects names depth (decl ∷ decls) = seen_in_declared names depth decl ++ seen_in_objects (after_declared names depth decl) depth decls

abbrev pub after_objects : Names → ℕ → List Decl → Names
after_objects names depth [] = names
after_objects names depth (decl ∷ decls) = after_objects (after_declared names depth decl) depth decls

abbrev pub seen_in_lists : Names → ℕ → List Objects → List Seen
seen_in_lists names depth [] = []
seen_in_lists names depth (list ∷ lists) = seen_in_objects names depth list.decls ++ seen_in_lists (after_objects names depth list.decls) depth lists

abbrev pub after_lists : Names → ℕ → List Objects → Names
after_lists names depth [] = names
after_lists names depth (list ∷ lists) = after_lists (after_objects names depth list.decls) depth lists

-- ---- parameters

abbrev name_or : Option Named → At → At
name_or None at = at
name_or (Some name) at = name.at

-- where the length of a parameter is bad, its name, or its `[` where it has none
abbrev bad_dimension : Option Named → Option Dim → Option At
bad_dimension name None = None
bad_dimension name (Some dim) = if is_bad dim then Some (name_or name dim.at) else None

abbrev pub bad_length_of : Param → Option At
bad_length_of param = bad_dimension param.name param.dim

abbrev pub parameter : Param → Bool → SeenParameter
parameter param is_defined = record {
  at = name_or param.name param.at;
  has_name = is_some param.name;
  type_at = param.type_at;
  is_view = is_view param;
  width = param.width;
  is_defined = is_defined;
  bad_length = bad_length_of param;
}

abbrev pub meaning_of_parameter : Param → Meaning
meaning_of_parameter param = means.Object (if is_view param then kinds.View else kinds.Scalar) param.width param.is_const

-- a function's parameters stand in the scope of its outermost block
abbrev pub name_of_parameter : Names → Option Named → List Seen
name_of_parameter names None = []
name_of_parameter names (Some name) = seen.Name name.at (is_taken names name.name 1 false) ∷ []

abbrev pub after_named : Names → Meaning → Option Named → Names
after_named names meaning None = names
after_named names meaning (Some name) = declaring names name.name 1 meaning

abbrev pub seen_in_parameter : Names → Bool → Param → List Seen
seen_in_parameter names is_defined param = dimension names param.dim ++ (seen.Parameter (parameter param is_defined) ∷ name_of_parameter names param.name)

abbrev pub after_parameter : Names → Param → Names
after_parameter names param = after_named names (meaning_of_parameter param) param.name

abbrev pub seen_in_parameters : Names → Bool → List Param → List Seen
seen_in_parameters names is_defined [] = []
seen_in_parameters names is_defined (param ∷ params) = seen_in_parameter names is_defined param ++ seen_in_parameters (after_parameter names param) is_defined params

abbrev pub after_parameters : Names → List Param → Names
after_parameters names [] = names
after_parameters names (param ∷ params) = after_parameters (after_parameter names param) params
