-- The names that are in scope at a place, and what they stand for.
use Rattle.std.specs.Prelude.{ℕ, Bool, true, false, not, ◌&&◌, ◌||◌, ◌==◌, if◌then◌else◌, nat_lt, List, ◌∷◌, length, slice_get, Option, Some, None, is_some, is_none, codes}
use Rattle.std.specs.Str.{bytes_eq}
use Rattle.sat_base.specs.declared.name.At.{At}
use Rattle.c_scopes.specs.declared.scopes.Declared.{Declared}
use Rattle.c_scopes.specs.Scopes.{Known, meaning_of}
use Rattle.c_tree.specs.declared.declaration.Decl.{Decl}
use Rattle.c_tree.specs.declared.function.Function.{Function}
use Rattle.c_tree.specs.declared.function.Param.{Param}
use Rattle.c_tree.specs.declared.program.Item.{Item}
use Rattle.c_typed.specs.declared.call.Callee.{Callee}
use Rattle.declared_objects.specs.Lengths.{is_array}
use Rattle.predefined_calls.specs.Calls.{callee_of, gives_of, takes_of}
use Rattle.c_seen.specs.Functions.{is_view, is_defined, function_at}
use Rattle.c_seen.specs.declared.functions.Declaration.{Declaration}
use Rattle.c_seen.specs.declared.scope.Scope.{Scope}
use Rattle.c_seen.specs.declared.seen.Called.{Called}
use Rattle.c_seen.specs.declared.seen.Called.TheVariants as calls
use Rattle.c_seen.specs.declared.seen.Kind.{Kind}
use Rattle.c_seen.specs.declared.seen.Kind.TheVariants as kinds
use Rattle.c_seen.specs.declared.seen.Meaning.{Meaning}
use Rattle.c_seen.specs.declared.seen.Meaning.TheVariants as means
use Rattle.c_seen.specs.declared.seen.Need.{Need}
use Rattle.c_seen.specs.declared.seen.Need.TheVariants as needs
use Rattle.c_seen.specs.declared.seen.Wanted.{Wanted}
use Rattle.c_seen.specs.declared.seen.Wanted.TheVariants as wants

-- the items of the source, its functions, and the names that are in scope, newest first
pub record Names : Type 0 where
  pub items : List Item
  pub functions : List (Known Declaration)
  pub known : List (Known Meaning)

abbrev pub names_of : Scope → Names
names_of scope = record { items = scope.items.now; functions = scope.functions.now; known = scope.names }

abbrev pub known_or : Option (Declared Meaning) → Option Callee → Option Meaning
known_or (Some declared) callee = Some declared.what
known_or None None = None
known_or None (Some callee) = Some (means.Predefined callee)

-- what a name stands for: the newest that is declared under it, or else a call that is in scope everywhere
abbrev pub meaning : Names → List ℕ → Option Meaning
meaning names name = known_or (meaning_of names.known name) (callee_of name)

abbrev pub is_function : Meaning → Bool
is_function (means.Object kind width is_const) = false
is_function (means.Function item) = true
is_function (means.Predefined callee) = false

-- it is declared in the scope of this depth, and not each time as a function
abbrev pub is_own : ℕ → Bool → Option (Declared Meaning) → Bool
is_own depth as_function None = false
is_own depth as_function (Some declared) = (declared.depth == depth) && not (as_function && is_function declared.what)

-- the name may not be declared in the scope of this depth
abbrev pub is_taken : Names → List ℕ → ℕ → Bool → Bool
is_taken names name depth as_function = is_some (callee_of name) || is_own depth as_function (meaning_of names.known name)

abbrev pub called_function : Names → List ℕ → Option Function → Called
called_function names name None = calls.NoFunction
called_function names name (Some function) =
    calls.Function (is_some function.gives) (length function.params) (is_defined names.functions name) (bytes_eq name (codes "main"))

abbrev pub called_predefined : Callee → Called
called_predefined callee = calls.Function (is_some (gives_of callee)) (length (takes_of callee)) true false

abbrev pub called_as : Names → List ℕ → Option Meaning → Called
called_as names name None = calls.Unknown
called_as names name (Some (means.Object kind width is_const)) = calls.NoFunction
called_as names name (Some (means.Function item)) = called_function names name (function_at names.items item)
called_as names name (Some (means.Predefined callee)) = called_predefined callee

-- what is called by a name
abbrev pub called_by : Names → List ℕ → Called
called_by names name = called_as names name (meaning names name)

abbrev pub wanted_by : Param → Wanted
wanted_by param = if is_view param then wants.View (record { width = param.width; is_const = param.is_const }) else wants.Number

abbrev pub wanted_if_any : Option Param → Wanted
wanted_if_any None = wants.Nothing
wanted_if_any (Some param) = wanted_by param

abbrev pub wanted_of_function : Option Function → ℕ → Wanted
wanted_of_function None place = wants.Nothing
wanted_of_function (Some function) place = wanted_if_any (slice_get function.params place)

-- what the argument at a place, counted from 0, is given to
abbrev pub wanted_at : List Item → Option Meaning → ℕ → Wanted
wanted_at list None place = wants.Nothing
wanted_at list (Some (means.Object kind width is_const)) place = wants.Nothing
wanted_at list (Some (means.Function item)) place = wanted_of_function (function_at list item) place
wanted_at list (Some (means.Predefined callee)) place = if nat_lt place (length (takes_of callee)) then wants.Number else wants.Nothing

-- what is needed of an argument that begins at this token
abbrev pub need_of : Wanted → At → Need
need_of wants.Number first = needs.Number
need_of (wants.View view) first = needs.View view first
need_of wants.Nothing first = needs.Nothing

abbrev pub kind_of : Decl → Kind
kind_of decl = if decl.pointer then kinds.View else (if not (is_array decl) then kinds.Scalar else (if is_none decl.cols then kinds.Array else kinds.Table))

-- the names once one more is declared
abbrev pub declaring : Names → List ℕ → ℕ → Meaning → Names
declaring names name depth what = record names { known = (name, record { depth = depth; what = what }) ∷ names.known }
