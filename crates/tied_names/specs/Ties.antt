-- What the names are tied to at a place of a source. Where a name is tied to nothing, or to nothing that fits, some
-- object or call stands for it, so that every definition is total; in a source without a fault none does.
use Rattle.std.specs.Prelude.{ℕ, ◌+◌, Bool, false, not, ◌&&◌, ◌||◌, ◌==◌, if◌then◌else◌, nat_lt, List, ◌∷◌, length, slice_get, Option, Some, None, is_some}
use Rattle.sat_base.specs.declared.width.Width.TheVariants.{W32}
use Rattle.c_scopes.specs.declared.scopes.Declared.{Declared}
use Rattle.c_scopes.specs.Scopes.{Known, meaning_of}
use Rattle.c_tree.specs.declared.function.Function.{Function}
use Rattle.c_tree.specs.declared.function.Param.{Param}
use Rattle.c_tree.specs.declared.program.Item.{Item}
use Rattle.c_tree.specs.declared.program.Item.TheVariants as items
use Rattle.c_typed.specs.declared.call.Callee.{Callee}
use Rattle.c_typed.specs.declared.call.Callee.TheVariants as callees
use Rattle.operator_meaning.specs.declared.object.Object.{Object}
use Rattle.operator_meaning.specs.declared.site.SiteKind.{SiteKind}
use Rattle.operator_meaning.specs.declared.site.SiteKind.TheVariants as kinds
use Rattle.operator_meaning.specs.Table.{width_at}
use Rattle.predefined_calls.specs.Calls.{callee_of, takes_of}
use Rattle.tied_names.specs.declared.tie.Asked.{Asked}
use Rattle.tied_names.specs.declared.tie.Asked.TheVariants as asks
use Rattle.tied_names.specs.declared.tie.Tie.{Tie}
use Rattle.tied_names.specs.declared.tie.Tie.TheVariants as ties
use Rattle.tied_names.specs.declared.tie.TiedObject.{TiedObject}
use Rattle.tied_names.specs.declared.ties.Ties.{Ties}

-- the items of the source, the tokens of its sites in order, the numbers of its exposed objects, what is in scope,
-- newest first, and the objects that are declared before
pub record Here : Type 0 where
  pub items : List Item
  pub tokens : List ℕ
  pub exposed : List ℕ
  pub known : List (Known Tie)
  pub objects : List Object

abbrev pub here_of : Ties → Here
here_of ties = record {
  items = ties.items.now;
  tokens = ties.facts.now.tokens;
  exposed = ties.facts.now.exposed.keys;
  known = ties.names;
  objects = ties.objects;
}

abbrev pub tied_or : Option (Declared Tie) → Option Callee → Option Tie
tied_or (Some declared) callee = Some declared.what
tied_or None None = None
tied_or None (Some callee) = Some (ties.Predefined callee)

-- what a name is tied to: the newest that is declared under it, or else a call that is in scope everywhere
abbrev pub tie_of : Here → List ℕ → Option Tie
tie_of here name = tied_or (meaning_of here.known name) (callee_of name)

abbrev pub no_object : TiedObject
no_object = record { number = 0; width = W32; rows = 0; columns = 0; view = false }

abbrev pub object_by : Option Tie → TiedObject
object_by None = no_object
object_by (Some (ties.Object object)) = object
object_by (Some (ties.Function number item)) = no_object
object_by (Some (ties.Predefined callee)) = no_object

abbrev pub is_scalar : TiedObject → Bool
is_scalar object = not object.view && (object.rows == 0)

-- the object that a name is tied to
abbrev pub object_of : Here → List ℕ → TiedObject
object_of here name = object_by (tie_of here name)

abbrev pub callee_by : Option Tie → Callee
callee_by None = callees.Function 0
callee_by (Some (ties.Object object)) = callees.Function 0
callee_by (Some (ties.Function number item)) = callees.Function number
callee_by (Some (ties.Predefined callee)) = callee

-- the site that a call is, if it is one
abbrev pub call_kind : Callee → Option SiteKind
call_kind (callees.Function number) = None
call_kind (callees.Operator op) = Some (kinds.Call op)
call_kind callees.Move16 = None
call_kind callees.Move32 = None
call_kind callees.Logic16 = None
call_kind callees.Logic32 = None
call_kind callees.Test = None
call_kind callees.SampleIn = Some kinds.Sample
call_kind callees.SampleLeft = None
call_kind callees.SampleOut = None

-- An index into an array is checked against the length of its dimension, and that of a view against its object. The
-- last index under `&` may be the length itself.
abbrev pub index_kind : TiedObject → ℕ → Bool → SiteKind
index_kind object length edge =
    if object.view then (if edge then kinds.ViewEdge else kinds.ViewBound) else (if edge then kinds.Bound (length + 1) else kinds.Bound length)

abbrev pub is_view : Param → Bool
is_view param = param.pointer || is_some param.dim

abbrev pub asked_by_parameter : Param → Asked
asked_by_parameter param = if is_view param then asks.View else asks.Number param.width

abbrev pub asked_by_call : Callee → ℕ → Asked
asked_by_call callee place = if nat_lt place (length (takes_of callee)) then asks.Number (width_at (takes_of callee) place) else asks.Number W32

abbrev pub asked_if_any : Option Param → Asked
asked_if_any None = asks.Number W32
asked_if_any (Some param) = asked_by_parameter param

abbrev pub function_in : Option Item → Option Function
function_in None = None
function_in (Some (items.Objects objects)) = None
function_in (Some (items.Function function)) = Some function
function_in (Some (items.ExternFlag at)) = None

-- the function that an item declares
abbrev pub function_at : List Item → ℕ → Option Function
function_at list item = function_in (slice_get list item)

abbrev pub asked_by_function : Option Function → ℕ → Asked
asked_by_function None place = asks.Number W32
asked_by_function (Some function) place = asked_if_any (slice_get function.params place)

-- what the parameter at a place, counted from 0, takes
abbrev pub asked_of : List Item → Option Tie → ℕ → Asked
asked_of list None place = asks.Number W32
asked_of list (Some (ties.Object object)) place = asks.Number W32
asked_of list (Some (ties.Function number item)) place = asked_by_function (function_at list item) place
asked_of list (Some (ties.Predefined callee)) place = asked_by_call callee place

-- once one more name is declared
abbrev pub declaring : Here → List ℕ → Tie → Here
declaring here name what = record here { known = (name, record { depth = 0; what = what }) ∷ here.known }
