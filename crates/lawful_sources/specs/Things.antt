-- The things that stand in the bodies of a source, each with what its place asks for.
use Rattle.std.specs.Prelude.{ℕ, ℤ, Bool, if◌then◌else◌, nat_lt, length, slice_get, Option, Some, None}
use Rattle.sat_base.specs.declared.name.At.{At}
use Rattle.sat_base.specs.declared.width.Width.{Width}
use Rattle.operator_meaning.specs.declared.object.Object.{Object}
use Rattle.operator_meaning.specs.declared.site.SiteKind.{SiteKind}
use Rattle.operator_meaning.specs.Table.{width_at}
use Rattle.c_typed.specs.declared.call.Callee.{Callee}
use Rattle.c_typed.specs.declared.call.Callee.TheVariants.{Function}
use Rattle.c_typed.specs.declared.typed.Typed.{Typed}
use Rattle.c_typed.specs.declared.typed.TypedFunction.{TypedFunction}
use Rattle.predefined_calls.specs.Calls.{takes_of}

-- the marks of a place, beside its object: none, one index, two indices, or `*`
pub data Marks : Type 0 where
  Bare : Marks
  Once : Marks
  Twice : Marks
  Star : Marks

-- what a parameter takes, and what an object takes that starts with one value: a number, or a view of such elements
pub data Taken : Type 0 where
  Number : Width → Taken
  View : (width : Width) (is_const : Bool) → Taken

-- what is done with a place: it is read, it is written, or a view of it is given
pub data Use : Type 0 where
  Read : Use
  Written : Use
  Given : Option Taken → Use

pub data Thing : Type 0 where
  -- an object of this number
  Place : (object : ℕ) → Marks → Use → Thing
  -- a call with so many arguments, whose value may be needed
  Call : Callee → (arguments : ℕ) → (is_needed : Bool) → Thing
  -- an argument, or the one value of an object: whether it is a view, and what is taken
  Argument : (is_view : Bool) → Option Taken → Thing
  -- a mark with the site that it has, and what it computes or checks, if it is a site
  Mark : At → (site : Option ℕ) → (kind : Option SiteKind) → Thing
  -- an expression: the implied conversion that it is, and the one that has to stand there
  Conversion : (is : Option Width) → (due : Option Width) → Thing
  -- an object of a block, with its one value, if it has one, and the value of that, if it is a constant expression
  Begins : (object : ℕ) → (value : Option (Option ℤ)) → Thing
  Constant : ℤ → Thing
  Statement : Thing
  Leave : (in_loop : Bool) → Thing
  Return : (has_value : Bool) → (gives : Bool) → Thing

-- ---- what parameters and objects take

abbrev pub taken_by : Object → Taken
taken_by object = if object.view then View object.width object.is_const else Number object.width

abbrev pub parameter_object : Typed → Option ℕ → Option Object
parameter_object source None = None
parameter_object source (Some number) = slice_get source.objects number

abbrev pub taken_by_object : Option Object → Option Taken
taken_by_object None = None
taken_by_object (Some object) = Some (taken_by object)

abbrev pub taken_by_parameter : Typed → Option TypedFunction → ℕ → Option Taken
taken_by_parameter source None place = None
taken_by_parameter source (Some function) place = taken_by_object (parameter_object source (slice_get function.params place))

abbrev pub taken_by_predefined : Callee → ℕ → Option Taken
taken_by_predefined callee place = if nat_lt place (length (takes_of callee)) then Some (Number (width_at (takes_of callee) place)) else None

-- what the parameter at a place, counted from 0, takes
abbrev pub taken_at : Typed → Callee → ℕ → Option Taken
taken_at source (Function number) place = taken_by_parameter source (slice_get source.functions number) place
taken_at source callee place = taken_by_predefined callee place

-- the implied conversion of what is given
abbrev pub due_of : Option Taken → Option Width
due_of None = None
due_of (Some (Number width)) = Some width
due_of (Some (View width is_const)) = None
