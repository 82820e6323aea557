-- The limits: at which token a quantity passes its own.
use Rattle.std.specs.Prelude.{ℕ, ◌-◌, ◌*◌, Bool, true, false, not, ◌&&◌, if◌then◌else◌, nat_lt, nat_le, ℤ, List, [], ◌∷◌, length, Option, Some, None}
use Rattle.std.specs.Ordering.{int_cmp}
use Rattle.std.specs.List.{list_any}
use Rattle.std.specs.BTreeMap.{is_at}
use Rattle.std.specs.BTreeSet.{insert_key}
use Rattle.sat_base.specs.declared.limits.TheConstants.{FUNCTIONS, SCALARS, PARAMETERS, OBJECT_BYTES, CONSTANTS, STATEMENTS, VIEWS}
use Rattle.sat_base.specs.declared.name.At.{At}
use Rattle.sat_base.specs.declared.width.Width.{Width}
use Rattle.sat_base.specs.declared.width.Width.TheVariants.{W16, W32}
use Rattle.c_seen.specs.declared.seen.Kind.{Kind}
use Rattle.c_seen.specs.declared.seen.Kind.TheVariants as kinds
use Rattle.c_seen.specs.declared.seen.Seen.{Seen}
use Rattle.c_seen.specs.declared.seen.Seen.TheVariants as seen
use Rattle.c_seen.specs.declared.seen.SeenFunction.{SeenFunction}
use Rattle.c_seen.specs.declared.seen.SeenObject.{SeenObject}
use Rattle.c_seen.specs.declared.seen.SeenParameter.{SeenParameter}
use Rattle.c_faults.specs.declared.limits.Quantity.{Quantity}
use Rattle.c_faults.specs.declared.limits.Quantity.TheVariants as of

abbrev pub limit_of : Quantity → ℕ
limit_of of.Functions = FUNCTIONS
limit_of of.Scalars = SCALARS
limit_of of.Parameters = PARAMETERS
limit_of of.Data = OBJECT_BYTES
limit_of of.Statements = STATEMENTS
limit_of of.Views = VIEWS

-- the bytes of a number of this width
abbrev pub bytes_of : Width → ℕ
bytes_of W16 = 2
bytes_of W32 = 4

abbrev pub one_if : Bool → ℕ
one_if applies = if applies then 1 else 0

abbrev pub is_scalar : Kind → Bool
is_scalar kinds.Scalar = true
is_scalar kinds.Array = false
is_scalar kinds.Table = false
is_scalar kinds.View = false

abbrev pub is_view : Kind → Bool
is_view kinds.Scalar = false
is_view kinds.Array = false
is_view kinds.Table = false
is_view kinds.View = true

abbrev pub of_object : Quantity → SeenObject → ℕ
of_object of.Functions object = 0
of_object of.Scalars object = one_if (object.is_local && is_scalar object.kind)
of_object of.Parameters object = 0
of_object of.Data object = object.elements * bytes_of object.width
of_object of.Statements object = 0
of_object of.Views object = one_if (object.is_local && is_view object.kind)

abbrev pub of_parameter : Quantity → SeenParameter → ℕ
of_parameter of.Functions param = 0
of_parameter of.Scalars param = one_if (param.is_defined && not param.is_view)
of_parameter of.Parameters param = 1
of_parameter of.Data param = if param.is_defined && (param.has_name && not param.is_view) then bytes_of param.width else 0
of_parameter of.Statements param = 0
of_parameter of.Views param = one_if (param.is_defined && param.is_view)

abbrev pub of_function : Quantity → SeenFunction → ℕ
of_function of.Functions function = one_if function.is_new
of_function _ function = 0

abbrev pub of_statement : Quantity → ℕ
of_statement of.Statements = 1
of_statement _ = 0

-- how much of the quantity this is
abbrev pub amount : Quantity → Seen → ℕ
amount quantity (seen.Object object) = of_object quantity object
amount quantity (seen.Parameter param) = of_parameter quantity param
amount quantity (seen.Function function) = of_function quantity function
amount quantity (seen.Statement at) = of_statement quantity
amount quantity _ = 0

-- at which token
abbrev pub place : Seen → At
place (seen.Place p) = p.at
place (seen.Call call) = call.at
place (seen.NoView at) = at
place (seen.Name at is_taken) = at
place (seen.Object object) = object.at
place (seen.Parameter param) = param.at
place (seen.Function function) = function.at
place (seen.Statement at) = at
place (seen.Constant at value) = at
place (seen.Leave at in_loop) = at
place (seen.Return at has_value gives) = at
place (seen.End at has_main) = at

-- what is counted in each function by itself
abbrev pub is_by_function : Quantity → Bool
is_by_function of.Functions = false
is_by_function of.Scalars = true
is_by_function of.Parameters = true
is_by_function of.Data = false
is_by_function of.Statements = false
is_by_function of.Views = true

abbrev pub is_function : Seen → Bool
is_function (seen.Function function) = true
is_function _ = false

-- how much may still come, before this is counted
abbrev pub left_at : Quantity → ℕ → Seen → ℕ
left_at quantity left s = if is_by_function quantity && is_function s then limit_of quantity else left

abbrev pub left_after : ℕ → ℕ → Option ℕ
left_after left amount = if nat_lt left amount then None else Some (left - amount)

abbrev pub past_or : At → Option ℕ → (ℕ → Option At) → Option At
past_or at None later = Some at
past_or at (Some left) later = later left

-- the first token at which the quantity passes its limit, where so much may still come
abbrev pub first_past : Quantity → ℕ → List Seen → Option At
first_past quantity left [] = None
first_past quantity left (s ∷ rest) =
    past_or (place s) (left_after (left_at quantity left s) (amount quantity s)) (λ still. first_past quantity still rest)

abbrev pub passed : Quantity → List Seen → Option At
passed quantity list = first_past quantity (limit_of quantity) list

-- the relational constant that it is, with its first token
abbrev pub constant_in : Seen → Option (At × ℤ)
constant_in (seen.Constant at value) = Some (at, value)
constant_in _ = None

-- a value that is not among these, where there are as many as the limit
abbrev pub is_one_too_many : List ℤ → ℤ → Bool
is_one_too_many values value = not (list_any (is_at (int_cmp value)) values) && nat_le CONSTANTS (length values)

-- a value is counted once; these are the values counted so far, in their order
abbrev pub count_constant : List ℤ → Option (At × ℤ) → (List ℤ → Option At) → Option At
count_constant values None later = later values
count_constant values (Some c) later = if is_one_too_many values c.1 then Some c.0 else later (insert_key int_cmp values c.1)

-- the first token of the constant that passes the limit, where these values are counted already
abbrev pub first_constant_past : List ℤ → List Seen → Option At
first_constant_past values [] = None
first_constant_past values (s ∷ rest) = count_constant values (constant_in s) (λ more. first_constant_past more rest)

abbrev pub constants_passed : List Seen → Option At
constants_passed list = first_constant_past [] list
