-- The distinct relational constants of a source, in the order in which they first stand.
use Rattle.std.specs.Prelude.{ℤ, Bool, if◌then◌else◌, List, [], ◌∷◌, ◌++◌, Option, Some, None}
use Rattle.std.specs.BTreeSet.{insert_key}
use Rattle.std.specs.List.{list_any}
use Rattle.std.specs.Ordering.{int_cmp, is_eq}
use Rattle.c_seen.specs.declared.seen.Seen.{Seen}
use Rattle.c_seen.specs.declared.seen.Seen.TheVariants as seen

-- the value of a relational constant, if this is one
abbrev pub constant_in : Seen → Option ℤ
constant_in (seen.Constant at value) = Some value
constant_in _ = None

abbrev pub is_among : List ℤ → ℤ → Bool
is_among values value = list_any (λ other. is_eq (int_cmp value other)) values

-- a value stands once: it is new where it is not among those that stand before
abbrev pub new_value : List ℤ → ℤ → List ℤ
new_value before value = if is_among before value then [] else value ∷ []

abbrev pub new_constant : List ℤ → Option ℤ → List ℤ
new_constant before None = []
new_constant before (Some value) = new_value before value

abbrev pub with_constant : List ℤ → Option ℤ → List ℤ
with_constant before None = before
with_constant before (Some value) = insert_key int_cmp before value

-- those that follow, where these values stand before, in the order of numbers
abbrev pub constants_after : List ℤ → List Seen → List ℤ
constants_after before [] = []
constants_after before (one ∷ rest) = new_constant before (constant_in one) ++ constants_after (with_constant before (constant_in one)) rest

abbrev pub constants_of : List Seen → List ℤ
constants_of list = constants_after [] list
