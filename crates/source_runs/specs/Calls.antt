-- The calls that every source has: operators, counting calls and samples.
use Rattle.std.specs.Prelude.{ℕ, ℤ, pos, List, [], ◌∷◌, map, drop, slice_get, Option, Some, None}
use Rattle.std.specs.List.{range_with_len}
use Rattle.sat_base.specs.declared.width.Width.{Width}
use Rattle.operator_meaning.specs.declared.operator.Op.{Op}
use Rattle.operator_meaning.specs.Table.{row_of, arity_of, width_at}
use Rattle.operator_meaning.specs.Value.{value_of}
use Rattle.operator_meaning.specs.Clipping.{raises_of}
use Rattle.weight_table.specs.declared.counted.Counted.{Counted}
use Rattle.weight_table.specs.declared.counted.Counted.TheVariants.{Call}
use Rattle.weight_table.specs.declared.table.Table.{Table}
use Rattle.weight_table.specs.declared.table.Table.TheVariants.{One}
use Rattle.weight_table.specs.Weight.{weight_of}
use Rattle.source_runs.specs.declared.location.Given.{Given}
use Rattle.source_runs.specs.declared.location.Given.TheVariants.{Number, View}
use Rattle.source_runs.specs.State.{Kept, converted, counted, raised, put}
use Rattle.source_runs.specs.Runs.{Run, gives, ◌>>=◌, ◌>>◌, reading, changing, at_site, found}

-- the table of weights of a number; the first stands for every number that has none
abbrev pub table_numbered : ℕ → Table
table_numbered number = One

-- the number that an argument gives; 0 for a view, which no operator takes
abbrev pub number_given : Option Given → ℤ
number_given (Some (Number value)) = value
number_given (Some (View at)) = pos 0
number_given None = pos 0

-- the number that the first argument gives
abbrev pub first_number : List Given → ℤ
first_number givens = number_given (slice_get givens 0)

-- an operand of an operator: the argument at its place, converted to its width
abbrev pub operand_at : List Width → ℕ → List Given → ℤ
operand_at widths place givens = converted (width_at widths place) (number_given (slice_get givens place))

-- all its operands
abbrev pub operands_of : Op → List Given → List ℤ
operands_of op givens = map (λ place. operand_at (row_of op).takes place givens) (range_with_len 0 (arity_of op))

-- after its value an operator adds its weight, and sets Overflow where it raises
abbrev pub after_operator : Table → Op → List ℤ → Kept → Kept
after_operator table op args kept = raised (raises_of op args) (counted (weight_of table (Call op)) kept)

-- an operator on its operands stops where it has no value
unfoldable pub operated : Table → ℕ → Op → List ℤ → Run ℤ
operated table site op args = at_site site (value_of op args) >>= (λ value. changing (after_operator table op args) >> gives value)

unfoldable pub operator_call : Table → ℕ → Op → List Given → Run ℤ
operator_call table site op givens = operated table site op (operands_of op givens)

-- a counting call adds its weight, and has no other effect
unfoldable pub counting : Table → Counted → Run (Unit {0})
counting table what = changing (counted (weight_of table what))

abbrev first_of : List ℤ → Option ℤ
first_of [] = None
first_of (x ∷ xs) = Some x

abbrev pub next_sample : Kept → Option ℤ
next_sample kept = first_of kept.left

abbrev pub after_sample : Kept → Kept
after_sample kept = record kept { left = drop 1 kept.left }

-- the next sample is taken; with none left, an input stop
unfoldable pub sample_in : ℕ → Run ℤ
sample_in site = found site next_sample >>= (λ x. changing after_sample >> gives x)

abbrev pub one_where_some : List ℤ → ℤ
one_where_some [] = pos 0
one_where_some (x ∷ xs) = pos 1

-- 1 where at least one sample is left
unfoldable pub sample_left : Run ℤ
sample_left = reading (λ kept. one_where_some kept.left)

unfoldable pub sample_out : ℤ → Run (Unit {0})
sample_out value = changing (put value)
