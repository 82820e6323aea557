-- What a source of the first form does, in the terms of the source alone. In a pattern `boxed e` is a box with
-- e in it.
use Rattle.std.specs.Prelude.{ℕ, ◌+◌, ℤ, pos, List, [], ◌∷◌, ◌++◌, Bool, if◌then◌else◌}
use Rattle.std.specs.Option.{unwrap_or}
use Rattle.sat_base.specs.Clip.{low16}
use Rattle.sat_base.specs.Observation.{Observation, End}
use Rattle.operator_meaning.specs.Clipping.{raises_of}
use Rattle.operator_meaning.specs.Value as operators
use Rattle.operator_meaning.specs.declared.operator.Op.{Op}
use Rattle.operator_meaning.specs.declared.operator.Op.TheVariants.{Add, Sub}
use Rattle.weight_table.specs.Weight.{first_weight}
use Rattle.weight_table.specs.declared.counted.Counted.TheVariants.{Call}
use Rattle.first_form.specs.declared.first.First.{First}
use Rattle.first_form.specs.declared.first.FirstExpr.{FirstExpr, Int, Add', Sub', more_of-FirstExpr as boxed}

-- ---- operators of two numbers (ITU-T G.191, basic operators)

-- the value of an operator; each of them has one on every two numbers
abbrev pub operated : Op → ℤ → ℤ → ℤ
operated op a b = unwrap_or (operators.value_of op (a ∷ b ∷ [])) (pos 0)

-- ---- runs

-- a run so far: Overflow, the weighted count, and what was written
pub record SourceState : Type 0 where
  pub overflow : ℤ
  pub count : ℕ
  pub output : List ℤ

-- before `main`
abbrev pub first_state : SourceState
first_state = record { overflow = pos 0; count = 0; output = [] }

-- the value of an expression
abbrev pub value_of : FirstExpr → ℤ
value_of (Int n) = n
value_of (Add' tok at _ (boxed left _) _ (boxed right _)) = operated Add (value_of left) (value_of right)
value_of (Sub' tok at _ (boxed left _) _ (boxed right _)) = operated Sub (value_of left) (value_of right)

-- the state after an operator: it adds its weight, and sets Overflow where it raises
abbrev pub after_operator : Bool → ℕ → SourceState → SourceState
after_operator raises weight s = record s { overflow = if raises then pos 1 else s.overflow; count = s.count + weight }

-- the state after an expression: the left operand is evaluated first, then the right one, then the operator
abbrev pub after_expression : FirstExpr → SourceState → SourceState
after_expression (Int n) s = s
after_expression (Add' tok at _ (boxed left _) _ (boxed right _)) s =
    after_operator (raises_of Add (value_of left ∷ value_of right ∷ [])) (first_weight (Call Add)) (after_expression right (after_expression left s))
after_expression (Sub' tok at _ (boxed left _) _ (boxed right _)) s =
    after_operator (raises_of Sub (value_of left ∷ value_of right ∷ [])) (first_weight (Call Sub)) (after_expression right (after_expression left s))

-- the state after `sample_out` of an expression: the low 16 bits of its value are written
abbrev pub after_out : FirstExpr → SourceState → SourceState
after_out e s = let t = after_expression e s in record t { output = t.output ++ low16 (value_of e) ∷ [] }

-- the state after all of them
abbrev pub after_outs : List FirstExpr → SourceState → SourceState
after_outs [] s = s
after_outs (e ∷ es) s = after_outs es (after_out e s)

-- What is observed of the run on an input, where each loop makes at most n turns. No source of the first
-- form reads a sample, stops or loops, and its count stays below 2^64.
abbrev pub observed : First → List ℤ → ℕ → Observation
observed first input n = let s = after_outs first.outs first_state in End s.output s.overflow s.count
