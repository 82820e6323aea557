-- What is promised of the code of an expression.
use Rattle.std.specs.Prelude.{◌≡◌, ℕ, ◌+◌, ◌≤◌, ℤ, List, [], ◌∷◌, ◌++◌, length, true, false, FitsSigned}
use Rattle.std.specs.Int.{w16}
use Rattle.operator_meaning.specs.declared.object.Object.{Object}
use Rattle.source_runs.specs.Shapes.{shape_of}
use Rattle.typed_meaning.specs.Expressions.{Setting, Called}
use Rattle.ir_arena.specs.Tree.{IrTree}
use Rattle.tree_meaning.specs.Trees.{value_meaning}
use Rattle.code_lines.specs.Words.{StandHere, Code}
use Rattle.code_runs.specs.Doing.{Bond, Does}
use Rattle.code_stacks.specs.Places.{Layout, IsLaidOut}
use Rattle.code_stacks.specs.Agreement.{IsWith, With}
use Rattle.expression_code.specs.Code.{fits_sixteen, expression_code, weight_of}
use Rattle.expression_code.specs.Straight.{is_straight, height_of}

-- the variables are scalars
abbrev pub AreScalars : List Object → Layout → Type 0
AreScalars objects l = (n : ℕ) → l.is_variable n ≡ true → (shape_of objects n).view ≡ false

-- the value of an expression is on the stack; it has 16 bits where the form of the expression shows that
abbrev pub Valued : List Object → Layout → (place lag : ℕ) → List ℤ → IrTree → ℤ → Bond
Valued objects l place lag values e x s m = IsWith objects l place lag (values ++ x ∷ []) s m × (fits_sixteen objects e ≡ true → FitsSigned w16 x)

-- From its first word, with any values on the stack, the code does what the expression does. After it the value is on top,
-- and the count lags behind by the weight of the expression.
abbrev pub ExpressionsAreDone : Type 0
ExpressionsAreDone = (code : Code) (turns : ℕ) (l : Layout) (here : Setting) (called : Called) (e : IrTree) (k lag : ℕ) (values : List ℤ)
    → IsLaidOut code l → AreScalars here.objects l → is_straight l e ≡ true → length values + height_of e ≤ l.depth → StandHere code k (expression_code here.objects l e (length values))
    → Does code turns (With here.objects l k lag values) (value_meaning here called e)
    (Valued here.objects l (k + length (expression_code here.objects l e (length values))) (lag + weight_of e) values e)
