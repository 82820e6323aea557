-- What is promised of the code of assignments and their like.
use Rattle.std.specs.Prelude.{◌≡◌, ℕ, ◌+◌, ◌≤◌, [], length, true, Option}
use Rattle.typed_meaning.specs.Expressions.{Setting, Called}
use Rattle.typed_meaning.specs.Statements.{start_meaning, option_of}
use Rattle.ir_arena.specs.Tree.{IrTree}
use Rattle.tree_meaning.specs.Trees.{node_meaning, argument_meaning}
use Rattle.code_lines.specs.Words.{StandHere, Code}
use Rattle.code_runs.specs.Doing.{Does}
use Rattle.code_stacks.specs.Places.{Layout, IsLaidOut}
use Rattle.code_stacks.specs.Agreement.{With}
use Rattle.expression_code.specs.Laws.{AreScalars}
use Rattle.simple_code.specs.Code.{simple_code, is_simple, weight_of_simple, height_of_simple}
use Rattle.simple_code.specs.Starts.{start_code, IsStart, weight_of_start}

-- From its first word, with nothing on the stack, the code does what the part does. After it nothing is on the stack, and
-- the count lags behind by the weight of the part.
abbrev pub SimplesAreDone : Type 0
SimplesAreDone = (code : Code) (turns : ℕ) (l : Layout) (here : Setting) (called : Called) (part : IrTree) (k lag : ℕ)
    → IsLaidOut code l → AreScalars here.objects l → is_simple l part ≡ true → height_of_simple part ≤ l.depth → StandHere code k (simple_code here.objects l part)
    → Does code turns (With here.objects l k lag []) (node_meaning here called part).change
    (λ done. With here.objects l (k + length (simple_code here.objects l part)) (lag + weight_of_simple part) [])

-- The same of the code by which an object of a block starts.
abbrev pub StartsAreDone : Type 0
StartsAreDone = (code : Code) (turns : ℕ) (l : Layout) (here : Setting) (called : Called) (object : ℕ) (start : Option IrTree) (k lag : ℕ)
    → IsLaidOut code l → AreScalars here.objects l → IsStart here.objects l object start → StandHere code k (start_code here.objects l object start)
    → Does code turns (With here.objects l k lag []) (start_meaning here object (option_of (argument_meaning here called) start))
    (λ done. With here.objects l (k + length (start_code here.objects l object start)) (lag + weight_of_start start) [])
