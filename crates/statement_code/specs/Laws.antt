-- What is promised of the code of statements.
use Rattle.std.specs.Prelude.{◌≡◌, ℕ, ◌+◌, ◌^◌, ◌<◌, ◌≤◌, ℤ, pos, ◌+ℤ◌, Bool, true, false, List, [], ◌∷◌, length}
use Rattle.operator_meaning.specs.declared.object.Object.{Object}
use Rattle.source_runs.specs.declared.halt.Flow.{Flow}
use Rattle.typed_meaning.specs.Expressions.{Setting, Called}
use Rattle.ir_arena.specs.Tree.{IrTree, IrTrees, Empty, Block, If, Loop, Leave, Return, end, more}
use Rattle.tree_meaning.specs.Trees.{statement_meaning}
use Rattle.code_lines.specs.Words.{StandHere, Code}
use Rattle.code_runs.specs.Doing.{Bond, Does, exits}
use Rattle.code_stacks.specs.Places.{Layout, IsLaidOut}
use Rattle.code_stacks.specs.Agreement.{With}
use Rattle.expression_code.specs.Code.{weight_of}
use Rattle.expression_code.specs.Laws.{AreScalars}
use Rattle.expression_code.specs.Straight.{is_straight, height_of}
use Rattle.simple_code.specs.Code.{is_simple, weight_of_simple, height_of_simple}
use Rattle.condition_code.specs.Laws.{height_of_condition, is_condition, weight_of_condition}
use Rattle.statement_code.specs.Blocks.{AreOpenings, openings_of, weight_of_openings}
use Rattle.statement_code.specs.declared.exits.Exits.{Exits}
use Rattle.statement_code.specs.Code.{part_of, statement_code, weight_of_all}

-- ---- where statements lead

-- the words to which `continue`, `break` and `return` lead
pub record Targets : Type 0 where
  pub again : ℕ
  pub left : ℕ
  pub returned : ℕ

-- they lie so far from a place as it is said
pub record AreReached (place : ℕ) (ways : Exits) (targets : Targets) : Type 0 where
  pub again : pos targets.again ≡ pos place +ℤ ways.again
  pub left : pos targets.left ≡ pos place +ℤ ways.left
  pub returned : pos targets.returned ≡ pos place +ℤ ways.returned
  pub again_near : targets.again ≤ 16777216
  pub left_near : targets.left ≤ 16777216
  pub returned_near : targets.returned ≤ 16777216

-- a function that has a result leaves it on the stack
abbrev pub result_of : (has_result : Bool) → ℤ → List ℤ
result_of true value = value ∷ []
result_of false value = []

-- What holds where a statement leads: its own end, where the count lags behind by a weight, or one of the three words.
abbrev pub Led : List Object → Layout → (has_result : Bool) → Targets → (place late : ℕ) → Flow → Bond
Led objects l has_result targets place late =
    exits (With objects l place late []) (With objects l targets.again 0 []) (With objects l targets.left 0 []) (λ value. With objects l targets.returned 0 (result_of has_result value))

-- ---- statements that have such code

abbrev pub IsTest : Layout → IrTree → Type 0
IsTest l cond = (is_condition l cond ≡ true) × (height_of_condition cond ≤ l.depth)

-- a loop has one test, or none
abbrev pub AreTests : Layout → IrTrees → Type 0
AreTests l end = Unit {0}
AreTests l (more cond rest) = IsTest l cond

abbrev pub IsSimple : Layout → IrTree → Type 0
IsSimple l part = (is_simple l part ≡ true) × (height_of_simple part ≤ l.depth)

abbrev pub AreSimple : Layout → IrTrees → Type 0
AreSimple l end = Unit {0}
AreSimple l (more first rest) = IsSimple l first × AreSimple l rest

abbrev pub IsReturned : Layout → (has_result : Bool) → IrTrees → Type 0
IsReturned l has_result end = has_result ≡ false
IsReturned l has_result (more value rest) = (has_result ≡ true) × ((is_straight l value ≡ true) × (height_of value ≤ l.depth))

abbrev mutual
  pub IsStatement : List Object → Layout → (has_result : Bool) → IrTree → Type 0
  IsStatement objects l has_result Empty = Unit {0}
  IsStatement objects l has_result (Block first count starts parts) = AreOpenings objects l (openings_of count first starts) × AreStatements objects l has_result parts
  IsStatement objects l has_result (If cond this other) = IsTest l cond × (IsStatement objects l has_result this × AreStatements objects l has_result other)
  IsStatement objects l has_result (Loop cut tests_first first cond last body) = AreSimple l first × (AreTests l cond × (AreSimple l last × IsStatement objects l has_result body))
  IsStatement objects l has_result (Leave again) = Unit {0}
  IsStatement objects l has_result (Return value) = IsReturned l has_result value
  IsStatement objects l has_result simple = IsSimple l simple

  pub AreStatements : List Object → Layout → (has_result : Bool) → IrTrees → Type 0
  AreStatements objects l has_result end = Unit {0}
  AreStatements objects l has_result (more first rest) = IsStatement objects l has_result first × AreStatements objects l has_result rest

-- ---- all that they may weigh, each turn by itself

abbrev pub weight_of_tests : IrTrees → ℕ
weight_of_tests end = 0
weight_of_tests (more cond rest) = weight_of_condition cond

abbrev pub weight_of_returned : IrTrees → ℕ
weight_of_returned end = 0
weight_of_returned (more value rest) = weight_of value

abbrev mutual
  pub weight_of_statement : IrTree → ℕ
  weight_of_statement Empty = 0
  weight_of_statement (Block first count starts parts) = weight_of_openings (openings_of count first starts) + weight_of_statements parts
  weight_of_statement (If cond this other) = weight_of_condition cond + weight_of_statement this + weight_of_statements other
  weight_of_statement (Loop cut tests_first first cond last body) = weight_of_all first + weight_of_tests cond + weight_of_all last + weight_of_statement body
  weight_of_statement (Leave again) = 0
  weight_of_statement (Return value) = weight_of_returned value
  weight_of_statement simple = weight_of_simple simple

  pub weight_of_statements : IrTrees → ℕ
  weight_of_statements end = 0
  weight_of_statements (more first rest) = weight_of_statement first + weight_of_statements rest

-- ---- what they do

-- From its first word, with nothing on the stack, the code does what the statement does, and leads where that leads.
abbrev pub StatementsAreDone : Type 0
StatementsAreDone = (code : Code) (l : Layout) (here : Setting) (called : Called) (near has_result : Bool) (tree : IrTree) (k lag : ℕ) (ways : Exits) (targets : Targets)
    → IsLaidOut code l → AreScalars here.objects l → IsStatement here.objects l has_result tree → lag + weight_of_statement tree < 2 ^ 31
    → StandHere code k (statement_code here.objects l near tree lag ways) → AreReached (k + length (statement_code here.objects l near tree lag ways)) ways targets
    → Does code here.turns (With here.objects l k lag []) (statement_meaning here called tree)
    (Led here.objects l has_result targets (k + length (statement_code here.objects l near tree lag ways)) ((part_of here.objects l near tree).after lag))
