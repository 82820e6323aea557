-- What a node does in each of the roles in which it can stand: as an operand, as an argument, as an index that
-- is checked, as a part of a `for` or the start of an object, and as a statement.
use Rattle.std.specs.Prelude.{ℕ, zero, suc, ◌+◌, ◌==◌, ℤ, pos, if◌then◌else◌, Bool, List, [], ◌∷◌, map, Option, Some, None, slice_get}
use Rattle.std.specs.Option.{unwrap_or}
use Rattle.operator_meaning.specs.declared.operator.Op.{Op}
use Rattle.operator_meaning.specs.declared.site.SiteKind.{SiteKind}
use Rattle.operator_meaning.specs.declared.site.SiteKind.TheVariants as kind
use Rattle.operator_meaning.specs.Value.{value_of}
use Rattle.operator_meaning.specs.Clipping.{raises_of}
use Rattle.c_tree.specs.declared.expression.BinaryMark.TheVariants as binary
use Rattle.c_tree.specs.declared.expression.UnaryMark.TheVariants as unary
use Rattle.source_runs.specs.declared.halt.Flow.{Flow}
use Rattle.source_runs.specs.declared.halt.Flow.TheVariants.{Normal}
use Rattle.source_runs.specs.declared.location.Access.{Access}
use Rattle.source_runs.specs.declared.location.Given.{Given}
use Rattle.source_runs.specs.declared.location.Given.TheVariants.{Number, View}
use Rattle.source_runs.specs.declared.location.Location.{Location}
use Rattle.source_runs.specs.Shapes.{shape_of}
use Rattle.source_runs.specs.State.{counted, raised}
use Rattle.source_runs.specs.Runs.{Run, gives, ◌>>=◌, ◌>>◌, reading, changing, at_site, found, gathered}
use Rattle.source_runs.specs.Loops.{turns_of, looping}
use Rattle.source_runs.specs.Marks.{unary_meaning, binary_meaning}
use Rattle.source_runs.specs.Steps.{named, pointed}
use Rattle.source_runs.specs.Calls.{operands_of, sample_in}
use Rattle.typed_meaning.specs.Expressions.{Setting, index_meaning, indices_meaning}
use Rattle.typed_meaning.specs.Statements.{start_meaning}

pub record NodeMeaning : Type 0 where
  -- the number that it gives
  pub value : Run ℤ
  -- what it gives to a parameter
  pub argument : Run Given
  -- of a check its site, and the index that is checked, where it has one
  pub site : ℕ
  pub index : Option (Run ℤ)
  -- what it does beside other such parts
  pub change : Run (Unit {0})
  -- the object that it starts
  pub object : ℕ
  -- what it does as a statement
  pub flow : Run Flow

-- ---- what has one role by nature, in the others

-- a value that is not used
abbrev pub value_unused : {A : Type 0} → Run A → Run (Unit {0})
value_unused run = run >> gives tt

abbrev pub of_value : Run ℤ → NodeMeaning
of_value run =
    record { value = run; argument = run >>= (λ x. gives (Number x)); site = 0; index = None; change = value_unused run; object = 0; flow = value_unused run >> gives Normal }

abbrev pub of_change : Run (Unit {0}) → NodeMeaning
of_change run =
    record { value = run >> gives (pos 0); argument = run >> gives (Number (pos 0)); site = 0; index = None; change = run; object = 0; flow = run >> gives Normal }

abbrev pub of_flow : Run Flow → NodeMeaning
of_flow run =
    record { value = run >> gives (pos 0); argument = run >> gives (Number (pos 0)); site = 0; index = None; change = value_unused run; object = 0; flow = run }

abbrev pub of_view : Run Location → NodeMeaning
of_view run = record (of_value (run >> gives (pos 0))) { argument = run >>= (λ to. gives (View to)) }

abbrev pub of_start : ℕ → Run Given → NodeMeaning
of_start object run = record (of_value (run >> gives (pos 0))) { object = object; argument = run }

-- ---- sites

-- an operator on its operands stops where it has no value, and else adds the weight that its node carries
unfoldable pub operated_with : ℕ → ℕ → Op → List ℤ → Run ℤ
operated_with weight site op args = at_site site (value_of op args) >>= (λ value. changing (λ kept. raised (raises_of op args) (counted weight kept)) >> gives value)

-- What an operator does on its operands, with the weight and the site of its node, and what a read of Overflow does. A
-- run acts plainly; what removing clips and flags rests on is said by runs that act otherwise (Safe.antt).
pub record Acts : Type 0 where
  pub operator : (weight site : ℕ) → Op → List ℤ → Run ℤ
  pub flag : Run ℤ

abbrev pub plain_acts : Acts
plain_acts = record { operator = operated_with; flag = reading (λ kept. kept.overflow) }

abbrev pub operand_value : List NodeMeaning → ℕ → Run ℤ
operand_value operands place = unwrap_or (slice_get (map (λ (part : NodeMeaning). part.value) operands) place) (gives (pos 0))

-- an index gives no number by itself
unfoldable pub operate_meaning : Acts → ℕ → SiteKind → List NodeMeaning → ℕ → Run ℤ
operate_meaning acts site (kind.Call op) operands weight =
    gathered [] (map (λ (part : NodeMeaning). part.argument) operands) >>= (λ givens. acts.operator weight site op (operands_of op givens))
operate_meaning acts site kind.Sum operands weight = binary_meaning binary.Plus site (operand_value operands 0) (operand_value operands 1)
operate_meaning acts site kind.Difference operands weight = binary_meaning binary.Minus site (operand_value operands 0) (operand_value operands 1)
operate_meaning acts site kind.Product operands weight = binary_meaning binary.Times site (operand_value operands 0) (operand_value operands 1)
operate_meaning acts site kind.Opposite operands weight = operand_value operands 0 >>= unary_meaning unary.Minus site
operate_meaning acts site (kind.Bound number) operands weight = gives (pos 0)
operate_meaning acts site kind.ViewBound operands weight = gives (pos 0)
operate_meaning acts site kind.ViewEdge operands weight = gives (pos 0)
operate_meaning acts site kind.Sample operands weight = sample_in site

abbrev pub of_site : Acts → ℕ → SiteKind → List NodeMeaning → ℕ → NodeMeaning
of_site acts site kind operands weight =
    record (of_value (operate_meaning acts site kind operands weight)) { site = site; index = slice_get (map (λ (part : NodeMeaning). part.value) operands) 0 }

-- ---- places

abbrev pub index_or_zero : NodeMeaning → Run ℤ
index_or_zero check = unwrap_or check.index (gives (pos 0))

abbrev pub checked_index : Setting → ℕ → ℕ → Option (Run ℤ) → Access → Run Location
checked_index here object site None access = found site (pointed (shape_of here.objects object))
checked_index here object site (Some index) access = index_meaning here object site index access

-- an object by itself, at one index, or at two
abbrev pub location_meaning : Setting → ℕ → List NodeMeaning → Access → Run Location
location_meaning here object [] access = reading (named (shape_of here.objects object))
location_meaning here object (check ∷ []) access = checked_index here object check.site check.index access
location_meaning here object (first ∷ second ∷ more) access =
    indices_meaning here object first.site (index_or_zero first) second.site (index_or_zero second) access

-- ---- blocks and loops

-- Objects with these many numbers from the first on start one after the other. One that has a part of its own
-- starts with it; the parts stand in the order of the objects.
abbrev pub openings : Setting → ℕ → ℕ → List NodeMeaning → List (Run (Unit {0}))
openings here zero object starts = []
openings here (suc objects) object [] = start_meaning here object None ∷ openings here objects (object + 1) []
openings here (suc objects) object (start ∷ starts) =
    if start.object == object
    then start_meaning here object (Some start.argument) ∷ openings here objects (object + 1) starts
    else start_meaning here object None ∷ openings here objects (object + 1) (start ∷ starts)

-- a `do` does not test before its first turn
abbrev pub loop_meaning : Bool → ℕ → Run ℤ → Run (Unit {0}) → Run Flow → Run Flow
loop_meaning tests_first turns condition last body =
    if tests_first then looping turns condition last body else turns_of turns condition last body
