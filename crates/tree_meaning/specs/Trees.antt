-- What a tree does, by cases on its nodes.
use Rattle.std.specs.Prelude.{ℤ, pos, if◌then◌else◌, List, [], ◌∷◌, map, slice_get}
use Rattle.std.specs.Option.{unwrap_or}
use Rattle.source_runs.specs.declared.halt.Flow.{Flow}
use Rattle.source_runs.specs.declared.halt.Flow.TheVariants.{Normal, Break, Continue}
use Rattle.source_runs.specs.declared.location.Access.{Access}
use Rattle.source_runs.specs.declared.location.Access.TheVariants as access
use Rattle.source_runs.specs.declared.location.Given.{Given}
use Rattle.source_runs.specs.declared.location.Location.{Location}
use Rattle.source_runs.specs.State.{converted, counted, number_at, with_overflow}
use Rattle.source_runs.specs.Runs.{Run, gives, ◌>>=◌, ◌>>◌, reading, changing, choosing, gathered, all_of}
use Rattle.source_runs.specs.Loops.{in_sequence}
use Rattle.source_runs.specs.Marks.{unary_meaning, binary_meaning}
use Rattle.source_runs.specs.Calls.{sample_left, sample_out}
use Rattle.c_tree.specs.declared.expression.UnaryMark.TheVariants as unary
use Rattle.typed_meaning.specs.Expressions.{Setting, Called, site_at}
use Rattle.typed_meaning.specs.Statements.{assignment_meaning, step_mark, return_meaning, condition_or_one}
use Rattle.ir_arena.specs.Tree.{IrTree, IrTarget, IrTrees, Constant, Read, Address, Operate, Convert, Not, Invert, Binary, Choose, Call, ReadFlag, Left, Write, Step, WriteFlag, Out, AddCount, Start, Empty, Block, If, Loop, Leave, Return, Variable, Element, ThroughView, end, more}
use Rattle.tree_meaning.specs.Parts.{Acts, plain_acts, NodeMeaning, of_value, of_change, of_flow, of_view, of_start, of_site, location_meaning, openings, loop_meaning}

module _ (acts : Acts) (here : Setting) (called : Called) where
  abbrev mutual
    pub meaning_with : IrTree → NodeMeaning
    meaning_with (Constant value) = of_value (gives value)
    meaning_with (Read target) = of_value (target_with target access.Element >>= (λ at. reading (number_at at)))
    meaning_with (Address target) = of_view (target_with target access.Address)
    meaning_with (Operate site kind operands weight) = of_site acts site kind (meanings_with operands) weight
    meaning_with (Convert cast width part) = of_value ((meaning_with part).value >>= (λ x. gives (converted width x)))
    meaning_with (Not part) = of_value ((meaning_with part).value >>= unary_meaning unary.Not 0)
    meaning_with (Invert part) = of_value ((meaning_with part).value >>= unary_meaning unary.Invert 0)
    meaning_with (Binary mark left right) = of_value (binary_meaning mark 0 (meaning_with left).value (meaning_with right).value)
    meaning_with (Choose cond this other) = of_value (choosing (meaning_with cond).value (meaning_with this).value (meaning_with other).value)
    meaning_with (Call function args) = of_value (gathered [] (map (λ (part : NodeMeaning). part.argument) (meanings_with args)) >>= called function)
    meaning_with (ReadFlag word) = of_value acts.flag
    meaning_with Left = of_value sample_left
    meaning_with (Write target mark width site value) = of_change (assignment_meaning here (target_with target access.Element) mark (site_at site) (meaning_with value).value)
    meaning_with (Step target up width site) = of_change (assignment_meaning here (target_with target access.Element) (step_mark up) site (gives (pos 1)))
    meaning_with (WriteFlag value) = of_change ((meaning_with value).value >>= (λ x. changing (with_overflow x)))
    meaning_with (Out value) = of_value ((meaning_with value).value >>= (λ x. sample_out x >> gives (pos 0)))
    meaning_with (AddCount weight) = of_value (changing (counted weight) >> gives (pos 0))
    meaning_with (Start object value) = of_start object (meaning_with value).argument
    meaning_with Empty = of_flow (gives Normal)
    meaning_with (Block first objects starts parts) =
        of_flow (all_of (openings here objects first (meanings_with starts)) >> in_sequence (map (λ (part : NodeMeaning). part.flow) (meanings_with parts)))
    meaning_with (If cond this other) =
        of_flow (choosing (meaning_with cond).value (meaning_with this).flow (unwrap_or (slice_get (map (λ (part : NodeMeaning). part.flow) (meanings_with other)) 0) (gives Normal)))
    meaning_with (Loop cut tests_first first cond last body) =
        of_flow (all_of (map (λ (part : NodeMeaning). part.change) (meanings_with first))
        >> loop_meaning tests_first here.turns (condition_or_one (slice_get (map (λ (part : NodeMeaning). part.value) (meanings_with cond)) 0))
        (all_of (map (λ (part : NodeMeaning). part.change) (meanings_with last))) (meaning_with body).flow)
    meaning_with (Leave again) = of_flow (gives (if again then Continue else Break))
    meaning_with (Return value) = of_flow (return_meaning (slice_get (map (λ (part : NodeMeaning). part.value) (meanings_with value)) 0))

    pub target_with : IrTarget → Access → Run Location
    target_with (Variable object) = location_meaning here object []
    target_with (Element object index) = location_meaning here object (meanings_with index)
    target_with (ThroughView view index) = location_meaning here view (meanings_with index)

    pub meanings_with : IrTrees → List NodeMeaning
    meanings_with end = []
    meanings_with (more first rest) = meaning_with first ∷ meanings_with rest

module _ (here : Setting) (called : Called) where
  abbrev pub node_meaning : IrTree → NodeMeaning
  node_meaning = meaning_with plain_acts here called

  abbrev pub target_meaning : IrTarget → Access → Run Location
  target_meaning = target_with plain_acts here called

  abbrev pub node_meanings : IrTrees → List NodeMeaning
  node_meanings = meanings_with plain_acts here called

  -- the number that a tree gives
  abbrev pub value_meaning : IrTree → Run ℤ
  value_meaning tree = (node_meaning tree).value

  -- what it gives to a parameter
  abbrev pub argument_meaning : IrTree → Run Given
  argument_meaning tree = (node_meaning tree).argument

  -- what it does as a statement
  abbrev pub statement_meaning : IrTree → Run Flow
  statement_meaning tree = (node_meaning tree).flow
