use Rattle.std.proofs.Common.{◌≡◌, ℕ, ◌+◌, ◌<◌, ◌++◌, ◌∷◌, ◌∙◌, List, length, get_or, map, drop, refl, sym, ap, append_assoc}
use Rattle.std.proofs.lemmas.List.{at_drop_more, map_push}
use Rattle.std.specs.Prelude.{Some}
use Rattle.c_typed.specs.declared.call.TypedArg.{TypedArg}
use Rattle.c_typed.specs.declared.statement.Start.{Start}
use Rattle.ir_arena.specs.Placed.{tree_of}
use Rattle.ir_arena.specs.Tree as tree
use Rattle.ir_arena.specs.Tree.{IrTree}
use Rattle.ir_arena.proofs.Trees.{tree-Start}
use Rattle.source_trees.specs.Expressions.{TreeSetting, argument_tree}
use Rattle.source_trees.specs.Statements.{starts_in}
use Rattle.ir_expressions.specs.Building.{setting}
use Rattle.ir_statements.proofs.blocks.starts.Goals as goal

-- the next object, where it has a value to start with
starts_next : (here : TreeSetting) (objects : List Start) (i : ℕ) (start : Start) (value : TypedArg)
    → i < length objects → start ≡ get_or objects i start → start.value ≡ Some value
    → starts_in here (drop i objects) ≡ tree.Start start.object (argument_tree here value) ∷ starts_in here (drop (i + 1) objects)
starts_next here objects i start value within is has = at_drop_more (starts_in here) objects i start within ∙ rw (sym is, has) refl

pub loop-start-preserved : goal.loop-start-preserved
loop-start-preserved c =
    let next = starts_next (setting c.args.build.now) c.args.objects.now c.loop-start.start-index c.start-item.result c.in-Some.value c.loop-start-test.true c.start-item.is c.in-Some.is in
    rw (c.in_ok-push.ensures.ok, map_push, append_assoc, tree-Start, c.in_ok-value-2.ensures, c.in_ok-value.ensures)
    (ap (λ (more : List IrTree). map tree_of c.loop-start.nodes ++ more) (sym next) ∙ c.loop-start.invariant)
