-- What is asked of statements, so that they have a tree: their calls are lawful, and the objects of a block follow one
-- another.
use Rattle.std.specs.Prelude.{ℕ, ◌+◌, ◌==◌, ◌&&◌, Bool, true, List, [], ◌∷◌, map, Option, Some, None}
use Rattle.c_typed.specs.declared.simple.TypedSimple.{TypedSimple}
use Rattle.c_typed.specs.declared.simple.TypedSimple.TheVariants.{Assign, Step, SetOverflow, Call}
use Rattle.c_typed.specs.declared.statement.Start.{Start}
use Rattle.c_typed.specs.declared.statement.TypedBlock.{TypedBlock}
use Rattle.c_typed.specs.declared.statement.TypedStmt.{TypedStmt}
use Rattle.c_typed.specs.declared.statement.TypedStmt.TheOpen as node
use Rattle.c_typed.specs.declared.statement.TypedStmt.TheFolds.{fold-TypedStmt, fold-TypedBlock}
use Rattle.source_trees.specs.Statements.{first_object}
use Rattle.typed_meaning.specs.Statements.{option_of}
use Rattle.tree_agreement.specs.Lawful.{all_hold, argument_fits, place_fits, call_fits, expression_fits}

-- the numbers of objects, from this one on
abbrev pub follow : ℕ → List Start → Bool
follow number [] = true
follow number (start ∷ starts) = (start.object == number) && follow (number + 1) starts

abbrev pub fits_where : Option Bool → Bool
fits_where None = true
fits_where (Some fits) = fits

module _ (defined : ℕ → Bool) where
  abbrev pub simple_fits : TypedSimple → Bool
  simple_fits (Assign at place mark mark_at site value) = place_fits defined place && expression_fits defined value
  simple_fits (Step at place up mark_at site) = place_fits defined place
  simple_fits (SetOverflow at value) = expression_fits defined value
  simple_fits (Call call) = call_fits defined call

  abbrev pub start_fits : Start → Bool
  start_fits start = fits_where (option_of (argument_fits defined) start.value)

  unfoldable pub of_statement : node.TypedStmt-F Bool Bool → Bool
  of_statement (node.Empty at) = true
  of_statement (node.Block block) = block
  of_statement (node.Simple simple) = simple_fits simple
  of_statement (node.If at cond this other) = expression_fits defined cond && (this && fits_where other)
  of_statement (node.While at cond body) = expression_fits defined cond && body
  of_statement (node.Do at body cond) = expression_fits defined cond && body
  of_statement (node.For at first cond last body) =
      all_hold (map simple_fits first) && (fits_where (option_of (expression_fits defined) cond) && (all_hold (map simple_fits last) && body))
  of_statement (node.Break at) = true
  of_statement (node.Continue at) = true
  of_statement (node.Return at value) = fits_where (option_of (expression_fits defined) value)

  unfoldable pub of_block : node.TypedBlock-F Bool Bool → Bool
  of_block block = follow (first_object block.objects) block.objects && (all_hold (map start_fits block.objects) && all_hold block.stmts)

  abbrev pub statement_fits : TypedStmt → Bool
  statement_fits = fold-TypedStmt Bool Bool of_statement of_block

  abbrev pub block_fits : TypedBlock → Bool
  block_fits = fold-TypedBlock Bool Bool of_statement of_block
