-- That the trees of statements and blocks do what these do.
use Rattle.std.specs.Prelude.{◌≡◌, ℕ, Bool, IsTrue, List}
use Rattle.c_typed.specs.declared.simple.TypedSimple.{TypedSimple}
use Rattle.c_typed.specs.declared.statement.TypedBlock.{TypedBlock}
use Rattle.c_typed.specs.declared.statement.TypedStmt.{TypedStmt}
use Rattle.source_runs.specs.declared.halt.Flow.TheVariants.{Normal}
use Rattle.source_runs.specs.Runs.{Run, gives, ◌>>◌}
use Rattle.typed_meaning.specs.Expressions.{Setting, Called}
use Rattle.typed_meaning.specs.Statements as source
use Rattle.ir_arena.specs.Tree.{IrTree}
use Rattle.tree_meaning.specs.Trees.{node_meaning, statement_meaning}
use Rattle.source_trees.specs.Statements.{simple_tree, statement_tree, block_tree}
use Rattle.tree_agreement.specs.Agreement.{trees_for}
use Rattle.statement_agreement.specs.Lawful.{simple_fits, statement_fits, block_fits}

-- a node that changes the state does so beside others, and as a statement
pub record Changes (here : Setting) (tree_called : Called) (tree : IrTree) (run : Run (Unit {0})) : Type 0 where
  pub change : (node_meaning here tree_called tree).change ≡ run
  pub flow : (node_meaning here tree_called tree).flow ≡ (run >> gives Normal)

module _ (here : Setting) (numbers : List ℕ) (called tree_called : Called) (defined : ℕ → Bool) where
  abbrev pub SimpleAgrees : TypedSimple → Type 0
  SimpleAgrees simple =
      IsTrue (simple_fits defined simple) → Changes here tree_called (simple_tree (trees_for here numbers) simple) (source.simple_meaning here called simple)

  -- whatever the number of its first loop
  abbrev pub StatementAgrees : TypedStmt → Type 0
  StatementAgrees stmt =
      IsTrue (statement_fits defined stmt) → (next : ℕ) → statement_meaning here tree_called (statement_tree (trees_for here numbers) stmt next).tree ≡ source.statement_meaning here called stmt

  abbrev pub BlockAgrees : TypedBlock → Type 0
  BlockAgrees block =
      IsTrue (block_fits defined block) → (next : ℕ) → statement_meaning here tree_called (block_tree (trees_for here numbers) block next).tree ≡ source.block_meaning here called block

-- Each statement and block does what its tree does, where it is lawful.
pub record StatementsAgree (here : Setting) (numbers : List ℕ) (called tree_called : Called) (defined : ℕ → Bool) : Type 0 where
  pub statements : (stmt : TypedStmt) → StatementAgrees here numbers called tree_called defined stmt
  pub blocks : (block : TypedBlock) → BlockAgrees here numbers called tree_called defined block
