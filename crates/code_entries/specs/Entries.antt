-- The sites that stand in a tree over scalars, in the order of their evaluation. A loop tests behind its body, and that is where
-- the sites of its condition stand.
use Rattle.std.specs.Prelude.{ℕ, List, [], ◌∷◌, ◌++◌, Option, Some, None}
use Rattle.c_tree.specs.declared.simple.AssignMark.{AssignMark}
use Rattle.c_tree.specs.declared.simple.AssignMark.TheVariants as assign
use Rattle.operator_meaning.specs.declared.site.SiteKind.TheVariants as kind
use Rattle.typed_meaning.specs.Expressions.{site_at}
use Rattle.typed_meaning.specs.Statements.{step_mark}
use Rattle.ir_arena.specs.Tree.{IrTree, IrTrees, Operate, Convert, Not, Invert, Binary, Choose, Write, Step, WriteFlag, Out, Block, If, Loop, Return, Variable, end, more}
use Rattle.statement_code.specs.Blocks.{Opening, openings_of}
use Rattle.code_pieces.specs.declared.piece.Entry.{Entry}

-- ---- expressions

abbrev mutual
  pub entries_of_value : IrTree → List Entry
  entries_of_value (Operate site kind operands weight) = entries_of_operands operands ++ record { site = site; kind = kind } ∷ []
  entries_of_value (Convert cast width part) = entries_of_value part
  entries_of_value (Not part) = entries_of_value part
  entries_of_value (Invert part) = entries_of_value part
  entries_of_value (Binary mark left right) = entries_of_value left ++ entries_of_value right
  entries_of_value (Choose cond this other) = entries_of_value cond ++ (entries_of_value this ++ entries_of_value other)
  entries_of_value tree = []

  pub entries_of_operands : IrTrees → List Entry
  entries_of_operands end = []
  entries_of_operands (more first rest) = entries_of_value first ++ entries_of_operands rest

-- ---- simple parts

-- a compound assignment computes, and so does a step
abbrev pub entries_of_mark : AssignMark → (site : ℕ) → List Entry
entries_of_mark assign.Plus site = record { site = site; kind = kind.Sum } ∷ []
entries_of_mark assign.Minus site = record { site = site; kind = kind.Difference } ∷ []
entries_of_mark assign.Times site = record { site = site; kind = kind.Product } ∷ []
entries_of_mark mark site = []

abbrev pub entries_of_simple : IrTree → List Entry
entries_of_simple (Write (Variable object) mark width site value) = entries_of_value value ++ entries_of_mark mark (site_at site)
entries_of_simple (Step (Variable object) up width site) = entries_of_mark (step_mark up) site
entries_of_simple (WriteFlag value) = entries_of_value value
entries_of_simple (Out value) = entries_of_value value
entries_of_simple (Operate site kind operands weight) = entries_of_value (Operate site kind operands weight)
entries_of_simple tree = []

abbrev pub entries_of_simples : IrTrees → List Entry
entries_of_simples end = []
entries_of_simples (more first rest) = entries_of_simple first ++ entries_of_simples rest

-- ---- objects that start

abbrev pub entries_of_start : Option IrTree → List Entry
entries_of_start None = []
entries_of_start (Some value) = entries_of_value value

abbrev pub entries_of_openings : List Opening → List Entry
entries_of_openings [] = []
entries_of_openings (first ∷ rest) = entries_of_start first.value ++ entries_of_openings rest

-- ---- statements

-- of a row of none or of one
abbrev pub entries_of_first : IrTrees → List Entry
entries_of_first end = []
entries_of_first (more value rest) = entries_of_value value

abbrev mutual
  pub entries_of_statement : IrTree → List Entry
  entries_of_statement (Block first count starts parts) = entries_of_openings (openings_of count first starts) ++ entries_of_statements parts
  entries_of_statement (If cond this end) = entries_of_value cond ++ entries_of_statement this
  entries_of_statement (If cond this (more other rest)) = entries_of_value cond ++ (entries_of_statement this ++ entries_of_statement other)
  entries_of_statement (Loop cut tests_first first cond last body) =
      entries_of_simples first ++ (entries_of_statement body ++ (entries_of_simples last ++ entries_of_first cond))
  entries_of_statement (Return value) = entries_of_first value
  entries_of_statement tree = entries_of_simple tree

  pub entries_of_statements : IrTrees → List Entry
  entries_of_statements end = []
  entries_of_statements (more first rest) = entries_of_statement first ++ entries_of_statements rest
