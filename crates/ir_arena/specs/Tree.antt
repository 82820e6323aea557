-- The tree by itself: what the nodes in the arena are, without the places at which they lie. Every definition
-- and every theorem is about these trees; a node is the tree that is read off it (Placed.antt).
use Rattle.std.specs.Prelude.{ℕ, ℤ, Bool, Option, Some, None, List, [], ◌∷◌}
use Rattle.sat_base.specs.declared.position.Pos.{Pos}
use Rattle.sat_base.specs.declared.width.Width.{Width}
use Rattle.operator_meaning.specs.declared.object.Object.{Object}
use Rattle.operator_meaning.specs.declared.object.Site.{Site}
use Rattle.operator_meaning.specs.declared.site.SiteKind.{SiteKind}
use Rattle.c_tree.specs.declared.expression.BinaryMark.{BinaryMark}
use Rattle.c_tree.specs.declared.simple.AssignMark.{AssignMark}

-- A part that may be missing is a row of none or of one.
mutual
  pub data IrTree : Type 0 where
    Constant : (value : ℤ) → IrTree
    Read : (target : IrTarget) → IrTree
    Address : (target : IrTarget) → IrTree
    Operate : (site : ℕ) (kind : SiteKind) (operands : IrTrees) (weight : ℕ) → IrTree
    Convert : (cast : Bool) (width : Width) (part : IrTree) → IrTree
    Not : (part : IrTree) → IrTree
    Invert : (part : IrTree) → IrTree
    Binary : (mark : BinaryMark) (left right : IrTree) → IrTree
    Choose : (cond this other : IrTree) → IrTree
    Call : (function : ℕ) (args : IrTrees) → IrTree
    ReadFlag : (pos : Pos) → IrTree
    Left : IrTree
    Write : (target : IrTarget) (mark : AssignMark) (width : Width) (site : Option ℕ) (value : IrTree) → IrTree
    Step : (target : IrTarget) (up : Bool) (width : Width) (site : ℕ) → IrTree
    WriteFlag : (value : IrTree) → IrTree
    Out : (value : IrTree) → IrTree
    AddCount : (weight : ℕ) → IrTree
    Start : (object : ℕ) (value : IrTree) → IrTree
    Empty : IrTree
    Block : (first objects : ℕ) (starts parts : IrTrees) → IrTree
    If : (cond this : IrTree) (other : IrTrees) → IrTree
    Loop : (cut : ℕ) (tests_first : Bool) (first cond last : IrTrees) (body : IrTree) → IrTree
    Leave : (again : Bool) → IrTree
    Return : (value : IrTrees) → IrTree

  pub data IrTarget : Type 0 where
    Variable : (object : ℕ) → IrTarget
    Element : (object : ℕ) (index : IrTrees) → IrTarget
    ThroughView : (view : ℕ) (index : IrTrees) → IrTarget

  pub data IrTrees : Type 0 where
    end : IrTrees
    more : (first : IrTree) (rest : IrTrees) → IrTrees

abbrev pub trees_from : List IrTree → IrTrees
trees_from [] = end
trees_from (tree ∷ trees_in) = more tree (trees_from trees_in)

-- a row of none or of one
abbrev pub at_most : Option IrTree → IrTrees
at_most None = end
at_most (Some tree) = more tree end

-- its trees, in order
abbrev pub trees_in : IrTrees → List IrTree
trees_in end = []
trees_in (more first rest) = first ∷ trees_in rest

-- a defined function
pub record TreeFunction : Type 0 where
  pub gives : Option Width
  pub params : List ℕ
  pub body : IrTree

-- The functions, in the order of their definitions, the number of `main`, the objects, and the sites in the order
-- of their tokens.
pub record IrWhole : Type 0 where
  pub functions : List TreeFunction
  pub main : ℕ
  pub objects : List Object
  pub sites : List Site
