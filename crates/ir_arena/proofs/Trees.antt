-- What tree each node is: one equation for each constructor.
use Rattle.std.proofs.Common.{◌≡◌, ℕ, List, ap, sym, ◌∙◌}
use Rattle.std.specs.Prelude.{ℤ, Bool, Option, Some, None}
use Rattle.std.specs.Borrow.{Bor}
use Rattle.sat_base.specs.declared.position.Pos.{Pos}
use Rattle.sat_base.specs.declared.width.Width.{Width}
use Rattle.operator_meaning.specs.declared.site.SiteKind.{SiteKind}
use Rattle.c_tree.specs.declared.expression.BinaryMark.{BinaryMark}
use Rattle.c_tree.specs.declared.simple.AssignMark.{AssignMark}
use Rattle.ir_arena.specs.declared.node.Node.{Node}
use Rattle.ir_arena.specs.declared.node.Node.TheOpen as node
use Rattle.ir_arena.specs.declared.node.Node.TheFolds.{fold-roll-Node, fold-roll-Target}
use Rattle.ir_arena.specs.declared.node.Node.TheVariants as variant
use Rattle.ir_arena.specs.declared.target.Target.{Target}
use Rattle.ir_arena.specs.declared.target.Target.TheVariants as target
use Rattle.ir_arena.specs.Tree as tree
use Rattle.ir_arena.specs.Placed.{of_node, of_target, tree_of, target_of, trees_at, trees_where}

pub tree-Constant : (value : ℤ) → tree_of (variant.Constant value) ≡ tree.Constant value
unfolding of_node
tree-Constant value = ap tree_of (sym (variant.rolls-Constant value)) ∙ fold-roll-Node _ _ of_node of_target (node.Constant value)

pub tree-Read : (target : Target) → tree_of (variant.Read target) ≡ tree.Read (target_of target)
unfolding of_node
tree-Read target = ap tree_of (sym (variant.rolls-Read target)) ∙ fold-roll-Node _ _ of_node of_target (node.Read target)

pub tree-Address : (target : Target) → tree_of (variant.Address target) ≡ tree.Address (target_of target)
unfolding of_node
tree-Address target = ap tree_of (sym (variant.rolls-Address target)) ∙ fold-roll-Node _ _ of_node of_target (node.Address target)

pub tree-Operate : (site : ℕ) (kind : SiteKind) (operands : Bor (List Node)) (weight : ℕ) → tree_of (variant.Operate site kind operands weight) ≡ tree.Operate site kind (trees_at operands.now) weight
unfolding of_node
tree-Operate site kind operands weight = ap tree_of (sym (variant.rolls-Operate site kind operands weight)) ∙ fold-roll-Node _ _ of_node of_target (node.Operate site kind operands weight)

pub tree-Convert : (cast : Bool) (width : Width) (part : Bor Node) → tree_of (variant.Convert cast width part) ≡ tree.Convert cast width (tree_of part.now)
unfolding of_node
tree-Convert cast width part = ap tree_of (sym (variant.rolls-Convert cast width part)) ∙ fold-roll-Node _ _ of_node of_target (node.Convert cast width part)

pub tree-Not : (part : Bor Node) → tree_of (variant.Not part) ≡ tree.Not (tree_of part.now)
unfolding of_node
tree-Not part = ap tree_of (sym (variant.rolls-Not part)) ∙ fold-roll-Node _ _ of_node of_target (node.Not part)

pub tree-Invert : (part : Bor Node) → tree_of (variant.Invert part) ≡ tree.Invert (tree_of part.now)
unfolding of_node
tree-Invert part = ap tree_of (sym (variant.rolls-Invert part)) ∙ fold-roll-Node _ _ of_node of_target (node.Invert part)

pub tree-Binary : (mark : BinaryMark) (left right : Bor Node) → tree_of (variant.Binary mark left right) ≡ tree.Binary mark (tree_of left.now) (tree_of right.now)
unfolding of_node
tree-Binary mark left right = ap tree_of (sym (variant.rolls-Binary mark left right)) ∙ fold-roll-Node _ _ of_node of_target (node.Binary mark left right)

pub tree-Choose : (cond this other : Bor Node) → tree_of (variant.Choose cond this other) ≡ tree.Choose (tree_of cond.now) (tree_of this.now) (tree_of other.now)
unfolding of_node
tree-Choose cond this other = ap tree_of (sym (variant.rolls-Choose cond this other)) ∙ fold-roll-Node _ _ of_node of_target (node.Choose cond this other)

pub tree-Call : (function : ℕ) (args : Bor (List Node)) → tree_of (variant.Call function args) ≡ tree.Call function (trees_at args.now)
unfolding of_node
tree-Call function args = ap tree_of (sym (variant.rolls-Call function args)) ∙ fold-roll-Node _ _ of_node of_target (node.Call function args)

pub tree-ReadFlag : (pos : Pos) → tree_of (variant.ReadFlag pos) ≡ tree.ReadFlag pos
unfolding of_node
tree-ReadFlag pos = ap tree_of (sym (variant.rolls-ReadFlag pos)) ∙ fold-roll-Node _ _ of_node of_target (node.ReadFlag pos)

pub tree-Left : tree_of variant.Left ≡ tree.Left
unfolding of_node
tree-Left = ap tree_of (sym variant.rolls-Left) ∙ fold-roll-Node _ _ of_node of_target node.Left

pub tree-Write : (target : Target) (mark : AssignMark) (width : Width) (site : Option ℕ) (value : Bor Node) → tree_of (variant.Write target mark width site value) ≡ tree.Write (target_of target) mark width site (tree_of value.now)
unfolding of_node
tree-Write target mark width site value = ap tree_of (sym (variant.rolls-Write target mark width site value)) ∙ fold-roll-Node _ _ of_node of_target (node.Write target mark width site value)

pub tree-Step : (target : Target) (up : Bool) (width : Width) (site : ℕ) → tree_of (variant.Step target up width site) ≡ tree.Step (target_of target) up width site
unfolding of_node
tree-Step target up width site = ap tree_of (sym (variant.rolls-Step target up width site)) ∙ fold-roll-Node _ _ of_node of_target (node.Step target up width site)

pub tree-WriteFlag : (value : Bor Node) → tree_of (variant.WriteFlag value) ≡ tree.WriteFlag (tree_of value.now)
unfolding of_node
tree-WriteFlag value = ap tree_of (sym (variant.rolls-WriteFlag value)) ∙ fold-roll-Node _ _ of_node of_target (node.WriteFlag value)

pub tree-Out : (value : Bor Node) → tree_of (variant.Out value) ≡ tree.Out (tree_of value.now)
unfolding of_node
tree-Out value = ap tree_of (sym (variant.rolls-Out value)) ∙ fold-roll-Node _ _ of_node of_target (node.Out value)

pub tree-AddCount : (weight : ℕ) → tree_of (variant.AddCount weight) ≡ tree.AddCount weight
unfolding of_node
tree-AddCount weight = ap tree_of (sym (variant.rolls-AddCount weight)) ∙ fold-roll-Node _ _ of_node of_target (node.AddCount weight)

pub tree-Start : (object : ℕ) (value : Bor Node) → tree_of (variant.Start object value) ≡ tree.Start object (tree_of value.now)
unfolding of_node
tree-Start object value = ap tree_of (sym (variant.rolls-Start object value)) ∙ fold-roll-Node _ _ of_node of_target (node.Start object value)

pub tree-Empty : tree_of variant.Empty ≡ tree.Empty
unfolding of_node
tree-Empty = ap tree_of (sym variant.rolls-Empty) ∙ fold-roll-Node _ _ of_node of_target node.Empty

pub tree-Block : (first objects : ℕ) (starts parts : Bor (List Node)) → tree_of (variant.Block first objects starts parts) ≡ tree.Block first objects (trees_at starts.now) (trees_at parts.now)
unfolding of_node
tree-Block first objects starts parts = ap tree_of (sym (variant.rolls-Block first objects starts parts)) ∙ fold-roll-Node _ _ of_node of_target (node.Block first objects starts parts)

pub tree-If : (cond this : Bor Node) (other : Option (Bor Node)) → tree_of (variant.If cond this other) ≡ tree.If (tree_of cond.now) (tree_of this.now) (trees_where other)
unfolding of_node
tree-If cond this (Some other) = ap tree_of (sym (variant.rolls-If cond this (Some other))) ∙ fold-roll-Node _ _ of_node of_target (node.If cond this (Some other))
tree-If cond this None = ap tree_of (sym (variant.rolls-If cond this None)) ∙ fold-roll-Node _ _ of_node of_target (node.If cond this None)

pub tree-Loop : (cut : ℕ) (tests_first : Bool) (first : Bor (List Node)) (cond : Option (Bor Node)) (last : Bor (List Node)) (body : Bor Node) → tree_of (variant.Loop cut tests_first first cond last body) ≡ tree.Loop cut tests_first (trees_at first.now) (trees_where cond) (trees_at last.now) (tree_of body.now)
unfolding of_node
tree-Loop cut tests_first first (Some cond) last body = ap tree_of (sym (variant.rolls-Loop cut tests_first first (Some cond) last body)) ∙ fold-roll-Node _ _ of_node of_target (node.Loop cut tests_first first (Some cond) last body)
tree-Loop cut tests_first first None last body = ap tree_of (sym (variant.rolls-Loop cut tests_first first None last body)) ∙ fold-roll-Node _ _ of_node of_target (node.Loop cut tests_first first None last body)

pub tree-Leave : (again : Bool) → tree_of (variant.Leave again) ≡ tree.Leave again
unfolding of_node
tree-Leave again = ap tree_of (sym (variant.rolls-Leave again)) ∙ fold-roll-Node _ _ of_node of_target (node.Leave again)

pub tree-Return : (value : Option (Bor Node)) → tree_of (variant.Return value) ≡ tree.Return (trees_where value)
unfolding of_node
tree-Return (Some value) = ap tree_of (sym (variant.rolls-Return (Some value))) ∙ fold-roll-Node _ _ of_node of_target (node.Return (Some value))
tree-Return None = ap tree_of (sym (variant.rolls-Return None)) ∙ fold-roll-Node _ _ of_node of_target (node.Return None)

pub target-Variable : (object : ℕ) → target_of (target.Variable object) ≡ tree.Variable object
unfolding of_target
target-Variable object = ap target_of (sym (target.rolls-Variable object)) ∙ fold-roll-Target _ _ of_node of_target (node.Variable object)

pub target-Element : (object : ℕ) (index : Bor (List Node)) → target_of (target.Element object index) ≡ tree.Element object (trees_at index.now)
unfolding of_target
target-Element object index = ap target_of (sym (target.rolls-Element object index)) ∙ fold-roll-Target _ _ of_node of_target (node.Element object index)

pub target-ThroughView : (view : ℕ) (index : Bor (List Node)) → target_of (target.ThroughView view index) ≡ tree.ThroughView view (trees_at index.now)
unfolding of_target
target-ThroughView view index = ap target_of (sym (target.rolls-ThroughView view index)) ∙ fold-roll-Target _ _ of_node of_target (node.ThroughView view index)

pub ruleset trees_placed = (tree-Constant, tree-Read, tree-Address, tree-Operate, tree-Convert, tree-Not, tree-Invert, tree-Binary, tree-Choose, tree-Call, tree-ReadFlag, tree-Left, tree-Write, tree-Step, tree-WriteFlag, tree-Out, tree-AddCount, tree-Start, tree-Empty, tree-Block, tree-If, tree-Loop, tree-Leave, tree-Return, target-Variable, target-Element, target-ThroughView)
