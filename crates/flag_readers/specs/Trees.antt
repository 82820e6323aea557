-- The steps of a tree, in the order in which they are evaluated. A condition, `&&`, `||` and `?:` may go either way.
use Rattle.std.specs.Prelude.{ℕ, zero, suc, List, [], ◌∷◌, Option, Some, None, slice_get, if◌then◌else◌}
use Rattle.c_tree.specs.declared.expression.BinaryMark.{BinaryMark}
use Rattle.c_tree.specs.declared.expression.BinaryMark.TheVariants.{Both, Either}
use Rattle.ir_arena.specs.Tree.{IrTree, IrTarget, IrTrees, TreeFunction, IrWhole, Constant, Read, Address, Operate, Convert, Not, Invert, Binary, Choose, Call, ReadFlag, Left, Write, Step, WriteFlag, Out, AddCount, Start, Empty, Block, If, Loop, Leave, Return, Variable, Element, ThroughView, end, more}
use Rattle.flag_readers.specs.Ways.{Way, Ways, EvaluatesSite, ReadsFlag, AssignsFlag, EntersFunction, LeavesFunction, Broken, Continued, Returned, AfterSite, AfterCall, leaving, nothing, never, Takes, Then, CalledBody, no_origin, at_step, in_turn, one_of, all_in_turn, loop_ways}

abbrev pub site_ways : ℕ → Ways
site_ways site = at_step (AfterSite site) (Takes (EvaluatesSite site))

abbrev pub site_where : Option ℕ → Ways
site_where None = no_origin nothing
site_where (Some site) = site_ways site

-- `&&` and `||` may leave their right operand out
abbrev pub binary_ways : BinaryMark → Ways → Ways → Ways
binary_ways Both left right = in_turn left (one_of right (no_origin nothing))
binary_ways Either left right = in_turn left (one_of right (no_origin nothing))
binary_ways mark left right = in_turn left right

-- how a called function is gone through
module _ (calls : ℕ → Way) where
  abbrev pub call_ways : ℕ → Ways
  call_ways function = at_step (AfterCall function) (Then (Takes (EntersFunction function)) (Then (calls function) (Takes (LeavesFunction function))))

  abbrev mutual
    pub node_ways : IrTree → Ways
    node_ways (Constant value) = no_origin nothing
    node_ways (Read target) = target_ways target
    node_ways (Address target) = target_ways target
    node_ways (Operate site kind operands weight) = in_turn (all_in_turn (nodes_ways operands)) (site_ways site)
    node_ways (Convert cast width part) = node_ways part
    node_ways (Not part) = node_ways part
    node_ways (Invert part) = node_ways part
    node_ways (Binary mark left right) = binary_ways mark (node_ways left) (node_ways right)
    node_ways (Choose cond this other) = in_turn (node_ways cond) (one_of (node_ways this) (node_ways other))
    node_ways (Call function args) = in_turn (all_in_turn (nodes_ways args)) (call_ways function)
    node_ways (ReadFlag word) = no_origin (Takes (ReadsFlag word))
    node_ways Left = no_origin nothing
    node_ways (Write target mark width site value) = in_turn (target_ways target) (in_turn (node_ways value) (site_where site))
    node_ways (Step target up width site) = in_turn (target_ways target) (site_ways site)
    node_ways (WriteFlag value) = in_turn (node_ways value) (no_origin (Takes AssignsFlag))
    node_ways (Out value) = node_ways value
    node_ways (AddCount weight) = no_origin nothing
    node_ways (Start object value) = node_ways value
    node_ways Empty = no_origin nothing
    node_ways (Block first objects starts parts) = in_turn (all_in_turn (nodes_ways starts)) (all_in_turn (nodes_ways parts))
    node_ways (If cond this other) = in_turn (node_ways cond) (one_of (node_ways this) (all_in_turn (nodes_ways other)))
    node_ways (Loop cut tests_first first cond last body) =
        in_turn (all_in_turn (nodes_ways first)) (loop_ways tests_first (all_in_turn (nodes_ways cond)) (all_in_turn (nodes_ways last)) (node_ways body))
    node_ways (Leave again) = no_origin (leaving (if again then Continued else Broken))
    node_ways (Return value) = in_turn (all_in_turn (nodes_ways value)) (no_origin (leaving Returned))

    pub target_ways : IrTarget → Ways
    target_ways (Variable object) = no_origin nothing
    target_ways (Element object index) = all_in_turn (nodes_ways index)
    target_ways (ThroughView view index) = all_in_turn (nodes_ways index)

    pub nodes_ways : IrTrees → List Ways
    nodes_ways end = []
    nodes_ways (more first rest) = node_ways first ∷ nodes_ways rest

abbrev pub body_ways : (ℕ → Way) → Option TreeFunction → Ways
body_ways calls None = no_origin never
body_ways calls (Some function) = node_ways calls function.body

-- A called function is gone through from its start to its end, so a walk leaves a function that it entered to the call
-- by which it entered. As no function reaches itself, calls need not lie deeper in one another than there are functions.
abbrev pub calls_at : ℕ → IrWhole → ℕ → Way
calls_at zero tree number = never
calls_at (suc depth) tree number = CalledBody (body_ways (calls_at depth tree) (slice_get tree.functions number)).whole
