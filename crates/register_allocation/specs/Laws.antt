-- What follows from the definitions alone.
use Rattle.std.specs.Prelude.{◌≡◌, ℕ, ◌<◌, pos, true, Some, None, length, List, [], ◌∷◌}
use Rattle.sat_base.specs.declared.width.Width.TheVariants.{W16}
use Rattle.c_tree.specs.declared.simple.AssignMark.TheVariants as mark
use Rattle.ir_arena.specs.Tree.{IrTree, trees_from, TreeFunction, IrWhole, Constant, Read, Call, Left, Write, Out, Block, Loop, Variable, end, more}
use Rattle.register_allocation.specs.declared.home.Home.{Home}
use Rattle.register_allocation.specs.declared.home.Homes.{Homes}
use Rattle.register_allocation.specs.declared.claim.Claim.{Claim}
use Rattle.register_allocation.specs.Claims.{claim_of}
use Rattle.register_allocation.specs.Homes.{home_of}
use Rattle.register_allocation.specs.Steps.{VariablePoint, VariableWays, uses_of, uses_of_function}
use Rattle.register_allocation.specs.Live.{IsLive, IsLiveAcross, Conflict}

-- each tracked variable and each view of a function has a home
abbrev pub EachHasHome : IrWhole → List Homes → Type 0
EachHasHome tree lists =
    (number : ℕ) (claim : Claim) → claim_of tree.objects number ≡ Some claim → claim.function < length tree.functions
    → (home : Home) × (home_of tree.objects lists number ≡ Some home)

-- ---- variables in small trees: the objects 0 and 1 are called a and b

-- `sample_out(a);`
abbrev pub sample_out_of : ℕ → IrTree
sample_out_of object = Out (Read (Variable object))

-- `a = 1;`
abbrev pub set_to_one : ℕ → IrTree
set_to_one object = Write (Variable object) mark.Plain W16 None (Constant (pos 1))

abbrev pub in_braces : List IrTree → IrTree
in_braces parts = Block 2 0 end (trees_from parts)

-- while (sample_left()) { sample_out(a); b = 1; sample_out(b); }
abbrev pub read_in_a_loop : IrTree
read_in_a_loop = Loop 1 true end (more Left end) end (in_braces (sample_out_of 0 ∷ set_to_one 1 ∷ sample_out_of 1 ∷ []))

-- void f(Word16 a, Word16 b) { sample_out(a); sample_out(b); }
abbrev pub two_parameters : TreeFunction
two_parameters = record { gives = None; params = 0 ∷ 1 ∷ []; body = in_braces (sample_out_of 0 ∷ sample_out_of 1 ∷ []) }

-- where a part begins
abbrev pub beginning_of : VariableWays → VariablePoint
beginning_of ways = record { mark = None; onward = ways.whole }

pub record AreExamples : Type 0 where
  -- the next turn reads a, so a is live where b has just been written
  pub live_around_a_loop : Conflict (uses_of read_in_a_loop).points 0 1
  -- { a = 1; sample_out(a); }
  pub dead_before_a_write : IsLive 0 (beginning_of (uses_of (in_braces (set_to_one 0 ∷ sample_out_of 0 ∷ [])))) → ⊥
  -- both are live where the function has been entered, and neither before
  pub live_together : Conflict (uses_of_function two_parameters).points 0 1
  pub written_at_entry : IsLive 0 (beginning_of (uses_of_function two_parameters)) → ⊥
  -- { f(); sample_out(a); }
  pub live_across_a_call : IsLiveAcross (uses_of (in_braces (Call 0 end ∷ sample_out_of 0 ∷ []))).points 0
