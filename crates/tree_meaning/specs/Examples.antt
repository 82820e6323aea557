-- Small sources as trees, and what is observed of them.
use Rattle.std.specs.Prelude.{◌≡◌, ℕ, ℤ, pos, negsuc, Bool, true, false, List, [], ◌∷◌, Option, Some, None, replicate}
use Rattle.sat_base.specs.declared.position.Pos.{Pos}
use Rattle.sat_base.specs.declared.width.Width.TheVariants.{W16, W32}
use Rattle.sat_base.specs.Observation.{End, Stop, Going}
use Rattle.operator_meaning.specs.declared.object.Object.{Object}
use Rattle.operator_meaning.specs.declared.object.Storage.{Storage}
use Rattle.operator_meaning.specs.declared.object.Storage.TheVariants.{Static, Automatic, Parameter}
use Rattle.operator_meaning.specs.declared.operator.Op.{Op}
use Rattle.operator_meaning.specs.declared.operator.Op.TheVariants.{Add, LMac, ExtractH, Shr, Round}
use Rattle.operator_meaning.specs.declared.site.SiteKind.TheVariants as kind
use Rattle.c_tree.specs.declared.expression.BinaryMark.TheVariants as binary
use Rattle.c_tree.specs.declared.simple.AssignMark.TheVariants as mark
use Rattle.ir_arena.specs.Tree.{IrTree, IrTarget, IrTrees, trees_from, TreeFunction, IrWhole, Constant, Read, Address, Operate, Convert, Binary, Call, ReadFlag, Left, Write, Step, WriteFlag, Out, Block, If, Loop, Return, Variable, Element, ThroughView, end, more}
use Rattle.tree_meaning.specs.Observed.{tree_observed, tree_trace}

abbrev pub one : IrTree → IrTrees
one tree = more tree end

abbrev pub two : IrTree → IrTree → IrTrees
two first second = more first (one second)

-- an implied conversion to 16 bits
abbrev pub short : IrTree → IrTree
short part = Convert false W16 part

abbrev pub variable : ℕ → IrTree
variable object = Read (Variable object)

abbrev pub long : IrTree → IrTree
long part = Convert false W32 part

-- `Overflow = 0;`
abbrev pub clear_flag : IrTree
clear_flag = WriteFlag (long (Constant (pos 0)))

-- `return 0;` of a function that gives 32 bits
abbrev pub return_zero : IrTree
return_zero = Return (one (long (Constant (pos 0))))

-- an element at an index that is checked at the site
abbrev pub element : ℕ → ℕ → ℕ → IrTree → IrTarget
element object length site index = Element object (one (Operate site (kind.Bound length) (one index) 0))

-- an operator on two operands of 16 bits
abbrev pub on_shorts : ℕ → Op → IrTree → IrTree → IrTree
on_shorts site op left right = Operate site (kind.Call op) (two (short left) (short right)) 1

abbrev pub assign_short : ℕ → IrTree → IrTree
assign_short object value = Write (Variable object) mark.Plain W16 None (short value)

abbrev pub object_of : ℕ → ℕ → Storage → Bool → Option (List ℤ) → Object
object_of rows columns storage view initial =
    record { name = []; width = W16; rows = rows; columns = columns; storage = storage; view = view; is_const = false; exposed = false; initial = initial; function = None }

abbrev pub scalar : Object
scalar = object_of 0 0 Automatic false None

abbrev pub function : List ℕ → IrTree → TreeFunction
function params body = record { gives = Some W16; params = params; body = body }

-- ---- one function, two callers, one of them followed by a read

-- Word16 inc(Word16 v) { return add(v, 1); }
-- int main(void) { Word16 a; a = inc(32767); Overflow = 0; a = inc(32767); if (Overflow != 0) sample_out(a); Overflow = 0; return 0; }
abbrev pub two_callers : Pos → IrWhole
two_callers word =
    record {
      functions =
          function (0 ∷ []) (Block 1 0 end (one (Return (one (short (on_shorts 0 Add (variable 0) (Constant (pos 1))))))))
          ∷ function [] (Block 1 1 end (trees_from (
          assign_short 1 (Call 0 (one (short (Constant (pos 32767)))))
          ∷ clear_flag
          ∷ assign_short 1 (Call 0 (one (short (Constant (pos 32767)))))
          ∷ If (Binary binary.Ne (ReadFlag word) (Constant (pos 0))) (Out (short (variable 1))) end
          ∷ clear_flag
          ∷ return_zero ∷ [])))
          ∷ [];
      main = 1;
      objects = object_of 0 0 Parameter false None ∷ scalar ∷ [];
      sites = [];
    }

-- ---- a view with negative indices

-- static Word16 buf[20] = { -7 };
-- Word16 at(Word16 *x, Word16 i) { return x[i]; }
-- int main(void) { sample_out(at(&buf[10], -10)); sample_out(at(&buf[10], -11)); return 0; }
abbrev view_at : ℕ → ℕ → ℤ → IrTree
view_at edge minus offset =
    Out (short (Call 0 (two (Address (element 0 21 edge (Constant (pos 10)))) (short (Operate minus kind.Opposite (one (Constant offset)) 0)))))

abbrev pub negative_indices : IrWhole
negative_indices =
    record {
      functions =
          function (1 ∷ 2 ∷ []) (Block 3 0 end (one (Return (one (short (Read (ThroughView 1 (one (Operate 0 kind.ViewBound (one (variable 2)) 0)))))))))
          ∷ function [] (Block 3 0 end (trees_from (view_at 1 2 (pos 10) ∷ view_at 3 4 (pos 11) ∷ return_zero ∷ [])))
          ∷ [];
      main = 1;
      objects = object_of 20 0 Static false (Some (negsuc 6 ∷ replicate 19 (pos 0))) ∷ object_of 0 0 Parameter true None ∷ object_of 0 0 Parameter false None ∷ [];
      sites = [];
    }

-- ---- a block's object starts anew in each turn

-- int main(void) { while (sample_left()) { Word16 c; c = add(c, sample_in()); sample_out(c); } return 0; }
abbrev pub starts_anew : IrWhole
starts_anew =
    record {
      functions =
          function [] (Block 0 0 end (two
          (Loop 1 true end (one Left) end (Block 0 1 end (two
          (assign_short 0 (on_shorts 0 Add (variable 0) (Operate 1 kind.Sample end 0)))
          (Out (short (variable 0))))))
          (return_zero)))
          ∷ [];
      main = 0;
      objects = scalar ∷ [];
      sites = [];
    }

-- ---- a call between an operator and the end

-- void nop(void) { }
-- int main(void) { Word16 a; a = add(32767, 1); nop(); sample_out(a); return 0; }
abbrev pub call_between : IrWhole
call_between =
    record {
      functions =
          record { gives = None; params = []; body = Block 0 0 end end }
          ∷ function [] (Block 0 1 end (trees_from (
          assign_short 0 (on_shorts 0 Add (Constant (pos 32767)) (Constant (pos 1)))
          ∷ Call 0 end ∷ Out (short (variable 0)) ∷ return_zero ∷ [])))
          ∷ [];
      main = 1;
      objects = scalar ∷ [];
      sites = [];
    }

-- ---- an energy loop with rescaling

abbrev counted_loop : ℕ → ℕ → ℤ → IrTree → IrTree
counted_loop cut step last body =
    Loop cut true (one (assign_short 1 (Constant (pos 0)))) (one (Binary binary.Lt (variable 1) (Constant last))) (one (Step (Variable 1) true W16 step)) body

abbrev sum_up : ℕ → IrTree → IrTree → IrTree
sum_up site left right =
    Write (Variable 2) mark.Plain W32 None (long (Operate site (kind.Call LMac) (more (long (variable 2)) (two (short left) (short right))) 1))

abbrev sum_is_zero : IrTree
sum_is_zero = Write (Variable 2) mark.Plain W32 None (long (Constant (pos 0)))

abbrev signal : ℕ → IrTree
signal site = Read (element 0 40 site (variable 1))

-- static Word16 sig[40];
-- int main(void) {
--   Word16 i; Word32 acc;
--   while (sample_left()) {
--     for (i = 0; i < 40; i++) { if (sample_left()) sig[i] = sample_in(); else sig[i] = 0; }
--     Overflow = 0;
--     acc = 0;
--     for (i = 0; i < 40; i++) acc = L_mac(acc, sig[i], sig[i]);
--     if (Overflow != 0) { acc = 0; for (i = 0; i < 40; i++) acc = L_mac(acc, shr(sig[i], 2), shr(sig[i], 2)); }
--     sample_out(extract_h(acc));
--   }
--   Overflow = 0;
--   return 0;
-- }
abbrev pub energy : Pos → IrWhole
energy word =
    record {
      functions =
          function [] (Block 1 2 end (trees_from (
          Loop 1 true end (one Left) end (Block 3 0 end (trees_from (
          counted_loop 2 0 (pos 40) (If Left
          (Write (element 0 40 1 (variable 1)) mark.Plain W16 None (short (Operate 2 kind.Sample end 0)))
          (one (Write (element 0 40 3 (variable 1)) mark.Plain W16 None (short (Constant (pos 0))))))
          ∷ clear_flag
          ∷ sum_is_zero
          ∷ counted_loop 3 4 (pos 40) (sum_up 5 (signal 6) (signal 7))
          ∷ If (Binary binary.Ne (ReadFlag word) (Constant (pos 0)))
          (Block 3 0 end (two sum_is_zero (counted_loop 4 8 (pos 40)
          (sum_up 9 (on_shorts 10 Shr (signal 11) (Constant (pos 2))) (on_shorts 12 Shr (signal 13) (Constant (pos 2)))))))
          end
          ∷ Out (short (Operate 14 (kind.Call ExtractH) (one (long (variable 2))) 1)) ∷ [])))
          ∷ clear_flag
          ∷ return_zero ∷ [])))
          ∷ [];
      main = 0;
      objects = object_of 40 0 Static false (Some (replicate 40 (pos 0))) ∷ scalar ∷ record scalar { width = W32 } ∷ [];
      sites = [];
    }

-- ---- a filter of five taps over frames

-- `for (v = 0; v < last; v++)`, where v is the object
abbrev loop_over : ℕ → ℕ → ℕ → ℤ → IrTree → IrTree
loop_over object cut step last body =
    Loop cut true (one (assign_short object (Constant (pos 0)))) (one (Binary binary.Lt (variable object) (Constant last))) (one (Step (Variable object) true W16 step)) body

abbrev sum_at : ℕ → IrTree → ℤ → IrTree
sum_at site left right = Operate site kind.Sum (two left (Constant right)) 0

abbrev sample_into : IrTarget → IrTree → IrTree
sample_into target value = Write target mark.Plain W16 None (short value)

-- static const Word16 h[5] = { 1000, 2000, 3000, 2000, 1000 };
-- static Word16 x[84];
-- int main(void) {
--   Word16 n, k; Word32 s;
--   while (sample_left()) {
--     for (n = 0; n < 80; n++) { x[n + 4] = 0; if (sample_left()) x[n + 4] = sample_in(); }
--     for (n = 0; n < 80; n++) {
--       s = 0;
--       for (k = 0; k < 5; k++) s = L_mac(s, x[n + 4 - k], h[k]);
--       sample_out(round(s));
--     }
--     for (k = 0; k < 4; k++) x[k] = x[k + 80];
--   }
--   return 0;
-- }
abbrev pub filter : IrWhole
filter =
    record {
      functions =
          function [] (Block 2 3 end (two
          (Loop 1 true end (one Left) end (Block 5 0 end (trees_from (
          loop_over 2 2 0 (pos 80) (Block 5 0 end (two
          (sample_into (element 1 84 1 (sum_at 2 (variable 2) (pos 4))) (Constant (pos 0)))
          (If Left (sample_into (element 1 84 3 (sum_at 4 (variable 2) (pos 4))) (Operate 5 kind.Sample end 0)) end)))
          ∷ loop_over 2 3 6 (pos 80) (Block 5 0 end (trees_from (
          Write (Variable 4) mark.Plain W32 None (long (Constant (pos 0)))
          ∷ loop_over 3 4 7 (pos 5) (Write (Variable 4) mark.Plain W32 None (long (Operate 8 (kind.Call LMac)
          (more (long (variable 4)) (two
          (short (Read (element 1 84 9 (Operate 11 kind.Difference (two (sum_at 10 (variable 2) (pos 4)) (variable 3)) 0))))
          (short (Read (element 0 5 12 (variable 3)))))) 1)))
          ∷ Out (short (Operate 13 (kind.Call Round) (one (long (variable 4))) 1)) ∷ [])))
          ∷ loop_over 3 5 14 (pos 4) (sample_into (element 1 84 15 (variable 3)) (Read (element 1 84 16 (sum_at 17 (variable 3) (pos 80))))) ∷ []))))
          return_zero))
          ∷ [];
      main = 0;
      objects =
          object_of 5 0 Static false (Some (pos 1000 ∷ pos 2000 ∷ pos 3000 ∷ pos 2000 ∷ pos 1000 ∷ []))
          ∷ object_of 84 0 Static false (Some (replicate 84 (pos 0))) ∷ scalar ∷ scalar ∷ record scalar { width = W32 } ∷ [];
      sites = [];
    }

-- ---- what is observed

pub record AreExamples (word : Pos) (turns : ℕ) : Type 0 where
  pub two_calls : tree_observed (two_callers word) [] turns ≡ End (pos 32767 ∷ []) (pos 0) 2
  pub view_stops : tree_observed negative_indices [] turns ≡ Stop 0 (negsuc 6 ∷ [])
  pub sites_of_views : tree_trace negative_indices [] turns ≡ 1 ∷ 2 ∷ 0 ∷ 3 ∷ 4 ∷ 0 ∷ []
  pub block_starts_anew : tree_observed starts_anew (pos 5 ∷ pos 6 ∷ []) 2 ≡ End (pos 5 ∷ pos 6 ∷ []) (pos 0) 2
  pub one_turn_less : tree_observed starts_anew (pos 5 ∷ pos 6 ∷ []) 1 ≡ Going (pos 5 ∷ [])
  pub call_is_between : tree_observed call_between [] turns ≡ End (pos 32767 ∷ []) (pos 1) 1
  pub energy_fits : tree_observed (energy word) (pos 16384 ∷ []) 40 ≡ End (pos 8192 ∷ []) (pos 0) 41
  pub energy_overflows : tree_observed (energy word) (negsuc 32767 ∷ negsuc 32767 ∷ []) 40 ≡ End (pos 4096 ∷ []) (pos 0) 161
  pub no_energy : tree_observed (energy word) [] turns ≡ End [] (pos 0) 0
  pub impulse_is_filtered : tree_observed filter (pos 32767 ∷ []) 80 ≡ End (pos 1000 ∷ pos 2000 ∷ pos 3000 ∷ pos 2000 ∷ pos 1000 ∷ replicate 75 (pos 0)) (pos 0) 480
