-- Branches, by themselves and over jumps.
use Rattle.std.proofs.Common.{◌≡◌, ℕ, ◌+◌, ◌≤◌, ℤ, pos, ◌+ℤ◌, ◌-ℤ◌, Bool, true, false, not, if◌then◌else◌, int_lt, List, [], ◌∷◌, length, refl, ap, ◌∙◌, subst, arith}
use Rattle.std.specs.Prelude.{None}
use Rattle.std.specs.Ordering.{int_eq}
use Rattle.std.proofs.lemmas.Int.{ints}
use Rattle.code_lines.specs.declared.word.Word.{Word}
use Rattle.code_lines.specs.Words.{StandHere, Code, instr_of, begun_by}
use Rattle.rv_encode.specs.State.{MachineState, Moment, Running, register, target_pc}
use Rattle.rv_encode.specs.Effects.{jumps, goes_on, effect_of}
use Rattle.rv_encode.specs.Runs.{pc_of}
use Rattle.template_runs.specs.Machine.{IsBefore}
use Rattle.code_lines.proofs.Lines.{next_is, next_place, later_one, stands_first, stands_rest}
use Rattle.code_lines.proofs.Leading.{leads_both, leads_least}
use Rattle.code_jumps.specs.declared.branch.Test.{Test}
use Rattle.code_jumps.specs.declared.branch.Test.TheVariants.{Equal, Unequal, Less, NotLess}
use Rattle.code_jumps.specs.declared.branch.Reach.{Reach}
use Rattle.code_jumps.specs.declared.branch.Reach.TheVariants.{Short, Middle, Long}
use Rattle.code_jumps.specs.Jumps.{bytes_of, jump_code, passes, opposite, sensed, met, branch_code, branch_by, IsThere, ComesTo, ComesBy, BranchesAreDone}
use Rattle.code_jumps.proofs.Jumps.{target_is, to_word, there, jumps_are_done}

turned : (b : Bool) (x y : Moment) → (if b then x else y) ≡ (if not b then y else x)
turned true x y = refl
turned false x y = refl

own_branch : (test : Test) (rs1 rs2 : ℕ) (imm : ℤ) → begun_by (branch_by test rs1 rs2 imm) ≡ None
own_branch Equal rs1 rs2 imm = refl
own_branch Unequal rs1 rs2 imm = refl
own_branch Less rs1 rs2 imm = refl
own_branch NotLess rs1 rs2 imm = refl

-- what a branch does, by its test
effect_by : (test : Test) (rs1 rs2 : ℕ) (imm : ℤ) (s : MachineState)
    → effect_of (instr_of (branch_by test rs1 rs2 imm)) s ≡ (if passes test (register s rs1) (register s rs2) then jumps s s.registers imm else goes_on s)
effect_by Equal rs1 rs2 imm s = refl
effect_by Unequal rs1 rs2 imm s = turned (int_eq (register s rs1) (register s rs2)) (goes_on s) (jumps s s.registers imm)
effect_by Less rs1 rs2 imm s = refl
effect_by NotLess rs1 rs2 imm s = turned (int_lt (register s rs1) (register s rs2)) (goes_on s) (jumps s s.registers imm)

twice : (x : Bool) → x ≡ not (not x)
twice true = refl
twice false = refl

opposed : (test : Test) (a b : ℤ) → passes (opposite test) a b ≡ not (passes test a b)
opposed Equal a b = refl
opposed Unequal a b = twice (int_eq a b)
opposed Less a b = refl
opposed NotLess a b = twice (int_lt a b)

-- one way after another
then_on : (code : Code) (m n between to : ℕ) (s : MachineState) → ComesTo code m between s → ((t : MachineState) → IsThere between s t → ComesTo code n to t) → ComesTo code (m + n) to s
then_on code m n between to s first next =
    let t = first.0 in
    let way = first.2 in
    let second = next t way in
    let last = second.2 in (
      second.0,
      leads_both code m n (Running s) (Running t) (Running second.0) first.1 second.1,
      record {
        before = last.before;
        others = λ i five. last.others i five ∙ way.others i five;
        memory = last.memory ∙ way.memory;
        input = last.input ∙ way.input;
        output = last.output ∙ way.output;
      },
    )

at_least : (code : Code) (m n to : ℕ) (s : MachineState) → n ≤ m → ComesTo code m to s → ComesTo code n to s
at_least code m n to s less comes = (comes.0, leads_least code m n (Running s) (Running comes.0) less comes.1, comes.2)

-- a branch by itself
short : (code : Code) (k to : ℕ) (test : Test) (rs1 rs2 : ℕ) (distance : ℤ) (s : MachineState) (passed : Bool) → passes test (register s rs1) (register s rs2) ≡ passed
    → StandHere code k (branch_by test rs1 rs2 (bytes_of distance) ∷ []) → IsBefore k s → pos to ≡ pos k +ℤ distance → to ≤ 16777216 → ComesBy passed code to (k + 1) s
short code k to test rs1 rs2 distance s true e stands before is small =
    let instr = branch_by test rs1 rs2 (bytes_of distance) in
    let within = stands.within in
    let target : target_pc s.pc (bytes_of distance) ≡ pc_of to = ap (λ p. target_pc p (bytes_of distance)) before.pc ∙ target_is k to distance is (omega arith) small in (
      record s { pc = pc_of to },
      later_one code k instr s stands before (Running (record s { pc = pc_of to })) (own_branch test rs1 rs2 (bytes_of distance))
          (next_is code k instr s stands before ∙ effect_by test rs1 rs2 (bytes_of distance) s
          ∙ ap (λ (b : Bool). if b then jumps s s.registers (bytes_of distance) else goes_on s) e ∙ to_word s (bytes_of distance) to target),
      there s k to before,
    )
short code k to test rs1 rs2 distance s false e stands before is small =
    let instr = branch_by test rs1 rs2 (bytes_of distance) in
    let t : MachineState = record s { pc = pc_of (k + 1) } in
    at_least code 1 0 (k + 1) s (omega arith) (
      t,
      later_one code k instr s stands before (Running t) (own_branch test rs1 rs2 (bytes_of distance))
          (next_is code k instr s stands before ∙ effect_by test rs1 rs2 (bytes_of distance) s
          ∙ ap (λ (b : Bool). if b then jumps s s.registers (bytes_of distance) else goes_on s) e ∙ ap (λ p. Running (record s { pc = p })) (next_place code k instr s stands before)),
      there s k (k + 1) before,
    )

same_size : (near : Bool) (one other : ℤ) → length (jump_code near one) ≡ length (jump_code near other)
same_size true one other = refl
same_size false one other = refl

-- a branch over a jump
module _ (code : Code) (k to : ℕ) (near : Bool) (test : Test) (rs1 rs2 : ℕ) (distance : ℤ) (s : MachineState) where
  abbrev size : ℕ
  size = length (jump_code near distance)

  abbrev jump : List Word
  jump = jump_code near (distance -ℤ pos 1)

  abbrev over : Word
  over = branch_by (opposite test) rs1 rs2 (bytes_of (pos (1 + size)))

  after : (k + (1 + size) ≡ k + length (over ∷ jump))
  after = omega (arith, same_size near distance (distance -ℤ pos 1))

  passed_over : (passed : Bool) → passes test (register s rs1) (register s rs2) ≡ passed → StandHere code k (over ∷ jump) → IsBefore k s → pos to ≡ pos k +ℤ distance → to ≤ 16777216
      → ComesBy passed code to (k + length (over ∷ jump)) s
  passed_over true e stands before is small =
      let within = stands.within in
      let one = short code k (k + (1 + size)) (opposite test) rs1 rs2 (pos (1 + size)) s false (opposed test (register s rs1) (register s rs2) ∙ ap not e)
      (stands_first code k over jump stands) before (omega (arith, ints)) (omega (arith, after)) in
      then_on code 0 1 (k + 1) to s one
      (λ t way. jumps_are_done code (k + 1) to near (distance -ℤ pos 1) t (stands_rest code k over jump stands) way.before (omega (arith, ints)) small)
  passed_over false e stands before is small =
      let within = stands.within in
      let one = short code k (k + (1 + size)) (opposite test) rs1 rs2 (pos (1 + size)) s true (opposed test (register s rs1) (register s rs2) ∙ ap not e)
      (stands_first code k over jump stands) before (omega (arith, ints)) (omega (arith, after)) in
      subst (λ n. ComesTo code 0 n s) after (at_least code 1 0 (k + (1 + size)) s (omega arith) one)

pub branches_are_done : BranchesAreDone
branches_are_done code k to Short test rs1 rs2 distance s stands before is small = short code k to test rs1 rs2 distance s _ refl stands before is small
branches_are_done code k to Middle test rs1 rs2 distance s stands before is small = passed_over code k to true test rs1 rs2 distance s _ refl stands before is small
branches_are_done code k to Long test rs1 rs2 distance s stands before is small = passed_over code k to false test rs1 rs2 distance s _ refl stands before is small

-- ---- tests

pub sensed_passes : (sense : Bool) (test : Test) (a b : ℤ) → passes (sensed sense test) a b ≡ met sense (passes test a b)
sensed_passes true test a b = refl
sensed_passes false test a b = opposed test a b

-- a branch has the same length at any distance
pub same_length : (reach : Reach) (test : Test) (rs1 rs2 : ℕ) (one other : ℤ) → length (branch_code reach test rs1 rs2 one) ≡ length (branch_code reach test rs1 rs2 other)
same_length Short test rs1 rs2 one other = refl
same_length Middle test rs1 rs2 one other = refl
same_length Long test rs1 rs2 one other = refl
