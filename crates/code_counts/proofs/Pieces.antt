-- The pieces of which all code is made write no Overflow, and of them branches alone compare.
use Rattle.std.proofs.Common.{◌≡◌, ℕ, zero, suc, ◌+◌, ◌==◌, ℤ, pos, ◌+ℤ◌, ◌-ℤ◌, Bool, true, false, nat_lt, List, [], ◌∷◌, length, refl}
use Rattle.rv_encode.specs.declared.instruction.Instr.TheVariants as instr
use Rattle.rv_encode.specs.declared.register.TheConstants.{OVERFLOW}
use Rattle.code_lines.specs.declared.word.Word.{Word}
use Rattle.code_lines.specs.Pieces.{is_near, upper_of, lower_of, number_line, number_code, count_line, flush_code}
use Rattle.code_jumps.specs.declared.branch.Test.{Test}
use Rattle.code_jumps.specs.declared.branch.Test.TheVariants.{Equal, Unequal, Less, NotLess}
use Rattle.code_jumps.specs.declared.branch.Reach.{Reach}
use Rattle.code_jumps.specs.declared.branch.Reach.TheVariants.{Short, Middle, Long}
use Rattle.code_jumps.specs.Jumps.{branch_by, branch_code, bytes_of, jump_code, jump_where, opposite, past_code, sensed}
use Rattle.rv_encode.specs.State.{data_start}
use Rattle.code_lines.specs.Own.{Lw, Sw}
use Rattle.code_memory.specs.Memory.{access_code, access_line, base_offset, base_register, load_code, store_code}
use Rattle.code_stacks.specs.Places.{Layout, in_registers, kept_slot, scratch_register, stack_register}
use Rattle.code_stacks.specs.Operands.{fetch_code, fetches, finish_code}
use Rattle.expression_code.specs.Code.{around}
use Rattle.code_counts.proofs.Counted.{Counted, behind_still, before_still, either, none, one_compares, scratch_kept, still}

-- ---- numbers, the count, and words of the memory

pub number_still : (rd : ℕ) (n : ℤ) → (rd == OVERFLOW) ≡ false → Counted (number_code rd n) 0 0
number_still rd n other = by_test (is_near n)
  where
    by_test : (near : Bool) → Counted (number_line near rd n) 0 0
    by_test true = still (instr.Addi rd 0 n) other refl
    by_test false = behind_still (still (instr.Lui rd (upper_of n)) other refl) (still (instr.Addi rd rd (lower_of n)) other refl)

-- the carry is found by a comparison that reads the count
pub flush_still : (weight : ℕ) → Counted (flush_code weight) 0 0
flush_still zero = none
flush_still (suc weight) = by_test (nat_lt (suc weight) 2048)
  where
    by_test : (near : Bool) → Counted (count_line near (suc weight)) 0 0
    by_test true =
        behind_still (still (instr.Addi 24 24 (pos (suc weight))) refl refl) (behind_still (still (instr.Sltiu 5 24 (pos (suc weight))) refl refl) (still (instr.Add 25 25 5) refl refl))
    by_test false =
        behind_still (number_still 6 (pos (suc weight)) refl)
        (behind_still (still (instr.Add 24 24 6) refl refl) (behind_still (still (instr.Sltu 5 24 6) refl refl) (still (instr.Add 25 25 5) refl refl)))

access_still : (access : ℕ → ℤ → Word) (slot : ℕ) → ((rs : ℕ) (imm : ℤ) → Counted (access rs imm ∷ []) 0 0) → Counted (access_code access slot) 0 0
access_still access slot quiet = by_test (nat_lt slot 4096)
  where
    by_test : (near : Bool) → Counted (access_line near access slot) 0 0
    by_test true = quiet base_register (pos slot -ℤ pos base_offset)
    by_test false = behind_still (still (instr.Lui 5 (upper_of (pos (data_start + slot)))) refl refl) (quiet 5 (lower_of (pos (data_start + slot))))

pub load_still : (rd slot : ℕ) → (rd == OVERFLOW) ≡ false → Counted (load_code rd slot) 0 0
load_still rd slot other = access_still (λ rs imm. Lw rd rs imm) slot (λ rs imm. still (instr.Lw rd rs imm) other refl)

pub store_still : (rs slot : ℕ) → Counted (store_code rs slot) 0 0
store_still rs slot = access_still (λ address imm. Sw address rs imm) slot (λ address imm. still (instr.Sw address rs imm) refl refl)

-- ---- jumps

jump_still : (near : Bool) (distance : ℤ) → Counted (jump_code near distance) 0 0
jump_still true distance = still (instr.Jal 0 (bytes_of distance)) refl refl
jump_still false distance = behind_still (still (instr.Auipc 5 (upper_of (bytes_of distance))) refl refl) (still (instr.Jalr 0 5 (lower_of (bytes_of distance))) refl refl)

pub past_still : (near : Bool) (distance : ℤ) → Counted (past_code near distance) 0 0
past_still near distance = jump_still near (pos (length (jump_code near distance)) +ℤ distance)

branch_compares : (test : Test) (rs1 rs2 : ℕ) (imm : ℤ) → Counted (branch_by test rs1 rs2 imm ∷ []) 0 1
branch_compares Equal rs1 rs2 imm = one_compares (instr.Beq rs1 rs2 imm) refl
branch_compares Unequal rs1 rs2 imm = one_compares (instr.Bne rs1 rs2 imm) refl
branch_compares Less rs1 rs2 imm = one_compares (instr.Blt rs1 rs2 imm) refl
branch_compares NotLess rs1 rs2 imm = one_compares (instr.Bge rs1 rs2 imm) refl

over_compares : (near : Bool) (test : Test) (rs1 rs2 : ℕ) (distance : ℤ)
    → Counted (branch_by (opposite test) rs1 rs2 (bytes_of (pos (1 + length (jump_code near distance)))) ∷ jump_code near (distance -ℤ pos 1)) 0 1
over_compares near test rs1 rs2 distance =
    before_still (branch_compares (opposite test) rs1 rs2 (bytes_of (pos (1 + length (jump_code near distance))))) (jump_still near (distance -ℤ pos 1))

branches_compare : (reach : Reach) (test : Test) (rs1 rs2 : ℕ) (distance : ℤ) → Counted (branch_code reach test rs1 rs2 distance) 0 1
branches_compare Short test rs1 rs2 distance = branch_compares test rs1 rs2 (bytes_of distance)
branches_compare Middle test rs1 rs2 distance = over_compares true test rs1 rs2 distance
branches_compare Long test rs1 rs2 distance = over_compares false test rs1 rs2 distance

pub where_compares : (reach : Reach) (sense : Bool) (test : Test) (rs1 rs2 : ℕ) (distance : ℤ) → Counted (jump_where reach sense test rs1 rs2 distance) 0 1
where_compares reach sense test rs1 rs2 distance =
    branches_compare reach (sensed sense test) rs1 rs2 (pos (length (branch_code reach (sensed sense test) rs1 rs2 distance)) +ℤ distance)

-- ---- operands and results

module _ (l : Layout) (depth : ℕ) where
  fetch_still : (operand : ℕ) → Counted (fetch_code l depth operand) 0 0
  fetch_still operand = either (nat_lt (depth + operand) in_registers) none (load_still (scratch_register operand) (kept_slot l (depth + operand)) (scratch_kept operand))

  pub fetches_still : (count : ℕ) → Counted (fetches l depth count) 0 0
  fetches_still zero = none
  fetches_still (suc zero) = fetch_still 0
  fetches_still (suc (suc zero)) = behind_still (fetch_still 0) (fetch_still 1)
  fetches_still (suc (suc (suc count))) = behind_still (fetch_still 0) (behind_still (fetch_still 1) (fetch_still 2))

  pub finish_still : Counted (finish_code l depth) 0 0
  finish_still = either (nat_lt depth in_registers) none (store_still (stack_register depth) (kept_slot l depth))

  pub around_counted : (count : ℕ) {words : List Word} {most : ℕ} → Counted words 0 most → Counted (around l depth count words) 0 most
  around_counted count counted = behind_still (fetches_still count) (before_still counted finish_still)
