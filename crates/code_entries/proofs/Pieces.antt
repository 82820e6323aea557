-- The pieces of which all code is made are words of its own.
use Rattle.std.proofs.Common.{ℕ, zero, suc, ◌+◌, ℤ, pos, ◌+ℤ◌, ◌-ℤ◌, Bool, true, false, nat_lt, List, [], ◌∷◌, length, refl}
use Rattle.code_lines.specs.declared.word.Word.{Word}
use Rattle.code_lines.specs.Own.{Add, Lw, Sltu, Sw}
use Rattle.code_lines.specs.Pieces.{is_near, number_line, number_code, count_line, flush_code}
use Rattle.code_jumps.specs.declared.branch.Test.{Test}
use Rattle.code_jumps.specs.declared.branch.Test.TheVariants.{Equal}
use Rattle.code_jumps.specs.declared.branch.Reach.{Reach}
use Rattle.code_jumps.specs.declared.branch.Reach.TheVariants.{Short, Middle, Long}
use Rattle.code_jumps.specs.Jumps.{branch_by, branch_code, bytes_of, jump_code, jump_where, opposite, past_code, sensed}
use Rattle.code_memory.specs.Memory.{access_line, load_code, store_code}
use Rattle.code_stacks.specs.Places.{Layout, in_registers, kept_slot, scratch_register, stack_register}
use Rattle.code_stacks.specs.Operands.{fetch_code, fetches, finish_code}
use Rattle.expression_code.specs.Code.{around}
use Rattle.code_pieces.specs.declared.piece.Entry.{Entry}
use Rattle.code_entries.specs.Pieces.{IsMade}
use Rattle.code_entries.proofs.Made.{before_plain, either, joined, none, plain}

-- ---- numbers, the count, and words of the memory

pub number_plain : (rd : ℕ) (n : ℤ) → IsMade (number_code rd n) []
number_plain rd n = by_test (is_near n)
  where
    by_test : (near : Bool) → IsMade (number_line near rd n) []
    by_test true = plain (number_line true rd n) refl
    by_test false = plain (number_line false rd n) refl

pub flush_plain : (weight : ℕ) → IsMade (flush_code weight) []
flush_plain zero = none
flush_plain (suc weight) = by_test (nat_lt (suc weight) 2048)
  where
    by_test : (near : Bool) → IsMade (count_line near (suc weight)) []
    by_test true = plain (count_line true (suc weight)) refl
    by_test false = joined (number_plain 6 (pos (suc weight))) (plain (Add 24 24 6 ∷ Sltu 5 24 6 ∷ Add 25 25 5 ∷ []) refl)

pub load_plain : (rd slot : ℕ) → IsMade (load_code rd slot) []
load_plain rd slot = by_test (nat_lt slot 4096)
  where
    by_test : (near : Bool) → IsMade (access_line near (λ rs imm. Lw rd rs imm) slot) []
    by_test true = plain (access_line true (λ rs imm. Lw rd rs imm) slot) refl
    by_test false = plain (access_line false (λ rs imm. Lw rd rs imm) slot) refl

pub store_plain : (rs slot : ℕ) → IsMade (store_code rs slot) []
store_plain rs slot = by_test (nat_lt slot 4096)
  where
    by_test : (near : Bool) → IsMade (access_line near (λ address imm. Sw address rs imm) slot) []
    by_test true = plain (access_line true (λ address imm. Sw address rs imm) slot) refl
    by_test false = plain (access_line false (λ address imm. Sw address rs imm) slot) refl

-- ---- jumps

jump_plain : (near : Bool) (distance : ℤ) → IsMade (jump_code near distance) []
jump_plain true distance = plain (jump_code true distance) refl
jump_plain false distance = plain (jump_code false distance) refl

pub past_plain : (near : Bool) (distance : ℤ) → IsMade (past_code near distance) []
past_plain near distance = jump_plain near (pos (length (jump_code near distance)) +ℤ distance)

by_plain : (test : Test) (rs1 rs2 : ℕ) (imm : ℤ) → IsMade (branch_by test rs1 rs2 imm ∷ []) []
by_plain Equal rs1 rs2 imm = plain (branch_by Equal rs1 rs2 imm ∷ []) refl
by_plain test rs1 rs2 imm = plain (branch_by test rs1 rs2 imm ∷ []) refl

over_plain : (near : Bool) (test : Test) (rs1 rs2 : ℕ) (distance : ℤ)
    → IsMade (branch_by (opposite test) rs1 rs2 (bytes_of (pos (1 + length (jump_code near distance)))) ∷ jump_code near (distance -ℤ pos 1)) []
over_plain near test rs1 rs2 distance =
    joined (by_plain (opposite test) rs1 rs2 (bytes_of (pos (1 + length (jump_code near distance))))) (jump_plain near (distance -ℤ pos 1))

branch_plain : (reach : Reach) (test : Test) (rs1 rs2 : ℕ) (distance : ℤ) → IsMade (branch_code reach test rs1 rs2 distance) []
branch_plain Short test rs1 rs2 distance = by_plain test rs1 rs2 (bytes_of distance)
branch_plain Middle test rs1 rs2 distance = over_plain true test rs1 rs2 distance
branch_plain Long test rs1 rs2 distance = over_plain false test rs1 rs2 distance

pub where_plain : (reach : Reach) (sense : Bool) (test : Test) (rs1 rs2 : ℕ) (distance : ℤ) → IsMade (jump_where reach sense test rs1 rs2 distance) []
where_plain reach sense test rs1 rs2 distance =
    branch_plain reach (sensed sense test) rs1 rs2 (pos (length (branch_code reach (sensed sense test) rs1 rs2 distance)) +ℤ distance)

-- ---- operands and results

module _ (l : Layout) (depth : ℕ) where
  fetch_plain : (operand : ℕ) → IsMade (fetch_code l depth operand) []
  fetch_plain operand = either (nat_lt (depth + operand) in_registers) none (load_plain (scratch_register operand) (kept_slot l (depth + operand)))

  pub fetches_plain : (count : ℕ) → IsMade (fetches l depth count) []
  fetches_plain zero = none
  fetches_plain (suc zero) = fetch_plain 0
  fetches_plain (suc (suc zero)) = joined (fetch_plain 0) (fetch_plain 1)
  fetches_plain (suc (suc (suc count))) = joined (fetch_plain 0) (joined (fetch_plain 1) (fetch_plain 2))

  pub finish_plain : IsMade (finish_code l depth) []
  finish_plain = either (nat_lt depth in_registers) none (store_plain (stack_register depth) (kept_slot l depth))

  pub around_made : (count : ℕ) {words : List Word} {entries : List Entry} → IsMade words entries → IsMade (around l depth count words) entries
  around_made count made = joined (fetches_plain count) (before_plain made finish_plain)
