-- The words of the pieces of which all code is made.
use Rattle.std.proofs.Common.{ℕ, zero, suc, ◌+◌, ◌≤◌, ℤ, pos, ◌+ℤ◌, Bool, true, false, nat_lt, if◌then◌else◌, List, [], ◌∷◌, ◌++◌, length, length-append, lit≤, arith}
use Rattle.code_lines.specs.declared.word.Word.{Word}
use Rattle.code_lines.specs.Own.{Add, Sltu}
use Rattle.code_lines.specs.Pieces.{is_near, number_line, number_code, count_line, flush_code}
use Rattle.code_jumps.specs.declared.branch.Test.{Test}
use Rattle.code_jumps.specs.declared.branch.Reach.{Reach}
use Rattle.code_jumps.specs.declared.branch.Reach.TheVariants.{Short, Middle, Long}
use Rattle.code_jumps.specs.Jumps.{branch_code, jump_code, jump_where, past_code, sensed}
use Rattle.code_memory.specs.Memory.{access_code, access_line, load_code, store_code}
use Rattle.code_stacks.specs.Places.{Layout, in_registers, kept_slot, scratch_register, stack_register}
use Rattle.code_stacks.specs.Operands.{fetch_code, fetches, finish_code}
use Rattle.expression_code.specs.Code.{around}

pub one_of : {A : Type 0} (b : Bool) (xs ys : List A) (most : ℕ) → length xs ≤ most → length ys ≤ most → length (if b then xs else ys) ≤ most
one_of true xs ys most first other = first
one_of false xs ys most first other = other

pub joined : {A : Type 0} (xs ys : List A) (a b : ℕ) → length xs ≤ a → length ys ≤ b → length (xs ++ ys) ≤ a + b
joined xs ys a b few less = omega (arith, few, less, length-append xs ys)

-- ---- numbers, the count, and words of the memory

pub number_short : (rd : ℕ) (n : ℤ) → length (number_code rd n) ≤ 2
number_short rd n = by_test (is_near n)
  where
    by_test : (near : Bool) → length (number_line near rd n) ≤ 2
    by_test true = lit≤ tt
    by_test false = lit≤ tt

pub flush_short : (weight : ℕ) → length (flush_code weight) ≤ 5
flush_short zero = lit≤ tt
flush_short (suc weight) = by_test (nat_lt (suc weight) 2048)
  where
    by_test : (near : Bool) → length (count_line near (suc weight)) ≤ 5
    by_test true = lit≤ tt
    by_test false = omega (arith, number_short 6 (pos (suc weight)), length-append (number_code 6 (pos (suc weight))) (Add 24 24 6 ∷ Sltu 5 24 6 ∷ Add 25 25 5 ∷ []))

access_short : (access : ℕ → ℤ → Word) (slot : ℕ) → length (access_code access slot) ≤ 2
access_short access slot = by_test (nat_lt slot 4096)
  where
    by_test : (near : Bool) → length (access_line near access slot) ≤ 2
    by_test true = lit≤ tt
    by_test false = lit≤ tt

pub load_short : (rd slot : ℕ) → length (load_code rd slot) ≤ 2
load_short rd slot = access_short _ slot

pub store_short : (rs slot : ℕ) → length (store_code rs slot) ≤ 2
store_short rs slot = access_short _ slot

-- ---- jumps

jump_short : (near : Bool) (distance : ℤ) → length (jump_code near distance) ≤ 2
jump_short true distance = lit≤ tt
jump_short false distance = lit≤ tt

pub past_short : (near : Bool) (distance : ℤ) → length (past_code near distance) ≤ 2
past_short near distance = jump_short near (pos (length (jump_code near distance)) +ℤ distance)

branch_short : (reach : Reach) (test : Test) (rs1 rs2 : ℕ) (distance : ℤ) → length (branch_code reach test rs1 rs2 distance) ≤ 3
branch_short Short test rs1 rs2 distance = lit≤ tt
branch_short Middle test rs1 rs2 distance = lit≤ tt
branch_short Long test rs1 rs2 distance = lit≤ tt

pub where_short : (reach : Reach) (sense : Bool) (test : Test) (rs1 rs2 : ℕ) (distance : ℤ) → length (jump_where reach sense test rs1 rs2 distance) ≤ 3
where_short reach sense test rs1 rs2 distance =
    branch_short reach (sensed sense test) rs1 rs2 (pos (length (branch_code reach (sensed sense test) rs1 rs2 distance)) +ℤ distance)

-- ---- operands and results

module _ (l : Layout) (depth : ℕ) where
  pub fetch_short : (operand : ℕ) → length (fetch_code l depth operand) ≤ 2
  fetch_short operand = one_of (nat_lt (depth + operand) in_registers) [] (load_code (scratch_register operand) (kept_slot l (depth + operand))) 2 (omega arith) (load_short (scratch_register operand) (kept_slot l (depth + operand)))

  pub fetches_short : (count : ℕ) → length (fetches l depth count) ≤ 6
  fetches_short zero = omega arith
  fetches_short (suc zero) = omega (arith, fetch_short 0)
  fetches_short (suc (suc zero)) = omega (arith, fetch_short 0, fetch_short 1, length-append (fetch_code l depth 0) (fetch_code l depth 1))
  fetches_short (suc (suc (suc count))) =
      let rest = fetch_code l depth 1 ++ fetch_code l depth 2 in
      omega (arith, fetch_short 0, fetch_short 1, fetch_short 2, length-append (fetch_code l depth 0) rest, length-append (fetch_code l depth 1) (fetch_code l depth 2))

  pub finish_short : length (finish_code l depth) ≤ 2
  finish_short = one_of (nat_lt depth in_registers) [] (store_code (stack_register depth) (kept_slot l depth)) 2 (omega arith) (store_short (stack_register depth) (kept_slot l depth))

  pub around_short : (count : ℕ) (words : List Word) → length (around l depth count words) ≤ length words + 8
  around_short count words =
      omega (arith, fetches_short count, finish_short, length-append (fetches l depth count) (words ++ finish_code l depth), length-append words (finish_code l depth))
