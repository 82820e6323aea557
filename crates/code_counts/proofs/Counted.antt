-- What code writes and compares, and how that of two parts adds up.
use Rattle.std.proofs.Common.{◌≡◌, ℕ, zero, suc, ◌+◌, ◌≤◌, ◌==◌, Bool, true, false, if◌then◌else◌, List, [], ◌∷◌, ◌++◌, filter, map, length, replicate, refl, length-append, lit≤, arith}
use Rattle.std.proofs.lemmas.List.Elements.{filter-append}
use Rattle.std.proofs.lemmas.List.{replicate-append-replicate}
use Rattle.rv_encode.specs.declared.instruction.Instr.{Instr}
use Rattle.rv_encode.specs.declared.register.TheConstants.{OVERFLOW}
use Rattle.rv_encode.specs.Comparing.{is_comparing}
use Rattle.code_lines.specs.declared.word.Word.{Word}
use Rattle.code_lines.specs.declared.word.Word.TheVariants.{Own, Further}
use Rattle.code_lines.specs.Words.{template_of}
use Rattle.code_stacks.specs.Places.{stack_register, scratch_register}
use Rattle.template_fields.specs.Writes.{is_overflow_write}
use Rattle.code_counts.specs.Own.{compares, copy_to_overflow, writes_overflow}

-- so many words write Overflow, each as an assignment does, and at most so many compare
pub record Counted (words : List Word) (writes most : ℕ) : Type 0 where
  pub written : filter writes_overflow words ≡ replicate writes copy_to_overflow
  pub few : length (filter compares words) ≤ most

-- ---- parts

pub joined : {xs ys : List Word} {k j m n : ℕ} → Counted xs k m → Counted ys j n → Counted (xs ++ ys) (k + j) (m + n)
joined {xs} {ys} {k} {j} {m} {n} one other = record {
  written = rw (filter-append writes_overflow xs ys, one.written, other.written) (replicate-append-replicate k j copy_to_overflow);
  few = rw (filter-append compares xs ys) (omega (arith, one.few, other.few, length-append (filter compares xs) (filter compares ys)));
}

-- fewer are not more
pub within : {xs : List Word} {k j m n : ℕ} → Counted xs k m → k ≡ j → m ≤ n → Counted xs j n
within {xs} {k} {j} {m} {n} counted same less = record { written = rw (← same) counted.written; few = omega (arith, counted.few, less) }

-- where one part neither writes Overflow nor compares
pub behind_still : {xs ys : List Word} {k m : ℕ} → Counted xs 0 0 → Counted ys k m → Counted (xs ++ ys) k m
behind_still one other = within (joined one other) (omega arith) (omega arith)

pub before_still : {xs ys : List Word} {k m : ℕ} → Counted xs k m → Counted ys 0 0 → Counted (xs ++ ys) k m
before_still one other = within (joined one other) (omega arith) (omega arith)

pub none : Counted [] 0 0
none = record { written = refl; few = lit≤ tt }

pub either : (b : Bool) {xs ys : List Word} {k m : ℕ} → Counted xs k m → Counted ys k m → Counted (if b then xs else ys) k m
either true one other = one
either false one other = other

-- ---- single words

abbrev is_unwritten : Instr → Type 0
is_unwritten instr = is_overflow_write instr ≡ false

pub still : (instr : Instr) → is_unwritten instr → is_comparing instr ≡ false → Counted (Own instr ∷ []) 0 0
still instr unwritten uncompared = record { written = rw unwritten refl; few = rw uncompared (lit≤ tt) }

pub one_compares : (instr : Instr) → is_unwritten instr → Counted (Own instr ∷ []) 0 1
one_compares instr unwritten = record { written = rw unwritten refl; few = by_test (is_comparing instr) }
  where
    by_test : (b : Bool) → length (if b then Own instr ∷ [] else []) ≤ 1
    by_test true = lit≤ tt
    by_test false = lit≤ tt

pub copied : Counted (copy_to_overflow ∷ []) 1 0
copied = record { written = refl; few = lit≤ tt }

-- ---- registers

pub stack_kept : (depth : ℕ) → (stack_register depth == OVERFLOW) ≡ false
stack_kept zero = refl
stack_kept (suc zero) = refl
stack_kept (suc (suc zero)) = refl
stack_kept (suc (suc (suc zero))) = refl
stack_kept (suc (suc (suc (suc zero)))) = refl
stack_kept (suc (suc (suc (suc (suc depth))))) = refl

pub scratch_kept : (operand : ℕ) → (scratch_register operand == OVERFLOW) ≡ false
scratch_kept zero = refl
scratch_kept (suc zero) = refl
scratch_kept (suc (suc operand)) = refl

-- ---- sites, whose words are not the code's own

further_still : (instrs : List Instr) → Counted (map Further instrs) 0 0
further_still [] = none
further_still (instr ∷ instrs) = record { written = (further_still instrs).written; few = (further_still instrs).few }

pub template_still : (site : ℕ) (instrs : List Instr) → Counted (template_of site instrs) 0 0
template_still site [] = none
template_still site (instr ∷ instrs) = record { written = (further_still instrs).written; few = (further_still instrs).few }
