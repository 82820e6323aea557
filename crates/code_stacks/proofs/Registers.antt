-- Which registers are apart.
use Rattle.std.proofs.Common.{◌≡◌, ◌≢◌, ℕ, zero, suc, ◌+◌, ◌<◌, ◌≤◌, Bool, true, false, ◌==◌, nat_lt, if◌then◌else◌, refl, sym, ap, ◌∙◌, arith}
use Rattle.std.proofs.lemmas.Bool.Decides.{nat_tests}
use Rattle.template_runs.specs.Courses.{is_scratch}
use Rattle.template_runs.specs.Renaming.{IsPlace}
use Rattle.code_stacks.specs.Places.{stack_register, scratch_register}
use Rattle.code_stacks.specs.Operands.{operand_register}

-- the registers of values and operands
pub record IsWork (n : ℕ) : Type 0 where
  pub least : 8 ≤ n
  pub most : n ≤ 16
  pub other : n ≢ 10

work : (n : ℕ) → (nat_lt 7 n) ≡ true → (nat_lt n 17) ≡ true → (n == 10) ≡ false → IsWork n
work n least most other = record { least = grind (arith, nat_tests); most = grind (arith, nat_tests); other = λ e. grind (arith, nat_tests) }

pub stack_work : (place : ℕ) → IsWork (stack_register place)
stack_work zero = work 8 refl refl refl
stack_work (suc zero) = work 9 refl refl refl
stack_work (suc (suc zero)) = work 11 refl refl refl
stack_work (suc (suc (suc zero))) = work 12 refl refl refl
stack_work (suc (suc (suc (suc zero)))) = work 13 refl refl refl
stack_work (suc (suc (suc (suc (suc place))))) = work 14 refl refl refl

pub scratch_work : (operand : ℕ) → IsWork (scratch_register operand)
scratch_work zero = work 14 refl refl refl
scratch_work (suc zero) = work 15 refl refl refl
scratch_work (suc (suc operand)) = work 16 refl refl refl

either_work : (b : Bool) (one other : ℕ) → IsWork one → IsWork other → IsWork (if b then one else other)
either_work true one other is is2 = is
either_work false one other is is2 = is2

pub operand_work : (depth operand : ℕ) → IsWork (operand_register depth operand)
operand_work depth operand = either_work (nat_lt (depth + operand) 5) _ _ (stack_work (depth + operand)) (scratch_work operand)

-- a register of values is one of those that a site may have, and no template writes it between
pub work_place : (n : ℕ) → IsWork n → IsPlace n
work_place n is = let least = is.least in let most = is.most in (least, omega arith)

pub work_apart : (n other : ℕ) → IsWork n → nat_lt other 8 ≡ true → n ≢ other
work_apart n other is low e = let least = is.least in grind (arith, nat_tests)

pub work_below : (n other : ℕ) → IsWork n → nat_lt 16 other ≡ true → n ≢ other
work_below n other is high e = let most = is.most in grind (arith, nat_tests)

pub work_kept : (n : ℕ) → IsWork n → is_scratch n ≡ false
work_kept n is = let least = is.least in let most = is.most in grind (arith, nat_tests)

-- ---- values in different registers

abbrev index_of : ℕ → ℕ
index_of n = if n == 8 then 0 else (if n == 9 then 1 else (if n == 11 then 2 else (if n == 12 then 3 else (if n == 13 then 4 else 5))))

indexed : (place : ℕ) → index_of (stack_register place) ≡ (if nat_lt place 5 then place else 5)
indexed zero = refl
indexed (suc zero) = refl
indexed (suc (suc zero)) = refl
indexed (suc (suc (suc zero))) = refl
indexed (suc (suc (suc (suc zero)))) = refl
indexed (suc (suc (suc (suc (suc place))))) =
    let high : nat_lt (suc (suc (suc (suc (suc place))))) 5 ≡ false = grind (arith, nat_tests) in rw high refl

pub stack_apart : (place other : ℕ) → place < 5 → place < other → stack_register place ≢ stack_register other
stack_apart place other low less e =
    let same : (if nat_lt place 5 then place else 5) ≡ (if nat_lt other 5 then other else 5) = sym (indexed place) ∙ ap index_of e ∙ indexed other in
    grind (arith, nat_tests)

pub stack_low : (place : ℕ) → place < 5 → stack_register place < 14
stack_low zero less = omega arith
stack_low (suc zero) less = omega arith
stack_low (suc (suc zero)) less = omega arith
stack_low (suc (suc (suc zero))) less = omega arith
stack_low (suc (suc (suc (suc zero)))) less = omega arith
stack_low (suc (suc (suc (suc (suc place))))) less = absurd (omega arith)

pub scratch_high : (operand : ℕ) → 14 ≤ scratch_register operand
scratch_high zero = omega arith
scratch_high (suc zero) = omega arith
scratch_high (suc (suc operand)) = omega arith

-- the register of an operand is not the one into which another comes
apart_by : (b : Bool) (one other scratch : ℕ) → (b ≡ true → one ≢ scratch) → (b ≡ false → other ≢ scratch) → (if b then one else other) ≢ scratch
apart_by true one other scratch p q = p refl
apart_by false one other scratch p q = q refl

pub operand_apart : (depth operand next : ℕ) → scratch_register operand ≢ scratch_register next → operand_register depth operand ≢ scratch_register next
operand_apart depth operand next differ =
    apart_by (nat_lt (depth + operand) 5) _ _ _
    (λ low e. let a = stack_low (depth + operand) (grind (arith, nat_tests)) in let b = scratch_high next in omega (arith, a, b, e))
    (λ high. differ)

scratch_is : (operand : ℕ) → operand < 3 → scratch_register operand ≡ 14 + operand
scratch_is zero few = refl
scratch_is (suc zero) few = refl
scratch_is (suc (suc zero)) few = refl
scratch_is (suc (suc (suc operand))) few = absurd (omega arith)

pub scratch_apart : (operand next : ℕ) → operand < next → next < 3 → scratch_register operand ≢ scratch_register next
scratch_apart operand next less few e = omega (arith, scratch_is operand (omega arith), scratch_is next few, e)

pub not_scratch : (n operand : ℕ) → n ≢ 14 → n ≢ 15 → n ≢ 16 → n ≢ scratch_register operand
not_scratch n zero fourteen fifteen sixteen = fourteen
not_scratch n (suc zero) fourteen fifteen sixteen = fifteen
not_scratch n (suc (suc operand)) fourteen fifteen sixteen = sixteen
