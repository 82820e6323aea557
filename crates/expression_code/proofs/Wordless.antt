-- Which sites have no words.
use Rattle.std.proofs.Common.{◌≡◌, ℕ, zero, suc, ◌+◌, ◌<◌, ◌^◌, Bool, true, false, not, ◌&&◌, ◌==◌, nat_lt, if◌then◌else◌, List, [], ◌∷◌, ◌++◌, refl, sym, ap, ◌∙◌, arith}
use Rattle.std.proofs.lemmas.Bool.Decides.{nat_tests}
use Rattle.operator_meaning.specs.declared.operator.Op.{Op}
use Rattle.operator_meaning.specs.declared.operator.Op.TheVariants as op
use Rattle.operator_meaning.specs.declared.site.SiteKind.{SiteKind}
use Rattle.operator_meaning.specs.declared.site.SiteKind.TheVariants as kind
use Rattle.operator_meaning.specs.declared.site.Guard.TheVariants.{Kept}
use Rattle.rv_encode.specs.declared.instruction.Instr.{Instr}
use Rattle.template_runs.specs.declared.registers.Registers.{Registers}
use Rattle.template_runs.specs.Renaming.{all_over}
use Rattle.operator_lowering.specs.Sites.{operand_count}
use Rattle.operator_lowering.specs.Words.{site_words, front, places, way_of, template_words, is_in_place, copy}
use Rattle.code_lines.specs.Words.{Code}
use Rattle.code_lines.proofs.Entering.{has_none}
use Rattle.code_stacks.specs.Places.{Layout, IsLaidOut, stack_register}
use Rattle.code_stacks.specs.Operands.{operand_register}
use Rattle.expression_code.specs.Code.{form_of, site_registers}
use Rattle.expression_code.specs.Straight.{is_site, is_wordless, is_numbered}
use Rattle.expression_code.proofs.Sites.{IsTold}

over_none : (regs : Registers) (instrs : List Instr) → has_none (all_over regs instrs) ≡ has_none instrs
over_none regs [] = refl
over_none regs (instr ∷ instrs) = refl

behind_none : (xs ys : List Instr) → has_none ys ≡ false → has_none (xs ++ ys) ≡ false
behind_none [] ys some = some
behind_none (x ∷ xs) ys some = refl

-- the words of an operator or of plain arithmetic, but for the registers
op_words : (o : Op) (in_place : Bool) (site : ℕ) → has_none (site_words (kind.Call o) (form_of (kind.Call o)) Kept in_place site) ≡ is_wordless (kind.Call o)
op_words op.Add in_place site = refl
op_words op.Sub in_place site = refl
op_words op.AbsS in_place site = refl
op_words op.Shl in_place site = refl
op_words op.Shr in_place site = refl
op_words op.ExtractH in_place site = refl
op_words op.ExtractL in_place site = refl
op_words op.Mult in_place site = refl
op_words op.LMult in_place site = refl
op_words op.Negate in_place site = refl
op_words op.Round in_place site = refl
op_words op.LMac in_place site = refl
op_words op.LMsu in_place site = refl
op_words op.MacR in_place site = refl
op_words op.MsuR in_place site = refl
op_words op.LAdd true site = refl
op_words op.LAdd false site = refl
op_words op.LSub true site = refl
op_words op.LSub false site = refl
op_words op.LNegate in_place site = refl
op_words op.MultR in_place site = refl
op_words op.LShl in_place site = refl
op_words op.LShr in_place site = refl
op_words op.ShrR in_place site = refl
op_words op.LShrR in_place site = refl
op_words op.LAbs in_place site = refl
op_words op.LDepositH in_place site = refl
op_words op.LDepositL in_place site = refl
op_words op.NormS in_place site = refl
op_words op.NormL in_place site = refl
op_words op.DivS in_place site = refl

words_none : (k : SiteKind) (in_place : Bool) (site : ℕ) → is_site k ≡ true → has_none (site_words k (form_of k) Kept in_place site) ≡ is_wordless k
words_none (kind.Call o) in_place site is = op_words o in_place site
words_none kind.Sum true site is = refl
words_none kind.Sum false site is = refl
words_none kind.Difference true site is = refl
words_none kind.Difference false site is = refl
words_none kind.Product in_place site is = refl
words_none kind.Opposite in_place site is = refl
words_none k in_place site is = let e = is in cc

-- one operand is where the result goes
one_place : (depth : ℕ) → operand_register depth 0 ≡ stack_register depth
one_place depth = by_test (nat_lt (depth + 0) 5) refl
  where
    high : (depth : ℕ) → nat_lt (depth + 0) 5 ≡ false → stack_register depth ≡ 14
    high zero is = let e = is in cc
    high (suc zero) is = let e = is in cc
    high (suc (suc zero)) is = let e = is in cc
    high (suc (suc (suc zero))) is = let e = is in cc
    high (suc (suc (suc (suc zero)))) is = let e = is in cc
    high (suc (suc (suc (suc (suc depth))))) is = refl

    by_test : (b : Bool) → nat_lt (depth + 0) 5 ≡ b → (if b then stack_register (depth + 0) else 14) ≡ stack_register depth
    by_test true is = let none : depth + 0 ≡ depth = omega arith in ap stack_register none
    by_test false is = sym (high depth is)

itself : (n m : ℕ) → m ≡ n → (n == m) ≡ true
itself n m same = grind (arith, nat_tests)

-- a copy of the operand to where it is
deposit_none : (depth site : ℕ) → has_none (template_words (kind.Call op.LDepositL) (form_of (kind.Call op.LDepositL)) Kept site (site_registers depth 1)) ≡ true
deposit_none depth site =
    ap (λ (b : Bool). has_none ((if b then [] else copy (stack_register depth) (operand_register depth 0)) ++ [])) (itself (stack_register depth) (operand_register depth 0) (one_place depth))

others : (k : SiteKind) (depth count site : ℕ) → is_site k ≡ true → is_wordless k ≡ false → has_none (template_words k (form_of k) Kept site (site_registers depth count)) ≡ false
others k depth count site is some =
    let regs = site_registers depth count in
    let way = way_of k (form_of k) Kept in
    let instrs = site_words k (form_of k) Kept (is_in_place (places way regs)) site in
    behind_none (front way regs) (all_over (places way regs) instrs) (over_none (places way regs) instrs ∙ words_none k (is_in_place (places way regs)) site is ∙ some)

pub template_none : (k : SiteKind) (depth site : ℕ) → is_site k ≡ true → has_none (template_words k (form_of k) Kept site (site_registers depth (operand_count k))) ≡ is_wordless k
template_none (kind.Call op.LDepositL) depth site is = deposit_none depth site
template_none k depth site is = by_test (is_wordless k) refl
  where
    by_test : (b : Bool) → is_wordless k ≡ b → has_none (template_words k (form_of k) Kept site (site_registers depth (operand_count k))) ≡ is_wordless k
    by_test false some = others k depth (operand_count k) site is some ∙ sym some
    by_test true none = absurd (let e = none in cc)

-- what is held for a site without words is one
wordless_is : (l : Layout) (site : ℕ) (k : SiteKind) → (if l.is_wordless site then is_wordless k else not (is_wordless k)) ≡ true → l.is_wordless site ≡ is_wordless k
wordless_is l site k is = by_tests (l.is_wordless site) (is_wordless k) is
  where
    by_tests : (a b : Bool) → (if a then b else not b) ≡ true → a ≡ b
    by_tests true true is = refl
    by_tests true false is = let e = is in cc
    by_tests false false is = refl
    by_tests false true is = let e = is in cc

pub told : (code : Code) (l : Layout) → IsLaidOut code l → (k : SiteKind) (site depth : ℕ) → is_site k ≡ true → is_numbered l site k ≡ true → IsTold code k (form_of k) site depth (operand_count k)
told code l laid k site depth is numbered =
    let parts = both_true (nat_lt site 4294967296) (if l.is_wordless site then is_wordless k else not (is_wordless k)) numbered in
    record { small = site_small site parts.0; wordless = laid.wordless site ∙ wordless_is l site k parts.1 ∙ sym (template_none k depth site is) }
  where
    both_true : (a b : Bool) → (a && b) ≡ true → (a ≡ true) × (b ≡ true)
    both_true true b e = (refl, e)
    both_true false b e = let f = e in cc

    site_small : (site : ℕ) → nat_lt site 4294967296 ≡ true → site < 2 ^ 32
    site_small site is = grind (arith, nat_tests)
