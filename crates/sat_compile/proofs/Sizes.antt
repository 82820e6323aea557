-- How long the code of a source is, and how many entries and calls it has, against the tokens that it has at least.
use Rattle.std.proofs.Common.{◌≡◌, ℕ, ◌+◌, ◌*◌, ◌≤◌, pos, List, [], ◌∷◌, ◌++◌, length, arith, lit≤, All, flat_map}
use Rattle.std.proofs.lemmas.List.{length-append, length-replicate}
use Rattle.sat_base.specs.declared.position.Pos.{Pos}
use Rattle.first_form.specs.Form.{nesting_of}
use Rattle.first_form.specs.declared.first.First.{First}
use Rattle.first_form.specs.declared.first.FirstExpr.{FirstExpr, Int, Add', Sub', more_of-FirstExpr as boxed}
use Rattle.image_format.specs.declared.image.SiteEntry.{SiteEntry}
use Rattle.rv_encode.specs.declared.instruction.Instr.{Instr}
use Rattle.rv_encode.specs.declared.instruction.Instr.TheVariants.{Addi, Lw}
use Rattle.sat_compile.specs.declared.emit.Operator.{Operator}
use Rattle.sat_compile.specs.declared.emit.Operator.TheVariants as operator
use Rattle.sat_compile.specs.Emission.{slot, operator_code, operand_code, kept_code, call_code, call_entries, expression_code, environment_code, out_code, code_of, expression_entries, entries_from, levels_of, memory_of}
use Rattle.sat_compile.proofs.Entries.{operator_length}
use Rattle.sat_compile.proofs.Nesting.{deepest-within}

-- ---- calls and tokens

-- how many calls an expression has, and these statements
abbrev pub calls_of : FirstExpr → ℕ
calls_of (Int n) = 0
calls_of (Add' tok at _ (boxed left _) _ (boxed right _)) = calls_of left + calls_of right + 1
calls_of (Sub' tok at _ (boxed left _) _ (boxed right _)) = calls_of left + calls_of right + 1

abbrev pub calls_in : List FirstExpr → ℕ
calls_in [] = 0
calls_in (e ∷ es) = calls_of e + calls_in es

-- how many tokens an expression has, brackets around its parts apart: a number is one, and a call has its name, two
-- brackets and a comma besides its operands
abbrev pub tokens_of : FirstExpr → ℕ
tokens_of (Int n) = 1
tokens_of (Add' tok at _ (boxed left _) _ (boxed right _)) = tokens_of left + tokens_of right + 4
tokens_of (Sub' tok at _ (boxed left _) _ (boxed right _)) = tokens_of left + tokens_of right + 4

-- and the statements that write them, each with `sample_out ( ) ;` besides
abbrev pub tokens_in : List FirstExpr → ℕ
tokens_in [] = 0
tokens_in (e ∷ es) = tokens_of e + 4 + tokens_in es

-- ---- code

call_code_length : (op : Operator) (left right : List Instr) → length (call_code op left right) ≡ length left + length right + 11
call_code_length op left right =
    let tail = operator_code op ++ Addi 24 24 (pos 1) ∷ [] in
    let ten = operator_length op in
    omega (arith, length-append left (right ++ tail), length-append right tail, length-append (operator_code op) (Addi 24 24 (pos 1) ∷ []))

kept_code_length : (depth : ℕ) (code : List Instr) → length (kept_code depth code) ≡ length code + 3
kept_code_length depth code = omega (arith, length-append code (Addi 9 8 (pos 0) ∷ Lw 8 26 (slot depth) ∷ []))

operand_code_length : (depth : ℕ) (e : FirstExpr) (code : List Instr) → length (operand_code depth e code) ≤ length code + 3
operand_code_length depth (Int n) code = omega arith
operand_code_length depth (Add' tok at _ left _ right) code = omega (arith, kept_code_length depth code)
operand_code_length depth (Sub' tok at _ left _ right) code = omega (arith, kept_code_length depth code)

call_code_small : (op : Operator) (depth : ℕ) (left right : FirstExpr)
    → length (expression_code depth left) ≤ 4 * tokens_of left → length (expression_code (depth + 1) right) ≤ 4 * tokens_of right
    → length (call_code op (expression_code depth left) (operand_code depth right (expression_code (depth + 1) right))) ≤ 4 * (tokens_of left + tokens_of right + 4)
call_code_small op depth left right h h' =
    let second = operand_code depth right (expression_code (depth + 1) right) in
    omega (arith, call_code_length op (expression_code depth left) second, operand_code_length depth right (expression_code (depth + 1) right))

-- at most 4 words of code for each token
expression_code_small : (e : FirstExpr) (depth : ℕ) → length (expression_code depth e) ≤ 4 * tokens_of e
expression_code_small (Int n) depth = lit≤ tt
expression_code_small (Add' tok at _ (boxed left _) _ (boxed right _)) depth =
    call_code_small operator.Add depth left right (expression_code_small left depth) (expression_code_small right (depth + 1))
expression_code_small (Sub' tok at _ (boxed left _) _ (boxed right _)) depth =
    call_code_small operator.Sub depth left right (expression_code_small left depth) (expression_code_small right (depth + 1))

out_code_small : (e : FirstExpr) → length (out_code e) ≤ 4 * (tokens_of e + 4)
out_code_small e = omega (arith, length-append (expression_code 0 e) (Addi 10 8 (pos 0) ∷ environment_code (pos 3)), expression_code_small e 0)

outs_code_small : (outs : List FirstExpr) → length (flat_map out_code outs) ≤ 4 * tokens_in outs
outs_code_small [] = lit≤ tt
outs_code_small (e ∷ es) = omega (arith, length-append (out_code e) (flat_map out_code es), out_code_small e, outs_code_small es)

-- ---- entries and calls

-- an entry, and a call, has a token of its own
call_entries_small : (op : Operator) (at : Pos) (start : ℕ) (left right : List Instr) (lefts rights : List SiteEntry) (m n : ℕ)
    → length lefts ≤ m → length rights ≤ n → length (call_entries op at start left right lefts rights) ≤ m + n + 4
call_entries_small op at start left right lefts rights m n h h' = omega (arith, length-append lefts rights)

expression_entries_small : (e : FirstExpr) (start depth : ℕ) → length (expression_entries start depth e) ≤ tokens_of e
expression_entries_small (Int n) start depth = omega arith
expression_entries_small (Add' tok at _ (boxed left _) _ (boxed right _)) start depth =
    call_entries_small operator.Add at start (expression_code depth left) (operand_code depth right (expression_code (depth + 1) right)) _ _ _ _
    (expression_entries_small left start depth) (expression_entries_small right (start + length (expression_code depth left) + 1) (depth + 1))
expression_entries_small (Sub' tok at _ (boxed left _) _ (boxed right _)) start depth =
    call_entries_small operator.Sub at start (expression_code depth left) (operand_code depth right (expression_code (depth + 1) right)) _ _ _ _
    (expression_entries_small left start depth) (expression_entries_small right (start + length (expression_code depth left) + 1) (depth + 1))

entries_small : (outs : List FirstExpr) (start : ℕ) → length (entries_from start outs) ≤ tokens_in outs
entries_small [] start = lit≤ tt
entries_small (e ∷ es) start =
    let after = start + length (out_code e) in
    omega (arith, length-append (expression_entries start 0 e) (entries_from after es), expression_entries_small e start 0, entries_small es after)

calls_of_small : (e : FirstExpr) → calls_of e ≤ tokens_of e
calls_of_small (Int n) = lit≤ tt
calls_of_small (Add' tok at _ (boxed left _) _ (boxed right _)) = omega (arith, calls_of_small left, calls_of_small right)
calls_of_small (Sub' tok at _ (boxed left _) _ (boxed right _)) = omega (arith, calls_of_small left, calls_of_small right)

calls_in_small : (outs : List FirstExpr) → calls_in outs ≤ tokens_in outs
calls_in_small [] = lit≤ tt
calls_in_small (e ∷ es) = omega (arith, calls_of_small e, calls_in_small es)

-- ---- within the limits

-- the code has at most 16777216 words
pub code_small : (first : First) → tokens_in first.outs ≤ 131072 → length (code_of first) ≤ 16777216
code_small first few = omega (arith, length-append (flat_map out_code first.outs) (environment_code (pos 4)), outs_code_small first.outs, few)

-- so are data memory and entries
pub memory_whole : (first : First) → length (memory_of first) ≡ 4 * levels_of first
memory_whole first = length-replicate (4 * levels_of first) 0

pub memory_small : (first : First) → All (λ e. nesting_of e ≤ 64) first.outs → length (memory_of first) ≤ 16777216
memory_small first shallow = omega (arith, memory_whole first, deepest-within 64 first.outs shallow)

pub sites_small : (first : First) → tokens_in first.outs ≤ 131072 → length (entries_from 1 first.outs) ≤ 131072
sites_small first few = omega (arith, entries_small first.outs 1, few)

-- the statements have at most 131072 calls
pub calls_small : (first : First) → tokens_in first.outs ≤ 131072 → calls_in first.outs ≤ 131072
calls_small first few = omega (arith, calls_in_small first.outs, few)
