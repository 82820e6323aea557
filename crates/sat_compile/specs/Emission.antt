-- The instructions and the site entries of a source of the first form. In a pattern `boxed e` is a box with e
-- in it.
use Rattle.std.specs.Prelude.{ℕ, ◌+◌, ◌-◌, ◌*◌, ◌/◌, max, ℤ, pos, ◌-ℤ◌, List, [], ◌∷◌, ◌++◌, length, map, replicate, unsigned_abs, All}
use Rattle.std.specs.List.{flat_map}
use Rattle.sat_base.specs.declared.position.Pos.{Pos}
use Rattle.first_form.specs.declared.first.First.{First}
use Rattle.first_form.specs.declared.first.FirstExpr.{FirstExpr, Int, Add', Sub', more_of-FirstExpr as boxed}
use Rattle.first_form.specs.Form.{nesting_of}
use Rattle.image_format.specs.declared.image.Image.{Image}
use Rattle.image_format.specs.Readable.{IsWord, IsByte}
use Rattle.image_format.specs.declared.image.SiteEntry.{SiteEntry}
use Rattle.rv_encode.specs.declared.instruction.Instr.{Instr}
use Rattle.rv_encode.specs.declared.instruction.Instr.TheVariants.{Lui, Addi, Add, Sub, Lw, Sw, Ecall}
use Rattle.rv_encode.specs.Words.{encoded}
use Rattle.sat_compile.specs.Templates.{clip_words}
use Rattle.sat_compile.specs.declared.emit.Operator.{Operator}
use Rattle.sat_compile.specs.declared.emit.Operator.TheVariants as operator

-- ---- registers: x8 and x9 have operands and results, x10 and x17 what a call takes, x24 the lower half of
-- the count, x26 where the data memory begins, x27 Overflow, and x5 and x6 what a clip compares with

-- the upper 20 bits of a number, so that what is left for a second instruction is small, and what is left
abbrev pub upper_of : ℤ → ℕ
upper_of n = (unsigned_abs n + 2048) / 4096

abbrev pub lower_of : ℤ → ℤ
lower_of n = n -ℤ pos (4096 * upper_of n)

-- a number into a register
abbrev pub number_code : ℕ → ℤ → List Instr
number_code rd n = Lui rd (upper_of n) ∷ Addi rd rd (lower_of n) ∷ []

-- x8 is clipped to 16 bits, and x27 becomes 1 where the clip changed it
abbrev pub clip_code : List Instr
clip_code = clip_words 8

-- the words of an operator: x8 becomes its value on x8 and x9
abbrev pub operator_code : Operator → List Instr
operator_code operator.Add = Add 8 8 9 ∷ clip_code
operator_code operator.Sub = Sub 8 8 9 ∷ clip_code

-- the word of the data memory that keeps a left operand while a right operand is evaluated at this depth
abbrev pub slot : ℕ → ℤ
slot depth = pos (4 * depth)

-- what is evaluated into x8 goes into x9, and x8 is kept
abbrev pub kept_code : ℕ → List Instr → List Instr
kept_code depth code = Sw 26 8 (slot depth) ∷ (code ++ Addi 9 8 (pos 0) ∷ Lw 8 26 (slot depth) ∷ [])

-- a right operand into x9, by the code that evaluates it into x8
abbrev pub operand_code : ℕ → FirstExpr → List Instr → List Instr
operand_code depth (Int n) code = number_code 9 n
operand_code depth (Add' tok at _ left _ right) code = kept_code depth code
operand_code depth (Sub' tok at _ left _ right) code = kept_code depth code

-- a call of an operator: the left operand, the right one, the operator, and its weight into the count
abbrev pub call_code : Operator → List Instr → List Instr → List Instr
call_code op left right = left ++ (right ++ (operator_code op ++ Addi 24 24 (pos 1) ∷ []))

-- the value of an expression into x8
abbrev pub expression_code : ℕ → FirstExpr → List Instr
expression_code depth (Int n) = number_code 8 n
expression_code depth (Add' tok at _ (boxed left _) _ (boxed right _)) =
    call_code operator.Add (expression_code depth left) (operand_code depth right (expression_code (depth + 1) right))
expression_code depth (Sub' tok at _ (boxed left _) _ (boxed right _)) =
    call_code operator.Sub (expression_code depth left) (operand_code depth right (expression_code (depth + 1) right))

-- an environment call, by its number
abbrev pub environment_code : ℤ → List Instr
environment_code number = Addi 17 0 number ∷ Ecall ∷ []

abbrev pub out_code : FirstExpr → List Instr
out_code e = expression_code 0 e ++ Addi 10 8 (pos 0) ∷ environment_code (pos 3)

abbrev pub code_of : First → List Instr
code_of first = Lui 26 0x10000 ∷ (flat_map out_code first.outs ++ environment_code (pos 4))

-- ---- site entries

abbrev pub kind_of : Operator → ℕ
kind_of operator.Add = 0
kind_of operator.Sub = 1

-- the entry of an operator at a place of the source, whose first word has this place in the code
abbrev pub entry_of : Operator → ℕ → Pos → SiteEntry
entry_of op first at = record {
  first = first;
  line = at.line;
  col = at.col;
  bound = 0;
  words = 10;
  kind = kind_of op;
  form = 2;
  guard = 0;
  operands = 2;
  result = 8;
  reg_a = 8;
  reg_b = 9;
  reg_c = 0;
}

-- the entries of a call whose code begins at this place, in the order of the tokens
abbrev pub call_entries : Operator → Pos → (start : ℕ) → (left right : List Instr) → (lefts rights : List SiteEntry) → List SiteEntry
call_entries op at start left right lefts rights = entry_of op (start + length left + length right) at ∷ (lefts ++ rights)

-- the entries of an expression whose code begins at this place; the code of a right operand that is a call
-- begins after the one word that keeps the left operand
abbrev pub expression_entries : (start depth : ℕ) → FirstExpr → List SiteEntry
expression_entries start depth (Int n) = []
expression_entries start depth (Add' tok at _ (boxed left _) _ (boxed right _)) =
    call_entries operator.Add at start (expression_code depth left) (operand_code depth right (expression_code (depth + 1) right))
    (expression_entries start depth left) (expression_entries (start + length (expression_code depth left) + 1) (depth + 1) right)
expression_entries start depth (Sub' tok at _ (boxed left _) _ (boxed right _)) =
    call_entries operator.Sub at start (expression_code depth left) (operand_code depth right (expression_code (depth + 1) right))
    (expression_entries start depth left) (expression_entries (start + length (expression_code depth left) + 1) (depth + 1) right)

abbrev pub entries_from : ℕ → List FirstExpr → List SiteEntry
entries_from start [] = []
entries_from start (e ∷ es) = expression_entries start 0 e ++ entries_from (start + length (out_code e)) es

-- ---- the image

-- how many calls lie one in another in these expressions at most
abbrev pub deepest_of : List FirstExpr → ℕ
deepest_of [] = 0
deepest_of (e ∷ es) = max (nesting_of e) (deepest_of es)

-- how many words the data memory has: one for each level of calls below the outermost
abbrev pub levels_of : First → ℕ
levels_of first = deepest_of first.outs - 1

abbrev pub memory_of : First → List ℕ
memory_of first = replicate (4 * levels_of first) 0

abbrev pub image_of : First → Image
image_of first = record { code = map encoded (code_of first); memory = memory_of first; sites = entries_from 1 first.outs }

-- the line and the column of an entry have 32 bits
abbrev pub HasPlace : SiteEntry → Type 0
HasPlace entry = IsWord entry.line × IsWord entry.col

-- every number of an image is one of its type
pub record HasNumbers (image : Image) : Type 0 where
  pub words : All IsWord image.code
  pub bytes : All IsByte image.memory
  pub places : All HasPlace image.sites
