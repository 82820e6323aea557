-- The instruction of a word, by its opcode, funct3 and funct7. That this is the table read backwards is proved.
use Rattle.std.specs.Prelude.{ℕ, ◌&&◌, ◌==◌, if◌then◌else◌, Option, Some, None}
use Rattle.rv_encode.specs.declared.instruction.Instr.{Instr}
use Rattle.rv_encode.specs.declared.instruction.Instr.TheVariants.{Lui, Auipc, Jal, Jalr, Beq, Bne, Blt, Bge, Bltu, Bgeu, Lb, Lh, Lw, Lbu, Lhu, Sb, Sh, Sw, Addi, Slti, Sltiu, Xori, Ori, Andi, Slli, Srli, Srai, Add, Sll, Slt, Sltu, Xor, Srl, Or, And, Sub, Sra, Mul, Mulh, Mulhsu, Mulhu, Div, Divu, Rem, Remu, Fence, Ecall, Ebreak}
use Rattle.rv_encode.specs.Words.{opcode, funct3, funct7, rd_of, rs1_of, rs2_of, amount_of, i_immediate, s_immediate, b_immediate, u_immediate, j_immediate, fence_fields}

-- the row of JALR
abbrev pub jump_register_of : (funct3 word : ℕ) → Option Instr
jump_register_of funct3 word =
    if funct3 == 0b000 then Some (Jalr (rd_of word) (rs1_of word) (i_immediate word)) else None

-- the rows of BRANCH
abbrev pub branch_of : (funct3 word : ℕ) → Option Instr
branch_of funct3 word =
    if funct3 == 0b000 then Some (Beq (rs1_of word) (rs2_of word) (b_immediate word)) else
    (if funct3 == 0b001 then Some (Bne (rs1_of word) (rs2_of word) (b_immediate word)) else
    (if funct3 == 0b100 then Some (Blt (rs1_of word) (rs2_of word) (b_immediate word)) else
    (if funct3 == 0b101 then Some (Bge (rs1_of word) (rs2_of word) (b_immediate word)) else
    (if funct3 == 0b110 then Some (Bltu (rs1_of word) (rs2_of word) (b_immediate word)) else
    (if funct3 == 0b111 then Some (Bgeu (rs1_of word) (rs2_of word) (b_immediate word)) else None)))))

-- the rows of LOAD
abbrev pub load_of : (funct3 word : ℕ) → Option Instr
load_of funct3 word =
    if funct3 == 0b000 then Some (Lb (rd_of word) (rs1_of word) (i_immediate word)) else
    (if funct3 == 0b001 then Some (Lh (rd_of word) (rs1_of word) (i_immediate word)) else
    (if funct3 == 0b010 then Some (Lw (rd_of word) (rs1_of word) (i_immediate word)) else
    (if funct3 == 0b100 then Some (Lbu (rd_of word) (rs1_of word) (i_immediate word)) else
    (if funct3 == 0b101 then Some (Lhu (rd_of word) (rs1_of word) (i_immediate word)) else None))))

-- the rows of STORE
abbrev pub store_of : (funct3 word : ℕ) → Option Instr
store_of funct3 word =
    if funct3 == 0b000 then Some (Sb (rs1_of word) (rs2_of word) (s_immediate word)) else
    (if funct3 == 0b001 then Some (Sh (rs1_of word) (rs2_of word) (s_immediate word)) else
    (if funct3 == 0b010 then Some (Sw (rs1_of word) (rs2_of word) (s_immediate word)) else None))

-- the shifts of OP-IMM
abbrev pub shift_of : (funct3 funct7 word : ℕ) → Option Instr
shift_of funct3 funct7 word =
    if (funct3 == 0b001) && (funct7 == 0b0000000) then Some (Slli (rd_of word) (rs1_of word) (amount_of word)) else
    (if (funct3 == 0b101) && (funct7 == 0b0000000) then Some (Srli (rd_of word) (rs1_of word) (amount_of word)) else
    (if (funct3 == 0b101) && (funct7 == 0b0100000) then Some (Srai (rd_of word) (rs1_of word) (amount_of word)) else None))

-- the rows of OP-IMM
abbrev pub immediate_of : (funct3 funct7 word : ℕ) → Option Instr
immediate_of funct3 funct7 word =
    if funct3 == 0b000 then Some (Addi (rd_of word) (rs1_of word) (i_immediate word)) else
    (if funct3 == 0b010 then Some (Slti (rd_of word) (rs1_of word) (i_immediate word)) else
    (if funct3 == 0b011 then Some (Sltiu (rd_of word) (rs1_of word) (i_immediate word)) else
    (if funct3 == 0b100 then Some (Xori (rd_of word) (rs1_of word) (i_immediate word)) else
    (if funct3 == 0b110 then Some (Ori (rd_of word) (rs1_of word) (i_immediate word)) else
    (if funct3 == 0b111 then Some (Andi (rd_of word) (rs1_of word) (i_immediate word)) else shift_of funct3 funct7 word)))))

-- the rows of OP whose funct7 is 0000000, 0100000 and 0000001, the last of which are the extension M
abbrev pub plain_operation_of : (funct3 word : ℕ) → Option Instr
plain_operation_of funct3 word =
    if funct3 == 0b000 then Some (Add (rd_of word) (rs1_of word) (rs2_of word)) else
    (if funct3 == 0b001 then Some (Sll (rd_of word) (rs1_of word) (rs2_of word)) else
    (if funct3 == 0b010 then Some (Slt (rd_of word) (rs1_of word) (rs2_of word)) else
    (if funct3 == 0b011 then Some (Sltu (rd_of word) (rs1_of word) (rs2_of word)) else
    (if funct3 == 0b100 then Some (Xor (rd_of word) (rs1_of word) (rs2_of word)) else
    (if funct3 == 0b101 then Some (Srl (rd_of word) (rs1_of word) (rs2_of word)) else
    (if funct3 == 0b110 then Some (Or (rd_of word) (rs1_of word) (rs2_of word)) else
    (if funct3 == 0b111 then Some (And (rd_of word) (rs1_of word) (rs2_of word)) else None)))))))

abbrev pub other_operation_of : (funct3 word : ℕ) → Option Instr
other_operation_of funct3 word =
    if funct3 == 0b000 then Some (Sub (rd_of word) (rs1_of word) (rs2_of word)) else
    (if funct3 == 0b101 then Some (Sra (rd_of word) (rs1_of word) (rs2_of word)) else None)

abbrev pub product_of : (funct3 word : ℕ) → Option Instr
product_of funct3 word =
    if funct3 == 0b000 then Some (Mul (rd_of word) (rs1_of word) (rs2_of word)) else
    (if funct3 == 0b001 then Some (Mulh (rd_of word) (rs1_of word) (rs2_of word)) else
    (if funct3 == 0b010 then Some (Mulhsu (rd_of word) (rs1_of word) (rs2_of word)) else
    (if funct3 == 0b011 then Some (Mulhu (rd_of word) (rs1_of word) (rs2_of word)) else
    (if funct3 == 0b100 then Some (Div (rd_of word) (rs1_of word) (rs2_of word)) else
    (if funct3 == 0b101 then Some (Divu (rd_of word) (rs1_of word) (rs2_of word)) else
    (if funct3 == 0b110 then Some (Rem (rd_of word) (rs1_of word) (rs2_of word)) else
    (if funct3 == 0b111 then Some (Remu (rd_of word) (rs1_of word) (rs2_of word)) else None)))))))

-- the rows of OP
abbrev pub operation_of : (funct3 funct7 word : ℕ) → Option Instr
operation_of funct3 funct7 word =
    if funct7 == 0b0000000 then plain_operation_of funct3 word else
    (if funct7 == 0b0100000 then other_operation_of funct3 word else
    (if funct7 == 0b0000001 then product_of funct3 word else None))

-- the row of FENCE
abbrev pub fence_of : (funct3 word : ℕ) → Option Instr
fence_of funct3 word = if funct3 == 0b000 then Some (Fence (fence_fields word)) else None

-- the rows that are one word each
abbrev pub whole_word_of : (word : ℕ) → Option Instr
whole_word_of word = if word == 0x00000073 then Some Ecall else (if word == 0x00100073 then Some Ebreak else None)

-- the rows of an opcode
abbrev pub instr_at : (opcode funct3 funct7 word : ℕ) → Option Instr
instr_at opcode funct3 funct7 word =
    if opcode == 0b0110111 then Some (Lui (rd_of word) (u_immediate word)) else
    (if opcode == 0b0010111 then Some (Auipc (rd_of word) (u_immediate word)) else
    (if opcode == 0b1101111 then Some (Jal (rd_of word) (j_immediate word)) else
    (if opcode == 0b1100111 then jump_register_of funct3 word else
    (if opcode == 0b1100011 then branch_of funct3 word else
    (if opcode == 0b0000011 then load_of funct3 word else
    (if opcode == 0b0100011 then store_of funct3 word else
    (if opcode == 0b0010011 then immediate_of funct3 funct7 word else
    (if opcode == 0b0110011 then operation_of funct3 funct7 word else
    (if opcode == 0b0001111 then fence_of funct3 word else whole_word_of word)))))))))

-- the instruction of a word, or none where the word is off the table
abbrev pub decoded : ℕ → Option Instr
decoded word = instr_at (opcode word) (funct3 word) (funct7 word) word
