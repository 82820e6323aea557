-- The word of an instruction is decoded to that instruction.
use Rattle.std.proofs.Common.{◌≡◌, ℕ, ◌+◌, ◌*◌, ◌<◌, ◌^◌, ℤ, Some, refl, ap, ◌∙◌, arith, lit<}
use Rattle.rv_encode.specs.declared.instruction.Instr.{Instr}
use Rattle.rv_encode.specs.declared.instruction.Instr.TheVariants.{Lui, Auipc, Jal, Jalr, Beq, Bne, Blt, Bge, Bltu, Bgeu, Lb, Lh, Lw, Lbu, Lhu, Sb, Sh, Sw, Addi, Slti, Sltiu, Xori, Ori, Andi, Slli, Srli, Srai, Add, Sll, Slt, Sltu, Xor, Srl, Or, And, Sub, Sra, Mul, Mulh, Mulhsu, Mulhu, Div, Divu, Rem, Remu, Fence, Ecall, Ebreak}
use Rattle.rv_encode.specs.Words.{IsRegister, IsWithin, IsEven, Fits, encoded, bits, part, opcode, funct3, funct7, rd_of, rs1_of, rs2_of, sign_extended, i_immediate, s_immediate, b_immediate, u_immediate, j_immediate, fence_fields, r_word, i_word, s_word, b_word, u_word, j_word, fence_word}
use Rattle.rv_encode.specs.Decoding.{decoded, instr_at}
use Rattle.rv_encode.proofs.Immediates.{i_parts_back, s_parts_back, b_parts_back, j_parts_back}

-- the row of a word by its opcode and function fields
row_by : (word o f g : ℕ) → opcode word ≡ o → funct3 word ≡ f → funct7 word ≡ g → decoded word ≡ instr_at o f g word
row_by word o f g by_opcode by_funct3 by_funct7 =
    ap (λ n. instr_at n (funct3 word) (funct7 word) word) by_opcode
    ∙ ap (λ n. instr_at o n (funct7 word) word) by_funct3 ∙ ap (λ n. instr_at o f n word) by_funct7

-- instructions with equal fields are equal
same_by : {A B C : Type 0} (make : A → B → C → Instr) (a a' : A) (b b' : B) (c c' : C) → a ≡ a' → b ≡ b' → c ≡ c'
    → Some (make a b c) ≡ Some (make a' b' c')
same_by make a a' b b' c c' p q r = ap (λ x. Some (make x b c)) p ∙ ap (λ x. Some (make a' x c)) q ∙ ap (λ x. Some (make a' b' x)) r

-- each format, given that its row is in the table
r_decodes : (make : ℕ → ℕ → ℕ → Instr) (o f g rd rs1 rs2 : ℕ) → o < 128 → f < 8 → g < 128 → IsRegister rd → IsRegister rs1 → IsRegister rs2
    → ((word : ℕ) → instr_at o f g word ≡ Some (make (rd_of word) (rs1_of word) (rs2_of word)))
    → decoded (r_word o f g rd rs1 rs2) ≡ Some (make rd rs1 rs2)
r_decodes make o f g rd rs1 rs2 opcode_fits funct3_fits funct7_fits rd_fits rs1_fits rs2_fits row =
    let word = r_word o f g rd rs1 rs2 in
    row_by word o f g (omega arith) (omega arith) (omega arith)
    ∙ row word ∙ same_by make _ rd _ rs1 _ rs2 (omega arith) (omega arith) (omega arith)

i_decodes : (make : ℕ → ℕ → ℤ → Instr) (o f rd rs1 : ℕ) (imm : ℤ) → o < 128 → f < 8 → IsRegister rd → IsRegister rs1 → IsWithin 2048 imm
    → ((word : ℕ) → instr_at o f (funct7 word) word ≡ Some (make (rd_of word) (rs1_of word) (i_immediate word)))
    → decoded (i_word o f rd rs1 imm) ≡ Some (make rd rs1 imm)
i_decodes make o f rd rs1 imm opcode_fits funct3_fits rd_fits rs1_fits within row =
    let word = i_word o f rd rs1 imm in
    let by_part : bits word 20 12 ≡ part imm 0 12 = omega arith in
    row_by word o f (funct7 word) (omega arith) (omega arith) refl
    ∙ row word ∙ same_by make _ rd _ rs1 _ imm (omega arith) (omega arith) (ap (sign_extended 2048) by_part ∙ i_parts_back imm within)

s_decodes : (make : ℕ → ℕ → ℤ → Instr) (o f rs1 rs2 : ℕ) (imm : ℤ) → o < 128 → f < 8 → IsRegister rs1 → IsRegister rs2 → IsWithin 2048 imm
    → ((word : ℕ) → instr_at o f (funct7 word) word ≡ Some (make (rs1_of word) (rs2_of word) (s_immediate word)))
    → decoded (s_word o f rs1 rs2 imm) ≡ Some (make rs1 rs2 imm)
s_decodes make o f rs1 rs2 imm opcode_fits funct3_fits rs1_fits rs2_fits within row =
    let word = s_word o f rs1 rs2 imm in
    let by_parts : bits word 25 7 * 32 + bits word 7 5 ≡ part imm 5 7 * 32 + part imm 0 5 = omega arith in
    row_by word o f (funct7 word) (omega arith) (omega arith) refl
    ∙ row word ∙ same_by make _ rs1 _ rs2 _ imm (omega arith) (omega arith) (ap (sign_extended 2048) by_parts ∙ s_parts_back imm within)

b_decodes : (make : ℕ → ℕ → ℤ → Instr) (o f rs1 rs2 : ℕ) (imm : ℤ) → o < 128 → f < 8 → IsRegister rs1 → IsRegister rs2 → IsWithin 4096 imm → IsEven imm
    → ((word : ℕ) → instr_at o f (funct7 word) word ≡ Some (make (rs1_of word) (rs2_of word) (b_immediate word)))
    → decoded (b_word o f rs1 rs2 imm) ≡ Some (make rs1 rs2 imm)
b_decodes make o f rs1 rs2 imm opcode_fits funct3_fits rs1_fits rs2_fits within even row =
    let word = b_word o f rs1 rs2 imm in
    let by_parts : bits word 31 1 * 4096 + bits word 7 1 * 2048 + bits word 25 6 * 32 + bits word 8 4 * 2 ≡ part imm 12 1 * 4096 + part imm 11 1 * 2048 + part imm 5 6 * 32 + part imm 1 4 * 2 = omega arith in
    row_by word o f (funct7 word) (omega arith) (omega arith) refl
    ∙ row word ∙ same_by make _ rs1 _ rs2 _ imm (omega arith) (omega arith) (ap (sign_extended 4096) by_parts ∙ b_parts_back imm within even)

u_decodes : (make : ℕ → ℕ → Instr) (o rd imm : ℕ) → o < 128 → IsRegister rd → imm < 2 ^ 20
    → ((word : ℕ) → instr_at o (funct3 word) (funct7 word) word ≡ Some (make (rd_of word) (u_immediate word)))
    → decoded (u_word o rd imm) ≡ Some (make rd imm)
u_decodes make o rd imm opcode_fits rd_fits small row =
    let word = u_word o rd imm in
    let by_rd : rd_of word ≡ rd = omega arith in
    let by_imm : u_immediate word ≡ imm = omega arith in
    row_by word o (funct3 word) (funct7 word) (omega arith) refl refl
    ∙ row word ∙ ap (λ n. Some (make n (u_immediate word))) by_rd ∙ ap (λ n. Some (make rd n)) by_imm

j_decodes : (make : ℕ → ℤ → Instr) (o rd : ℕ) (imm : ℤ) → o < 128 → IsRegister rd → IsWithin (2 ^ 20) imm → IsEven imm
    → ((word : ℕ) → instr_at o (funct3 word) (funct7 word) word ≡ Some (make (rd_of word) (j_immediate word)))
    → decoded (j_word o rd imm) ≡ Some (make rd imm)
j_decodes make o rd imm opcode_fits rd_fits within even row =
    let word = j_word o rd imm in
    let by_rd : rd_of word ≡ rd = omega arith in
    let by_parts : bits word 31 1 * 1048576 + bits word 12 8 * 4096 + bits word 20 1 * 2048 + bits word 21 10 * 2 ≡ part imm 20 1 * 1048576 + part imm 12 8 * 4096 + part imm 11 1 * 2048 + part imm 1 10 * 2 = omega arith in
    row_by word o (funct3 word) (funct7 word) (omega arith) refl refl
    ∙ row word ∙ ap (λ n. Some (make n (j_immediate word))) by_rd
    ∙ ap (λ z. Some (make rd z)) (ap (sign_extended 1048576) by_parts ∙ j_parts_back imm within even)

fence_decodes : (make : ℕ → Instr) (o f fields : ℕ) → o < 128 → f < 8 → fields < 2 ^ 22
    → ((word : ℕ) → instr_at o f (funct7 word) word ≡ Some (make (fence_fields word)))
    → decoded (fence_word o f fields) ≡ Some (make fields)
fence_decodes make o f fields opcode_fits funct3_fits small row =
    let word = fence_word o f fields in
    let by_fields : fence_fields word ≡ fields = omega arith in
    row_by word o f (funct7 word) (omega arith) (omega arith) refl ∙ row word ∙ ap (λ n. Some (make n)) by_fields

-- each row
pub encoded_decodes : (i : Instr) → Fits i → decoded (encoded i) ≡ Some i
encoded_decodes (Lui rd imm) fits = u_decodes Lui 55 rd imm (lit< tt) fits.0 fits.1 (λ word. refl)
encoded_decodes (Auipc rd imm) fits = u_decodes Auipc 23 rd imm (lit< tt) fits.0 fits.1 (λ word. refl)
encoded_decodes (Jal rd imm) fits = j_decodes Jal 111 rd imm (lit< tt) fits.0 fits.1 fits.2 (λ word. refl)
encoded_decodes (Jalr rd rs1 imm) fits = i_decodes Jalr 103 0 rd rs1 imm (lit< tt) (lit< tt) fits.0 fits.1 fits.2 (λ word. refl)
encoded_decodes (Beq rs1 rs2 imm) fits = b_decodes Beq 99 0 rs1 rs2 imm (lit< tt) (lit< tt) fits.0 fits.1 fits.2 fits.3 (λ word. refl)
encoded_decodes (Bne rs1 rs2 imm) fits = b_decodes Bne 99 1 rs1 rs2 imm (lit< tt) (lit< tt) fits.0 fits.1 fits.2 fits.3 (λ word. refl)
encoded_decodes (Blt rs1 rs2 imm) fits = b_decodes Blt 99 4 rs1 rs2 imm (lit< tt) (lit< tt) fits.0 fits.1 fits.2 fits.3 (λ word. refl)
encoded_decodes (Bge rs1 rs2 imm) fits = b_decodes Bge 99 5 rs1 rs2 imm (lit< tt) (lit< tt) fits.0 fits.1 fits.2 fits.3 (λ word. refl)
encoded_decodes (Bltu rs1 rs2 imm) fits = b_decodes Bltu 99 6 rs1 rs2 imm (lit< tt) (lit< tt) fits.0 fits.1 fits.2 fits.3 (λ word. refl)
encoded_decodes (Bgeu rs1 rs2 imm) fits = b_decodes Bgeu 99 7 rs1 rs2 imm (lit< tt) (lit< tt) fits.0 fits.1 fits.2 fits.3 (λ word. refl)
encoded_decodes (Lb rd rs1 imm) fits = i_decodes Lb 3 0 rd rs1 imm (lit< tt) (lit< tt) fits.0 fits.1 fits.2 (λ word. refl)
encoded_decodes (Lh rd rs1 imm) fits = i_decodes Lh 3 1 rd rs1 imm (lit< tt) (lit< tt) fits.0 fits.1 fits.2 (λ word. refl)
encoded_decodes (Lw rd rs1 imm) fits = i_decodes Lw 3 2 rd rs1 imm (lit< tt) (lit< tt) fits.0 fits.1 fits.2 (λ word. refl)
encoded_decodes (Lbu rd rs1 imm) fits = i_decodes Lbu 3 4 rd rs1 imm (lit< tt) (lit< tt) fits.0 fits.1 fits.2 (λ word. refl)
encoded_decodes (Lhu rd rs1 imm) fits = i_decodes Lhu 3 5 rd rs1 imm (lit< tt) (lit< tt) fits.0 fits.1 fits.2 (λ word. refl)
encoded_decodes (Sb rs1 rs2 imm) fits = s_decodes Sb 35 0 rs1 rs2 imm (lit< tt) (lit< tt) fits.0 fits.1 fits.2 (λ word. refl)
encoded_decodes (Sh rs1 rs2 imm) fits = s_decodes Sh 35 1 rs1 rs2 imm (lit< tt) (lit< tt) fits.0 fits.1 fits.2 (λ word. refl)
encoded_decodes (Sw rs1 rs2 imm) fits = s_decodes Sw 35 2 rs1 rs2 imm (lit< tt) (lit< tt) fits.0 fits.1 fits.2 (λ word. refl)
encoded_decodes (Addi rd rs1 imm) fits = i_decodes Addi 19 0 rd rs1 imm (lit< tt) (lit< tt) fits.0 fits.1 fits.2 (λ word. refl)
encoded_decodes (Slti rd rs1 imm) fits = i_decodes Slti 19 2 rd rs1 imm (lit< tt) (lit< tt) fits.0 fits.1 fits.2 (λ word. refl)
encoded_decodes (Sltiu rd rs1 imm) fits = i_decodes Sltiu 19 3 rd rs1 imm (lit< tt) (lit< tt) fits.0 fits.1 fits.2 (λ word. refl)
encoded_decodes (Xori rd rs1 imm) fits = i_decodes Xori 19 4 rd rs1 imm (lit< tt) (lit< tt) fits.0 fits.1 fits.2 (λ word. refl)
encoded_decodes (Ori rd rs1 imm) fits = i_decodes Ori 19 6 rd rs1 imm (lit< tt) (lit< tt) fits.0 fits.1 fits.2 (λ word. refl)
encoded_decodes (Andi rd rs1 imm) fits = i_decodes Andi 19 7 rd rs1 imm (lit< tt) (lit< tt) fits.0 fits.1 fits.2 (λ word. refl)
encoded_decodes (Slli rd rs1 imm) fits = r_decodes Slli 19 1 0 rd rs1 imm (lit< tt) (lit< tt) (lit< tt) fits.0 fits.1 fits.2 (λ word. refl)
encoded_decodes (Srli rd rs1 imm) fits = r_decodes Srli 19 5 0 rd rs1 imm (lit< tt) (lit< tt) (lit< tt) fits.0 fits.1 fits.2 (λ word. refl)
encoded_decodes (Srai rd rs1 imm) fits = r_decodes Srai 19 5 32 rd rs1 imm (lit< tt) (lit< tt) (lit< tt) fits.0 fits.1 fits.2 (λ word. refl)
encoded_decodes (Add rd rs1 rs2) fits = r_decodes Add 51 0 0 rd rs1 rs2 (lit< tt) (lit< tt) (lit< tt) fits.0 fits.1 fits.2 (λ word. refl)
encoded_decodes (Sll rd rs1 rs2) fits = r_decodes Sll 51 1 0 rd rs1 rs2 (lit< tt) (lit< tt) (lit< tt) fits.0 fits.1 fits.2 (λ word. refl)
encoded_decodes (Slt rd rs1 rs2) fits = r_decodes Slt 51 2 0 rd rs1 rs2 (lit< tt) (lit< tt) (lit< tt) fits.0 fits.1 fits.2 (λ word. refl)
encoded_decodes (Sltu rd rs1 rs2) fits = r_decodes Sltu 51 3 0 rd rs1 rs2 (lit< tt) (lit< tt) (lit< tt) fits.0 fits.1 fits.2 (λ word. refl)
encoded_decodes (Xor rd rs1 rs2) fits = r_decodes Xor 51 4 0 rd rs1 rs2 (lit< tt) (lit< tt) (lit< tt) fits.0 fits.1 fits.2 (λ word. refl)
encoded_decodes (Srl rd rs1 rs2) fits = r_decodes Srl 51 5 0 rd rs1 rs2 (lit< tt) (lit< tt) (lit< tt) fits.0 fits.1 fits.2 (λ word. refl)
encoded_decodes (Or rd rs1 rs2) fits = r_decodes Or 51 6 0 rd rs1 rs2 (lit< tt) (lit< tt) (lit< tt) fits.0 fits.1 fits.2 (λ word. refl)
encoded_decodes (And rd rs1 rs2) fits = r_decodes And 51 7 0 rd rs1 rs2 (lit< tt) (lit< tt) (lit< tt) fits.0 fits.1 fits.2 (λ word. refl)
encoded_decodes (Sub rd rs1 rs2) fits = r_decodes Sub 51 0 32 rd rs1 rs2 (lit< tt) (lit< tt) (lit< tt) fits.0 fits.1 fits.2 (λ word. refl)
encoded_decodes (Sra rd rs1 rs2) fits = r_decodes Sra 51 5 32 rd rs1 rs2 (lit< tt) (lit< tt) (lit< tt) fits.0 fits.1 fits.2 (λ word. refl)
encoded_decodes (Mul rd rs1 rs2) fits = r_decodes Mul 51 0 1 rd rs1 rs2 (lit< tt) (lit< tt) (lit< tt) fits.0 fits.1 fits.2 (λ word. refl)
encoded_decodes (Mulh rd rs1 rs2) fits = r_decodes Mulh 51 1 1 rd rs1 rs2 (lit< tt) (lit< tt) (lit< tt) fits.0 fits.1 fits.2 (λ word. refl)
encoded_decodes (Mulhsu rd rs1 rs2) fits = r_decodes Mulhsu 51 2 1 rd rs1 rs2 (lit< tt) (lit< tt) (lit< tt) fits.0 fits.1 fits.2 (λ word. refl)
encoded_decodes (Mulhu rd rs1 rs2) fits = r_decodes Mulhu 51 3 1 rd rs1 rs2 (lit< tt) (lit< tt) (lit< tt) fits.0 fits.1 fits.2 (λ word. refl)
encoded_decodes (Div rd rs1 rs2) fits = r_decodes Div 51 4 1 rd rs1 rs2 (lit< tt) (lit< tt) (lit< tt) fits.0 fits.1 fits.2 (λ word. refl)
encoded_decodes (Divu rd rs1 rs2) fits = r_decodes Divu 51 5 1 rd rs1 rs2 (lit< tt) (lit< tt) (lit< tt) fits.0 fits.1 fits.2 (λ word. refl)
encoded_decodes (Rem rd rs1 rs2) fits = r_decodes Rem 51 6 1 rd rs1 rs2 (lit< tt) (lit< tt) (lit< tt) fits.0 fits.1 fits.2 (λ word. refl)
encoded_decodes (Remu rd rs1 rs2) fits = r_decodes Remu 51 7 1 rd rs1 rs2 (lit< tt) (lit< tt) (lit< tt) fits.0 fits.1 fits.2 (λ word. refl)
encoded_decodes (Fence fields) fits = fence_decodes Fence 15 0 fields (lit< tt) (lit< tt) fits (λ word. refl)
encoded_decodes Ecall fits = refl
encoded_decodes Ebreak fits = refl
