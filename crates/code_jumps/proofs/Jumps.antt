-- Jumps, near and far.
use Rattle.std.proofs.Common.{◌≡◌, ◌≢◌, ℕ, ◌+◌, ◌-◌, ◌*◌, ◌%◌, ◌^◌, ◌≤◌, ℤ, pos, ◌+ℤ◌, Bool, true, false, ◌==◌, if◌then◌else◌, [], ◌∷◌, length, refl, ap, ◌∙◌, arith}
use Rattle.std.specs.Int.{w32, cast_signed, cast_unsigned}
use Rattle.std.proofs.lemmas.Bool.Decides.{nat_tests}
use Rattle.std.proofs.lemmas.Int.{ints}
use Rattle.sat_base.specs.declared.machine_fault.MachineFault.TheVariants.{Jump}
use Rattle.code_lines.specs.Own.{Auipc, Jal, Jalr}
use Rattle.rv_encode.specs.State.{MachineState, Running, register, target_pc, address_of}
use Rattle.rv_encode.specs.Effects.{jumps, jumps_to, faults, effect_of}
use Rattle.rv_encode.specs.Runs.{pc_of}
use Rattle.rv_encode.proofs.Places.{whole_pc_of}
use Rattle.code_lines.specs.Words.{StandHere, Code, instr_of}
use Rattle.template_runs.specs.Machine.{IsBefore}
use Rattle.code_lines.specs.Pieces.{upper_of, lower_of}
use Rattle.code_lines.proofs.Lines.{next_is, later_one, one_set, stands_first, stands_rest}
use Rattle.code_lines.proofs.Leading.{leads_both, leads_least}
use Rattle.code_jumps.specs.Jumps.{bytes_of, jump_code, past_code, IsThere, ComesTo, JumpsAreDone}

pub target_is : (k to : ℕ) (distance : ℤ) → pos to ≡ pos k +ℤ distance → k ≤ 16777216 → to ≤ 16777216 → target_pc (pc_of k) (bytes_of distance) ≡ pc_of to
target_is k to distance is small small2 = grind (arith, ints)

-- a jump to a word, with the registers as they are
pub to_word : (s : MachineState) (imm : ℤ) (to : ℕ) → target_pc s.pc imm ≡ pc_of to → jumps s s.registers imm ≡ Running (record s { pc = pc_of to })
to_word s imm to is =
    ap (λ p. if p % 4 == 0 then Running (record s { pc = p }) else faults s Jump) is
    ∙ ap (λ (b : Bool). if b then Running (record s { pc = pc_of to }) else faults s Jump) (whole_pc_of to)

-- and what holds there
pub there : (s : MachineState) (k to : ℕ) → IsBefore k s → IsThere to s (record s { pc = pc_of to })
there s k to before = record {
  before = record { pc = refl; count = before.count; zero_is = before.zero_is };
  others = λ n five. refl;
  memory = refl;
  input = refl;
  output = refl;
}

-- the address of a far jump
far_target : (k to : ℕ) (distance : ℤ) → pos to ≡ pos k +ℤ distance → k ≤ 16777216 → to ≤ 16777216
    → (cast_unsigned w32 (cast_signed w32 ((pc_of k + upper_of (bytes_of distance) * 2 ^ 12) % 2 ^ 32)) + cast_unsigned w32 (lower_of (bytes_of distance))) % 2 ^ 32 ≡ pc_of to
far_target k to distance is small small2 = grind (arith, ints)

even_pc : (to : ℕ) → pc_of to - pc_of to % 2 ≡ pc_of to
even_pc to = omega arith

module _ (code : Code) (k to : ℕ) (distance : ℤ) (s : MachineState) (before : IsBefore k s) (is : pos to ≡ pos k +ℤ distance) (small : to ≤ 16777216) where
  near_jump : StandHere code k (jump_code true distance) → ComesTo code 1 to s
  near_jump stands =
      let within = stands.within in
      let target : target_pc s.pc (bytes_of distance) ≡ pc_of to = ap (λ p. target_pc p (bytes_of distance)) before.pc ∙ target_is k to distance is (omega arith) small in (
        record s { pc = pc_of to },
        later_one code k (Jal 0 (bytes_of distance)) s stands before (Running (record s { pc = pc_of to })) refl (next_is code k (Jal 0 (bytes_of distance)) s stands before ∙ to_word s (bytes_of distance) to target),
        there s k to before,
      )

  far_jump : StandHere code k (jump_code false distance) → ComesTo code 1 to s
  far_jump stands =
      let within = stands.within in
      let first = Auipc 5 (upper_of (bytes_of distance)) in
      let second = Jalr 0 5 (lower_of (bytes_of distance)) in
      let x = cast_signed w32 ((s.pc + upper_of (bytes_of distance) * 2 ^ 12) % 2 ^ 32) in
      let upper = one_set code k first s (stands_first code k first (second ∷ []) stands) before (register s) (λ n. refl) 5 x refl refl in
      let t = upper.0 in
      let left = upper.2 in
      let at : register t 5 ≡ cast_signed w32 ((pc_of k + upper_of (bytes_of distance) * 2 ^ 12) % 2 ^ 32) =
      left.file 5 ∙ ap (λ p. cast_signed w32 ((p + upper_of (bytes_of distance) * 2 ^ 12) % 2 ^ 32)) before.pc in
      let address : address_of t 5 (lower_of (bytes_of distance)) ≡ pc_of to =
      ap (λ y. (cast_unsigned w32 y + cast_unsigned w32 (lower_of (bytes_of distance))) % 2 ^ 32) at ∙ far_target k to distance is (omega arith) small in
      let rest = stands_rest code k first (second ∷ []) stands in
      let u : MachineState = record t { pc = pc_of to } in
      let effect : effect_of (instr_of second) t ≡ Running u =
      ap (λ a. jumps_to t t.registers (a - a % 2)) address ∙ ap (jumps_to t t.registers) (even_pc to)
      ∙ ap (λ (b : Bool). if b then Running u else faults t Jump) (whole_pc_of to) in
      let last = there t (k + 1) to left.before in (
        u,
        leads_least code 2 1 (Running s) (Running u) (omega arith)
            (leads_both code 1 1 (Running s) (Running t) (Running u) (later_one code k first s (stands_first code k first (second ∷ []) stands) before (Running t) refl upper.1)
            (later_one code (k + 1) second t rest left.before (Running u) refl (next_is code (k + 1) second t rest left.before ∙ effect))),
        record {
          before = last.before;
          others = λ n five. left.file n ∙ rw (another n five) refl;
          memory = left.memory;
          input = left.input;
          output = left.output;
        },
      )
    where
      another : (n : ℕ) → n ≢ 5 → (n == 5) ≡ false
      another n other = grind (arith, nat_tests)

pub jumps_are_done : JumpsAreDone
jumps_are_done code k to true distance s stands before is small = near_jump code k to distance s before is small stands
jumps_are_done code k to false distance s stands before is small = far_jump code k to distance s before is small stands

-- a jump has the same length at each distance
same_jump : (near : Bool) (d other : ℤ) → length (jump_code near d) ≡ length (jump_code near other)
same_jump true d other = refl
same_jump false d other = refl

pub past_steady : (near : Bool) (d other : ℤ) → length (past_code near d) ≡ length (past_code near other)
past_steady near d other = same_jump near (pos (length (jump_code near d)) +ℤ d) (pos (length (jump_code near other)) +ℤ other)

-- a jump over words behind it
pub passes_words : (code : Code) (k to : ℕ) (near : Bool) (distance : ℤ) (s : MachineState) → StandHere code k (past_code near distance) → IsBefore k s
    → pos to ≡ pos (k + length (past_code near distance)) +ℤ distance → to ≤ 16777216 → ComesTo code 1 to s
passes_words code k to near distance s stands before is close =
    let own = pos (length (jump_code near distance)) +ℤ distance in
    jumps_are_done code k to near own s stands before (omega (arith, ints, is, same_jump near own distance)) close
