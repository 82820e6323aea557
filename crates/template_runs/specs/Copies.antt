-- A register is copied.
use Rattle.std.specs.Prelude.{◌≡◌, ◌≢◌, ℕ, ◌+◌, pos, List, [], ◌∷◌, FitsSigned}
use Rattle.std.specs.Int.{w32}
use Rattle.rv_encode.specs.declared.instruction.Instr.TheVariants.{Addi}
use Rattle.rv_encode.specs.State.{MachineState, Running, register}
use Rattle.rv_encode.specs.Runs.{next_moment}
use Rattle.template_runs.specs.Machine.{StandHere, IsBefore}

-- a machine after a copy to a register, before the word of this number
pub record IsCopied (rd rs k : ℕ) (s t : MachineState) : Type 0 where
  pub before : IsBefore k t
  pub copied : register t rd ≡ register s rs
  pub others : (n : ℕ) → n ≢ rd → register t n ≡ register s n
  pub input : t.input ≡ s.input
  pub memory : t.memory ≡ s.memory
  pub output : t.output ≡ s.output

-- an ADDI of 0 copies a register of 32 bits
abbrev pub AddsCopy : Type 0
AddsCopy = (code : List ℕ) (k rd rs : ℕ) (s : MachineState) → StandHere code k (Addi rd rs (pos 0) ∷ []) → IsBefore k s
    → rd ≢ 0 → FitsSigned w32 (register s rs)
    → (t : MachineState) × (next_moment code (Running s) ≡ Running t) × IsCopied rd rs (k + 1) s t
