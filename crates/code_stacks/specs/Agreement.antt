-- What holds of source and machine between the parts of emitted code.
use Rattle.std.specs.Prelude.{◌≡◌, ℕ, ◌+◌, ◌%◌, ◌^◌, true, ℤ, List, [], ◌∷◌, length, All, FitsSigned}
use Rattle.std.specs.Int.{w16, w32}
use Rattle.operator_meaning.specs.declared.object.Object.{Object}
use Rattle.operator_meaning.specs.Table.{FitsWidth}
use Rattle.source_runs.specs.Shapes.{shape_of}
use Rattle.source_runs.specs.State.{Kept, SourceState, numbers_of}
use Rattle.rv_encode.specs.State.{MachineState, register}
use Rattle.template_runs.specs.Machine.{IsBefore}
use Rattle.code_lines.specs.Pieces.{count_in, HasHalves}
use Rattle.code_memory.specs.Memory.{base, base_register, word_in}
use Rattle.code_runs.specs.Doing.{Bond}
use Rattle.code_stacks.specs.Places.{Layout, HasStack}

-- a variable has its one number in its word, in its width
pub record IsHeld (objects : List Object) (l : Layout) (kept : Kept) (memory : List ℕ) (n : ℕ) : Type 0 where
  pub numbers : numbers_of n kept ≡ word_in memory (l.slot n) ∷ []
  pub fits : FitsWidth (shape_of objects n).width (word_in memory (l.slot n))

-- The machine has what the source keeps: Overflow, the samples, the output and the variables; and the count, but for a
-- weight by which it lags behind.
pub record Agrees (objects : List Object) (l : Layout) (lag : ℕ) (kept : Kept) (m : MachineState) : Type 0 where
  pub based : register m base_register ≡ base
  pub flag : register m 27 ≡ kept.overflow
  pub flag_fits : FitsSigned w32 kept.overflow
  pub count : kept.count ≡ (count_in (register m) + lag) % 2 ^ 64
  pub halves : HasHalves (register m)
  pub input : m.input ≡ kept.left
  pub samples : All (FitsSigned w16) kept.left
  pub output : m.output ≡ kept.output
  pub size : length m.memory ≡ l.size
  pub variables : (n : ℕ) → l.is_variable n ≡ true → IsHeld objects l kept m.memory n

-- before the word of a number, with these values on the stack
pub record IsWith (objects : List Object) (l : Layout) (k lag : ℕ) (values : List ℤ) (s : SourceState) (m : MachineState) : Type 0 where
  pub before : IsBefore k m
  pub agrees : Agrees objects l lag s.kept m
  pub stack : HasStack l values m

abbrev pub With : List Object → Layout → (k lag : ℕ) → List ℤ → Bond
With objects l k lag values s m = IsWith objects l k lag values s m
