-- What a step of the code stands for.
use Rattle.std.specs.Prelude.{◌≡◌, ℤ, List, [], ◌∷◌, ◌++◌}
use Rattle.rv_encode.specs.State.{MachineState, Moment, Running, Over}
use Rattle.rv_emulator.specs.declared.state.Hart.{Hart}
use Rattle.rv_emulator.specs.declared.effects.Step.{Step}
use Rattle.rv_emulator.specs.declared.effects.Step.TheVariants.{Goes, Writes, Ends}
use Rattle.rv_emulator.specs.Endings.{ending_of}

-- the state of the machine, where this was written so far
abbrev pub state_of : Hart → List ℤ → MachineState
state_of hart output =
    record { registers = hart.registers; pc = hart.pc; memory = hart.memory; input = hart.input; output = output }

-- where a step leads that left the machine so, where this was written before it
abbrev pub moment_of : Step → Hart → List ℤ → Moment
moment_of Goes hart output = Running (state_of hart output)
moment_of (Writes sample) hart output = Running (state_of hart (output ++ sample ∷ []))
moment_of (Ends ending) hart output = Over (ending_of ending) output

-- the step has this effect on the machine, whatever was written before
abbrev pub HasEffect : Step → (old new : Hart) → (MachineState → Moment) → Type 0
HasEffect step old new effect = (output : List ℤ) → moment_of step new output ≡ effect (state_of old output)
