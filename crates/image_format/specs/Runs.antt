-- What is observed of an image.
use Rattle.std.specs.Prelude.{ℕ, ℤ, pos, List, [], replicate}
use Rattle.sat_base.specs.Observation.{Observation}
use Rattle.rv_encode.specs.State.{MachineState, Moment, Running, code_start, observation_of}
use Rattle.rv_encode.specs.Runs.{moment_after}
use Rattle.image_format.specs.declared.image.Image.{Image}

-- Before the first instruction all registers are 0, the pc is at the first word of the code, the data memory has its
-- first content, and nothing was read or written.
abbrev pub loaded : Image → List ℤ → MachineState
loaded image input =
    record { registers = replicate 32 (pos 0); pc = code_start; memory = image.memory; input = input; output = [] }

-- where at most n instructions lead
abbrev pub machine_after : Image → List ℤ → ℕ → Moment
machine_after image input n = moment_after image.code n (Running (loaded image input))

-- what is observed of an image on an input after at most n instructions
abbrev pub machine_observed : Image → List ℤ → ℕ → Observation
machine_observed image input n = observation_of (machine_after image input n)
