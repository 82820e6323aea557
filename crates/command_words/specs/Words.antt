-- What the parsed words stand for.
use Rattle.std.specs.Prelude.{ℕ, List, [], ◌∷◌}
use Rattle.command_words.specs.declared.words.Command.{Command}
use Rattle.command_words.specs.declared.words.Command.TheVariants.{Build, RunImage, RunSource}
use Rattle.command_words.specs.declared.words.RunFiles.{RunFiles}
use Rattle.command_words.specs.Command as asked

abbrev pub asked_by : Command → asked.Command
asked_by (Build source image) = asked.Build source.now image.now
asked_by (RunImage files steps) = asked.RunImage files.program.now files.input.now files.output.now steps
asked_by (RunSource files turns) = asked.RunSource files.program.now files.input.now files.output.now turns

-- the words after a verb that asks for a run
abbrev pub run_words : RunFiles → List ℕ → List (List ℕ)
run_words files count = files.program.now ∷ files.input.now ∷ files.output.now ∷ count ∷ []
