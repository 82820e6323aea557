-- What a body asks of the functions that are defined is asked of those that it calls.
use Rattle.std.specs.Prelude.{ℕ, Bool, IsTrue, List, Contains}
use Rattle.c_typed.specs.declared.statement.TypedBlock.{TypedBlock}
use Rattle.called_functions.specs.Called.{called_in_block}
use Rattle.statement_agreement.specs.Lawful.{block_fits}

-- of these functions, those of the first set are in the second
abbrev pub Keeps : (ℕ → Bool) → (ℕ → Bool) → List ℕ → Type 0
Keeps first second functions = (number : ℕ) → Contains functions number → IsTrue (first number) → IsTrue (second number)

abbrev pub BodiesKeepFitting : Type 0
BodiesKeepFitting = (first second : ℕ → Bool) (body : TypedBlock) → IsTrue (block_fits first body) → Keeps first second (called_in_block body) → IsTrue (block_fits second body)
