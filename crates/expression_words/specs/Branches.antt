-- The code of branches behind a value.
use Rattle.std.specs.Prelude.{ℕ, List, ◌++◌, length}
use Rattle.code_lines.specs.declared.word.Word.{Word}
use Rattle.code_stacks.specs.Places.{Layout}
use Rattle.expression_code.specs.Code.{over_code, pass_code}

-- what follows the value of a choice, which it takes
abbrev pub behind_code : Layout → (depth weight : ℕ) → (this other : List Word) → List Word
behind_code l depth weight this other =
    over_code l depth weight (length (this ++ pass_code (length other))) ++ ((this ++ pass_code (length other)) ++ other)
