-- What is in scope: a list of names with what is declared under them, newest first. An inner declaration
-- comes after an outer one, and so hides it.
use Rattle.std.specs.Prelude.{ℕ, List, [], ◌∷◌, Option, Some, None, if◌then◌else◌}
use Rattle.std.specs.Str.{bytes_eq}
use Rattle.c_scopes.specs.declared.scopes.Declared.{Declared}

-- a name, and what is declared under it
abbrev pub Known : Type 0 → Type 0
Known A = List ℕ × Declared A

-- what the name stands for: the newest that is known under it
abbrev pub meaning_of : {A : Type 0} → List (Known A) → List ℕ → Option (Declared A)
meaning_of [] name = None
meaning_of (known ∷ older) name = if bytes_eq known.0 name then Some known.1 else meaning_of older name
