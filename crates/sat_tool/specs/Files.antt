-- The files of a command.
use Rattle.std.specs.Prelude.{ℕ, List}

-- a file that is read: its name, and the most bytes that it may have
pub record Input : Type 0 where
  pub name : List ℕ
  pub most : ℕ

-- the file that is written
pub record Output : Type 0 where
  pub name : List ℕ
  pub bytes : List ℕ
