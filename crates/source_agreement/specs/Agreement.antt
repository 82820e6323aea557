-- That the tree of a whole source does what the source does, and what is asked of the source for it.
use Rattle.std.specs.Prelude.{◌≡◌, ℕ, ℤ, Bool, IsTrue, false, List, Option, Some, None, is_some, slice_get, position, All}
use Rattle.sat_base.specs.declared.name.At.{At}
use Rattle.c_typed.specs.declared.typed.Typed.{Typed}
use Rattle.c_typed.specs.declared.typed.TypedFunction.{TypedFunction}
use Rattle.typed_meaning.specs.Observed.{is_main, observed, trace_of}
use Rattle.typed_meaning.specs.Statements.{option_of}
use Rattle.call_structure.specs.Orders.{IsCallersFirst}
use Rattle.tree_meaning.specs.Observed.{tree_observed, tree_trace}
use Rattle.statement_agreement.specs.Lawful.{fits_where, block_fits}
use Rattle.whole_trees.specs.Sources.{whole_tree}

abbrev defined_where : Option TypedFunction → Bool
defined_where None = false
defined_where (Some function) = is_some function.defined

-- whether the function of this number has a definition
abbrev pub is_defined : List TypedFunction → ℕ → Bool
is_defined functions number = defined_where (slice_get functions number)

-- A body has a tree where it calls defined functions alone, gives what every source has as many arguments as it takes,
-- and has blocks whose objects follow one another.
abbrev pub FitsIn : List TypedFunction → TypedFunction → Type 0
FitsIn functions function = IsTrue (fits_where (option_of (block_fits (is_defined functions)) function.body))

-- what is asked of a source, so that its tree does what it does
pub record HasTree (typed : Typed) : Type 0 where
  -- no function reaches itself by calls
  pub order : List ℕ
  pub callers_first : IsCallersFirst typed order
  pub bodies : All (FitsIn typed.functions) typed.functions
  pub main : ℕ
  pub found : position is_main typed.functions ≡ Some main
  pub main_defined : IsTrue (is_defined typed.functions main)

-- for every input and at every number of turns
pub record TreeAgrees (typed : Typed) (definitions : List (ℕ × At)) : Type 0 where
  pub observed : (input : List ℤ) (turns : ℕ) → tree_observed (whole_tree typed definitions) input turns ≡ observed typed input turns
  pub trace : (input : List ℤ) (turns : ℕ) → tree_trace (whole_tree typed definitions) input turns ≡ trace_of typed input turns
