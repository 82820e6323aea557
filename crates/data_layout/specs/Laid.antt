-- What holds of a layout that is made for the objects and sites of a tree, and what is asked of objects that begin with
-- their first values.
use Rattle.std.specs.Prelude.{◌≡◌, ◌≢◌, ℕ, ◌+◌, ◌≤◌, Bool, true, false, List, Option, Some, None, slice_get}
use Rattle.std.specs.List.{list_all}
use Rattle.operator_meaning.specs.declared.object.Object.{Object}
use Rattle.operator_meaning.specs.declared.object.Site.{Site}
use Rattle.lawful_sources.specs.Objects.{initial_fits}
use Rattle.code_lines.specs.Words.{Code}
use Rattle.code_stacks.specs.Places.{Layout, IsLaidOut}
use Rattle.expression_code.specs.Straight.{is_wordless}
use Rattle.register_allocation.specs.declared.home.Homes.{Homes}
use Rattle.register_allocation.specs.Good.{HasSlot, LieApart, slot_bytes}
use Rattle.data_layout.specs.Slots.{is_scalar_at}

-- the code and the layout have the same sites without words
abbrev pub AgreeOnSites : Code → Layout → Type 0
AgreeOnSites code l = (site : ℕ) → code.is_wordless site ≡ l.is_wordless site

-- it is a layout for any code
abbrev pub IsLaidFor : Layout → Type 0
IsLaidFor l = (code : Code) → AgreeOnSites code l → IsLaidOut code l

-- the variables are the scalars
abbrev pub HasVariables : List Object → Layout → Type 0
HasVariables objects l = (number : ℕ) → l.is_variable number ≡ is_scalar_at objects number

abbrev pub wordless_where : Option Site → Bool
wordless_where (Some site) = is_wordless site.kind
wordless_where None = false

-- the sites without words are those that copy a number
abbrev pub HasWordless : List Site → Layout → Type 0
HasWordless sites l = (number : ℕ) → l.is_wordless number ≡ wordless_where (slice_get sites number)

-- Homes are slots of this layout too: a variable has its word in the slot of its home, where this is one, and no word
-- lies in the slot of another object, be this a variable or a view.
pub record KeepsHomes (objects : List Object) (lists : List Homes) (l : Layout) : Type 0 where
  pub slots : (number from : ℕ) → is_scalar_at objects number ≡ true → HasSlot objects lists number from → l.slot number ≡ from
  pub clear : (number other from : ℕ) → number ≢ other → l.is_variable number ≡ true → HasSlot objects lists other from
      → LieApart (l.slot number) 4 from (slot_bytes objects other)
  pub before : (other from : ℕ) → HasSlot objects lists other from → from + slot_bytes objects other ≤ l.kept

-- the values with which objects begin have their widths
abbrev pub BeginRight : List Object → Type 0
BeginRight objects = list_all (λ object. initial_fits object object.initial) objects ≡ true
