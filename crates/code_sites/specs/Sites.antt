-- The sites that stand in all bodies of a tree, and what the list of its sites says of them.
use Rattle.std.specs.Prelude.{◌≡◌, ℕ, List, flat_map, length, map, slice_get, Some}
use Rattle.std.specs.List.{All, range_with_len}
use Rattle.std.specs.List.Sorted.{IsPermutation}
use Rattle.operator_meaning.specs.declared.object.Site.{Site}
use Rattle.ir_arena.specs.declared.ir.Ir.{Ir}
use Rattle.ir_arena.specs.Placed.{whole_of}
use Rattle.ir_arena.specs.Tree.{TreeFunction}
use Rattle.code_pieces.specs.declared.piece.Entry.{Entry}
use Rattle.code_entries.specs.Sites.{sites_of}

-- one body after the other
abbrev pub entries_in : Ir → List Entry
entries_in ir = flat_map (λ (function : TreeFunction). sites_of function.body) (whole_of ir).functions

abbrev pub numbers_in : List Entry → List ℕ
numbers_in entries = map (λ (entry : Entry). entry.site) entries

-- the list of sites has it, and gives it the same kind
pub record IsListed (sites : List Site) (entry : Entry) : Type 0 where
  pub site : Site
  pub there : slice_get sites entry.site ≡ Some site
  pub kind : site.kind ≡ entry.kind

-- these are the sites of the list, each of them once
pub record AreSites (sites : List Site) (entries : List Entry) : Type 0 where
  pub numbers : IsPermutation (numbers_in entries) (range_with_len 0 (length sites))
  pub listed : All (IsListed sites) entries
