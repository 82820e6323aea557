-- Lines of what a lawful tree is, of its `main` and its relational constants, that hold of the tree of every lawful
-- source.
use Rattle.std.specs.Prelude.{◌≡◌, true, [], slice_get}
use Rattle.std.specs.List.{list_any}
use Rattle.lawful_sources.specs.Lawful.{is_good_main, constants_standing, distinct_after}
use Rattle.lawful_sources.specs.Rows.{is_called_main}
use Rattle.lawful_ir.specs.Lawful.{tables_of, things_in}
use Rattle.lawful_ir.specs.Laws.{HoldsOfTrees}

abbrev pub HasMain : Type 0
HasMain = HoldsOfTrees (λ ir. list_any is_good_main (tables_of ir).functions ≡ true)

abbrev pub MainIsMain : Type 0
MainIsMain = HoldsOfTrees (λ ir. is_called_main (slice_get (tables_of ir).functions ir.main) ≡ true)

abbrev pub ConstantsStand : Type 0
ConstantsStand = HoldsOfTrees (λ ir. ir.constants ≡ distinct_after [] (constants_standing (things_in ir)))
