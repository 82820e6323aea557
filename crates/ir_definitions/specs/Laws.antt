-- Which lines of what a lawful tree is compare its definitions, in their order, with the functions of its source.
use Rattle.std.specs.Prelude.{◌≡◌, ◌≤◌, true, length, map}
use Rattle.std.specs.List.Sorted.{IsPermutation}
use Rattle.sat_base.specs.declared.limits.TheConstants.{FUNCTIONS, STATEMENTS}
use Rattle.lawful_sources.specs.Lawful.{count, is_statement, at_of}
use Rattle.lawful_sources.specs.Objects.{exposed_from}
use Rattle.lawful_sources.specs.Rows.{sites_standing}
use Rattle.lawful_ir.specs.Lawful.{things_in}
use Rattle.lawful_ir.specs.Laws.{HoldsOfTrees}

abbrev pub FunctionsAreFew : Type 0
FunctionsAreFew = HoldsOfTrees (λ ir. length ir.functions ≤ FUNCTIONS)

abbrev pub StatementsAreFew : Type 0
StatementsAreFew = HoldsOfTrees (λ ir. count is_statement (things_in ir) ≤ STATEMENTS)

abbrev pub ExposedAreGiven : Type 0
ExposedAreGiven = HoldsOfTrees (λ ir. exposed_from (things_in ir) 0 ir.objects ≡ true)

abbrev pub SitesStandOnce : Type 0
SitesStandOnce = HoldsOfTrees (λ ir. IsPermutation (sites_standing (things_in ir)) (map at_of ir.sites))
