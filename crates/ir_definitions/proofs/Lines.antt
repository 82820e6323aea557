-- The lines about definitions, for use beside one another.
use Rattle.std.proofs.Common.{arith, refl}
use Rattle.std.proofs.lemmas.List.Sorted.{length_permutation}
use Rattle.lawful_sources.specs.Lawful.{is_statement}
use Rattle.ir_definitions.proofs.Defined.{fewer-functions}
use Rattle.ir_definitions.proofs.Read.{filter-alike, exposed-given, sites-once}
use Rattle.ir_definitions.specs.Laws.{FunctionsAreFew, StatementsAreFew, ExposedAreGiven, SitesStandOnce}

pub functions-are-few : FunctionsAreFew
functions-are-few = λ typed ir lawful is. omega (arith, fewer-functions typed ir lawful is, lawful.functions_are_few)

pub statements-are-few : StatementsAreFew
statements-are-few = λ typed ir lawful is.
    omega (
      arith,
      lawful.statements_are_few,
      length_permutation _ _ (filter-alike typed ir lawful is is_statement (record { calls = λ callee count is_needed. refl; marks = λ at site kind. refl; conversions = λ stands due. refl })),
    )

pub exposed-are-given : ExposedAreGiven
exposed-are-given = λ typed ir lawful is. exposed-given typed ir lawful is

pub sites-stand-once : SitesStandOnce
sites-stand-once = λ typed ir lawful is. sites-once typed ir lawful is
