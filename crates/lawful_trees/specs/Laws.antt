-- What the tree of a source needs, of lawful sources.
use Rattle.std.specs.Prelude.{ℕ, List}
use Rattle.c_typed.specs.declared.typed.Typed.{Typed}
use Rattle.call_structure.specs.Orders.{IsCallersFirst}
use Rattle.ir_expressions.specs.Building.{AreShort}
use Rattle.source_agreement.specs.Agreement.{HasTree}
use Rattle.lawful_sources.specs.Lawful.{IsLawful}

abbrev pub LawfulSourcesHaveTrees : Type 0
LawfulSourcesHaveTrees = (typed : Typed) (order : List ℕ) → IsLawful typed → IsCallersFirst typed order → HasTree typed

abbrev pub LawfulObjectsAreShort : Type 0
LawfulObjectsAreShort = (typed : Typed) → IsLawful typed → AreShort typed.objects
