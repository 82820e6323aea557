-- Of which pieces the code of a program is made.
use Rattle.std.specs.Prelude.{◌≡◌, Bool, true, List}
use Rattle.operator_meaning.specs.declared.object.Object.{Object}
use Rattle.ir_arena.specs.Tree.{IrTree}
use Rattle.code_stacks.specs.Places.{Layout}
use Rattle.statement_code.specs.Laws.{IsStatement}
use Rattle.program_code.specs.Code.{program_code}
use Rattle.code_entries.specs.Entries.{entries_of_statement}
use Rattle.code_entries.specs.Pieces.{IsMade}
use Rattle.code_entries.specs.Sites.{has_rows, sites_of}

-- words of its own, and a template for each site that has code
abbrev pub CodesAreMade : Type 0
CodesAreMade = (objects : List Object) (l : Layout) (near : Bool) (body : IrTree) → IsMade (program_code objects l near body) (entries_of_statement body)

-- Where the body is one over scalars, each site that stands in it has its template once.
abbrev pub SitesAreMade : Type 0
SitesAreMade = (objects : List Object) (l : Layout) (near has_result : Bool) (body : IrTree) → IsStatement objects l has_result body → has_rows body ≡ true
    → IsMade (program_code objects l near body) (sites_of body)
