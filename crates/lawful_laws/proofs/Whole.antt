-- A function has a body where it has a definition, and else neither that nor parameters.
use Rattle.std.proofs.Common.{List, [], map, refl, ap, ◌∙◌}
use Rattle.std.specs.List.{list_all}
use Rattle.c_tree.specs.declared.function.Function.{Function}
use Rattle.c_tree.specs.declared.program.Item.{Item}
use Rattle.c_tree.specs.declared.program.Item.TheVariants as items
use Rattle.c_tree.specs.declared.statement.Block.{Block}
use Rattle.std.specs.Prelude.{◌∷◌, Option, Some, None}
use Rattle.tied_names.specs.Numbers.{token_of, exposed_in}
use Rattle.c_types.specs.Sources.{opening}
use Rattle.c_types.specs.Tied.{notes_of}
use Rattle.lawful_sources.specs.Lawful.{is_whole}
use Rattle.lawful_laws.proofs.Functions.{AllGood, GoodBody, after-all}
use Rattle.lawful_laws.specs.Laws.{FunctionsAreWhole}

abbrev Any : Function → Block → Type 0
Any function body = Unit {0}

good-body : (function : Function) (body : Option Block) → GoodBody Any function body
good-body function None = tt
good-body function (Some body) = tt

all-good : (list : List Item) → AllGood Any list
all-good [] = tt
all-good (items.Objects list ∷ rest) = all-good rest
all-good (items.Function function ∷ rest) = (good-body function function.body, all-good rest)
all-good (items.ExternFlag at ∷ rest) = all-good rest

pub functions-whole : FunctionsAreWhole
functions-whole program typed tied =
    ap (list_all is_whole) tied.functions
    ∙ after-all is_whole Any (λ f. refl) (λ f b good numbers here number. refl) (opening program.items (map token_of typed.sites) (exposed_in [] (notes_of program))) 0 program.items (all-good program.items) refl
